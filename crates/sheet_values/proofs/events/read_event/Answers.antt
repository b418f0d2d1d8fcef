use Rattle.std.proofs.Common.{◌≡◌, Err, inr, rules}
use Rattle.sheet_values.specs.Refusals.{NoFigure}
use Rattle.sheet_values.proofs.events.read_event.Goals as goal

pub returns-in_err-read-2 : goal.returns-in_err-read-2
returns-in_err-read-2 c =
    let is : c.from_residual-in_err-read-2.result ≡ Err c.in_err-read-2.field-0.0 = search rules in
    let none : NoFigure c.args.words.load.now c.in_err-read-2.field-0.0 = search rules in
    rw is (inr (inr (inr (inr (inr (inr none))))))
