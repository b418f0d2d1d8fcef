use Rattle.std.proofs.Common.{◌≡◌, ◌++◌, Err, inl, rules}
use Rattle.std.specs.Prelude.{codes}
use Rattle.decimals.specs.declared.kinds.Places.TheVariants.{Three}
use Rattle.sheet_words.specs.Faults.{IsNoNumber}
use Rattle.sheet_values.proofs.measured.Figure.read.Goals as goal

pub returns-in_err-number-in-Some : goal.returns-in_err-number-in-Some
returns-in_err-number-in-Some c =
    let is : c.from_residual.result ≡ Err c.in_err-number-in-Some.field-0.0 = search rules in
    let cut : c.args.text.now ≡ c.in-Some.kilowatts.now ++ codes "kW" = search rules in
    let none : IsNoNumber Three c.in-Some.kilowatts.now c.in_err-number-in-Some.field-0.0 = search rules in
    rw is (inl (c.in-Some.kilowatts.now, cut, none))
