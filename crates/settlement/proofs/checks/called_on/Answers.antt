use Rattle.std.proofs.Common.{◌==◌, sym, ◌∙◌, rules}
use Rattle.std.proofs.lemmas.Iterator.{YieldsList-from_slice}
use Rattle.std.proofs.lemmas.Iterator.Search.{any_from_yields_List}
use Rattle.settlement.proofs.Mapped.{any_mapped}
use Rattle.settlement.proofs.checks.called_on.Goals as goal

pub returns : goal.returns
returns g c =
    let es = c.args.events.now in
    let event = g.E.Called.event in
    let day = c.args.day.number in
    any_from_yields_List (λ e. (event e).day.number == day) _ _ _ c.any.ensures.ran (YieldsList-from_slice es cc) (λ x b q k. search rules)
    ∙ sym (any_mapped (λ e. e.day.number == day) event es)
