use Rattle.std.proofs.Common.{vec_items, refl, rules}
use Rattle.std.proofs.lemmas.List.{length-map}
use Rattle.settlement.proofs.Passing.{settleable_each}
use Rattle.account_text.proofs.printing.account_text.Goals as goal

pub unwrap-amounts-requires : goal.unwrap-amounts-requires
unwrap-amounts-requires c =
    let s = c.args.sheet.now in
    let events = vec_items s.events in
    let each = settleable_each s.header.agreement (λ x. x.value) events _ (length-map events (λ x. x.value)) c.in_ok-totals.ensures.0 _ refl in
    let here = each c.loop-noted.noted-index c.noted-item.result (search rules) in
    search rules
