use Rattle.std.proofs.Common.{refl, rules}
use Rattle.decimals.proofs.Laws.{parted, unparted}
use Rattle.decimals.proofs.reading.parts.Goals as goal
use Rattle.decimals.proofs.reading.parts.Goals.{then-is_numeral, else-is_numeral}

pub returns-in_default-clause-parted : goal.returns-in_default-clause-parted
returns-in_default-clause-parted c =
    rw c.then_some.ensures (unparted c.args.text.now _ c.is_numeral.result (search rules) refl refl c.is_numeral.ensures)

pub returns-clause-parted : goal.returns-clause-parted
returns-clause-parted c =
    rw c.then_some-2.ensures (parted c.args.text.now c.in-Some.at _ c.if-is_numeral.then_some (search rules) (search rules) (search rules) refl refl
    (elim c.if-is_numeral.branch [
      | then-is_numeral w ↦ (λ t. (c.is_numeral-2.ensures.0 w.if-is_numeral.true, w.is_numeral-then-is_numeral.ensures.0 (cc)), λ n. let t = w.is_numeral-then-is_numeral.ensures.1 n.1 in cc)
      | else-is_numeral w ↦ (λ t. let f = w.then_some-is in cc, λ n. let t = c.is_numeral-2.ensures.1 n.0 in cc)
    ]))
