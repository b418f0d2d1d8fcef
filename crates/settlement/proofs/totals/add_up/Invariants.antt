use Rattle.std.proofs.Common.{◌≡◌, ◌*◌, ◌≤◌, take, sum_by}
use Rattle.settlement.specs.Month.{amounts}
use Rattle.settlement.proofs.totals.add_up.Given as goal

abbrev pub invariant-loop-called : goal.invariant-loop-called
invariant-loop-called g l =
    (l.credits ≡ sum_by (λ e. (amounts g.P.Programme.meaning l.terms (g.E.Called.event e)).0) (take l.called-index l.events))
    × (l.surcharges ≡ sum_by (λ e. (amounts g.P.Programme.meaning l.terms (g.E.Called.event e)).1) (take l.called-index l.events))
    × (l.missed ≡ sum_by (λ e. (amounts g.P.Programme.meaning l.terms (g.E.Called.event e)).2) (take l.called-index l.events))
    × (l.credits ≤ 1000000000000 * l.called-index)
    × (l.surcharges ≤ 1000000000000 * l.called-index)
    × (l.missed ≤ l.called-index)
