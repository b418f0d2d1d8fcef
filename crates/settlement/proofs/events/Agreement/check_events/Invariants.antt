use Rattle.std.proofs.Common.{◌≤◌, map}
use Rattle.settlement.specs.Month.{Passed}
use Rattle.settlement.proofs.events.Agreement.check_events.Given as goal

abbrev pub invariant-loop-i : goal.invariant-loop-i
invariant-loop-i g l = Passed l.self (map g.E.Called.event l.events) l.i × (l.i ≤ 18)
