use Rattle.std.proofs.Common.{refl}
use Rattle.settlement.proofs.Passing.{settleable_each}
use Rattle.settlement.proofs.totals.settle_called.Goals as goal

pub add_up-requires-clause-each : goal.add_up-requires-clause-each
add_up-requires-clause-each g c = settleable_each c.args.agreement g.E.Called.event c.args.events.now _ refl c.in_ok-check_events.ensures.first _ c.in-Economic.is

pub add_up-requires-in-JointBidding-clause-each : goal.add_up-requires-in-JointBidding-clause-each
add_up-requires-in-JointBidding-clause-each g c = settleable_each c.args.agreement g.E.Called.event c.args.events.now _ refl c.in_ok-check_events.ensures.first _ c.in-JointBidding.is

pub add_up-requires-in-Reliable-clause-each : goal.add_up-requires-in-Reliable-clause-each
add_up-requires-in-Reliable-clause-each g c = settleable_each c.args.agreement g.E.Called.event c.args.events.now _ refl c.in_ok-check_events.ensures.first _ c.in-Reliable.is
