use Rattle.std.proofs.Common.{leb, rules}
use Rattle.std.proofs.lemmas.List.Sorted.{IsPartitionPoint-from_clause}
use Rattle.calendar.proofs.Table.{begun, parted}
use Rattle.calendar.proofs.days.Day.month.Goals as goal

pub overflow_sub-result : goal.overflow_sub-result
overflow_sub-result c =
    let point = IsPartitionPoint-from_clause (λ y. leb y c.args.self.number) _ _ c.partition_point-begun.ensures.partitioned (parted _ c.first_days.ensures.rule c.args.self.number) (λ a r q k. search rules) in
    (begun _ c.first_days.ensures.rule c.first_days.ensures.count c.args.self.number c.args.self.within _ c.partition_point-begun.ensures.bound point).some

pub returns : goal.returns
returns c =
    let point = IsPartitionPoint-from_clause (λ y. leb y c.args.self.number) _ _ c.partition_point-begun.ensures.partitioned (parted _ c.first_days.ensures.rule c.args.self.number) (λ a r q k. search rules) in
    let p = begun _ c.first_days.ensures.rule c.first_days.ensures.count c.args.self.number c.args.self.within _ c.partition_point-begun.ensures.bound point in
    record { value = p.value; begun = p.begun; ahead = p.ahead; inside = p.inside }
