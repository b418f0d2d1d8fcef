use Rattle.decimals.proofs.writing.+write_groups.Given as goal

abbrev pub decreases-write-groups : goal.decreases-write-groups
decreases-write-groups g l = l.n
