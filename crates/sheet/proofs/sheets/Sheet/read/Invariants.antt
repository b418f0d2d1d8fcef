use Rattle.std.proofs.Common.{vec_items}
use Rattle.sheet.proofs.Adding.{SoFar}
use Rattle.sheet.proofs.sheets.Sheet.read.Given as goal

abbrev pub invariant-loop-number : goal.invariant-loop-number
invariant-loop-number l = SoFar l.text l.number-iterator.b l.number-iterator.a.start l.draft (vec_items l.events)
