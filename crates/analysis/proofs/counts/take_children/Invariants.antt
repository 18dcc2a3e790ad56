use Rattle.std.proofs.Common.{◌-◌}
use Rattle.analysis.specs.Counts.{ChildrenTaken}
use Rattle.analysis.proofs.counts.take_children.Given as goal

abbrev pub invariant-loop-v : goal.invariant-loop-v
invariant-loop-v l = ChildrenTaken (l.v - 1) l.initial.vertices l.vertices
