use Rattle.std.proofs.Common.{◌≡◌, length}
use Rattle.analysis.specs.Tables.{parent_of}
use Rattle.analysis.proofs.SettledTops.{SettledTo}
use Rattle.analysis.proofs.settling.settle.Given as goal

abbrev pub invariant-loop-i : goal.invariant-loop-i
invariant-loop-i g l =
    SettledTo (length l.vertices) (parent_of l.vertices) l.i (g.S.AncestorSets.meaning l.sets) ×
    ((g.S.AncestorSets.meaning l.sets).size ≡ (g.S.AncestorSets.meaning l.fn.sets).size)
