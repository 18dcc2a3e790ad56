use Rattle.std.proofs.Common.{◌≡◌, ◌-◌, length}
use Rattle.analysis.specs.Tables.{tree_from, Only}
use Rattle.analysis.specs.Growth.{pattern_in, Grown}
use Rattle.analysis.specs.Order.{AllWeighOne}
use Rattle.analysis.proofs.tree.grow.Given as goal

abbrev pub invariant-loop-u : goal.invariant-loop-u
invariant-loop-u g l =
    Grown (pattern_in l.fn.vertices l.entries) (l.u - 1) l.vertices (g.S.AncestorSets.meaning l.sets) ×
    ((g.S.AncestorSets.meaning l.sets).size ≡ (g.S.AncestorSets.meaning l.initial.sets).size) ×
    ((g.S.AncestorSets.meaning l.sets).used ≡ length l.fn.vertices) ×
    AllWeighOne l.vertices ×
    Only tree_from l.fn.vertices l.vertices
