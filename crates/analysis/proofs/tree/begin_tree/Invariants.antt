use Rattle.std.proofs.Common.{◌≡◌, map, take, drop, ◌++◌}
use Rattle.analysis.specs.Growth.{alone}
use Rattle.analysis.proofs.tree.begin_tree.Given as goal

abbrev pub invariant-loop-vertex : goal.invariant-loop-vertex
invariant-loop-vertex l =
    l.vertices ≡ map alone (take l.vertex-index l.initial.vertices) ++ drop l.vertex-index l.initial.vertices
