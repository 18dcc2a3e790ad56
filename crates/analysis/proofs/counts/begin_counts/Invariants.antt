use Rattle.std.proofs.Common.{◌≡◌, map, take, drop, ◌++◌}
use Rattle.analysis.specs.Counts.{uncounted}
use Rattle.analysis.proofs.counts.begin_counts.Given as goal

abbrev pub invariant-loop-vertex : goal.invariant-loop-vertex
invariant-loop-vertex l =
    l.vertices ≡ map uncounted (take l.vertex-index l.initial.vertices) ++ drop l.vertex-index l.initial.vertices
