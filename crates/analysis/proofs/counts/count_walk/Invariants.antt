use Rattle.std.proofs.Common.{◌≡◌}
use Rattle.analysis.specs.Tables.{Only, counts_from}
use Rattle.analysis.specs.Growth.{pattern_in}
use Rattle.analysis.specs.Counts.{Passed}
use Rattle.analysis.proofs.counts.count_walk.Given as goal

abbrev pub invariant-loop-i : goal.invariant-loop-i
invariant-loop-i g l =
    Passed (pattern_in l.initial.vertices l.entries) l.i l.vertices (g.S.AncestorSets.meaning l.sets) ×
    Only counts_from l.initial.vertices l.vertices ×
    ((g.S.AncestorSets.meaning l.sets).size ≡ (g.S.AncestorSets.meaning l.initial.sets).size)
