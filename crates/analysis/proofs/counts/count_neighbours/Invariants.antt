use Rattle.analysis.specs.Tables.{Only, counts_from}
use Rattle.analysis.specs.Growth.{pattern_in}
use Rattle.analysis.specs.Counts.{SameTops}
use Rattle.analysis.proofs.CountedEvents.{CountingAt}
use Rattle.analysis.proofs.counts.count_neighbours.Given as goal

abbrev pub invariant-loop-slot : goal.invariant-loop-slot
invariant-loop-slot g l = record {
  counting : CountingAt (pattern_in l.initial.vertices l.entries) l.x l.slot-items l.slot-index l.vertices;
  only : Only counts_from l.initial.vertices l.vertices;
  tops : SameTops (g.S.AncestorSets.meaning l.initial.sets) (g.S.AncestorSets.meaning l.sets);
}
