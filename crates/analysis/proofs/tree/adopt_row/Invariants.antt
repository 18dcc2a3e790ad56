use Rattle.std.proofs.Common.{◌≡◌, length}
use Rattle.analysis.specs.Tables.{parent_of, parent_from, Only}
use Rattle.analysis.proofs.Tops.{RowAt}
use Rattle.analysis.proofs.tree.adopt_row.Given as goal

abbrev pub invariant-loop-slot : goal.invariant-loop-slot
invariant-loop-slot g l = record {
  row : RowAt (length l.initial.vertices) l.entries l.u l.slot-items l.slot-index
      (parent_of l.vertices) (g.S.AncestorSets.meaning l.sets).top;
  size : (g.S.AncestorSets.meaning l.sets).size ≡ (g.S.AncestorSets.meaning l.initial.sets).size;
  used : (g.S.AncestorSets.meaning l.sets).used ≡ length l.initial.vertices;
  only : Only parent_from l.initial.vertices l.vertices;
}
