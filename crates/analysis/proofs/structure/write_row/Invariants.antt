use Rattle.analysis.specs.Structure.{Rest}
use Rattle.analysis.proofs.Structures.{WritingAt}
use Rattle.analysis.proofs.structure.write_row.Given as goal

abbrev pub ghost-climb : goal.ghost-climb
ghost-climb g a = g.p

abbrev pub invariant-loop-slot : goal.invariant-loop-slot
invariant-loop-slot g l = record {
  row : WritingAt g.p l.u l.slot-items l.slot-index l.starts l.rows;
  rest : Rest g.p l.initial.starts l.initial.rows l.starts l.rows;
}
