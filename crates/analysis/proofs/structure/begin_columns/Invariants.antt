use Rattle.std.proofs.Common.{◌≡◌}
use Rattle.pattern.specs.Structure.{taken}
use Rattle.analysis.specs.Structure.{Filled, Rest}
use Rattle.analysis.proofs.structure.begin_columns.Given as goal

abbrev pub ghost-begin_column : goal.ghost-begin_column
ghost-begin_column g a = g.p

abbrev pub invariant-loop-i : goal.invariant-loop-i
invariant-loop-i g l = record {
  place : l.place ≡ taken g.p l.i;
  begun : Filled g.p l.i 0 l.starts l.rows;
  rest : Rest g.p l.initial.starts l.initial.rows l.starts l.rows;
}
