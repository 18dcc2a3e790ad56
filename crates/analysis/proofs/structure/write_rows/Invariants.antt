use Rattle.std.proofs.Common.{◌-◌}
use Rattle.analysis.specs.Structure.{Filled, Rest}
use Rattle.analysis.proofs.structure.write_rows.Given as goal

abbrev pub ghost-write_row : goal.ghost-write_row
ghost-write_row g a = g.p

abbrev pub invariant-loop-u : goal.invariant-loop-u
invariant-loop-u g l = record {
  rows : Filled g.p g.p.order (l.u - 1) l.starts l.rows;
  rest : Rest g.p l.initial.starts l.initial.rows l.starts l.rows;
}
