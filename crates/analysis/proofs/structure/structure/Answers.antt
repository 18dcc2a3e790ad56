use Rattle.std.proofs.Common.{ℕ, arith}
use Rattle.std.proofs.lemmas.List.{length-set}
use Rattle.pattern.proofs.Filling.{rest_then}
use Rattle.analysis.proofs.Structures.{starts_over, rows_over}
use Rattle.analysis.proofs.structure.structure.Goals as goal

pub returns-clause-starts : goal.returns-clause-starts
returns-clause-starts g c =
    let (_, (_, (_, room))) = c.requires in
    starts_over g.p _ _ _ _ room c.write_rows.ensures.rows
    (rest_then g.p c.begin_columns.ensures.rest c.write_rows.ensures.rest) (omega (arith, length-set {A = ℕ}))

pub returns-clause-rows : goal.returns-clause-rows
returns-clause-rows g c =
    let (_, (_, (_, room))) = c.requires in
    rows_over g.p _ _ _ _ room c.write_rows.ensures.rows
    (rest_then g.p c.begin_columns.ensures.rest c.write_rows.ensures.rest) (omega arith)
