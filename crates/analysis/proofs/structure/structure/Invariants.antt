use Rattle.analysis.proofs.structure.structure.Given as goal

abbrev pub ghost-begin_columns : goal.ghost-begin_columns
ghost-begin_columns g a = g.p

abbrev pub ghost-write_rows : goal.ghost-write_rows
ghost-write_rows g a = g.p
