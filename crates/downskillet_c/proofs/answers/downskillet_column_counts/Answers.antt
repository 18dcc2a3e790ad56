use Rattle.std.proofs.Common.{rules}
use Rattle.pattern.specs.Elimination.{col_count}
use Rattle.downskillet_c.specs.Answers.{column_told}
use Rattle.downskillet_c.proofs.Arrays.{column_counted, copied_off, told_of}
use Rattle.downskillet_c.proofs.answers.downskillet_column_counts.Goals as goal

pub returns-clause-copied : goal.returns-clause-copied
returns-clause-copied c =
    copied_off column_told c.args.vertices.now c.args.counts.now c.write.new.answers c.write.auto.answers (λ x r given. search rules) c.write.ensures.left

pub returns-clause-answers : goal.returns-clause-answers
returns-clause-answers c =
    λ p table.
    told_of p column_told (col_count p) c.args.vertices.now c.args.counts.now c.write.new.answers table (column_counted p _ table) (returns-clause-copied c)
