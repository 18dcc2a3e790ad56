use Rattle.std.proofs.Common.{rules, arith}
use Rattle.pattern.specs.Analysis.{height_of}
use Rattle.downskillet_c.specs.Answers.{height_told}
use Rattle.downskillet_c.proofs.Arrays.{copied_off, told_of}
use Rattle.downskillet_c.proofs.answers.downskillet_heights.Goals as goal

pub returns-clause-copied : goal.returns-clause-copied
returns-clause-copied c =
    copied_off height_told c.args.vertices.now c.args.heights.now c.write.new.answers c.write.auto.answers (λ x r given. search rules) c.write.ensures.left

pub returns-clause-answers : goal.returns-clause-answers
returns-clause-answers c =
    λ p table.
    told_of p height_told (height_of p) c.args.vertices.now c.args.heights.now c.write.new.answers table (λ v one most. omega (arith, table.answered.heights v one most)) (returns-clause-copied c)
