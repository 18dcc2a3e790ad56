use Rattle.std.proofs.Common.{rules}
use Rattle.pattern.specs.Elimination.{parent}
use Rattle.downskillet_c.proofs.Arrays.{copied_off, told_of}
use Rattle.downskillet_c.proofs.answers.downskillet_parents.Goals as goal

pub returns-clause-copied : goal.returns-clause-copied
returns-clause-copied c =
    copied_off (λ x. x.parent) c.args.vertices.now c.args.parents.now c.write.new.answers c.write.auto.answers (λ x r given. search rules) c.write.ensures.left

pub returns-clause-answers : goal.returns-clause-answers
returns-clause-answers c =
    λ p table.
    told_of p (λ x. x.parent) (parent p) c.args.vertices.now c.args.parents.now c.write.new.answers table (table.answered.parents) (returns-clause-copied c)
