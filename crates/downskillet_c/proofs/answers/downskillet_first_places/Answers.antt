use Rattle.std.proofs.Common.{rules}
use Rattle.pattern.specs.Analysis.{first_place_of}
use Rattle.downskillet_c.proofs.Arrays.{copied_off, told_of}
use Rattle.downskillet_c.proofs.answers.downskillet_first_places.Goals as goal

pub returns-clause-copied : goal.returns-clause-copied
returns-clause-copied c =
    copied_off (λ x. x.first.0) c.args.vertices.now c.args.places.now c.write.new.answers c.write.auto.answers (λ x r given. search rules) c.write.ensures.left

pub returns-clause-answers : goal.returns-clause-answers
returns-clause-answers c =
    λ p table.
    told_of p (λ x. x.first.0) (first_place_of p) c.args.vertices.now c.args.places.now c.write.new.answers table (table.answered.firsts) (returns-clause-copied c)
