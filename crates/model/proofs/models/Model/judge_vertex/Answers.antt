use Rattle.std.proofs.Common.{arith}
use Rattle.std.proofs.lemmas.Bool.Decides.{nat_tests}
use Rattle.pattern.specs.Patterns.{within}
use Rattle.model.proofs.models.Model.judge_vertex.Goals as goal

pub returns-then-contains : goal.returns-then-contains
unfolding within
returns-then-contains c = grind (arith, nat_tests)

pub returns : goal.returns
unfolding within
returns c = grind (arith, nat_tests)
