use Rattle.std.proofs.Common.{rules}
use Rattle.pattern.specs.Patterns.{within}
use Rattle.downskillet_c.proofs.judging.is_outside.Goals as goal

pub returns : goal.returns
unfolding within
returns c = search rules
