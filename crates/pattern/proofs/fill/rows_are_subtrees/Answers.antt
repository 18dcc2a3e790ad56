use Rattle.pattern.proofs.Theorems.{rows_by_subtrees}
use Rattle.pattern.proofs.fill.rows_are_subtrees.Goals as goal

pub returns : goal.returns
returns c = rows_by_subtrees
