use Rattle.pattern.proofs.Theorems.{below_by_paths}
use Rattle.pattern.proofs.fill.below_is_paths.Goals as goal

pub returns : goal.returns
returns c = below_by_paths
