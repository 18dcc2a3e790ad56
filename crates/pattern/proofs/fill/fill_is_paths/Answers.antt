use Rattle.pattern.proofs.Theorems.{fill_by_paths}
use Rattle.pattern.proofs.fill.fill_is_paths.Goals as goal

pub returns : goal.returns
returns c = fill_by_paths
