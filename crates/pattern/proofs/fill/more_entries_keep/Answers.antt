use Rattle.pattern.proofs.Theorems.{entries_keep}
use Rattle.pattern.proofs.fill.more_entries_keep.Goals as goal

pub returns : goal.returns
returns c = entries_keep
