use Rattle.pattern.proofs.Theorems.{columns_from_children}
use Rattle.pattern.proofs.fill.columns_by_children.Goals as goal

pub returns : goal.returns
returns c = columns_from_children
