use Rattle.pattern.proofs.Theorems.{in_columns}
use Rattle.pattern.proofs.fill.structure_in_columns.Goals as goal

pub returns : goal.returns
returns c = in_columns
