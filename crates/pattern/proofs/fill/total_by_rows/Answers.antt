use Rattle.pattern.proofs.Theorems.{total_from_rows}
use Rattle.pattern.proofs.fill.total_by_rows.Goals as goal

pub returns : goal.returns
returns c = total_from_rows
