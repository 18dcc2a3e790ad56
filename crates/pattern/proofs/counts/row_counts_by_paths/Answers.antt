use Rattle.pattern.proofs.Counting.{rows_counted}
use Rattle.pattern.proofs.counts.row_counts_by_paths.Goals as goal

pub returns : goal.returns
returns c = rows_counted
