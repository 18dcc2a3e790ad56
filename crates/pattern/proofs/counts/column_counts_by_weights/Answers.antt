use Rattle.pattern.proofs.Counting.{columns_counted}
use Rattle.pattern.proofs.counts.column_counts_by_weights.Goals as goal

pub returns : goal.returns
returns c = columns_counted
