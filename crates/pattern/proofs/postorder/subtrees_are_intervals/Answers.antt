use Rattle.pattern.proofs.Places.{interval}
use Rattle.pattern.proofs.postorder.subtrees_are_intervals.Goals as goal

pub returns : goal.returns
returns c = λ n up grows v low high. interval n up grows v (record { named = low; fits = high })
