use Rattle.pattern.proofs.Places.{each_once}
use Rattle.pattern.proofs.postorder.walk_takes_each_once.Goals as goal

pub returns : goal.returns
returns c = each_once
