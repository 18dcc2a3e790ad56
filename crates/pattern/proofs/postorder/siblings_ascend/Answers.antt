use Rattle.pattern.proofs.Places.{ascend}
use Rattle.pattern.proofs.postorder.siblings_ascend.Goals as goal

pub returns : goal.returns
returns c = ascend
