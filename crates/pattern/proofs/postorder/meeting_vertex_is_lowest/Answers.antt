use Rattle.pattern.proofs.Meets.{meet_lowest}
use Rattle.pattern.proofs.postorder.meeting_vertex_is_lowest.Goals as goal

pub returns : goal.returns
returns c = λ n up grows x y _ high _ _. meet_lowest n up grows x y high
