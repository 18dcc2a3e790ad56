use Rattle.frame_text.proofs.Joins.{lines_join}
use Rattle.frame_text.proofs.laws.lines_join.Goals as goal

pub returns : goal.returns
returns c = lines_join
