use Rattle.frame_text.proofs.Joins.{fields_join}
use Rattle.frame_text.proofs.laws.fields_join.Goals as goal

pub returns : goal.returns
returns c = fields_join
