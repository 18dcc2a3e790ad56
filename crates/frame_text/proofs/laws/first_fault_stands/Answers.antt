use Rattle.frame_text.proofs.Order.{first_fault_stands}
use Rattle.frame_text.proofs.laws.first_fault_stands.Goals as goal

pub returns : goal.returns
returns c = first_fault_stands
