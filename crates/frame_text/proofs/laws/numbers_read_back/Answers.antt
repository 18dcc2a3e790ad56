use Rattle.frame_text.proofs.Numerals.{numbers_read_back}
use Rattle.frame_text.proofs.laws.numbers_read_back.Goals as goal

pub returns : goal.returns
returns c = numbers_read_back
