-- The block of the answer.
use Rattle.frame_file.proofs.Answering.{line_answered}
use Rattle.frame_file.proofs.runs.answer_line.Goals as goal

pub returns-in-Ok-clause-answered : goal.returns-in-Ok-clause-answered
returns-in-Ok-clause-answered g c =
    line_answered _ c.args.line _ _ _ _ c.in-Ok.ensures.carried c.block.ensures.whole
