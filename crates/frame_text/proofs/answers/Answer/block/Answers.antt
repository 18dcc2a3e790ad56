-- The text, then the LF, in an empty block.
use Rattle.std.proofs.Common.{◌∙◌}
use Rattle.frame_text.specs.Answers.{text_of}
use Rattle.frame_text.proofs.Filling.{whole_text}
use Rattle.frame_text.proofs.answers.Answer.block.Goals as goal

pub returns : goal.returns
returns c =
    let full = c.finish.ensures _ (c.push.ensures _ (c.write.ensures.adds _ c.new-block.ensures)) in
    record {
      block = full;
      whole = λ short. full ∙ whole_text (text_of c.args.self.now) (c.write.ensures.short short);
    }
