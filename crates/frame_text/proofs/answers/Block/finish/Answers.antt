-- What is written, and zeros after it.
use Rattle.std.proofs.Common.{◌++◌, length, take, drop, replicate, ap, ◌∙◌}
use Rattle.frame_text.proofs.Filling.{filled_up}
use Rattle.frame_text.proofs.answers.Block.finish.Goals as goal

pub returns : goal.returns
returns c = λ t holds.
    ap (λ bs. bs ++ drop c.len.result (replicate 32 0))
    (c.copy_from_slice.ensures.after ∙ c.as_slice.ensures.value ∙ holds.bytes) ∙
    ap (λ k. take 32 t ++ drop k (replicate 32 0)) (c.len.ensures.value ∙ ap length holds.bytes) ∙ filled_up 32 t
