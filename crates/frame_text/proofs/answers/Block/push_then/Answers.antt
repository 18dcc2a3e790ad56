-- The comma, then the number as itoa writes it.
use Rattle.std.proofs.Common.{◌∷◌, ap, ◌∙◌}
use Rattle.frame_text.proofs.Filling.{adds_then, adds_same}
use Rattle.frame_text.proofs.answers.Block.push_then.Goals as goal

pub returns : goal.returns
returns c =
    adds_same _ _ _ _ (ap (λ ds. 44 ∷ ds) (c.as_bytes.ensures.value ∙ c.format.ensures.text))
    (adds_then _ _ _ _ _ c.push.ensures c.push-2.ensures)
