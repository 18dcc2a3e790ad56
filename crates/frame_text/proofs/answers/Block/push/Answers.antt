-- One byte more of the bytes, and at the end all of them.
use Rattle.std.proofs.Common.{sym, arith}
use Rattle.std.proofs.lemmas.List.{take_more, take_all}
use Rattle.frame_text.proofs.Filling.{adds_byte, adds_then, adds_same}
use Rattle.frame_text.proofs.answers.Block.push.Goals as goal

pub loop-b-preserved : goal.loop-b-preserved
loop-b-preserved c = let pushed = c.try_push.ensures in
    adds_same _ _ _ _ (sym (take_more c.args.bytes.now c.loop-b.b-index 0 (omega arith)))
    (adds_then _ _ _ _ _ c.loop-b.invariant
    (adds_byte c.try_push.result _ _ _ pushed.variant pushed.ok pushed.err pushed.full))

pub returns : goal.returns
returns c = adds_same _ _ _ _ (take_all c.loop-b.b-index c.args.bytes.now (omega arith)) c.loop-b.invariant
