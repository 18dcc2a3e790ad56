-- The bytes so far are added.
use Rattle.std.proofs.Common.{take}
use Rattle.frame_text.specs.Blocks.{Adds}
use Rattle.frame_text.proofs.answers.Block.push.Given as goal

abbrev pub invariant-loop-b : goal.invariant-loop-b
invariant-loop-b l = Adds l.initial.self (take l.b-index l.bytes) l.self
