use Rattle.std.proofs.Common.{arith}
use Rattle.model.proofs.making.make.Goals as goal

pub invariant_of-result-clause-sound : goal.invariant_of-result-clause-sound
invariant_of-result-clause-sound c k none = absurd (omega arith)
