use Rattle.std.proofs.Common.{zero, suc, [], ◌∷◌, arith}
use Rattle.analysis.specs.Tables.{Sound}
use Rattle.analysis.proofs.tests.several_trees.Goals as goal

pairs_sound : Sound 5 ((1, 5) ∷ (2, 4) ∷ [])
pairs_sound zero h = record { from = omega arith; rises = omega arith; within = omega arith }
pairs_sound (suc zero) h = record { from = omega arith; rises = omega arith; within = omega arith }
pairs_sound (suc (suc k)) h = absurd (omega arith)

pub analyse-requires : goal.analyse-requires
analyse-requires c sets =
    record {
      some = omega arith;
      few = omega arith;
      within = omega arith;
      fewer = omega arith;
      sound = pairs_sound;
    }
