use Rattle.std.proofs.Common.{subst, sym}
use Rattle.analysis.specs.Tables.{Sound}
use Rattle.model.proofs.Rules.{answered}
use Rattle.downskillet_c.specs.Pairs.{given}
use Rattle.downskillet_c.proofs.Sounds.{sound_turned, narrow_turned}
use Rattle.downskillet_c.proofs.analysing.analyse_pairs.Goals as goal

pub analyse_sound-requires-clause-sound : goal.analyse_sound-requires-clause-sound
analyse_sound-requires-clause-sound c =
    subst (Sound c.args.order) (sym c.load.ensures)
    (sound_turned c.args.order (given c.args.pairs.now) _ _ _ (answered _ _ _ (sym c.in_ok-judge_all.ensures)).0)

pub load-requires-clause-narrow : goal.load-requires-clause-narrow
load-requires-clause-narrow c =
    narrow_turned c.args.order (given c.args.pairs.now) _ _ _ (answered _ _ _ (sym c.in_ok-judge_all.ensures)).0
