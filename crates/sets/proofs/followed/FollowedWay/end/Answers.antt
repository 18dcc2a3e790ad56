use Rattle.std.proofs.Common.{sym, ◌∙◌}
use Rattle.sets.proofs.LinkSets.{going_begins, following, following_nearer}
use Rattle.sets.proofs.followed.FollowedWay.end.Goals as goal

pub loop-at-init : goal.loop-at-init
loop-at-init c = going_begins _ _ _ (record { stays = c.args.table.now.stays; ends = c.requires.ends }) c.requires.has

pub loop-at-smaller : goal.loop-at-smaller
loop-at-smaller c =
    following_nearer _ c.loop-at.invariant c.get-at.ensures
    (λ e. c.loop-at-test.true (c.get.ensures ∙ sym c.get-at.ensures ∙ e))

pub loop-at-preserved : goal.loop-at-preserved
loop-at-preserved c = following _ c.loop-at.invariant c.get-at.ensures
