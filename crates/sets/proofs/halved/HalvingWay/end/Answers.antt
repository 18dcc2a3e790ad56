use Rattle.std.proofs.Common.{sym, refl, ap, ◌∙◌, arith}
use Rattle.sets.specs.Tables.{number}
use Rattle.sets.proofs.LinkSets.{Jump, going_begins, halving_goes_on, halving_nearer, going_ends}
use Rattle.sets.proofs.halved.HalvingWay.end.Goals as goal

jump : (c : goal.After-put) → Jump c.loop-at.table.numbers.now c.loop-at.at c.get-next.result
jump c = record {
  next_is = c.get-next.ensures ∙ ap (number c.loop-at.table.numbers.now) c.get-in-loop-at.ensures;
  off = λ e. c.loop-at-test.true (c.get.ensures ∙ e);
}

pub loop-at-init : goal.loop-at-init
loop-at-init c =
    (refl, going_begins _ _ _ (record { stays = c.args.table.now.stays; ends = c.requires.ends }) c.requires.has)

pub loop-at-smaller : goal.loop-at-smaller
loop-at-smaller c = halving_nearer c.loop-at.invariant.1 (jump c)

pub loop-at-preserved : goal.loop-at-preserved
loop-at-preserved c =
    let so_far = c.loop-at.invariant in
    let put = c.put.ensures in
    (put.kept ∙ so_far.0, halving_goes_on _ so_far.1 (omega (arith, c.args.table.now.fits)) (jump c) put.stored)

pub returns-clause-ended : goal.returns-clause-ended
returns-clause-ended c = going_ends _ _ _ _ _ c.loop-at.invariant.1 (sym c.get.ensures ∙ c.loop-at-test.false)
