use Rattle.std.proofs.Common.{length, refl, ◌∙◌, arith}
use Rattle.pattern.proofs.Crowns.{row_top}
use Rattle.analysis.specs.declared.records.End.TheVariants.{High}
use Rattle.analysis.specs.Tables.{SoundPair, entry}
use Rattle.analysis.specs.Growth.{pattern_in}
use Rattle.analysis.proofs.Changes.{parent_takes, only_none, only_then}
use Rattle.analysis.proofs.Slots.{slot_sound}
use Rattle.analysis.proofs.Tops.{top_within, only_adopted, adoption}
use Rattle.analysis.proofs.Tops.{row_at_first, row_at_next, row_at_last}
use Rattle.analysis.proofs.tree.adopt_row.Given as given
use Rattle.analysis.proofs.tree.adopt_row.Goals as goal
use Rattle.analysis.proofs.tree.adopt_row.Goals.{In-loop-slot}

pub loop-slot-init : goal.loop-slot-init
loop-slot-init g c =
    record {
      row = row_at_first _ _ _ _ _ _ c.requires.has.0 c.requires.before;
      size = refl;
      used = c.requires.used;
      only = only_none parent_takes _;
    }

-- the neighbour in the slot and u are a pair
low : (g : given.Over) (c : In-loop-slot g) →
    SoundPair (length c.args.vertices.now)
    ((entry c.neighbours-slot-items.result.now c.loop-slot.slot-index).lower, c.args.u)
low g c =
    slot_sound High _ _ c.args.u _ c.requires.lists.sound c.neighbours-slot-items.ensures c.loop-slot.slot-index
    (omega arith)

pub adopt-requires : goal.adopt-requires
adopt-requires g c =
    let i = c.loop-slot.invariant in
    let x = low g (goal.at.adopt-requires g c).In-loop-slot in
    let r = x.rises in
    let used = i.used in
    record {
      from = x.from;
      to = omega arith;
      above = c.requires.has.0;
      within = omega arith;
      own = row_top (pattern_in c.args.vertices.now c.args.entries.now) _ _ _ _ i.row.in_row c.requires.has.1;
      room = omega arith;
      few = omega arith;
    }

pub loop-slot-preserved : goal.loop-slot-preserved
loop-slot-preserved g c =
    let i = c.loop-slot.invariant in
    let x = low g (goal.at.loop-slot-preserved g c).In-loop-slot in
    let rises = x.rises in
    let used = i.used in
    let r = top_within _ _ (g.S.AncestorSets.sound c.loop-slot.sets) x.from (omega arith) in
    let put = c.adopt.ensures.tops in
    let is = c.adopt.ensures.parents in
    record {
      row = row_at_next _ _ _ _ c.requires.has.1 c.requires.lists.sound c.neighbours-slot-items.ensures _ _ _ _ _ _
          (omega arith) refl i.row (adoption _ _ _ _ _ _ _ put is r.0 (omega arith));
      size = put.size ∙ i.size;
      used = put.used ∙ used;
      only = only_then parent_takes _ _ _ i.only (only_adopted _ _ _ _ is);
    }

pub returns : goal.returns
returns g c =
    let i = c.loop-slot.invariant in
    record {
      size = i.size;
      used = i.used;
      done = row_at_last _ _ _ _ c.requires.has.1 c.requires.lists.sound c.neighbours-slot-items.ensures _ _ _
          (omega arith) i.row;
      only = i.only;
    }
