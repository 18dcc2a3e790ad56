use Rattle.std.proofs.Common.{◌≡◌, ◌-◌, length, true, refl, ◌∙◌, arith}
use Rattle.pattern.specs.Patterns.{shares}
use Rattle.analysis.specs.declared.records.End.TheVariants.{Low}
use Rattle.analysis.specs.Tables.{SoundPair, entry}
use Rattle.analysis.specs.Growth.{pattern_in}
use Rattle.analysis.specs.Counts.{Ready, TopsAt, place_in}
use Rattle.analysis.proofs.Changes.{counts_takes, only_none, only_then}
use Rattle.analysis.proofs.Slots.{slot_sound, slot_shares, slot_for}
use Rattle.analysis.proofs.CountedEvents.{counting_first, event_more, counting_next, counting_last}
use Rattle.analysis.proofs.CountedEvents.{ready_only, climbs, tops_same}
use Rattle.analysis.proofs.counts.count_neighbours.Given as given
use Rattle.analysis.proofs.counts.count_neighbours.Goals as goal
use Rattle.analysis.proofs.counts.count_neighbours.Goals.{In-loop-slot}

pub loop-slot-init : goal.loop-slot-init
loop-slot-init g c =
    record {
      counting = counting_first _ _ _ _ c.requires.before.counting;
      only = only_none counts_takes _;
      tops = record { size = refl; used = refl; tops = λ _. refl };
    }

-- x and the neighbour in the slot are a pair, and what is so before x is counted in its row
pair : (g : given.Over) (c : In-loop-slot g) →
    SoundPair (length c.args.vertices.now)
    (c.args.x, (entry c.neighbours-slot-items.result.now c.loop-slot.slot-index).upper)
pair g c =
    slot_sound Low _ _ c.args.x _ c.requires.prepared.lists.sound c.neighbours-slot-items.ensures
    c.loop-slot.slot-index (omega arith)

meet : (g : given.Over) (c : In-loop-slot g) →
    shares (pattern_in c.args.vertices.now c.args.entries.now) c.args.x
    (entry c.neighbours-slot-items.result.now c.loop-slot.slot-index).upper ≡ true
meet g c =
    slot_shares Low _ _ c.args.x _ c.requires.prepared.lists.sound c.neighbours-slot-items.ensures
    c.loop-slot.slot-index (omega arith)

tree : (g : given.Over) (c : In-loop-slot g) →
    Ready (pattern_in c.args.vertices.now c.args.entries.now) c.loop-slot.vertices
tree g c = ready_only _ _ _ c.loop-slot.invariant.only c.requires.prepared.tree

tops : (g : given.Over) (c : In-loop-slot g) →
    TopsAt (pattern_in c.args.vertices.now c.args.entries.now)
    (place_in c.args.vertices.now c.args.entries.now c.args.x - 1) (g.S.AncestorSets.meaning c.loop-slot.sets)
tops g c = tops_same _ _ _ _ c.loop-slot.invariant.tops c.requires.before.tops

pub count_entry-requires : goal.count_entry-requires
count_entry-requires g c =
    let at = (goal.at.count_entry-requires g c).In-loop-slot in
    let i = c.loop-slot.invariant in
    let u = pair g at in
    let rises = u.rises in
    let fits = u.within in
    let used = (tops g at).used in
    let few = c.requires.prepared.few in
    record {
      met = (c.requires.has.0, omega arith);
      row = (omega arith, omega arith);
      room = omega arith;
      few = omega arith;
      climbs = climbs _ _ _ _ _ _ (tree g at) i.counting.tallied (tops g at)
          (event_more _ _ _ _ _ u (meet g at) i.counting) few;
    }

pub loop-slot-preserved : goal.loop-slot-preserved
loop-slot-preserved g c =
    let at = (goal.at.loop-slot-preserved g c).In-loop-slot in
    let i = c.loop-slot.invariant in
    let after = c.count_entry.ensures in
    record {
      counting = counting_next _ _ _ _ _ (pair g at) (meet g at) i.counting _ _ (tree g at) (tops g at) after.passed;
      only = only_then counts_takes _ _ _ i.only after.only;
      tops = record {
        size = after.tops.size ∙ i.tops.size;
        used = after.tops.used ∙ i.tops.used;
        tops = λ x. after.tops.tops x ∙ i.tops.tops x;
      };
    }

pub returns : goal.returns
returns g c =
    let i = c.loop-slot.invariant in
    record {
      counted = counting_last _ _ _ _ _ c.requires.has.0 c.requires.has.1 (omega arith)
          (slot_for Low _ _ c.args.x _ c.requires.prepared.lists.sound c.neighbours-slot-items.ensures) i.counting;
      only = i.only;
      tops = i.tops;
    }
