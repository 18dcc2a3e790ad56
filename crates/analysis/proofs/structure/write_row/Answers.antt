use Rattle.std.proofs.Common.{refl, arith}
use Rattle.pattern.proofs.Tests.{Vertex}
use Rattle.pattern.proofs.Filling.{rest_none, rest_then}
use Rattle.analysis.proofs.Structures.{writing_first, writing_row, writing_next, writing_last}
use Rattle.analysis.proofs.structure.write_row.Goals as goal

pub loop-slot-init : goal.loop-slot-init
loop-slot-init g c =
    let (same, (found, (lists, (room, (has, before))))) = c.requires in
    let order = found.order in
    record {
      row = writing_first g.p _ _ same lists.sound c.args.u (record { named = has.0; fits = omega arith }) _
          c.neighbours-slot-items.ensures _ _ before;
      rest = rest_none g.p _ _;
    }

pub climb-requires : goal.climb-requires
climb-requires g c =
    let (same, (found, (lists, (room, (has, before))))) = c.requires in
    let order = found.order in
    let i = c.loop-slot.invariant in
    let u : Vertex g.p.order c.args.u = record { named = has.0; fits = omega arith } in (
      found,
      (
        record { starts = omega arith; rows = omega arith },
        (
          (u.named, u.fits),
          (
            writing_row g.p _ _ same lists.sound c.args.u u _ c.neighbours-slot-items.ensures _ _ _ i.row
                c.loop-slot.slot-index (omega arith),
            i.row.climbing,
          ),
        ),
      ),
    )

pub loop-slot-preserved : goal.loop-slot-preserved
loop-slot-preserved g c =
    let (same, (found, (lists, (room, (has, before))))) = c.requires in
    let order = found.order in
    let i = c.loop-slot.invariant in
    record {
      row = writing_next g.p _ _ same lists.sound c.args.u (record { named = has.0; fits = omega arith }) _
          c.neighbours-slot-items.ensures _ _ _ i.row _ _ _ (omega arith) refl c.climb.ensures;
      rest = rest_then g.p i.rest c.climb.ensures.rest;
    }

pub returns : goal.returns
returns g c =
    let (same, (found, (lists, (room, (has, before))))) = c.requires in
    let order = found.order in
    let i = c.loop-slot.invariant in
    record {
      row = writing_last g.p _ _ same lists.sound c.args.u (record { named = has.0; fits = omega arith }) _
          c.neighbours-slot-items.ensures _ _ _ i.row (omega arith);
      rest = i.rest;
    }
