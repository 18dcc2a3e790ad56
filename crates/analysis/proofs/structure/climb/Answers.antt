use Rattle.std.proofs.Common.{arith}
use Rattle.pattern.proofs.Tests.{Vertex}
use Rattle.pattern.proofs.Filling.{climb_begins, climb_ends}
use Rattle.analysis.proofs.Structures.{climb_bounds, climb_place, climb_on, climb_rises}
use Rattle.analysis.proofs.structure.climb.Goals as goal

pub loop-rows-init : goal.loop-rows-init
loop-rows-init g c =
    let (found, (room, (row, (met, before)))) = c.requires in
    let vertex : Vertex g.p.order c.args.u = record { named = row.0; fits = row.1 } in
    let at = climb_begins g.p c.args.u vertex met before in
    record { at = at; bounds = climb_bounds g.p _ _ _ _ found vertex _ _ _ _ room at }

pub append-requires : goal.append-requires
append-requires g c =
    let (found, (room, (row, _))) = c.requires in
    let i = c.loop-rows.invariant in
    let place = climb_place g.p _ _ _ _ found (record { named = row.0; fits = row.1 }) _ _ _ _
    (record { starts = omega arith; rows = omega arith }) i.at c.loop-rows-test.true in
    record { column = i.bounds.column; room = place.0; few = place.1 }

pub loop-rows-smaller : goal.loop-rows-smaller
loop-rows-smaller g c =
    let (found, (room, (row, _))) = c.requires in
    climb_rises g.p _ _ _ _ found (record { named = row.0; fits = row.1 }) _ _ _ _
    (record { starts = omega arith; rows = omega arith }) c.loop-rows.invariant.at c.loop-rows-test.true

pub loop-rows-preserved : goal.loop-rows-preserved
loop-rows-preserved g c =
    let (found, (room, (row, _))) = c.requires in
    let vertex : Vertex g.p.order c.args.u = record { named = row.0; fits = row.1 } in
    let at = climb_on g.p _ _ _ _ found vertex _ _ _ _ (record { starts = omega arith; rows = omega arith })
    c.loop-rows.invariant.at c.loop-rows-test.true _ _ c.append.ensures.starts c.append.ensures.rows in
    record {
      at = at;
      bounds =
          climb_bounds g.p _ _ _ _ found vertex _ _ _ _ (record { starts = omega arith; rows = omega arith }) at;
    }

pub returns : goal.returns
returns g c =
    let (found, (room, (row, _))) = c.requires in
    climb_ends g.p c.args.u (record { named = row.0; fits = row.1 }) c.loop-rows.invariant.at c.loop-rows-test.false
