use Rattle.std.proofs.Common.{refl, length}
use Rattle.analysis.specs.Tables.{pairs_of}
use Rattle.downskillet_c.specs.Pairs.{pattern_given}
use Rattle.downskillet_c.proofs.Structures.{found, room_judged, sum_told}
use Rattle.downskillet_c.proofs.structure.analyse_structure.Goals as goal

pub judge_arrays-requires : goal.judge_arrays-requires
judge_arrays-requires c =
    (sum_told c.args.order (pairs_of c.args.entries.now) (length c.args.vertices.now) (length c.args.entries.now)
    (length c.args.links.now) c.in_ok-total.total c.in_ok-total.ensures.outcome).1

pub structure-requires : goal.structure-requires
structure-requires c =
    let pairs = pairs_of c.args.entries.now in
    let sum =
    sum_told c.args.order pairs (length c.args.vertices.now) (length c.args.entries.now) (length c.args.links.now)
    c.in_ok-total.total c.in_ok-total.ensures.outcome in
    let room =
    room_judged (pattern_given c.args.order pairs) c.in_ok-total.total (length c.args.starts.now)
    (length c.args.rows.now) _ sum.0 c.judge_arrays.ensures c.in_ok-judge_arrays.was in
    let (found, room) = found c.args.order pairs _ _ _ _ c.in_ok-total.ensures.ready room in
    (refl, (found, (c.in_ok-total.ensures.ready.lists, room)))
