use Rattle.std.proofs.Common.{◌-◌, List, arith}
use Rattle.analysis.specs.declared.records.Vertex.{Vertex}
use Rattle.analysis.proofs.Changes.{at_equal}
use Rattle.analysis.proofs.Descents.{Down, down_begins, parent_within, parent_small, level_taken}
use Rattle.analysis.proofs.Descents.{has_room, place_taken, place_within, note_taken, all_down}
use Rattle.analysis.proofs.order.walk_down.Goals as goal
use Rattle.analysis.proofs.order.walk_down.Goals.{After-take_level, After-take_place-free}

pub loop-v-init : goal.loop-v-init
loop-v-init c = down_begins _ c.requires.forest

pub take_level-requires : goal.take_level-requires
take_level-requires c =
    let within = parent_within _ c.requires.forest c.loop-v.invariant c.loop-v.v (omega arith) (omega arith) in
    record {
      has = (omega arith, omega arith);
      parent = omega arith;
      small = parent_small _ c.requires.forest c.loop-v.v c.loop-v.free c.loop-v.vertices (omega arith) (omega arith)
          (omega arith) c.loop-v.invariant;
    }

-- once v has its level
with_level : (c : After-take_level) →
    Down c.args.vertices.now (c.loop-v.v - 1) c.loop-v.v c.loop-v.v c.loop-v.free c.take_level.new.vertices
with_level c =
    level_taken _ c.requires.forest c.loop-v.v c.loop-v.free c.loop-v.vertices (omega arith) (omega arith) (omega arith)
    _ c.loop-v.invariant c.take_level.ensures

-- and its place
with_place : (c : After-take_place-free) →
    Down c.args.vertices.now (c.loop-v.v - 1) c.loop-v.v c.loop-v.v c.loop-v.free c.take_level.new.vertices →
    Down c.args.vertices.now (c.loop-v.v - 1) (c.loop-v.v - 1) c.loop-v.v c.take_place-free.result
    c.take_place-free.new.vertices
with_place c down =
    place_taken _ c.requires.forest c.loop-v.v c.loop-v.free c.take_level.new.vertices (omega arith) (omega arith)
    (omega arith) c.requires.sizes down _ _ c.take_place-free.ensures.table c.take_place-free.ensures.free

pub take_place-free-requires : goal.take_place-free-requires
take_place-free-requires c =
    let v = c.loop-v.v in
    let down = with_level (goal.at.take_place-free-requires c).After-take_level in
    let within = parent_within _ c.requires.forest down v (omega arith) (omega arith) in
    let (weighs, few, some, room) =
    has_room _ c.requires.forest v c.loop-v.free c.take_level.new.vertices (omega arith) (omega arith) (omega arith)
    c.requires.sizes down in
    record {
      has = (omega arith, omega arith);
      parent = omega arith;
      counts = weighs;
      few = few;
      some = some;
      room = room;
    }

pub note_place-requires : goal.note_place-requires
note_place-requires c =
    let small = c.requires.forest.few in
    let to = goal.at.note_place-requires c in
    let (some, within) =
    place_within _ c.requires.forest c.loop-v.v c.take_place-free.result c.take_place-free.new.vertices (omega arith)
    (omega arith) (omega arith) (with_place to.After-take_place-free (with_level to.After-take_level)) in
    record {
      has = (omega arith, omega arith);
      few = omega arith;
      some = some;
      within = omega arith;
    }

pub loop-v-preserved : goal.loop-v-preserved
loop-v-preserved c =
    let to = goal.at.loop-v-preserved c in
    note_taken _ c.requires.forest c.loop-v.v c.take_place-free.result c.take_place-free.new.vertices (omega arith)
    (omega arith) (omega arith) (with_place to.After-take_place-free (with_level to.After-take_level)) _
    c.note_place.ensures

pub returns : goal.returns
returns c =
    all_down _ c.requires.forest c.loop-v.free _ (omega arith)
    (at_equal (λ v (vs : List Vertex). Down c.args.vertices.now v v v c.loop-v.free vs)
    c.loop-v.invariant (omega arith))
