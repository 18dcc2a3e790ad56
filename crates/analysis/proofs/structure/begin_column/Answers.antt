use Rattle.std.proofs.Common.{ℕ, sym, ◌∙◌, arith}
use Rattle.std.proofs.lemmas.List.{length-set}
use Rattle.analysis.proofs.Structures.{column_root, column_place, column_parent}
use Rattle.analysis.proofs.structure.begin_column.Goals as goal

pub append-requires : goal.append-requires
append-requires g c =
    let (vertex, (few, (room, (parent, (place, before))))) = c.requires in
    let at = column_place g.p _ _ _ _ few (record { named = vertex.0; fits = vertex.1 }) room place before _ parent
    c.if-parent-ne0.true in
    record { column = omega (arith, length-set {A = ℕ}, vertex.1, room.starts); room = at.0; few = at.1 }

pub returns-then-parent-ne0 : goal.returns-then-parent-ne0
returns-then-parent-ne0 g c =
    let (vertex, (few, (room, (parent, (place, before))))) = c.requires in
    let made = column_parent g.p _ _ _ _ few (record { named = vertex.0; fits = vertex.1 }) room place before _ parent
    c.if-parent-ne0.true _ _ c.append.ensures.starts c.append.ensures.rows in
    record { begun = made.0; rest = made.1 }

pub returns-else-parent-ne0 : goal.returns-else-parent-ne0
returns-else-parent-ne0 g c =
    let (vertex, (few, (room, (parent, (place, before))))) = c.requires in
    let made = column_root g.p _ _ _ _ few (record { named = vertex.0; fits = vertex.1 }) room place before
    (sym parent ∙ c.if-parent-ne0.false) in
    record { begun = made.0; rest = made.1 }
