-- The structure in its two arrays: what a write to them comes to, and the columns as they are begun.
use Rattle.std.proofs.Common.{◌≡◌, ◌≢◌, ℕ, ◌+◌, ◌-◌, ◌<◌, ◌≤◌, true, List, length, get_or, set, sym, refl, ap, ◌∙◌, subst, inl, inr, arith}
use Rattle.std.proofs.lemmas.Bool.{cases_eq}
use Rattle.std.proofs.lemmas.List.{get_or-set_same, get_or-set_other, length-set}
use Rattle.pattern.specs.Patterns.{Pattern, shares}
use Rattle.pattern.specs.Elimination.{parent, col_count}
use Rattle.pattern.specs.Structure as structure
use Rattle.pattern.specs.Structure.{taken, over}
use Rattle.pattern.specs.Filling.{cursor, InRow}
use Rattle.pattern.proofs.Tests.{Vertex as Ends}
use Rattle.pattern.proofs.Rows.{sharing_fill}
use Rattle.pattern.proofs.Tree.{parents_grow}
use Rattle.pattern.proofs.Columns.{column_fits, higher_count, taken_next, taken_grows}
use Rattle.pattern.proofs.Cursors.{low_vertex}
use Rattle.pattern.proofs.Arrays.{taken_fits, starts_done, rows_done}
use Rattle.pattern.proofs.Filling.{Placed, Appended, Within, rest_then, rest_placed, rest_appended, begun_root, within_begun, begun_parent}
use Rattle.pattern.proofs.Filling.{ClimbAt, cursor_bounds, climb_lacks, climb_step, row_begins, row_ends}
use Rattle.analysis.specs.declared.records.End.TheVariants.{High}
use Rattle.analysis.specs.declared.records.Entry.{Entry}
use Rattle.analysis.specs.declared.records.Vertex.{Vertex}
use Rattle.analysis.specs.Counts.{column_of}
use Rattle.analysis.specs.Structure.{Climbed, Climbing, Filled, Found, Rest, Room}
use Rattle.analysis.specs.Growth.{pattern_of}
use Rattle.analysis.specs.Pools.{Neighbours}
use Rattle.analysis.specs.Tables.{no_vertex, entry, parent_of, pairs_of, Sound}
use Rattle.analysis.proofs.Slots.{slot_sound, slot_shares, slot_for}

pub placed : (starts : List ℕ) (v place : ℕ) → v < length starts →
    Placed v place (λ k. get_or starts k 0) (λ k. get_or (set starts v place) k 0)
placed starts v place h =
    record {
      at = get_or-set_same starts v place 0 h;
      others = λ w other. get_or-set_other starts v w place 0 other;
    }

pub appended : (u v : ℕ) (starts rows starts' rows' : List ℕ) → v < length starts → get_or starts v 0 < length rows →
    starts' ≡ set starts v (get_or starts v 0 + 1) → rows' ≡ set rows (get_or starts v 0) u →
    Appended u v (λ k. get_or starts k 0) (λ k. get_or rows k 0) (λ k. get_or starts' k 0) (λ k. get_or rows' k 0)
appended u v starts rows starts' rows' h room is new =
    record {
      cursor = ap (λ xs. get_or xs v 0) is ∙ get_or-set_same starts v (get_or starts v 0 + 1) 0 h;
      others = λ w other.
          ap (λ xs. get_or xs w 0) is ∙ get_or-set_other starts v w (get_or starts v 0 + 1) 0 other;
      row = ap (λ xs. get_or xs (get_or starts v 0) 0) new ∙ get_or-set_same rows (get_or starts v 0) u 0 room;
      places = λ j other.
          ap (λ xs. get_or xs j 0) new ∙ get_or-set_other rows (get_or starts v 0) j u 0 other;
    }

-- a place of a column is one of the rows, and small
module _ (p : Pattern) (few : p.order ≤ 16384) where
  pub place_fits : (long wide v j : ℕ) → Room p long wide → Within p v j → (j < wide) × (j < 2147483648)
  place_fits long wide v j room at =
      let all = taken_grows p v p.order at.vertex.fits in
      let room = room.rows in
      let low = at.under in
      let small = taken_fits p few v in
      let fits = at.vertex.fits in
      (omega arith, omega arith)

-- column v is begun at its place
module _ (p : Pattern) (v place : ℕ) (starts rows : List ℕ) (few : p.order ≤ 16384) (vv : Ends p.order v)
    (room : Room p (length starts) (length rows)) (at : place ≡ taken p (v - 1))
    (before : Filled p (v - 1) 0 starts rows) where
  put : Placed v (taken p (v - 1)) (λ k. get_or starts k 0) (λ k. get_or (set starts v place) k 0)
  put =
      let wide = room.starts in
      subst (λ m. Placed v m (λ k. get_or starts k 0) (λ k. get_or (set starts v place) k 0)) at
      (placed starts v place (omega (arith, vv.fits)))

  -- a root has no first row
  pub column_root : parent p v ≡ 0 →
      Filled p v 0 (set starts v place) rows × Rest p starts rows (set starts v place) rows
  column_root root = (begun_root p vv before put root, rest_placed p (λ k. get_or rows k 0) vv put)

  module _ (u : ℕ) (is : u ≡ parent p v) (some : u ≢ 0) where
    within : Within p v (get_or (set starts v place) v 0)
    within = within_begun p vv before put (omega (arith, is, some))

    pub column_place : (get_or (set starts v place) v 0 < length rows) × (get_or (set starts v place) v 0 < 2147483648)
    column_place = place_fits p few _ _ v _ room within

    pub column_parent : (starts' rows' : List ℕ) →
        starts' ≡ set (set starts v place) v (get_or (set starts v place) v 0 + 1) →
        rows' ≡ set rows (get_or (set starts v place) v 0) u →
        Filled p v 0 starts' rows' × Rest p starts rows starts' rows'
    column_parent starts' rows' e f =
        let long = length-set starts v place in
        let wide = room.starts in
        let new = appended (parent p v) v (set starts v place) rows starts' rows' (omega (arith, vv.fits))
        column_place.0 e (f ∙ ap (set rows (get_or (set starts v place) v 0)) is) in (
          begun_parent p vv before put (omega (arith, is, some)) new,
          rest_then p (rest_placed p (λ k. get_or rows k 0) vv put) (rest_appended p within new),
        )

-- what the records say of the column after i columns
module _ (p : Pattern) (vs : List Vertex) (found : Found p vs) (i : ℕ) (less : i < length vs) where
  next : Ends p.order (i + 1)
  next = record { named = omega arith; fits = omega (arith, found.order) }

  pub next_parent : (get_or vs i no_vertex).parent ≡ parent p (i + 1)
  next_parent =
      let back : i ≡ i + 1 - 1 = omega arith in
      ap (λ k. (get_or vs k no_vertex).parent) back ∙ found.tree.parents (i + 1) next.named next.fits

  next_count : column_of (get_or vs i no_vertex).weight.0 ≡ col_count p (i + 1)
  next_count =
      let back : i ≡ i + 1 - 1 = omega arith in
      ap (λ k. column_of (get_or vs k no_vertex).weight.0) back
      ∙ ap column_of (found.columns (i + 1) next.named next.fits)

  -- so where the one after it begins
  pub record Next (place count : ℕ) : Type 0 where
    pub some : 1 ≤ count
    pub few : count ≤ 16384
    pub after : place + (count - 1) ≡ taken p (i + 1)
    pub small : place + (count - 1) < 2147483648

  pub next_place : (place count : ℕ) → place ≡ taken p i → count ≡ column_of (get_or vs i no_vertex).weight.0 →
      Next place count
  next_place place count at is =
      let few = found.few in
      let back : i + 1 - 1 ≡ i = omega arith in
      let after = taken_next p (i + 1) next in
      let same = ap (taken p) back in
      let own = higher_count p (i + 1) next in
      let fits = next.fits in
      record {
        some = omega (arith, is, next_count);
        few = omega (arith, is, next_count, column_fits p (i + 1));
        after = omega (arith, is, next_count);
        small = omega (arith, is, next_count, taken_fits p few (i + 1));
      }

-- v is a vertex, and its column has a row
pub record Bounds (v : ℕ) (vs : List Vertex) (starts rows : List ℕ) : Type 0 where
  pub named : 1 ≤ v
  pub vertex : v ≤ length vs
  pub column : v < length starts
  pub some : 1 ≤ get_or starts v 0
  pub last : get_or starts v 0 - 1 < length rows

-- a climb has come to v
module _ (p : Pattern) (u x v : ℕ) (vs : List Vertex) (found : Found p vs) (uu : Ends p.order u)
    (starts rows before below : List ℕ) (room : Room p (length starts) (length rows))
    (at : ClimbAt p u x v (λ k. get_or before k 0) (λ k. get_or below k 0) (λ k. get_or starts k 0)
    (λ k. get_or rows k 0)) where
  vv : Ends p.order v
  vv = low_vertex p v u uu.fits at.row

  pub climb_bounds : Bounds v vs starts rows
  climb_bounds =
      let (from, to) = cursor_bounds p u uu at.climbing at.row in
      let all = taken_grows p v p.order vv.fits in
      let wide = room.rows in
      record {
        named = vv.named;
        vertex = omega (arith, vv.fits, found.order);
        column = omega (arith, vv.fits, room.starts);
        some = omega arith;
        last = omega arith;
      }

  module _ (other : get_or rows (get_or starts v 0 - 1) 0 ≢ u) where
    pub climb_place : (get_or starts v 0 < length rows) × (get_or starts v 0 < 2147483648)
    climb_place = place_fits p found.few _ _ v _ room (climb_lacks p u uu at other).within

    pub climb_on : (starts' rows' : List ℕ) →
        starts' ≡ set starts v (get_or starts v 0 + 1) → rows' ≡ set rows (get_or starts v 0) u →
        ClimbAt p u x (parent_of vs v) (λ k. get_or before k 0) (λ k. get_or below k 0) (λ k. get_or starts' k 0)
        (λ k. get_or rows' k 0)
    climb_on starts' rows' is new =
        let more = appended u v starts rows starts' rows' climb_bounds.column climb_place.0 is new in
        subst (λ w. ClimbAt p u x w (λ k. get_or before k 0) (λ k. get_or below k 0) (λ k. get_or starts' k 0)
        (λ k. get_or rows' k 0)) (sym (found.tree.parents v vv.named vv.fits))
        (climb_step p u uu at other more)

    pub climb_rises : length vs - parent_of vs v < length vs - v
    climb_rises =
        let above = (climb_lacks p u uu at other).above in
        let rises = (parents_grow p).rises v vv.named vv.fits above.0 in
        omega (arith, found.tree.parents v vv.named vv.fits, found.order, uu.fits, above.1)

-- all rows are written into arrays whose first start was set to 0
module _ (p : Pattern) (starts rows starts' rows' : List ℕ) (room : Room p (length starts) (length rows))
    (filled : Filled p p.order p.order starts' rows') (rest : Rest p (set starts 0 0) rows starts' rows') where
  pub starts_over : length starts' ≡ length starts → starts' ≡ over (structure.starts p) starts
  starts_over long =
      starts_done p _ _ filled starts starts' long room.starts (λ _. refl)
      (rest.first ∙ get_or-set_same starts 0 0 0 (omega (arith, room.starts)))
      (λ j past. rest.cursors j past ∙ get_or-set_other starts 0 j 0 0 (λ e. omega (arith, past)))

  pub rows_over : length rows' ≡ length rows → rows' ≡ over (structure.rows p) rows
  rows_over wide = rows_done p _ _ filled rows rows' wide room.rows (λ _. refl) rest.places

-- Row u as far as slot k: from each neighbour in the slots before it a climb has come.
pub record WritingAt (p : Pattern) (u : ℕ) (slots : List Entry) (k : ℕ) (starts rows : List ℕ) : Type 0 where
  pub climbing : Climbing p u 0 starts rows
  pub climbed : (j : ℕ) → j < k → get_or starts (entry slots j).lower 0 ≡ cursor p u (entry slots j).lower

-- the slots hold the lower neighbours of u
module _ (p : Pattern) (n : ℕ) (es : List Entry) (same : p ≡ pattern_of n es) (sound : Sound n (pairs_of es)) (u : ℕ)
    (uu : Ends p.order u) (slots : List Entry) (list : Neighbours High (pairs_of es) u slots) where
  order : p.order ≡ n
  order = ap (λ q. q.order) same

  -- the row begins before the first slot
  pub writing_first : (starts rows : List ℕ) → Filled p p.order (u - 1) starts rows →
      WritingAt p u slots 0 starts rows
  writing_first starts rows filled =
      record {
        climbing = row_begins p u uu filled;
        climbed = λ j before. absurd (omega arith);
      }

  module _ (k : ℕ) (starts rows : List ℕ) (at : WritingAt p u slots k starts rows) where
    -- a slot holds a vertex of the row
    pub writing_row : (j : ℕ) → j < length slots → InRow p u (entry slots j).lower
    writing_row j h =
        let x = (entry slots j).lower in
        let s = slot_sound High n es u slots sound list j h in
        let shared = slot_shares High n es u slots sound list j h in
        record {
          under = s.rises;
          joined = sharing_fill p x u s.rises (subst (λ r. shares r x u ≡ true) (sym same) shared);
        }

    -- a climb came from the one in slot k: on to the next
    pub writing_next : (x : ℕ) (starts' rows' : List ℕ) → k < length slots → x ≡ (entry slots k).lower →
        Climbed p u x starts rows starts' rows' → WritingAt p u slots (k + 1) starts' rows'
    writing_next x starts' rows' h is climbed =
        record {
          climbing = climbed.done;
          climbed = λ j before. elim (cases_eq j k) [
            | inl i ↦
                let now : (entry slots j).lower ≡ x = ap (λ m. (entry slots m).lower) i ∙ sym is in
                subst (λ y. get_or starts' y 0 ≡ cursor p u y) (sym now) climbed.met
            | inr other ↦
                let s = slot_sound High n es u slots sound list j (omega arith) in
                climbed.kept (entry slots j).lower s.from (omega (arith, s.rises, s.within, order))
                (at.climbed j (omega arith))
          ];
        }

    -- no slot is left: the row is done
    pub writing_last : k ≡ length slots → Filled p p.order u starts rows
    writing_last last = row_ends p u uu at.climbing all
      where
        all : (x : ℕ) → x < u → shares p x u ≡ true → get_or starts x 0 ≡ cursor p u x
        all x less s =
            let shared = subst (λ r. shares r x u ≡ true) same s in
            let (j, h, is) = slot_for High n es u slots sound list x less shared in
            subst (λ y. get_or starts y 0 ≡ cursor p u y) is (at.climbed j (omega arith))
