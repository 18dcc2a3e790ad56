-- How the tables of an analysis are read, a vertex by its number from 1 and an entry by its position from 0, and how
-- they change: one field of one record, or that field of any. A slot is a working field of an entry, by its position.
use Rattle.std.specs.Prelude.{◌≡◌, ℕ, ◌-◌, ◌<◌, ◌≤◌, List, map, length, pos, slice_index_or}
use Rattle.gather.specs.declared.kinds.Weight.{Weight}
use Rattle.gather.specs.declared.kinds.LeastPlace.{LeastPlace}
use Rattle.gather.specs.declared.kinds.GreatestLevel.{GreatestLevel}
use Rattle.gather.specs.Kinds.{weight, least_place, greatest_level}
use Rattle.analysis.specs.declared.records.Entry.{Entry}
use Rattle.analysis.specs.declared.records.End.{End}
use Rattle.analysis.specs.declared.records.End.TheVariants.{Low, High}
use Rattle.analysis.specs.declared.records.Vertex.{Vertex}

abbrev pub no_entry : Entry
no_entry = record { low = 0; high = 0; lower = 0; upper = 0 }

abbrev pub no_vertex : Vertex
no_vertex =
    record {
      weight = weight (pos 0);
      rows = 0;
      last = 0;
      met = 0;
      level = 0;
      first = least_place 0;
      at = 0;
      parent = 0;
      place = 0;
      deepest = greatest_level 0;
      lower_end = 0;
      upper_end = 0;
    }

-- the entry at position k
abbrev pub entry : List Entry → ℕ → Entry
entry es k = slice_index_or es k no_entry

-- the vertex numbered v
abbrev pub vertex : List Vertex → ℕ → Vertex
vertex vs v = slice_index_or vs (v - 1) no_vertex

abbrev pub parent_of : List Vertex → ℕ → ℕ
parent_of vs v = (vertex vs v).parent

-- the table has the vertex v
abbrev pub Has : List Vertex → ℕ → Type 0
Has vs v = (1 ≤ v) × (v ≤ length vs)

abbrev pub pair_of : Entry → ℕ × ℕ
pair_of e = (e.low, e.high)

-- the entries as the pattern has them
abbrev pub pairs_of : List Entry → List (ℕ × ℕ)
pairs_of es = map pair_of es

-- a pair of two vertices of 1 to n, the lower one first
pub record SoundPair (n : ℕ) (e : ℕ × ℕ) : Type 0 where
  pub from : 1 ≤ e.0
  pub rises : e.0 < e.1
  pub within : e.1 ≤ n

-- every pair is such
abbrev pub Sound : ℕ → List (ℕ × ℕ) → Type 0
Sound n ps = (k : ℕ) → k < length ps → SoundPair n (slice_index_or ps k (0, 0))

-- the vertex at one end of an entry
abbrev pub end_of : End → (ℕ × ℕ) → ℕ
end_of Low e = e.0
end_of High e = e.1

abbrev pub opposite : End → End
opposite Low = High
opposite High = Low

-- The neighbour in a slot: lists by the high ends are of lower neighbours, and those by the low ends of upper ones.
abbrev pub neighbour : End → Entry → ℕ
neighbour Low slot = slot.upper
neighbour High slot = slot.lower

abbrev pub with_neighbour : End → Entry → ℕ → Entry
with_neighbour Low slot x = record slot { upper = x }
with_neighbour High slot x = record slot { lower = x }

abbrev pub with_parent : Vertex → ℕ → Vertex
with_parent x y = record x { parent = y }

abbrev pub with_level : Vertex → ℕ → Vertex
with_level x y = record x { level = y }

abbrev pub with_place : Vertex → ℕ → Vertex
with_place x y = record x { place = y }

abbrev pub with_first : Vertex → LeastPlace → Vertex
with_first x y = record x { first = y }

abbrev pub with_deepest : Vertex → GreatestLevel → Vertex
with_deepest x y = record x { deepest = y }

abbrev pub with_reach : Vertex → LeastPlace × GreatestLevel → Vertex
with_reach x y = with_deepest (with_first x y.0) y.1

abbrev pub with_rows : Vertex → ℕ → Vertex
with_rows x y = record x { rows = y }

abbrev pub with_weight : Vertex → Weight → Vertex
with_weight x y = record x { weight = y }

-- where the slots of a vertex end, in the lists by that end
abbrev pub slots_end : End → Vertex → ℕ
slots_end Low x = x.upper_end
slots_end High x = x.lower_end

abbrev pub with_slots_end : End → Vertex → ℕ → Vertex
with_slots_end Low x y = record x { upper_end = y }
with_slots_end High x y = record x { lower_end = y }

abbrev pub with_last : Vertex → ℕ → Vertex
with_last x y = record x { last = y }

abbrev pub with_met : Vertex → ℕ → Vertex
with_met x y = record x { met = y }

abbrev pub with_at : Vertex → ℕ → Vertex
with_at x y = record x { at = y }

-- Nothing but what `mix` takes over from the second record has changed.
abbrev pub Only : (Vertex → Vertex → Vertex) → List Vertex → List Vertex → Type 0
Only mix before after = (v : ℕ) → vertex after v ≡ mix (vertex before v) (vertex after v)

-- x, with the end of the slots of y, and so on
abbrev pub slots_from : End → Vertex → Vertex → Vertex
slots_from which x y = with_slots_end which x (slots_end which y)

abbrev pub parent_from : Vertex → Vertex → Vertex
parent_from x y = with_parent x y.parent

abbrev pub weight_from : Vertex → Vertex → Vertex
weight_from x y = with_weight x y.weight

abbrev pub tree_from : Vertex → Vertex → Vertex
tree_from x y = with_weight (with_parent x y.parent) y.weight

-- x, with the level of y, and the greatest level in the subtree, which begins with it
abbrev pub level_from : Vertex → Vertex → Vertex
level_from x y = with_deepest (with_level x y.level) y.deepest

-- x, with the place of y, the next for a child, and the least in the subtree
abbrev pub place_from : Vertex → Vertex → Vertex
place_from x y = with_first (with_last (with_place x y.place) y.last) y.first

abbrev pub at_from : Vertex → Vertex → Vertex
at_from x y = with_at x y.at

abbrev pub reach_from : Vertex → Vertex → Vertex
reach_from x y = with_reach x (y.first, y.deepest)

abbrev pub counts_from : Vertex → Vertex → Vertex
counts_from x y = with_met (with_last (with_weight (with_rows x y.rows) y.weight) y.last) y.met

-- x, with all but the parent, the ends of the slots, the row count and the place met last of y
abbrev pub order_from : Vertex → Vertex → Vertex
order_from x y =
    with_met (with_rows (slots_from Low (slots_from High (with_parent y x.parent) x) x) x.rows) x.met

-- the same, but for the weight
abbrev pub walk_from : Vertex → Vertex → Vertex
walk_from x y = with_weight (order_from x y) x.weight

-- Of the entries nothing but the slots of the lists by that end has changed.
abbrev pub OnlySlots : End → List Entry → List Entry → Type 0
OnlySlots which before after =
    (k : ℕ) → entry after k ≡ with_neighbour which (entry before k) (neighbour which (entry after k))
