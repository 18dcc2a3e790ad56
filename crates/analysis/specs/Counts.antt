-- Counting: what the tables hold before, while and after the vertices of a pattern are passed by place.
use Rattle.std.specs.Prelude.{◌≡◌, ℕ, ◌+◌, ◌-◌, ◌<◌, ◌≤◌, Bool, true, false, cond, List, length, ℤ, pos, negsuc}
use Rattle.std.specs.Prelude.{◌+ℤ◌, ◌-ℤ◌, ◌==◌, nat_lt, slice_set}
use Rattle.std.specs.Int.{int_wrap, w64}
use Rattle.pattern.specs.Patterns.{Pattern, shares}
use Rattle.pattern.specs.Elimination.{parent, row_count, col_count}
use Rattle.pattern.specs.Forest.{children}
use Rattle.pattern.specs.Analysis.{place_of, first_place_of, level_of}
use Rattle.pattern.specs.Walks.{at_place}
use Rattle.pattern.specs.Tops.{root, top_after}
use Rattle.pattern.specs.Passes.{happened, last_met, last_place, MetUnder, row_so_far, one_if, weight_so_far, Passing}
use Rattle.gather.specs.Kinds.{weight}
use Rattle.sets.specs.Meaning.{Sets, in_use}
use Rattle.analysis.specs.declared.records.Entry.{Entry}
use Rattle.analysis.specs.declared.records.Vertex.{Vertex}
use Rattle.analysis.specs.declared.records.End.TheVariants.{Low}
use Rattle.analysis.specs.Tables.{vertex, parent_of, with_weight, with_rows, with_last, with_met, Only, weight_from}
use Rattle.analysis.specs.Pools.{Listed}
use Rattle.analysis.specs.Growth.{pattern_in}

-- the place of x in the walk of the pattern
abbrev pub place_in : List Vertex → List Entry → ℕ → ℕ
place_in vs es x = place_of (pattern_in vs es) x

-- the tree of the pattern is in the table: parents, levels, places, first places, and by its place each vertex
pub record Ready (p : Pattern) (vs : List Vertex) : Type 0 where
  pub parents : (v : ℕ) → 1 ≤ v → v ≤ p.order → parent_of vs v ≡ parent p v
  pub levels : (v : ℕ) → 1 ≤ v → v ≤ p.order → (vertex vs v).level ≡ level_of p v
  pub places : (v : ℕ) → 1 ≤ v → v ≤ p.order → (vertex vs v).place ≡ place_of p v
  pub firsts : (v : ℕ) → 1 ≤ v → v ≤ p.order → (vertex vs v).first.0 ≡ first_place_of p v
  pub walk : (k : ℕ) → 1 ≤ k → k ≤ p.order → (vertex vs k).at ≡ at_place p.order (parent p) k

-- what counting begins with: each vertex's upper neighbours are listed, and the table, not a long one, has the tree
pub record Prepared (vs : List Vertex) (es : List Entry) : Type 0 where
  pub few : length vs ≤ 16384
  pub lists : Listed Low vs es
  pub tree : Ready (pattern_in vs es) vs

-- each vertex has its row count and its column count
pub record Counted (p : Pattern) (vs : List Vertex) : Type 0 where
  pub rows : (v : ℕ) → 1 ≤ v → v ≤ p.order → (vertex vs v).rows ≡ row_count p v
  pub columns : (v : ℕ) → 1 ≤ v → v ≤ p.order → (vertex vs v).weight.0 ≡ pos (col_count p v)

-- the vertices of the pattern are in use, and the places up to t are passed: each of those is joined to its parent
pub record TopsAt (p : Pattern) (t : ℕ) (s : Sets) : Type 0 where
  pub used : s.used ≡ p.order
  pub tops : (x : ℕ) → 1 ≤ x → x ≤ p.order → s.top x ≡ top_after p.order (parent p) t x

-- the vertices of the pattern are in use, and the top of each is its root
pub record TopsAreRoots (p : Pattern) (s : Sets) : Type 0 where
  pub used : s.used ≡ p.order
  pub tops : (x : ℕ) → 1 ≤ x → x ≤ p.order → s.top x ≡ root p.order (parent p) x

-- two numbers that are the same in 64 bits
abbrev pub Same64 : ℤ → ℤ → Type 0
Same64 a b = int_wrap w64 a ≡ int_wrap w64 b

-- the rows, the weights and the neighbours met last, with their places, once the events have happened
pub record Tallied (p : Pattern) (events : List (ℕ × ℕ)) (vs : List Vertex) : Type 0 where
  pub rows : (v : ℕ) → 1 ≤ v → v ≤ p.order → (vertex vs v).rows ≡ row_so_far p v events
  pub weights : (v : ℕ) → 1 ≤ v → v ≤ p.order → Same64 (vertex vs v).weight.0 (weight_so_far p v events)
  pub lasts : (v : ℕ) → 1 ≤ v → v ≤ p.order → (vertex vs v).last ≡ last_met v events
  pub mets : (v : ℕ) → 1 ≤ v → v ≤ p.order → (vertex vs v).met ≡ last_place p v events

-- the vertices at the places up to t are counted: no later ones were met, and where y of them is a lower neighbour of
-- u, y or another lower neighbour of u in its subtree was
pub record Counting (p : Pattern) (t : ℕ) (vs : List Vertex) : Type 0 where
  pub events : List (ℕ × ℕ)
  pub passing : Passing p events
  pub early : (x u : ℕ) → happened x u events ≡ true → place_of p x ≤ t
  pub all : (y u : ℕ) → y < u → shares p y u ≡ true → place_of p y ≤ t → MetUnder p y u events
  pub tallied : Tallied p events vs

-- the places up to t are passed, in the table and in the sets
pub record Passed (p : Pattern) (t : ℕ) (vs : List Vertex) (s : Sets) : Type 0 where
  pub counting : Counting p t vs
  pub tops : TopsAt p t s

-- a vertex whose row has only itself, with a weight of 1 and no neighbour met
abbrev pub uncounted : Vertex → Vertex
uncounted x = with_met (with_last (with_weight (with_rows x 1) (weight (pos 1))) 0) 0

-- the vertices once so much is added to the weight of v
abbrev pub weighed : List Vertex → ℕ → ℤ → List Vertex
weighed vs v by =
    slice_set vs (v - 1) (with_weight (vertex vs v) (weight (int_wrap w64 ((vertex vs v).weight.0 +ℤ by))))

-- the vertices once the child v has taken one off the weight of its parent, if it has one
abbrev pub child_taken : List Vertex → ℕ → List Vertex
child_taken vs v = cond (parent_of vs v == 0) vs (weighed vs (parent_of vs v) (negsuc 0))

-- only weights have changed: that of each vertex is less by the number of its children among 1 to k
pub record ChildrenTaken (k : ℕ) (before after : List Vertex) : Type 0 where
  pub weights : (v : ℕ) → 1 ≤ v → v ≤ length before →
      Same64 (vertex after v).weight.0 ((vertex before v).weight.0 -ℤ pos (length (children k (parent_of before) v)))
  pub only : Only weight_from before after

-- a row once it is longer by so many levels, x the neighbour met last, at its place
abbrev pub longer : Vertex → ℕ → ℕ → ℕ → Vertex
longer row by x place = with_met (with_last (with_rows row (row.rows + by)) x) place

-- the vertices once row u is longer by the levels from q down to x, its last neighbour then
abbrev pub lengthened : List Vertex → ℕ → ℕ → ℕ → List Vertex
lengthened vs u x q =
    slice_set vs (u - 1)
    (longer (vertex vs u) ((vertex vs x).level - (vertex vs q).level) x (vertex vs x).place)

-- x is no higher than q, and row u with the levels between them is no longer than a pattern can make it
pub record Climbs (vs : List Vertex) (u x q : ℕ) : Type 0 where
  pub falls : (vertex vs q).level ≤ (vertex vs x).level
  pub short : (vertex vs u).rows + ((vertex vs x).level - (vertex vs q).level) ≤ 16384

-- where a new neighbour of u meets the row of u: at the top of the one met last, at first at u
abbrev pub meets_at : Sets → List Vertex → ℕ → ℕ
meets_at s vs u = cond (in_use s (vertex vs u).last) (s.top (vertex vs u).last) u

-- x is counted as a neighbour of u that meets its row at q
pub record EntryCounted (x u q : ℕ) (vs ws : List Vertex) : Type 0 where
  pub rows : (v : ℕ) → 1 ≤ v →
      (vertex ws v).rows ≡
      cond (u == v) ((vertex vs v).rows + ((vertex vs x).level - (vertex vs q).level)) (vertex vs v).rows
  pub weights : (v : ℕ) → 1 ≤ v →
      Same64 (vertex ws v).weight.0 ((vertex vs v).weight.0 +ℤ one_if v x -ℤ one_if v q)
  pub lasts : (v : ℕ) → 1 ≤ v → (vertex ws v).last ≡ cond (u == v) x (vertex vs v).last
  pub mets : (v : ℕ) → 1 ≤ v → (vertex ws v).met ≡ cond (u == v) (vertex vs x).place (vertex vs v).met

-- whether x is a leaf of row u so far: its first place is past that of the neighbour of u met last
abbrev pub is_leaf : List Vertex → ℕ → ℕ → Bool
is_leaf vs x u = nat_lt (vertex vs u).met (vertex vs x).first.0

-- x is passed as a neighbour of u: as a leaf it is counted, and meets the row at q; else nothing changes
pub record EntryPassed (x u q : ℕ) (vs ws : List Vertex) : Type 0 where
  pub leaf : is_leaf vs x u ≡ true → EntryCounted x u q vs ws
  pub other : is_leaf vs x u ≡ false → ws ≡ vs

-- a find leaves the room, the vertices in use and every top
pub record SameTops (s t : Sets) : Type 0 where
  pub size : t.size ≡ s.size
  pub used : t.used ≡ s.used
  pub tops : (x : ℕ) → t.top x ≡ s.top x

-- a column count, as a number
abbrev pub column_of : ℤ → ℕ
column_of (pos k) = k
column_of (negsuc k) = 0
