-- What the passes over the tree leave in the tables, whatever the parents: levels, sizes, places, the walk by place,
-- first places and greatest levels.
use Rattle.std.specs.Prelude.{◌≡◌, ℕ, ◌+◌, ◌-◌, ◌≤◌, cond, List, length, pos, ◌==◌, slice_set, unsigned_abs}
use Rattle.pattern.specs.Lists.{greatest}
use Rattle.pattern.specs.Patterns.{Pattern}
use Rattle.pattern.specs.Elimination.{parent}
use Rattle.pattern.specs.Forest as forest
use Rattle.pattern.specs.Walks as walks
use Rattle.pattern.specs.Analysis.{level_of, place_of, first_place_of, height_of}
use Rattle.gather.specs.Kinds.{least_place, greatest_level}
use Rattle.analysis.specs.declared.records.Vertex.{Vertex}
use Rattle.analysis.specs.Tables.{vertex, parent_of}
use Rattle.analysis.specs.Tables.{with_level, with_place, with_first, with_deepest, with_last, with_at}

-- not too many vertices, and each one's parent a greater vertex, or 0
pub record Forest (vs : List Vertex) : Type 0 where
  pub few : length vs ≤ 16384
  pub grows : forest.Grows (length vs) (parent_of vs)

-- one more than the level that w has, or 0 if w is none
abbrev pub level_under : List Vertex → ℕ → ℕ
level_under vs w = cond (w == 0) 0 ((vertex vs w).level + 1)

-- one more than the level that the parent of v has, or 0 at a root
abbrev pub level_below : List Vertex → ℕ → ℕ
level_below vs v = level_under vs (parent_of vs v)

-- a vertex on its level, with which the greatest level in its subtree begins
abbrev pub on_level : Vertex → ℕ → Vertex
on_level x l = with_deepest (with_level x l) (greatest_level l)

-- the vertices once v has its level
abbrev pub levelled : List Vertex → ℕ → List Vertex
levelled vs v = slice_set vs (v - 1) (on_level (vertex vs v) (level_below vs v))

-- the number of vertices in the subtree, while the weight holds it
abbrev pub size_in : Vertex → ℕ
size_in x = unsigned_abs x.weight.0

-- the place that the next child of w takes, the greatest child first; the next root if w is 0
abbrev pub next_place : List Vertex → ℕ → ℕ → ℕ
next_place vs free w = cond (w == 0) free (vertex vs w).last

-- a vertex at its place, with which the least place in its subtree begins; its children are to stand before it
abbrev pub at_its_place : Vertex → ℕ → Vertex
at_its_place x p = with_first (with_last (with_place x p) (p - 1)) (least_place p)

-- the vertices once v has its place
abbrev pub placed_at : List Vertex → ℕ → ℕ → List Vertex
placed_at vs v p = slice_set vs (v - 1) (at_its_place (vertex vs v) p)

-- the vertices once p is the place for the next child of w
abbrev pub freed_to : List Vertex → ℕ → ℕ → List Vertex
freed_to vs w p = slice_set vs (w - 1) (with_last (vertex vs w) p)

-- the vertices once v stands at the place that is the next below its parent
abbrev pub taken : List Vertex → ℕ → ℕ → List Vertex
taken vs free v =
    let w = parent_of vs v in
    let p = next_place vs free w in
    cond (w == 0) (placed_at vs v p) (freed_to (placed_at vs v p) w (p - size_in (vertex vs v)))

-- the next place for a root then
abbrev pub free_after : List Vertex → ℕ → ℕ → ℕ
free_after vs free v = cond (parent_of vs v == 0) (free - size_in (vertex vs v)) free

-- the vertices once v is noted at its place
abbrev pub noted : List Vertex → ℕ → List Vertex
noted vs v = slice_set vs ((vertex vs v).place - 1) (with_at (vertex vs (vertex vs v).place) v)

-- the greatest level in the subtree of v
abbrev pub greatest_level_under : ℕ → (ℕ → ℕ) → ℕ → ℕ
greatest_level_under n up v = greatest (forest.level n up) (forest.subtree n up v)

-- In each of the records 1 to n the field is what f makes there of the parents that the table has.
abbrev pub Holds : {A : Type 0} → ℕ → (Vertex → A) → (ℕ → (ℕ → ℕ) → ℕ → A) → List Vertex → Type 0
Holds n field f vs = (v : ℕ) → 1 ≤ v → v ≤ n → field (vertex vs v) ≡ f n (parent_of vs) v

-- each vertex weighs 1
abbrev pub AllWeighOne : List Vertex → Type 0
AllWeighOne vs = (v : ℕ) → 1 ≤ v → v ≤ length vs → (vertex vs v).weight.0 ≡ pos 1

abbrev pub Levelled : ℕ → List Vertex → Type 0
Levelled n vs = Holds n (λ x. x.level) forest.level vs

abbrev pub Sized : ℕ → List Vertex → Type 0
Sized n vs = Holds n (λ x. x.weight.0) (λ n up v. pos (walks.size n up v)) vs

abbrev pub Placed : ℕ → List Vertex → Type 0
Placed n vs = Holds n (λ x. x.place) forest.place vs

abbrev pub Walked : ℕ → List Vertex → Type 0
Walked n vs = Holds n (λ x. x.at) walks.at_place vs

-- what each subtree reaches begins with the vertex's own place and level
pub record ReachBegun (n : ℕ) (vs : List Vertex) : Type 0 where
  pub places : Holds n (λ x. x.first.0) forest.place vs
  pub levels : Holds n (λ x. x.deepest.0) forest.level vs

abbrev pub FirstPlaced : ℕ → List Vertex → Type 0
FirstPlaced n vs = Holds n (λ x. x.first.0) forest.first_place vs

abbrev pub Sounded : ℕ → List Vertex → Type 0
Sounded n vs = Holds n (λ x. x.deepest.0) greatest_level_under vs

-- the vertices 1 to n by the trees of the parents `up`, and at each number k of 1 to n the vertex whose place is k
pub record Ordered (n : ℕ) (up : ℕ → ℕ) (vs : List Vertex) : Type 0 where
  pub levels : (v : ℕ) → 1 ≤ v → v ≤ n → (vertex vs v).level ≡ forest.level n up v
  pub places : (v : ℕ) → 1 ≤ v → v ≤ n → (vertex vs v).place ≡ forest.place n up v
  pub walk : (k : ℕ) → 1 ≤ k → k ≤ n → (vertex vs k).at ≡ walks.at_place n up k
  pub firsts : (v : ℕ) → 1 ≤ v → v ≤ n → (vertex vs v).first.0 ≡ forest.first_place n up v
  pub depths : (v : ℕ) → 1 ≤ v → v ≤ n → (vertex vs v).deepest.0 ≡ greatest (forest.level n up) (forest.subtree n up v)

-- the table has the parents of the pattern p, of order n
pub record ParentsOf (p : Pattern) (n : ℕ) (vs : List Vertex) : Type 0 where
  pub order : n ≡ p.order
  pub parents : (v : ℕ) → 1 ≤ v → v ≤ n → parent_of vs v ≡ parent p v

-- the vertices of the pattern p, by its elimination tree
pub record OrderedAs (p : Pattern) (vs : List Vertex) : Type 0 where
  pub levels : (v : ℕ) → 1 ≤ v → v ≤ p.order → (vertex vs v).level ≡ level_of p v
  pub places : (v : ℕ) → 1 ≤ v → v ≤ p.order → (vertex vs v).place ≡ place_of p v
  pub walk : (k : ℕ) → 1 ≤ k → k ≤ p.order → (vertex vs k).at ≡ walks.at_place p.order (parent p) k
  pub firsts : (v : ℕ) → 1 ≤ v → v ≤ p.order → (vertex vs v).first.0 ≡ first_place_of p v
  pub heights : (v : ℕ) → 1 ≤ v → v ≤ p.order → (vertex vs v).level + height_of p v ≡ (vertex vs v).deepest.0
