-- The tree grown with ancestor sets: how the sets begin, what one adoption does, and what the tables hold at the end.
use Rattle.std.specs.Prelude.{◌≡◌, ℕ, ◌-◌, ◌≤◌, true, cond, List, length, pos, ◌==◌, slice_set}
use Rattle.pattern.specs.Patterns.{Pattern}
use Rattle.pattern.specs.Elimination.{parent}
use Rattle.pattern.specs.Crowns.{AfterRows}
use Rattle.pattern.specs.Fill.{in_subtree}
use Rattle.sets.specs.Meaning.{Sets}
use Rattle.gather.specs.Kinds.{weight}
use Rattle.analysis.specs.declared.records.Entry.{Entry}
use Rattle.analysis.specs.declared.records.Vertex.{Vertex}
use Rattle.analysis.specs.Tables.{vertex, parent_of, with_parent, with_weight, pairs_of}

-- the pattern of the vertices 1 to n that the entries make up
abbrev pub pattern_of : ℕ → List Entry → Pattern
pattern_of n es = record { order = n; entries = pairs_of es }

-- the pattern that the entries make up of the table's vertices
abbrev pub pattern_in : List Vertex → List Entry → Pattern
pattern_in vs es = pattern_of (length vs) es

-- each of the vertices 1 to n is its own top, and no others are in use
pub record Fresh (n : ℕ) (s : Sets) : Type 0 where
  pub used : s.used ≡ n
  pub own : (v : ℕ) → 1 ≤ v → v ≤ n → s.top v ≡ v

-- a root with a weight of 1
abbrev pub alone : Vertex → Vertex
alone x = with_weight (with_parent x 0) (weight (pos 1))

-- the tree of the pattern as it is once the rows 1 to u are done, in the parents and the tops
abbrev pub Grown : Pattern → ℕ → List Vertex → Sets → Type 0
Grown p u vs s = AfterRows p u (parent_of vs) s.top

-- the set of x has gone below u, if it was not there already
pub record Adopted (s : Sets) (x u : ℕ) (t : Sets) : Type 0 where
  pub size : t.size ≡ s.size
  pub used : t.used ≡ s.used
  pub tops : (v : ℕ) → t.top v ≡ cond (s.top v == s.top x) u (s.top v)

-- the vertices once r has the parent u, unless r is u itself
abbrev pub adopted : List Vertex → ℕ → ℕ → List Vertex
adopted vs r u = cond (r == u) vs (slice_set vs (r - 1) (with_parent (vertex vs r) u))

-- each vertex has its parent in the elimination tree
pub record Tree (p : Pattern) (vs : List Vertex) : Type 0 where
  pub parents : (v : ℕ) → 1 ≤ v → v ≤ p.order → parent_of vs v ≡ parent p v

-- the top of each vertex is the root of the tree it is in
pub record Rooted (p : Pattern) (s : Sets) : Type 0 where
  pub above : (x : ℕ) → 1 ≤ x → x ≤ p.order → in_subtree p x (s.top x) ≡ true
  pub root : (x : ℕ) → 1 ≤ x → x ≤ p.order → parent p (s.top x) ≡ 0
