-- What becomes of ancestor sets when each vertex of a table is put below its parent.
use Rattle.std.specs.Prelude.{◌≡◌, ℕ, ◌<◌, ◌≤◌, List, length}
use Rattle.pattern.specs.Tops.{root}
use Rattle.sets.specs.Meaning.{Sets}
use Rattle.analysis.specs.declared.records.Vertex.{Vertex}
use Rattle.analysis.specs.Tables.{parent_of}

-- the vertices are in use, and the top of each is the root of its tree
pub record Settled (vs : List Vertex) (s t : Sets) : Type 0 where
  pub room : length vs ≤ s.size
  pub size : t.size ≡ s.size
  pub used : t.used ≡ length vs
  pub tops : (x : ℕ) → 1 ≤ x → x ≤ length vs → t.top x ≡ root (length vs) (parent_of vs) x

-- the sets have no room for the vertices, and nothing has changed
pub record Unsettled (vs : List Vertex) (s t : Sets) : Type 0 where
  pub narrow : s.size < length vs
  pub size : t.size ≡ s.size
  pub used : t.used ≡ s.used
  pub tops : (x : ℕ) → t.top x ≡ s.top x
