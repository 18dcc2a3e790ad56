-- What an analysis leaves in the storage lent to it.
use Rattle.std.specs.Prelude.{◌≡◌, ℕ, ◌≤◌, List, map, length, take, drop}
use Rattle.pattern.specs.Patterns.{Pattern}
use Rattle.analysis.specs.Analysed.{Answered}
use Rattle.analysis.specs.Pools.{Listed}
use Rattle.analysis.specs.Tables.{pairs_of}
use Rattle.analysis.specs.declared.records.End.TheVariants.{High}
use Rattle.analysis.specs.declared.records.Entry.{Entry}
use Rattle.analysis.specs.declared.records.Vertex.{Vertex}
use Rattle.downskillet_c.specs.Pairs.{pattern_given, turned}

-- the records are those of the pattern's vertices, and hold what an analysis answers
pub record TableOf (p : Pattern) (vs : List Vertex) : Type 0 where
  pub order : p.order ≡ length vs
  pub few : p.order ≤ 16384
  pub answered : Answered p vs

-- The first n vertices hold the answers, the first entries the pairs, and nothing but these and the first n links has
-- changed.
pub record Analysed (n : ℕ) (ps : List (ℕ × ℕ)) (vs ws : List Vertex) (es fs : List Entry) (ks ls : List ℕ)
    : Type 0 where
  pub table : TableOf (pattern_given n ps) (take n ws)
  pub pairs : pairs_of (take (length ps) fs) ≡ map turned ps
  pub other_vertices : drop n ws ≡ drop n vs
  pub other_entries : drop (length ps) fs ≡ drop (length ps) es
  pub other_links : drop n ls ≡ drop n ks

-- what a structure is written from: tables of as many entries as there are pairs, and each vertex with the list of its
-- lower neighbours
pub record Ready (n : ℕ) (ps : List (ℕ × ℕ)) (ws : List Vertex) (fs : List Entry) : Type 0 where
  pub table : TableOf (pattern_given n ps) (take n ws)
  pub pairs : pairs_of fs ≡ map turned ps
  pub lists : Listed High (take n ws) fs

pub record Unchanged (vs ws : List Vertex) (es fs : List Entry) (ks ls : List ℕ) : Type 0 where
  pub vertices : ws ≡ vs
  pub entries : fs ≡ es
  pub links : ls ≡ ks
