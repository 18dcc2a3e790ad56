-- Small frames with what is known of them, worked out by hand.
use Rattle.std.specs.Prelude.{◌≡◌, ℕ, List, [], ◌∷◌, map, ℤ, negsuc}
use Rattle.pattern.specs.Lists.{upto}
use Rattle.pattern.specs.Patterns.{Pattern}
use Rattle.pattern.specs.Elimination.{parent, row_count, col_count, total}
use Rattle.pattern.specs.Analysis.{place_of}
use Rattle.pattern.specs.Fill.{weight}
use Rattle.pattern.specs.Structure as structure

-- something known of a frame: lists go through the vertices 1 to n, but the starts and rows are the structure's
pub data Fact : Type 0 where
  parents : List ℕ → Fact
  places : List ℕ → Fact
  row_counts : List ℕ → Fact
  col_counts : List ℕ → Fact
  total_is : ℕ → Fact
  row_at : ℕ → ℕ → Fact
  weight_at : ℕ → ℤ → Fact
  starts : List ℕ → Fact
  rows : List ℕ → Fact

-- the fact of the same kind that the definitions give of p
abbrev pub computed : Pattern → Fact → Fact
computed p (parents _) = parents (map (parent p) (upto p.order))
computed p (places _) = places (map (place_of p) (upto p.order))
computed p (row_counts _) = row_counts (map (row_count p) (upto p.order))
computed p (col_counts _) = col_counts (map (col_count p) (upto p.order))
computed p (total_is _) = total_is (total p)
computed p (row_at u _) = row_at u (row_count p u)
computed p (weight_at v _) = weight_at v (weight p v)
computed p (starts _) = starts (structure.starts p)
computed p (rows _) = rows (structure.rows p)

abbrev frame : ℕ → List (ℕ × ℕ) → Pattern
frame n es = record { order = n; entries = es }

abbrev pub frames : List (Pattern × List Fact)
frames =
    (frame 1 [], parents (0 ∷ []) ∷ total_is 1 ∷ places (1 ∷ []) ∷ [])
    ∷ (frame 3 [], parents (0 ∷ 0 ∷ 0 ∷ []) ∷ total_is 3 ∷ [])
    ∷ (frame 3 ((1, 2) ∷ (2, 3) ∷ []), parents (2 ∷ 3 ∷ 0 ∷ []) ∷ total_is 5 ∷ [])
    ∷ (
      frame 4 ((1, 2) ∷ (1, 3) ∷ (1, 4) ∷ []),
      parents (2 ∷ 3 ∷ 4 ∷ 0 ∷ []) ∷ total_is 10 ∷ col_counts (4 ∷ 3 ∷ 2 ∷ 1 ∷ []) ∷ [],
    )
    ∷ (frame 4 ((1, 4) ∷ (2, 4) ∷ (3, 4) ∷ []), parents (4 ∷ 4 ∷ 4 ∷ 0 ∷ []) ∷ total_is 7 ∷ row_at 4 4 ∷ [])
    ∷ (
      frame 4 ((1, 3) ∷ (2, 3) ∷ (2, 4) ∷ (1, 4) ∷ []),
      parents (3 ∷ 3 ∷ 4 ∷ 0 ∷ []) ∷ total_is 9 ∷ col_counts (3 ∷ 3 ∷ 2 ∷ 1 ∷ []) ∷ [],
    )
    ∷ (
      frame 5 ((1, 5) ∷ (2, 4) ∷ []),
      parents (5 ∷ 4 ∷ 0 ∷ 0 ∷ 0 ∷ []) ∷ total_is 7 ∷ places (4 ∷ 2 ∷ 1 ∷ 3 ∷ 5 ∷ []) ∷ [],
    )
    -- the bay
    ∷ (
      frame 6 ((1, 4) ∷ (3, 2) ∷ (2, 5) ∷ (6, 3) ∷ (4, 6) ∷ []),
      parents (4 ∷ 3 ∷ 5 ∷ 6 ∷ 6 ∷ 0 ∷ []) ∷ total_is 13
          ∷ row_counts (1 ∷ 1 ∷ 2 ∷ 2 ∷ 3 ∷ 4 ∷ []) ∷ col_counts (2 ∷ 3 ∷ 3 ∷ 2 ∷ 2 ∷ 1 ∷ [])
          ∷ weight_at 6 (negsuc 2)  -- minus 3
          ∷ starts (0 ∷ 1 ∷ 3 ∷ 5 ∷ 6 ∷ 7 ∷ 7 ∷ []) ∷ rows (4 ∷ 3 ∷ 5 ∷ 5 ∷ 6 ∷ 6 ∷ 6 ∷ []) ∷ [],
    )
    -- the bay with (5, 6): all counts stay
    ∷ (
      frame 6 ((1, 4) ∷ (3, 2) ∷ (2, 5) ∷ (6, 3) ∷ (4, 6) ∷ (5, 6) ∷ []),
      total_is 13 ∷ row_counts (1 ∷ 1 ∷ 2 ∷ 2 ∷ 3 ∷ 4 ∷ []) ∷ col_counts (2 ∷ 3 ∷ 3 ∷ 2 ∷ 2 ∷ 1 ∷ []) ∷ [],
    )
    -- the bay without (4, 6)
    ∷ (frame 6 ((1, 4) ∷ (3, 2) ∷ (2, 5) ∷ (6, 3) ∷ []), parents (4 ∷ 3 ∷ 5 ∷ 0 ∷ 6 ∷ 0 ∷ []) ∷ total_is 12 ∷ [])
    ∷ []

-- to compute every fact of the table anew changes none
abbrev pub FramesWorked : Type 0
FramesWorked = map (λ f. (f.0, map (computed f.0) f.1)) frames ≡ frames
