-- The tree of the parents, told by paths; rows as subtrees, columns by children, and what more entries change.
use Rattle.std.specs.Prelude.{◌≡◌, ℕ, ◌<◌, ◌≤◌, Bool, true, not, ◌&&◌, ◌⊎◌, ◌↔◌, List, ℤ, pos, ◌-ℤ◌, ◌==◌}
use Rattle.pattern.specs.Lists.{upto, occurs, sum}
use Rattle.pattern.specs.Patterns.{Pattern, within, listed, shares}
use Rattle.pattern.specs.Elimination.{fill, row, col, row_count, col_count, total, parent}
use Rattle.pattern.specs.Forest.{under, children}
use Rattle.pattern.specs.Paths.{Leads, front, all_under}

-- x lies in the subtree of v: it is v or below v
abbrev pub in_subtree : Pattern → ℕ → ℕ → Bool
in_subtree p x v = under p.order (parent p) x v

-- v lies below u: one or more parent steps lead from v to u
unfoldable pub below : Pattern → ℕ → ℕ → Bool
below p v u = not (v == u) && in_subtree p v u

-- the column count of v less the column counts of its children
unfoldable pub weight : Pattern → ℕ → ℤ
weight p v = pos (col_count p v) -ℤ pos (sum (col_count p) (children p.order (parent p) v))

-- v lies below u exactly when a path leads from v to u whose vertices but u are all under u
abbrev pub BelowIsPaths : Type 0
BelowIsPaths = (p : Pattern) (v u : ℕ) →
    below p v u ≡ true ↔ ((l : List ℕ) × Leads p v u l × (all_under u (front l) ≡ true))

-- v under u is in row u exactly when a vertex of v's subtree shares an entry with u
abbrev pub RowsAreSubtrees : Type 0
RowsAreSubtrees = (p : Pattern) (v u : ℕ) → v < u →
    occurs v (row p u) ≡ true ↔ ((x : ℕ) × (in_subtree p x v ≡ true) × (shares p x u ≡ true))

-- u above v is in the column of v exactly when v and u share an entry or u is in the column of a child of v
abbrev pub ColumnsByChildren : Type 0
ColumnsByChildren = (p : Pattern) (v u : ℕ) → within p.order v ≡ true → v < u →
    occurs u (col p v) ≡ true
    ↔ ((shares p v u ≡ true) ⊎ ((c : ℕ) × (parent p c ≡ v) × (occurs u (col p c) ≡ true)))

-- the places of the factor, counted row by row
abbrev pub TotalByRows : Type 0
TotalByRows = (p : Pattern) → total p ≡ sum (row_count p) (upto p.order)

-- what p has, q has too: the fill, all counts and the total only grow, and what lies above stays above
pub record Keeps (p q : Pattern) : Type 0 where
  pub the_fill : (a b : ℕ) → fill p a b ≡ true → fill q a b ≡ true
  pub rows : (u : ℕ) → row_count p u ≤ row_count q u
  pub columns : (v : ℕ) → col_count p v ≤ col_count q v
  pub places : total p ≤ total q
  pub above : (x v : ℕ) → in_subtree p x v ≡ true → in_subtree q x v ≡ true

-- of two patterns of one order, where every two vertices that share an entry in one do so in the other;
-- so it is where every pair listed in one is listed in the other
abbrev pub MoreEntriesKeep : Type 0
MoreEntriesKeep = (p q : Pattern) → p.order ≡ q.order →
    (((a b : ℕ) → shares p a b ≡ true → shares q a b ≡ true) → Keeps p q)
    × (((a b : ℕ) → listed p.entries a b ≡ true → listed q.entries a b ≡ true) → Keeps p q)
