-- The tree grown row by row with ancestor sets: how high a vertex reaches once some rows are done, and what the tables
-- of parents P and of tops T hold between the rows and within one.
use Rattle.std.specs.Prelude.{◌≡◌, ℕ, zero, suc, ◌+◌, ◌≤◌, cond, not, ◌&&◌, ◌==◌, nat_le}
use Rattle.pattern.specs.Patterns.{Pattern}
use Rattle.pattern.specs.Elimination.{parent}

-- the crown of x at u: the highest of x and its ancestors that is numbered at most u; x itself if x is above u
unfoldable pub crown : (ℕ → ℕ) → ℕ → ℕ → ℕ
crown up zero x = x
crown up (suc u) x = let c = crown up u x in cond (up c == suc u) (suc u) c

-- the crowns in the tree of a pattern
abbrev pub crown_of : Pattern → ℕ → ℕ → ℕ
crown_of p u x = crown (parent p) u x

-- the parent v as it is known once the rows 1 to u are done: v if it is at most u, and none, 0, otherwise
unfoldable pub cut : ℕ → ℕ → ℕ
cut u v = cond (nat_le v u) v 0

-- the rows 1 to u are done: parents up to u are known, and the top of each vertex is its crown
pub record AfterRows (p : Pattern) (u : ℕ) (P T : ℕ → ℕ) : Type 0 where
  pub parents : (v : ℕ) → 1 ≤ v → v ≤ p.order → P v ≡ cut u (parent p v)
  pub tops : (x : ℕ) → 1 ≤ x → x ≤ p.order → T x ≡ crown_of p u x

-- the rows 1 to u are done, and row w = u + 1 is begun: some vertices have their parent w by now, each vertex whose
-- crown is one of them has the top w, and all else is as before the row
pub record InRow (p : Pattern) (u w : ℕ) (P T : ℕ → ℕ) : Type 0 where
  pub next : w ≡ u + 1
  pub parents : (v : ℕ) → 1 ≤ v → v ≤ p.order → P v ≡ cond (P v == w) (parent p v) (cut u (parent p v))
  pub tops : (x : ℕ) → 1 ≤ x → x ≤ p.order → T x ≡ cond (P (crown_of p u x) == w) w (crown_of p u x)

-- of n vertices, the top of x was put below w, unless it was w already: P and T became P' and T'
pub record Adopts (n x w : ℕ) (P T P' T' : ℕ → ℕ) : Type 0 where
  pub parents : (v : ℕ) → 1 ≤ v → v ≤ n → P' v ≡ cond (v == T x && not (v == w)) w (P v)
  pub tops : (y : ℕ) → 1 ≤ y → y ≤ n → T' y ≡ cond (T y == T x) w (T y)
