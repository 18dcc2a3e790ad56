-- A pattern: its order n and its entries, pairs of the vertices 1 to n. A pair may stand twice and either way round;
-- one that names no two different vertices of the pattern says nothing.
use Rattle.std.specs.Prelude.{ℕ, Bool, not, ◌&&◌, ◌||◌, List, ◌==◌, nat_le}
use Rattle.std.specs.List.{list_any}

pub record Pattern : Type 0 where
  pub order : ℕ
  pub entries : List (ℕ × ℕ)

-- v is one of the vertices 1 to n
unfoldable pub within : ℕ → ℕ → Bool
within n v = nat_le 1 v && nat_le v n

-- the pair e is (a, b) or (b, a)
unfoldable pub same_entry : ℕ → ℕ → (ℕ × ℕ) → Bool
same_entry a b e = (e.0 == a && e.1 == b) || (e.0 == b && e.1 == a)

-- one of the pairs is (a, b) or (b, a)
unfoldable pub listed : List (ℕ × ℕ) → ℕ → ℕ → Bool
listed es a b = list_any (same_entry a b) es

-- a and b are different vertices of the pattern, and one of its entries joins them
unfoldable pub shares : Pattern → ℕ → ℕ → Bool
shares p a b = (within p.order a && within p.order b) && (not (a == b) && listed p.entries a b)
