-- Trees over the vertices 1 to n by a parent function, 0 at a root: the line to the root, subtrees, levels, the walk
-- and places.
use Rattle.std.specs.Prelude.{ℕ, zero, suc, ◌-◌, ◌<◌, ◌≤◌, Bool, cond, List, [], ◌∷◌, ◌++◌, length, nat_eq}
use Rattle.pattern.specs.Lists.{upto, keep, occurs, position, each, least, greatest}
use Rattle.pattern.specs.Patterns.{within}

-- what makes up a parent function: each vertex's parent is a greater vertex, or 0
pub record Grows (n : ℕ) (up : ℕ → ℕ) : Type 0 where
  pub rises : (v : ℕ) → 1 ≤ v → v ≤ n → 1 ≤ up v → v < up v
  pub stays : (v : ℕ) → 1 ≤ v → v ≤ n → up v ≤ n

-- x, its parent, that one's parent and so on, at most k of them
unfoldable pub line_from : ℕ → (ℕ → ℕ) → ℕ → ℕ → List ℕ
line_from n up zero x = []
line_from n up (suc k) x = let rest = line_from n up k (up x) in cond (within n x) (x ∷ rest) []

-- x and all above it, up to its root
unfoldable pub line : ℕ → (ℕ → ℕ) → ℕ → List ℕ
line n up x = line_from n up n x

-- x lies in the subtree of v: x is v or lies below v
unfoldable pub under : ℕ → (ℕ → ℕ) → ℕ → ℕ → Bool
under n up x v = occurs v (line n up x)

-- v with all vertices below it, ascending
unfoldable pub subtree : ℕ → (ℕ → ℕ) → ℕ → List ℕ
subtree n up v = keep (λ x. under n up x v) (upto n)

-- the number of parent steps to the root
unfoldable pub level : ℕ → (ℕ → ℕ) → ℕ → ℕ
level n up v = length (line n up v) - 1

-- the vertices whose parent is v, ascending; those of 0 are the roots
unfoldable pub children : ℕ → (ℕ → ℕ) → ℕ → List ℕ
children n up v = keep (λ c. nat_eq (up c) v) (upto n)

-- the walk of the subtree of v: the walks of its children, ascending, then v; k bounds the depth
unfoldable pub visit : ℕ → (ℕ → ℕ) → ℕ → ℕ → List ℕ
visit n up zero v = []
visit n up (suc k) v = each (visit n up k) (children n up v) ++ v ∷ []

-- the postorder: the walks of the roots, ascending
unfoldable pub walk : ℕ → (ℕ → ℕ) → List ℕ
walk n up = each (visit n up n) (children n up 0)

-- the position of v in the walk, from 1 to n
unfoldable pub place : ℕ → (ℕ → ℕ) → ℕ → ℕ
place n up v = position v (walk n up)

-- the least place in the subtree of v
unfoldable pub first_place : ℕ → (ℕ → ℕ) → ℕ → ℕ
first_place n up v = least n (place n up) (subtree n up v)

-- the greatest level in the subtree of v less the level of v
unfoldable pub height : ℕ → (ℕ → ℕ) → ℕ → ℕ
height n up v = greatest (level n up) (subtree n up v) - level n up v
