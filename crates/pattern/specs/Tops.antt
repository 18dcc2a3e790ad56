-- The tops of one pass over the vertices by place, in which each vertex is joined to its parent once it is passed.
use Rattle.std.specs.Prelude.{ℕ, ◌||◌, ◌==◌, nat_eq, nat_lt}
use Rattle.pattern.specs.Lists.{first}
use Rattle.pattern.specs.Forest.{line, place}

-- the root of the tree in which x lies
unfoldable pub root : ℕ → (ℕ → ℕ) → ℕ → ℕ
root n up x = first (λ y. nat_eq (up y) 0) (line n up x)

-- the top of x when the places up to t are passed: the first of its line that is placed later, or its root
unfoldable pub top_after : ℕ → (ℕ → ℕ) → ℕ → ℕ → ℕ
top_after n up t x = first (λ y. nat_lt t (place n up y) || up y == 0) (line n up x)
