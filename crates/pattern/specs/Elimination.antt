-- Eliminating the vertices 1, 2, .., n in turn: what is joined after each, the fill, its rows and columns, and the
-- parents.
use Rattle.std.specs.Prelude.{ℕ, zero, suc, Bool, not, ◌&&◌, ◌||◌, List, length, ◌==◌, nat_lt}
use Rattle.pattern.specs.Lists.{upto, keep, first, sum}
use Rattle.pattern.specs.Patterns.{Pattern, shares}

-- a and b are joined once 1 to k are eliminated: eliminating v joins every two vertices above v that are then joined
-- to v
unfoldable pub joined : Pattern → ℕ → ℕ → ℕ → Bool
joined p zero a b = shares p a b
joined p (suc k) a b =
    let before = joined p k a b in
    let at_a = joined p k (suc k) a in
    let at_b = joined p k (suc k) b in
    before || ((nat_lt (suc k) a && nat_lt (suc k) b) && (not (a == b) && (at_a && at_b)))

-- a and b are joined at the end
unfoldable pub fill : Pattern → ℕ → ℕ → Bool
fill p a b = joined p p.order a b

-- row u: u and each v under u that the fill joins to u
unfoldable pub row : Pattern → ℕ → List ℕ
row p u = keep (λ v. (v == u) || (nat_lt v u && fill p v u)) (upto p.order)

-- column v: v and each u above v that the fill joins to v
unfoldable pub col : Pattern → ℕ → List ℕ
col p v = keep (λ u. (u == v) || (nat_lt v u && fill p v u)) (upto p.order)

unfoldable pub row_count : Pattern → ℕ → ℕ
row_count p u = length (row p u)

unfoldable pub col_count : Pattern → ℕ → ℕ
col_count p v = length (col p v)

-- the places that the whole factor takes
unfoldable pub total : Pattern → ℕ
total p = sum (col_count p) (upto p.order)

-- the smallest vertex above v that the fill joins to v, or 0: v is then a root
unfoldable pub parent : Pattern → ℕ → ℕ
parent p v = first (λ u. nat_lt v u && fill p v u) (upto p.order)
