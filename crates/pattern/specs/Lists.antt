-- Lists of vertices: the numbers from 1 up, those that pass a test, the first that does, a number's position.
use Rattle.std.specs.Prelude.{ℕ, zero, suc, ◌+◌, min, max, Bool, cond, List, [], ◌∷◌, ◌++◌, ◌==◌, filter, flat_map}
use Rattle.std.specs.List.{list_any}

-- the numbers from 1 to n, ascending
unfoldable pub upto : ℕ → List ℕ
upto zero = []
upto (suc n) = upto n ++ suc n ∷ []

-- those of xs that pass the test, in their order
unfoldable pub keep : (ℕ → Bool) → List ℕ → List ℕ
keep test xs = filter test xs

-- the first of xs that passes the test, or 0
unfoldable pub first : (ℕ → Bool) → List ℕ → ℕ
first test [] = 0
first test (x ∷ xs) = let later = first test xs in cond (test x) x later

-- whether v is one of xs
unfoldable pub occurs : ℕ → List ℕ → Bool
occurs v xs = list_any (λ x. x == v) xs

-- where v stands in xs, counted from 1, or 0
unfoldable pub position : ℕ → List ℕ → ℕ
position v [] = 0
position v (x ∷ xs) = let later = position v xs in cond (x == v) 1 (cond (later == 0) 0 (suc later))

-- the lists that f makes of xs, one after the other
unfoldable pub each : (ℕ → List ℕ) → List ℕ → List ℕ
each f xs = flat_map f xs

-- the sum, the least and the greatest of f over xs; of none 0, the bound given, and 0
unfoldable pub sum : (ℕ → ℕ) → List ℕ → ℕ
sum f [] = 0
sum f (x ∷ xs) = f x + sum f xs

unfoldable pub least : ℕ → (ℕ → ℕ) → List ℕ → ℕ
least bound f [] = bound
least bound f (x ∷ xs) = min (f x) (least bound f xs)

unfoldable pub greatest : (ℕ → ℕ) → List ℕ → ℕ
greatest f [] = 0
greatest f (x ∷ xs) = max (f x) (greatest f xs)
