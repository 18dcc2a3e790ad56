-- A table with a number for each vertex in use: what all kinds of sets are kept in, and what its own calls do.
use Rattle.std.specs.Prelude.{◌≡◌, ℕ, ◌-◌, min, Bool, true, false, cond, not, ◌&&◌, List, length, ◌==◌, nat_le, slice_index, slice_set}
use Rattle.sets.specs.Meaning.{Sets, limit, among}

-- the number of vertex v
abbrev pub number : List ℕ → ℕ → ℕ
number xs v = slice_index xs (v - 1)

-- the vertices that so many numbers have room for
abbrev pub room : List ℕ → ℕ
room xs = min (length xs) limit

-- the sets over the numbers xs in which 1 to m are in use, with the tops t
abbrev pub sets_of : List ℕ → ℕ → (ℕ → ℕ) → Sets
sets_of xs m t = record { size = room xs; used = m; top = λ v. cond (among m v) (t v) 0 }

-- the sets whose tops are the numbers themselves
abbrev pub written_sets : List ℕ → ℕ → Sets
written_sets xs m = sets_of xs m (number xs)

-- every one of 1 to m has its number among them
abbrev pub Stays : ℕ → (ℕ → ℕ) → Type 0
Stays m f = (v : ℕ) → among m v ≡ true → among m (f v) ≡ true

-- the number of each number of 1 to m is itself
abbrev pub Rests : ℕ → (ℕ → ℕ) → Type 0
Rests m f = (v : ℕ) → among m v ≡ true → f (f v) ≡ f v

-- v is one of 1 to m, and its number is v itself: an own top, in every kind of sets
abbrev pub own : ℕ → (ℕ → ℕ) → ℕ → Bool
own m f v = among m v && f v == v

-- two different own tops
abbrev pub two_tops : ℕ → (ℕ → ℕ) → ℕ → ℕ → Bool
two_tops m f v p = (own m f v && own m f p) && not (v == p)

-- start n answers r and turns the numbers xs of 1 to m into the numbers ys of 1 to k
pub record Begun (xs : List ℕ) (m n : ℕ) (r : Bool) (ys : List ℕ) (k : ℕ) : Type 0 where
  pub accepted : r ≡ nat_le n (room xs)
  pub long : length ys ≡ length xs
  pub used : k ≡ cond r n m
  pub same : r ≡ false → ys ≡ xs
  pub own : r ≡ true → (x : ℕ) → among n x ≡ true → number ys x ≡ x

-- every number v of 1 to m is now p
pub record Rewritten (xs : List ℕ) (m v p : ℕ) (ys : List ℕ) : Type 0 where
  pub long : length ys ≡ length xs
  pub numbers : (x : ℕ) → among m x ≡ true → number ys x ≡ cond (number xs x == v) p (number xs x)

-- hang v p answers r and turns the numbers xs of 1 to m into ys: p is the number of v, if both are own tops
pub record Hung (xs : List ℕ) (m v p : ℕ) (r : Bool) (ys : List ℕ) : Type 0 where
  pub accepted : r ≡ two_tops m (number xs) v p
  pub numbers : ys ≡ cond r (slice_set xs (v - 1) p) xs
