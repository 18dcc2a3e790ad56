-- Links from vertex to vertex, followed to their end. A top links to itself, so that following more links stays there.
use Rattle.std.specs.Prelude.{◌≡◌, ℕ, zero, suc, true, cond, List, length, ◌==◌}
use Rattle.sets.specs.Meaning.{Sets, among}
use Rattle.sets.specs.Tables.{number, sets_of, Stays}

-- where k links lead from v
unfoldable pub follow : (ℕ → ℕ) → ℕ → ℕ → ℕ
follow f zero v = v
follow f (suc k) v = follow f k (f v)

-- how many of 1 to m link elsewhere: no way that ends has more links
unfoldable pub elsewhere : (ℕ → ℕ) → ℕ → ℕ
elsewhere f zero = 0
elsewhere f (suc m) = let rest = elsewhere f m in cond (f (suc m) == suc m) rest (suc rest)

-- where the links of 1 to m lead from v in the end
unfoldable pub end_of : ℕ → (ℕ → ℕ) → ℕ → ℕ
end_of m f v = follow f (elsewhere f m) v

-- the sets whose tops are the ends of links
abbrev pub linked_sets : List ℕ → ℕ → Sets
linked_sets xs m = sets_of xs m (end_of m (number xs))

-- no links of 1 to m run in a circle: each way ends at one that links to itself
abbrev pub Ends : ℕ → (ℕ → ℕ) → Type 0
Ends m f = (v : ℕ) → among m v ≡ true → f (end_of m f v) ≡ end_of m f v

-- links of 1 to m that stay among them and do not run in a circle
pub record Linked (m : ℕ) (f : ℕ → ℕ) : Type 0 where
  pub stays : Stays m f
  pub ends : Ends m f

-- going from v to the end of its way answers r and turns the links xs of 1 to m into ys: all ways end as before
pub record Ended (xs : List ℕ) (m v r : ℕ) (ys : List ℕ) : Type 0 where
  pub answer : r ≡ end_of m (number xs) v
  pub long : length ys ≡ length xs
  pub linked : Linked m (number ys)
  pub same_ends : (x : ℕ) → among m x ≡ true → end_of m (number ys) x ≡ end_of m (number xs) x
