-- What is to be said of the walk: it takes each vertex once, subtrees are intervals of places, siblings ascend.
use Rattle.std.specs.Prelude.{◌≡◌, ℕ, ◌+◌, ◌-◌, ◌<◌, ◌≤◌, true, ◌↔◌, List, length, nat_eq, slice_index}
use Rattle.pattern.specs.Lists.{keep}
use Rattle.pattern.specs.Forest.{Grows, under, subtree, walk, place, first_place}

-- how often v is one of xs
unfoldable pub times : ℕ → List ℕ → ℕ
times v xs = length (keep (λ x. nat_eq x v) xs)

-- how many vertices the subtree of v has
unfoldable pub size : ℕ → (ℕ → ℕ) → ℕ → ℕ
size n up v = length (subtree n up v)

-- the vertex at position k of the walk, counted from 1
unfoldable pub at_place : ℕ → (ℕ → ℕ) → ℕ → ℕ
at_place n up k = slice_index (walk n up) (k - 1)

-- the walk has each vertex once, so the places are the numbers 1 to n, each the place of one vertex
pub record EachOnce (n : ℕ) (up : ℕ → ℕ) : Type 0 where
  pub long : length (walk n up) ≡ n
  pub once : (v : ℕ) → 1 ≤ v → v ≤ n → times v (walk n up) ≡ 1
  pub placed : (v : ℕ) → 1 ≤ v → v ≤ n → (1 ≤ place n up v) × (place n up v ≤ n)
  pub apart : (v w : ℕ) → 1 ≤ v → v ≤ n → 1 ≤ w → w ≤ n → place n up v ≡ place n up w → v ≡ w
  pub stands : (k : ℕ) → 1 ≤ k → k ≤ n → (1 ≤ at_place n up k) × (at_place n up k ≤ n)
  pub reached : (k : ℕ) → 1 ≤ k → k ≤ n → place n up (at_place n up k) ≡ k

-- the places of the subtree of v are those from the first place of v to the place of v, as many as it has vertices
pub record Interval (n : ℕ) (up : ℕ → ℕ) (v : ℕ) : Type 0 where
  pub exactly : (x : ℕ) → 1 ≤ x → x ≤ n →
      under n up x v ≡ true ↔ ((first_place n up v ≤ place n up x) × (place n up x ≤ place n up v))
  pub begins : 1 ≤ first_place n up v
  pub as_long : place n up v - first_place n up v + 1 ≡ size n up v

abbrev pub WalkTakesEachOnce : Type 0
WalkTakesEachOnce = (n : ℕ) (up : ℕ → ℕ) → Grows n up → EachOnce n up

abbrev pub SubtreesAreIntervals : Type 0
SubtreesAreIntervals = (n : ℕ) (up : ℕ → ℕ) → Grows n up → (v : ℕ) → 1 ≤ v → v ≤ n → Interval n up v

-- of two children of one parent (of two roots, parent 0) the smaller has its whole subtree placed first
abbrev pub SiblingsAscend : Type 0
SiblingsAscend = (n : ℕ) (up : ℕ → ℕ) → Grows n up → (c d : ℕ) → 1 ≤ c → c < d → d ≤ n → up c ≡ up d →
    (place n up c < place n up d) × (place n up c < first_place n up d)
