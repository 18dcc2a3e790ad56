-- Where two vertices meet: the first of the line of one that has the other under it.
use Rattle.std.specs.Prelude.{◌≡◌, ℕ, ◌<◌, ◌≤◌, true, false, ◌⊎◌}
use Rattle.pattern.specs.Lists.{first}
use Rattle.pattern.specs.Forest.{Grows, line, under, level}

-- the meeting vertex of x and y, or 0 if no vertex has both in its subtree
unfoldable pub meet : ℕ → (ℕ → ℕ) → ℕ → ℕ → ℕ
meet n up x y = first (λ v. under n up y v) (line n up x)

-- m is the one of greatest level among the vertices that have x and y in their subtrees, and 0 if there is none
pub record Lowest (n : ℕ) (up : ℕ → ℕ) (x y m : ℕ) : Type 0 where
  pub both : 1 ≤ m → (m ≤ n) × (under n up x m ≡ true) × (under n up y m ≡ true)
  pub lowest : (v : ℕ) → under n up x v ≡ true → under n up y v ≡ true →
      (1 ≤ m) × ((v ≡ m) ⊎ (level n up v < level n up m))
  pub none : m ≡ 0 → (v : ℕ) → under n up x v ≡ true → under n up y v ≡ false
  pub only : ((v : ℕ) → under n up x v ≡ true → under n up y v ≡ false) → m ≡ 0

abbrev pub MeetingVertexIsLowest : Type 0
MeetingVertexIsLowest = (n : ℕ) (up : ℕ → ℕ) → Grows n up → (x y : ℕ) → 1 ≤ x → x ≤ n → 1 ≤ y → y ≤ n →
    Lowest n up x y (meet n up x y)
