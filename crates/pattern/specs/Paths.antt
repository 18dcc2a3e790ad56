-- Paths as lists of vertices, and the fill told by them.
use Rattle.std.specs.Prelude.{◌≡◌, ℕ, ◌<◌, ◌≤◌, Bool, true, ◌&&◌, ◌↔◌, List, [], ◌∷◌, length, nat_lt}
use Rattle.std.specs.List.{list_all}
use Rattle.pattern.specs.Patterns.{Pattern, shares}
use Rattle.pattern.specs.Elimination.{fill}

-- the first and the last of the vertices, 0 of none
unfoldable pub start : List ℕ → ℕ
start [] = 0
start (x ∷ l) = x

unfoldable pub end : List ℕ → ℕ
end [] = 0
end (x ∷ []) = x
end (x ∷ y ∷ l) = end (y ∷ l)

-- all but the last
unfoldable pub front : List ℕ → List ℕ
front [] = []
front (x ∷ []) = []
front (x ∷ y ∷ l) = x ∷ front (y ∷ l)

-- all but the two ends
unfoldable pub inner : List ℕ → List ℕ
inner [] = []
inner (x ∷ l) = front l

-- all of them are numbered under m
unfoldable pub all_under : ℕ → List ℕ → Bool
all_under m l = list_all (λ x. nat_lt x m) l

-- each two in succession share an entry
unfoldable pub linked : Pattern → List ℕ → Bool
linked p [] = true
linked p (x ∷ []) = true
linked p (x ∷ y ∷ l) = shares p x y && linked p (y ∷ l)

-- l is a path from a to b: two or more vertices, each two in succession sharing an entry
pub record Leads (p : Pattern) (a b : ℕ) (l : List ℕ) : Type 0 where
  pub several : 2 ≤ length l
  pub from : start l ≡ a
  pub to : end l ≡ b
  pub sharing : linked p l ≡ true

-- the fill joins v to the higher vertex u exactly when a path leads from v to u whose inner vertices are all under v
abbrev pub FillIsPaths : Type 0
FillIsPaths = (p : Pattern) (v u : ℕ) → v < u →
    fill p v u ≡ true ↔ ((l : List ℕ) × Leads p v u l × (all_under v (inner l) ≡ true))
