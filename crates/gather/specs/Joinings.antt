-- Joining the values of several vertices into one.
use Rattle.std.specs.Prelude.{◌≡◌, ℕ, List, [], ◌∷◌}

-- what the vertices of xs come to, joined: of none the neutral value
unfoldable pub joined_over : {J : Type 0} → J → (J → J → J) → (ℕ → J) → List ℕ → J
joined_over neutral join value [] = neutral
joined_over neutral join value (x ∷ xs) = join (value x) (joined_over neutral join value xs)

-- two values joined with two others, each in its own way
abbrev pub joined_both : {A B : Type 0} → (A → A → A) → (B → B → B) → A × B → A × B → A × B
joined_both first second x y = (first x.0 y.0, second x.1 y.1)

-- Joining comes out equal in any order and any grouping, and with the neutral value a value that fits its type stays.
pub record JoiningLaws {J : Type 0} (neutral : J) (join : J → J → J) (fits : J → Type 0) : Type 0 where
  pub commutes : (x y : J) → join x y ≡ join y x
  pub regroups : (x y z : J) → join (join x y) z ≡ join x (join y z)
  pub keeps : (x : J) → fits x → join x neutral ≡ x
  pub begins : fits neutral
