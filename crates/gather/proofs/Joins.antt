-- Joining over lists of vertices, where order and grouping do not count.
-- The neutral value need only be neutral to itself.
use Rattle.std.proofs.Common.{◌≡◌, ℕ, Bool, true, false, cond, ◌||◌, List, [], ◌∷◌, sym, refl, ap, ◌∙◌}
use Rattle.pattern.specs.Lists.{keep}
use Rattle.gather.specs.Joinings.{joined_over}

module _ {J : Type 0} (neutral : J) (join : J → J → J) (commutes : (x y : J) → join x y ≡ join y x)
    (regroups : (x y z : J) → join (join x y) z ≡ join x (join y z)) where
  first_second : (x y z : J) → join x (join y z) ≡ join y (join x z)
  first_second x y z = sym (regroups x y z) ∙ ap (λ w. join w z) (commutes x y) ∙ regroups y x z

  -- two values, each joined with the neutral one
  pub both_neutral : join neutral neutral ≡ neutral → (x y : J) →
      join (join x y) neutral ≡ join (join y neutral) (join x neutral)
  both_neutral idle x y =
      regroups x y neutral
      ∙ first_second x y neutral
      ∙ ap (λ w. join y (join x w)) (sym idle)
      ∙ ap (join y) (first_second x neutral neutral)
      ∙ sym (regroups y neutral (join x neutral))

  module _ (value : ℕ → J) where
    abbrev over : List ℕ → J
    over = joined_over neutral join value

    -- those that pass one of two tests, where none passes both
    pub over_either : join neutral neutral ≡ neutral → (p q : ℕ → Bool) → ((x : ℕ) → p x ≡ true → q x ≡ true → ⊥) →
        (xs : List ℕ) → over (keep (λ x. p x || q x) xs) ≡ join (over (keep p xs)) (over (keep q xs))
    unfolding joined_over keep
    over_either idle p q apart [] = sym idle
    over_either idle p q apart (x ∷ xs) = go (p x) (q x) _ _ _ (apart x) (over_either idle p q apart xs)
      where
        go : (a b : Bool) (either ps qs : List ℕ) → (a ≡ true → b ≡ true → ⊥) →
            over either ≡ join (over ps) (over qs) →
            over (cond (a || b) (x ∷ either) either) ≡ join (over (cond a (x ∷ ps) ps)) (over (cond b (x ∷ qs) qs))
        go true true either ps qs alone same = absurd (alone refl refl)
        go true false either ps qs alone same = ap (join (value x)) same ∙ sym (regroups _ _ _)
        go false true either ps qs alone same = ap (join (value x)) same ∙ first_second _ _ _
        go false false either ps qs alone same = same
