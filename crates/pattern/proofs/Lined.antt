-- Ways as lists of vertices, the form in which paths are stated, and back.
use Rattle.std.proofs.Common.{◌≡◌, ℕ, ◌<◌, ◌≤◌, true, List, [], ◌∷◌, length, sym, refl, subst, arith}
use Rattle.std.proofs.lemmas.Bool.{and_parts, and_from, ltb-true, lt-ltb}
use Rattle.pattern.specs.Patterns.{Pattern, shares}
use Rattle.pattern.specs.Paths.{start, end, front, inner, all_under, linked, Leads}
use Rattle.pattern.proofs.Paths.{Way, edge, hop}

module _ (p : Pattern) (m : ℕ) where
  -- a path with inner vertices under m, as a list that begins with a
  pub record Listed (a b : ℕ) : Type 0 where
    pub vertices : List ℕ
    pub leads : Leads p a b vertices
    pub low : all_under m (inner vertices) ≡ true

  longer : (a x b : ℕ) (l : List ℕ) → shares p a x ≡ true → x < m →
      Leads p x b l → all_under m (inner l) ≡ true → Listed a b
  unfolding start end front inner all_under linked
  longer a x b [] s low leads rest = absurd (omega (arith, leads.several))
  longer a x b (y ∷ []) s low leads rest = absurd (omega (arith, leads.several))
  longer a x b (y ∷ z ∷ l) s low leads rest =
      let same : y ≡ x = leads.from in
      record {
        vertices = a ∷ y ∷ z ∷ l;
        leads = record {
          several = omega arith;
          from = refl;
          to = leads.to;
          sharing = and_from _ _ (subst (λ t. shares p a t ≡ true) (sym same) s) leads.sharing;
        };
        low = and_from _ _ (lt-ltb y m (omega (arith, same, low))) rest;
      }

  pub listed_way : {b a : ℕ} → Way p m b a → Listed a b
  unfolding start end front inner all_under linked
  listed_way {b} (edge a s) =
      record {
        vertices = a ∷ b ∷ [];
        leads = record { several = omega arith; from = refl; to = refl; sharing = and_from _ _ s refl };
        low = refl;
      }
  listed_way {b} (hop a x s low w) =
      let more = listed_way w in longer a x b more.vertices s low more.leads more.low

  pub way_listed : (b : ℕ) (l : List ℕ) → 2 ≤ length l → end l ≡ b → linked p l ≡ true →
      all_under m (inner l) ≡ true → Way p m b (start l)
  unfolding start end front inner all_under linked
  way_listed b [] long to sharing low = absurd (omega (arith, long))
  way_listed b (x ∷ []) long to sharing low = absurd (omega (arith, long))
  way_listed b (x ∷ y ∷ []) long to sharing low =
      edge x (subst (λ t. shares p x t ≡ true) to (and_parts _ _ sharing).0)
  way_listed b (x ∷ y ∷ z ∷ l) long to sharing low =
      let (now, later) = and_parts _ _ sharing in
      let (under, rest) = and_parts _ _ low in
      hop x y now (ltb-true y m under) (way_listed b (y ∷ z ∷ l) (omega arith) to later rest)

  pub way_of : (a b : ℕ) (l : List ℕ) → Leads p a b l → all_under m (inner l) ≡ true → Way p m b a
  way_of a b l leads low =
      subst (Way p m b) leads.from (way_listed b l leads.several leads.to leads.sharing low)

  -- all but the last are under m exactly when the first and the inner ones are
  pub front_low : (l : List ℕ) → 2 ≤ length l → all_under m (front l) ≡ true →
      (start l < m) × (all_under m (inner l) ≡ true)
  unfolding start front inner all_under
  front_low [] long low = absurd (omega (arith, long))
  front_low (x ∷ []) long low = absurd (omega (arith, long))
  front_low (x ∷ y ∷ l) long low = let (now, rest) = and_parts _ _ low in (ltb-true x m now, rest)

  pub low_front : (l : List ℕ) → 2 ≤ length l → start l < m → all_under m (inner l) ≡ true →
      all_under m (front l) ≡ true
  unfolding start front inner all_under
  low_front [] long first low = absurd (omega (arith, long))
  low_front (x ∷ []) long first low = absurd (omega (arith, long))
  low_front (x ∷ y ∷ l) long first low = and_from _ _ (lt-ltb x m first) low
