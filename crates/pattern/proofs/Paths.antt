-- Paths by their steps: what is joined is what a path through lower vertices joins.
use Rattle.std.proofs.Common.{◌≡◌, ℕ, zero, suc, ◌<◌, ◌≤◌, min, true, ◌⊎◌, sym, refl, ◌∙◌, subst, inl, inr, arith}
use Rattle.std.proofs.lemmas.Bool.{cases_eq, cases_lt}
use Rattle.pattern.specs.Patterns.{Pattern, shares}
use Rattle.pattern.specs.Elimination.{joined, fill}
use Rattle.pattern.proofs.Tests.{Vertex}
use Rattle.pattern.proofs.Joins.{shares_parts, shares_sym, joined_parts, joined_before, joined_now}
use Rattle.pattern.proofs.Joins.{joined_start, joined_stays}

-- a way from a to b whose inner vertices are all under m
pub data Way (p : Pattern) (m b : ℕ) : ℕ → Type 0 where
  edge : (a : ℕ) → shares p a b ≡ true → Way p m b a
  hop : (a x : ℕ) → shares p a x ≡ true → x < m → Way p m b x → Way p m b a

module _ {p : Pattern} where
  pub wider : {m k b a : ℕ} → m ≤ k → Way p m b a → Way p k b a
  wider le (edge a s) = edge a s
  wider le (hop a x s low w) = hop a x s (omega (arith, low, le)) (wider le w)

  -- on through b, which is under m
  pub join : {m c b a : ℕ} → Way p m b a → b < m → Way p m c b → Way p m c a
  join {b} (edge a s) low w = hop a b s low w
  join (hop a x s lower v) low w = hop a x s lower (join v low w)

  -- a way and one more step
  pub back : {m b a : ℕ} → Way p m b a → Way p m a b
  back {b} (edge a s) = edge b (shares_sym p a b s)
  back (hop a x s low w) = join (back w) low (edge x (shares_sym p a x s))

  pub way_start : {m b a : ℕ} → Way p m b a → Vertex p.order a
  way_start {b} (edge a s) = (shares_parts p a b s).0.left
  way_start (hop a x s low w) = (shares_parts p a x s).0.left

  -- a way with inner vertices up to k avoids k, or is cut at k
  pub split : (k : ℕ) {b a : ℕ} → Way p (suc k) b a → Way p k b a ⊎ (Way p k k a × Way p k b k)
  split k (edge a s) = inl (edge a s)
  split k {b} (hop a x s low w) =
      elim (cases_eq x k) [
        | inl same ↦
            let first : Way p k k a = edge a (subst (λ y. shares p a y ≡ true) same s) in
            elim (split k w) [
              | inl v ↦ inr (first, subst (Way p k b) same v)
              | inr (v, w) ↦ inr (first, w)
            ]
        | inr other ↦
            elim (split k w) [
              | inl v ↦ inl (hop a x s (omega arith) v)
              | inr (v, w) ↦ inr (hop a x s (omega arith) v, w)
            ]
      ]

  -- the last step
  pub last_step : {m b a : ℕ} → Way p m b a →
      (shares p a b ≡ true) ⊎ ((x : ℕ) × (x < m) × Way p m x a × (shares p x b ≡ true))
  last_step (edge a s) = inl s
  last_step {m} {b} (hop a x s low w) =
      inr
      (elim (last_step w) [
        | inl t ↦ (x, low, edge a s, t)
        | inr (y, lower, v, t) ↦ (y, lower, hop a x s low v, t)
      ])

  -- the first vertex above v, on a way that ends above v
  pub first_above : (v : ℕ) {m b a : ℕ} → v < b → Way p m b a →
      (w : ℕ) × (v < w) × ((w ≡ b) ⊎ (w < m)) × Way p (suc v) w a
  first_above v {b} high (edge a s) = (b, high, inl refl, edge a s)
  first_above v {m} {b} high (hop a x s low w) =
      elim (cases_lt v x) [
        | inl over ↦ (x, over, inr low, edge a s)
        | inr le ↦ let (w, over, at, way) = first_above v high w in (w, over, at, hop a x s (omega arith) way)
      ]

  -- what is joined is joined by a way with inner vertices under both ends
  pub joined_way : (k m a b : ℕ) → min a b ≤ m → joined p k a b ≡ true → Way p m b a
  joined_way zero m a b le e = edge a (joined_start p a b ∙ e)
  joined_way (suc k) m a b le e =
      elim (joined_parts p k a b e) [
        | inl before ↦ joined_way k m a b le before
        | inr j ↦
            join (back (joined_way k m (suc k) a (omega arith) j.at_a)) (omega arith)
            (joined_way k m (suc k) b (omega arith) j.at_b)
      ]

  -- a way with inner vertices up to k, between ends above k, joins once 1 to k are eliminated
  pub way_joined : (k a b : ℕ) → k < a → k < b → (a ≡ b → ⊥) → Way p (suc k) b a → joined p k a b ≡ true
  way_joined zero a b low high apart (edge _ s) = sym (joined_start p a b) ∙ s
  way_joined zero a b low high apart (hop _ x s under w) = absurd (omega (arith, (way_start w).named))
  way_joined (suc k) a b low high apart w =
      elim (split (suc k) w) [
        | inl v ↦ joined_before p k a b (way_joined k a b (omega arith) (omega arith) apart v)
        | inr (v, w) ↦
            joined_now p k a b
            (record {
              a-above = low;
              b-above = high;
              apart = apart;
              at_a = way_joined k (suc k) a (omega arith) (omega arith) (λ e. omega arith) (back v);
              at_b = way_joined k (suc k) b (omega arith) (omega arith) (λ e. omega arith) w;
            })
      ]

  -- fill is ways
  pub fill_way : (v u : ℕ) → v < u → fill p v u ≡ true → Way p v u v
  unfolding fill
  fill_way v u less e = joined_way p.order v v u (omega arith) e

  pub way_fill : (v u : ℕ) → v < u → Way p v u v → fill p v u ≡ true
  unfolding fill
  way_fill zero u less w = absurd (omega (arith, (way_start w).named))
  way_fill (suc k) u less w =
      joined_stays p k p.order (suc k) u (omega (arith, (way_start w).fits))
      (way_joined k (suc k) u (omega arith) (omega arith) (λ e. omega (arith, e)) w)
