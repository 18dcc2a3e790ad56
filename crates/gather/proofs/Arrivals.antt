-- Which vertices' values have arrived at v once the vertices 1 to b are joined into their parents.
use Rattle.std.proofs.Common.{◌≡◌, ℕ, zero, suc, ◌<◌, ◌≤◌, Bool, true, ◌&&◌, ◌||◌, eqb, ◌⊎◌, sym, refl, ap, ◌∙◌, subst, inl, inr, arith}
use Rattle.std.proofs.lemmas.Bool.{eqb-true, eq-eqb, or_cases, or_left, or_right, and_parts, and_from, cases_eq}
use Rattle.pattern.specs.Forest.{Grows, under}
use Rattle.pattern.proofs.Tests.{Vertex, same_test}
use Rattle.pattern.proofs.Lines.{Climb, here, step, climb_of, under_of, climb_start, climb_end, climb_up, climb_le}
use Rattle.pattern.proofs.Lines.{under_self, under_le, under_chain}

-- x is v, or lies under a child of v that is at most b
unfoldable pub arrived : ℕ → (ℕ → ℕ) → ℕ → ℕ → ℕ → Bool
arrived n up zero x v = eqb x v
arrived n up (suc b) x v = (eqb (up (suc b)) v && under n up x (suc b)) || arrived n up b x v

-- the child of v that x has come through
record Through (n : ℕ) (up : ℕ → ℕ) (b x v : ℕ) : Type 0 where
  child : ℕ
  small : child ≤ b
  parent : up child ≡ v
  below : under n up x child ≡ true

module _ (n : ℕ) (up : ℕ → ℕ) (grows : Grows n up) where
  arrived_cases : (b x v : ℕ) → arrived n up b x v ≡ true → (x ≡ v) ⊎ Through n up b x v
  unfolding arrived
  arrived_cases zero x v e = inl (eqb-true x v e)
  arrived_cases (suc b) x v e = go (or_cases _ _ e) (arrived_cases b x v)
    where
      wider : (x ≡ v) ⊎ Through n up b x v → (x ≡ v) ⊎ Through n up (suc b) x v
      wider (inl same) = inl same
      wider (inr t) =
          let small : t.child ≤ suc b = omega (arith, t.small) in
          inr (record { child = t.child; small = small; parent = t.parent; below = t.below })

      go : ((eqb (up (suc b)) v && under n up x (suc b)) ≡ true) ⊎ (arrived n up b x v ≡ true) →
          (arrived n up b x v ≡ true → (x ≡ v) ⊎ Through n up b x v) → (x ≡ v) ⊎ Through n up (suc b) x v
      go (inl now) more =
          let (at, below) = and_parts _ _ now in
          inr (record { child = suc b; small = omega arith; parent = eqb-true _ _ at; below = below })
      go (inr earlier) more = wider (more earlier)

  arrived_through : (b x v : ℕ) → Through n up b x v → arrived n up b x v ≡ true
  unfolding arrived
  arrived_through zero x v t =
      let vertex = climb_end (climb_of n up x t.child t.below) in
      absurd (omega (arith, vertex.named, t.small))
  arrived_through (suc b) x v t = go (cases_eq t.child (suc b)) (arrived_through b x v)
    where
      go : (t.child ≡ suc b) ⊎ (t.child ≡ suc b → ⊥) → (Through n up b x v → arrived n up b x v ≡ true) →
          ((eqb (up (suc b)) v && under n up x (suc b)) || arrived n up b x v) ≡ true
      go (inl last) more =
          or_left _ _
          (and_from _ _
          (eq-eqb _ _ (ap up (sym last) ∙ t.parent))
          (subst (λ c. under n up x c ≡ true) last t.below))
      go (inr other) more =
          let small : t.child ≤ b = omega (arith, t.small, other) in
          or_right _ _ (more (record { child = t.child; small = small; parent = t.parent; below = t.below }))

  arrived_self : (b v : ℕ) → arrived n up b v v ≡ true
  unfolding arrived
  arrived_self zero v = eq-eqb v v refl
  arrived_self (suc b) v = or_right _ _ (arrived_self b v)

  arrived_under : (b x v : ℕ) → Vertex n v → arrived n up b x v ≡ true → under n up x v ≡ true
  arrived_under b x v vertex e = go (arrived_cases b x v e)
    where
      go : (x ≡ v) ⊎ Through n up b x v → under n up x v ≡ true
      go (inl same) = subst (λ y. under n up y v ≡ true) (sym same) (under_self n up grows v vertex)
      go (inr t) =
          let reach : Climb n up (up t.child) x =
          climb_up (climb_of n up x t.child t.below) (subst (Vertex n) (sym t.parent) vertex) in
          under_of n up grows (subst (λ y. Climb n up y x) t.parent reach)

  climb_arrived : (b : ℕ) {v x : ℕ} → v ≤ suc b → Climb n up v x → arrived n up b x v ≡ true
  climb_arrived b {v} high (here vertex) = arrived_self b v
  climb_arrived b {v} high (step x vertex c) = go (arrived_cases b (up x) v (climb_arrived b high c))
    where
      go : (up x ≡ v) ⊎ Through n up b (up x) v → arrived n up b x v ≡ true
      go (inl same) =
          let above = climb_start c in
          let small : x ≤ b = omega (arith, grows.rises x vertex.named vertex.fits above.named) in
          arrived_through b x v
          (record { child = x; small = small; parent = same; below = under_self n up grows x vertex })
      go (inr t) =
          let below = under_of n up grows (step x vertex (climb_of n up (up x) t.child t.below)) in
          arrived_through b x v
          (record { child = t.child; small = t.small; parent = t.parent; below = below })

  -- once all vertices smaller than v are joined into their parents, the whole subtree has arrived at v
  pub arrived_all : (b v : ℕ) → Vertex n v → v ≤ suc b → (x : ℕ) → arrived n up b x v ≡ under n up x v
  arrived_all b v vertex high x =
      same_test _ _ (arrived_under b x v vertex) (λ e. climb_arrived b high (climb_of n up x v e))

  -- what lies under the vertex to be joined next has not arrived at its parent
  pub arrived_apart : (b v : ℕ) → suc b ≤ n → Vertex n v → up (suc b) ≡ v →
      (x : ℕ) → under n up x (suc b) ≡ true → arrived n up b x v ≡ true → ⊥
  arrived_apart b v within vertex parent x below e = go (arrived_cases b x v e)
    where
      rises : suc b < v
      rises = subst (λ y. 1 ≤ y → suc b < y) parent (grows.rises (suc b) (omega arith) within) vertex.named

      strictly : {u c : ℕ} → Climb n up u c → c < u → up c ≤ u
      strictly (here _) less = absurd (omega arith)
      strictly (step c _ d) less = climb_le grows d

      two : (t : Through n up b x v) →
          (under n up t.child (suc b) ≡ true) ⊎ (under n up (suc b) t.child ≡ true) → ⊥
      two t (inl over) =
          let low = strictly (climb_of n up t.child (suc b) over) (omega (arith, t.small)) in
          omega (arith, rises, low, t.parent)
      two t (inr over) = omega (arith, under_le n up grows (suc b) t.child over, t.small)

      go : (x ≡ v) ⊎ Through n up b x v → ⊥
      go (inl same) = omega (arith, under_le n up grows x (suc b) below, rises, same)
      go (inr t) = two t (under_chain n up grows x t.child (suc b) t.below below)
