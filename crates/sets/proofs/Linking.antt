-- Links over the vertices 1 to m, as functions: ways, their ends, and what a merge and a halving do to them.
use Rattle.std.proofs.Common.{◌≡◌, ℕ, zero, suc, ◌<◌, ◌≤◌, true, cond, eqb, ◌⊎◌, sym, refl, ap, ◌∙◌, inl, inr, arith}
use Rattle.std.proofs.lemmas.Bool.{cases_eq}
use Rattle.std.proofs.lemmas.Bool.Decides.{nat_tests}
use Rattle.sets.specs.Meaning.{among}
use Rattle.sets.specs.Links.{follow, elsewhere, end_of, Linked}
use Rattle.sets.specs.Soundness.{follow_own}

abbrev In : ℕ → ℕ → Type 0
In m v = among m v ≡ true

-- the links f lead each of 1 to m to its top t, and with each link that leads elsewhere d falls
pub record Leads (m : ℕ) (f t d : ℕ → ℕ) : Type 0 where
  pub stays : (x : ℕ) → In m x → In m (f x)
  pub falls : (x : ℕ) → In m x → (f x ≡ x) ⊎ (d (f x) < d x)
  pub along : (x : ℕ) → In m x → t (f x) ≡ t x
  pub ends : (x : ℕ) → In m x → f x ≡ x → t x ≡ x

-- one more link at the end is one more link at the start
pub follow_last : (f : ℕ → ℕ) (k x : ℕ) → follow f k (f x) ≡ f (follow f k x)
unfolding follow
follow_last f zero x = refl
follow_last f (suc k) x = follow_last f k (f x)

-- no more than k links lead to the top, where d is at most k
pub arrives : {m : ℕ} {f t d : ℕ → ℕ} → Leads m f t d → (k x : ℕ) → In m x → d x ≤ k → follow f k x ≡ t x
unfolding follow
arrives {m} {f} {t} {d} l zero x i h =
    elim (l.falls x i) [ inl e ↦ sym (l.ends x i e) | inr lt ↦ absurd (omega arith) ]
arrives {m} {f} {t} {d} l (suc k) x i h =
    elim (l.falls x i) [
      | inl e ↦ ap (follow f k) e ∙ follow_own f k x e ∙ sym (l.ends x i e)
      | inr lt ↦ arrives l k (f x) (l.stays x i) (omega arith) ∙ l.along x i
    ]

-- and the top links to itself
pub settles : {m : ℕ} {f t d : ℕ → ℕ} → Leads m f t d → (k x : ℕ) → In m x → d x ≤ k → f (follow f k x) ≡ follow f k x
unfolding follow
settles {m} {f} {t} {d} l zero x i h = elim (l.falls x i) [ inl e ↦ e | inr lt ↦ absurd (omega arith) ]
settles {m} {f} {t} {d} l (suc k) x i h =
    elim (l.falls x i) [
      | inl e ↦ let o = follow_own f (suc k) x e in ap f o ∙ e ∙ sym o
      | inr lt ↦ settles l k (f x) (l.stays x i) (omega arith)
    ]

-- how many links lead from v to its end, of at most k
unfoldable pub way : (ℕ → ℕ) → ℕ → ℕ → ℕ
way f zero v = 0
way f (suc k) v = let rest = way f k (f v) in cond (eqb (f v) v) 0 (suc rest)

pub way_short : (f : ℕ → ℕ) (k v : ℕ) → way f k v ≤ k
unfolding way
way_short f zero v = omega arith
way_short f (suc k) v = let i = way_short f k (f v) in grind (arith, nat_tests)

way_settled : (f : ℕ → ℕ) (k x : ℕ) → f (follow f k x) ≡ follow f k x → way f (suc k) x ≡ way f k x
unfolding way follow
way_settled f zero x h = grind (arith, nat_tests)
way_settled f (suc k) x h = let i = way_settled f k (f x) h in grind (arith, nat_tests)

way_falls : (f : ℕ → ℕ) (k x : ℕ) → f (follow f k x) ≡ follow f k x → (f x ≡ x) ⊎ (way f k (f x) < way f k x)
unfolding way follow
way_falls f zero x h = inl h
way_falls f (suc k) x h = let i = way_settled f k (f x) h in grind (arith, nat_tests)

-- links that do not run in a circle lead to their ends
pub leads : {m : ℕ} {f : ℕ → ℕ} → Linked m f → Leads m f (end_of m f) (way f (elsewhere f m))
unfolding end_of
leads {m} {f} l =
    let c = elsewhere f m in
    record {
      stays = l.stays;
      falls = λ x i. way_falls f c x (l.ends x i);
      along = λ x i. follow_last f c x ∙ l.ends x i;
      ends = λ x i. follow_own f c x;
    }

-- and links that lead to tops by short ways do not run in a circle
pub linked : {m : ℕ} {f t d : ℕ → ℕ} → Leads m f t d → ((x : ℕ) → In m x → d x ≤ elsewhere f m) → Linked m f
unfolding end_of
linked l short = record { stays = l.stays; ends = λ x i. settles l _ x i (short x i) }

pub ends_at : {m : ℕ} {f t d : ℕ → ℕ} → Leads m f t d → ((x : ℕ) → In m x → d x ≤ elsewhere f m) →
    (x : ℕ) → In m x → end_of m f x ≡ t x
unfolding end_of
ends_at l short x i = arrives l _ x i (short x i)

-- the links g are f, but v links to w
abbrev pub Relinked : ℕ → (ℕ → ℕ) → ℕ → ℕ → (ℕ → ℕ) → Type 0
Relinked m f v w g = (x : ℕ) → In m x → g x ≡ cond (eqb x v) w (f x)

-- as many link elsewhere, where the same do
elsewhere_same : (m : ℕ) (f g : ℕ → ℕ) → ((x : ℕ) → In m x → eqb (g x) x ≡ eqb (f x) x) → elsewhere g m ≡ elsewhere f m
unfolding elsewhere
elsewhere_same zero f g h = refl
elsewhere_same (suc m) f g h =
    let i = elsewhere_same m f g (λ x j. h x (grind (arith, nat_tests))) in
    let e = h (suc m) (grind (arith, nat_tests)) in
    grind (arith, nat_tests)

-- and one more, where one that linked to itself no longer does
pub elsewhere_more : (m : ℕ) (f g : ℕ → ℕ) (v w : ℕ) → In m v → f v ≡ v → (w ≡ v → ⊥) → Relinked m f v w g →
    elsewhere g m ≡ suc (elsewhere f m)
unfolding elsewhere
elsewhere_more zero f g v w i o n h = grind (arith, nat_tests)
elsewhere_more (suc m) f g v w i o n h =
    let r = h (suc m) (grind (arith, nat_tests)) in
    elim (cases_eq v (suc m)) [
      | inl e ↦
          let k = elsewhere_same m f g (λ x j. let s = h x (grind (arith, nat_tests)) in grind (arith, nat_tests)) in
          grind (arith, nat_tests)
      | inr e ↦
          let k = elsewhere_more m f g v w (grind (arith, nat_tests)) o n (λ x j. h x (grind (arith, nat_tests))) in
          grind (arith, nat_tests)
    ]

-- v links to p, where both linked to themselves: whoever had the top v has the top p, by a way with one link more
pub merged : {m : ℕ} {f t d : ℕ → ℕ} (g : ℕ → ℕ) (v p : ℕ) → Leads m f t d → In m v → In m p → f v ≡ v → f p ≡ p →
    (p ≡ v → ⊥) → Relinked m f v p g →
    Leads m g (λ x. cond (eqb (t x) v) p (t x)) (λ x. cond (eqb x p) 0 (suc (d x)))
merged {m} {f} {t} {d} g v p l iv ip ov op n h = record {
  stays = λ x i. let r = h x i in let s = l.stays x i in grind (arith, nat_tests);
  falls = λ x i. let r = h x i in let s = l.falls x i in grind (arith, nat_tests);
  along = λ x i. let r = h x i in let s = l.along x i in let a = l.ends v iv ov in let b = l.ends p ip op in
      grind (arith, nat_tests);
  ends = λ x i e. let r = h x i in let s = l.ends x i in grind (arith, nat_tests);
}

-- v links to where its link links: every way ends where it did
pub halved : {m : ℕ} {f t d : ℕ → ℕ} (g : ℕ → ℕ) (v : ℕ) → Leads m f t d → In m v → (f v ≡ v → ⊥) →
    Relinked m f v (f (f v)) g → Leads m g t d
halved {m} {f} {t} {d} g v l iv n h =
    let sv = l.stays v iv in
    let ssv = l.stays (f v) sv in
    let fv = l.falls v iv in
    let ffv = l.falls (f v) sv in
    let av = l.along v iv in
    let aav = l.along (f v) sv in
    record {
      stays = λ x i. let r = h x i in let s = l.stays x i in grind (arith, nat_tests);
      falls = λ x i. let r = h x i in let s = l.falls x i in grind (arith, nat_tests);
      along = λ x i. let r = h x i in let s = l.along x i in grind (arith, nat_tests);
      ends = λ x i e. let r = h x i in let s = l.ends x i in grind (arith, nat_tests);
    }

pub halved_elsewhere : {m : ℕ} {f t d : ℕ → ℕ} (g : ℕ → ℕ) (v : ℕ) → Leads m f t d → In m v → (f v ≡ v → ⊥) →
    Relinked m f v (f (f v)) g → elsewhere g m ≡ elsewhere f m
halved_elsewhere {m} {f} {t} {d} g v l iv n h =
    let fv = l.falls v iv in
    let ffv = l.falls (f v) (l.stays v iv) in
    elsewhere_same m f g (λ x i. let r = h x i in grind (arith, nat_tests))
