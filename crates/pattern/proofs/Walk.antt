-- The walk: what it holds, and how it is cut at a vertex into what comes before, the subtree's walk, and what follows.
use Rattle.std.proofs.Common.{◌≡◌, ℕ, zero, suc, ◌≤◌, true, eqb, ltb, List, [], ◌∷◌, ◌++◌, length, sym, refl, ap, ◌∙◌, inl, inr, arith}
use Rattle.std.proofs.lemmas.Bool.{cases_lt, cond-true, eq-eqb}
use Rattle.std.proofs.lemmas.Bool.Decides.{nat_tests}
use Rattle.std.proofs.lemmas.List.{append_assoc, append-nil}
use Rattle.pattern.specs.Lists.{upto, keep, sum, occurs, each}
use Rattle.pattern.specs.Patterns.{within}
use Rattle.pattern.specs.Forest.{Grows, under, children, visit, walk}
use Rattle.pattern.specs.Walks.{size}
use Rattle.pattern.proofs.Tests.{Vertex, within_parts, within_from, eqb_swap}
use Rattle.pattern.proofs.Lists.{in_upto, length_upto, each_append, keep_append}
use Rattle.pattern.proofs.Forest.{
  from_parents,
  under_past,
  under_parts,
  under_by_children,
  under_by_roots,
  in_children,
  size_counts,
}
use Rattle.pattern.proofs.Tallies.{
  bit,
  tally,
  tally_append,
  sum_same,
  sum_zero,
  sum_each,
  length_is_sum,
  length_by_values,
  occurs_counted,
  occurs_from_count,
  keep_swap,
  upto_cut,
}

-- the children of v that are greater than c
unfoldable pub above : ℕ → (ℕ → ℕ) → ℕ → ℕ → List ℕ
above n up v c = keep (λ d. ltb c d) (children n up v)

-- the walk with 0 at its end, as if 0 were the parent of the roots
unfoldable pub whole : ℕ → (ℕ → ℕ) → List ℕ
whole n up = walk n up ++ 0 ∷ []

module _ (n : ℕ) (up : ℕ → ℕ) (grows : Grows n up) where
  -- the walk of a subtree holds each of its vertices once, and nothing else
  pub visit_counts : (k v : ℕ) → Vertex n v → v ≤ k → (x : ℕ) →
      tally x (visit n up k v) ≡ bit (under n up x v)
  unfolding visit sum
  visit_counts zero v h l x = absurd (let m = h.named in omega arith)
  visit_counts (suc k) v h l x =
      let a = tally_append x (each (visit n up k) (children n up v)) (v ∷ []) in
      let b = sum_each (λ y. bit (eqb y x)) (visit n up k) (children n up v) in
      let c = sum_same _ (λ c. bit (under n up x c)) (children n up v) (λ c o.
      let (g, e) = in_children n up grows c v o in
      let r = grows.rises c g.named g.fits (let m = h.named in omega arith) in
      visit_counts k c g (omega arith) x) in
      let d = under_by_children n up grows v h x in
      let e = ap bit (eqb_swap v x) in
      omega arith

  pub in_visit : (k v : ℕ) → Vertex n v → v ≤ k → (x : ℕ) → occurs x (visit n up k v) ≡ true → under n up x v ≡ true
  in_visit k v h l x o =
      grind (arith, nat_tests, visit_counts k v h l x, occurs_counted x (visit n up k v) o)

  pub length_visit : (k v : ℕ) → Vertex n v → v ≤ k → length (visit n up k v) ≡ size n up v
  length_visit k v h l =
      sym (length_by_values n (visit n up k v) (λ x o. (under_parts n up grows x v (in_visit k v h l x o)).0))
      ∙ sum_same _ _ (upto n) (λ x o. visit_counts k v h l x)
      ∙ sym (size_counts n up grows v)

  pub walk_counts : (x : ℕ) → tally x (walk n up) ≡ bit (within n x)
  unfolding walk within
  walk_counts x =
      let b = sum_each (λ y. bit (eqb y x)) (visit n up n) (children n up 0) in
      let c = sum_same _ (λ c. bit (under n up x c)) (children n up 0) (λ c o.
      let g = (in_children n up grows c 0 o).0 in visit_counts n c g g.fits x) in
      elim (cases_lt n x) [
        | inl past ↦
            let a = sum_zero (λ c. bit (under n up x c)) (children n up 0)
            (λ c o. ap bit (under_past n up grows x c past)) in
            grind (arith, nat_tests)
        | inr h ↦ let a = under_by_roots n up grows x h in grind (arith, nat_tests)
      ]

  pub in_walk : (x : ℕ) → occurs x (walk n up) ≡ true → Vertex n x
  in_walk x o =
      let a = walk_counts x in
      let b = occurs_counted x (walk n up) o in
      let w : within n x ≡ true = grind (arith, nat_tests) in
      within_parts n x w

  pub walk_once : (x : ℕ) → Vertex n x → tally x (walk n up) ≡ 1
  walk_once x h = walk_counts x ∙ ap bit (within_from n x h)

  pub on_walk : (x : ℕ) → Vertex n x → occurs x (walk n up) ≡ true
  on_walk x h = occurs_from_count x (walk n up) (let a = walk_once x h in omega arith)

  pub length_walk : length (walk n up) ≡ n
  length_walk =
      sym (length_by_values n (walk n up) in_walk)
      ∙ sum_same _ (λ _. 1) (upto n) (λ x o. walk_once x (in_upto n x o))
      ∙ sym (length_is_sum (upto n)) ∙ length_upto n

  pub whole_once : (x : ℕ) → x ≤ n → tally x (whole n up) ≡ 1
  unfolding whole sum within
  whole_once x h =
      grind (arith, nat_tests, tally_append x (walk n up) (0 ∷ []), walk_counts x)

  -- the children of a parent cut at one of them
  children_cut : (c : ℕ) → Vertex n c → (front : List ℕ) × (children n up (up c) ≡ front ++ c ∷ above n up (up c) c)
  unfolding children above keep
  children_cut zero h = absurd (let l = h.named in omega arith)
  children_cut (suc c) h = (keep (λ d. eqb (up d) (up (suc c))) (upto c), same)
    where
      same : children n up (up (suc c))
          ≡ keep (λ d. eqb (up d) (up (suc c))) (upto c) ++ suc c ∷ above n up (up (suc c)) (suc c)
      same =
          ap (keep (λ d. eqb (up d) (up (suc c)))) (upto_cut n c h.fits)
          ∙ keep_append (λ d. eqb (up d) (up (suc c))) (upto c) _
          ∙ ap (◌++◌ (keep (λ d. eqb (up d) (up (suc c))) (upto c)))
          (cond-true (eqb (up (suc c)) (up (suc c))) _ _ (eq-eqb (up (suc c)) (up (suc c)) refl)
          ∙ ap (◌∷◌ (suc c)) (keep_swap (λ d. eqb (up d) (up (suc c))) (λ d. ltb (suc c) d) (upto n)))

  -- the whole cut at v; the depth allowed there is enough for v and for its children
  pub record Cut (v : ℕ) : Type 0 where
    pub fuel : ℕ
    pub before : List ℕ
    pub behind : List ℕ
    pub cut : whole n up ≡ before ++ (visit n up (suc fuel) v ++ behind)
    pub enough : 1 ≤ v → v ≤ suc fuel
    pub deep : (c : ℕ) → Vertex n c → up c ≡ v → c ≤ fuel

  -- the whole cut at a child c: before it, its walk, the walks of its later siblings, its parent, and what follows
  pub record Among (c : ℕ) : Type 0 where
    pub fuel : ℕ
    pub before : List ℕ
    pub behind : List ℕ
    pub cut : whole n up
        ≡ before ++ (visit n up (suc fuel) c ++ (each (visit n up (suc fuel)) (above n up (up c) c) ++ up c ∷ behind))
    pub deep : (d : ℕ) → Vertex n d → up d ≡ up c → d ≤ suc fuel

  cut_none : Cut 0
  unfolding whole walk visit
  cut_none = record {
    fuel = n;
    before = [];
    behind = [];
    cut = sym (append-nil (each (visit n up n) (children n up 0) ++ 0 ∷ []));
    enough = λ l. omega arith;
    deep = λ c h e. h.fits;
  }

  among_in : (c : ℕ) → Vertex n c → (k : ℕ) (before behind : List ℕ) →
      whole n up ≡ before ++ (visit n up (suc k) (up c) ++ behind) →
      ((d : ℕ) → Vertex n d → up d ≡ up c → d ≤ k) → Among c
  unfolding visit each
  among_in c h zero before behind e deep = absurd (let l = deep c h refl in let m = h.named in omega arith)
  among_in c h (suc k) before behind e deep =
      let (front, same) = children_cut c h in
      let f = visit n up (suc k) in
      record {
        fuel = k;
        before = before ++ each f front;
        behind = behind;
        cut = e
            ∙ ap (λ l. before ++ ((each f l ++ up c ∷ []) ++ behind)) same
            ∙ ap (λ l. before ++ ((l ++ up c ∷ []) ++ behind)) (each_append f front (c ∷ above n up (up c) c))
            ∙ joined before (each f front) (f c) (each f (above n up (up c) c)) (up c) behind;
        deep = deep;
      }
    where
      joined : (a b c d : List ℕ) (x : ℕ) (e : List ℕ) →
          a ++ (((b ++ (c ++ d)) ++ x ∷ []) ++ e) ≡ (a ++ b) ++ (c ++ (d ++ x ∷ e))
      joined a b c d x e = simp append_assoc

  among : (c : ℕ) → Vertex n c → Cut (up c) → Among c
  among c h r = among_in c h r.fuel r.before r.behind r.cut r.deep

  unfoldable pub cut_child : (c : ℕ) → Vertex n c → Among c → Cut c
  cut_child c h r = record {
    fuel = r.fuel;
    before = r.before;
    behind = each (visit n up (suc r.fuel)) (above n up (up c) c) ++ up c ∷ r.behind;
    cut = r.cut;
    enough = λ l. r.deep c h refl;
    deep = λ d g s.
        let l = r.deep c h refl in
        let m = h.named in
        let t = grows.rises d g.named g.fits (omega arith) in
        omega arith;
  }

  pub cut_at : (v : ℕ) → v ≤ n → Cut v
  cut_at = from_parents n up grows Cut cut_none (λ x h r. cut_child x h (among x h r))

  pub among_at : (c : ℕ) → Vertex n c → Among c
  among_at c h = among c h (cut_at (up c) (grows.stays c h.named h.fits))
