-- What the steps of counting do to the tables, record by record.
use Rattle.std.proofs.Common.{◌≡◌, ℕ, zero, suc, ◌+◌, ◌-◌, ◌≤◌, Bool, true, false, cond, eqb, ◌≢◌, List, [], ◌∷◌, length, ℤ, pos, negsuc, ◌+ℤ◌, ◌-ℤ◌, sym, refl, ap, ◌∙◌, subst, inl, inr, arith, w64}
use Rattle.std.specs.Int.{int_wrap}
use Rattle.std.proofs.lemmas.Int.{ints, int_wrap_fits, SFits-int_wrap, int_wrap-add_same}
use Rattle.std.proofs.lemmas.List.{length-set, length-append}
use Rattle.std.proofs.lemmas.Bool.{cases_eq, eq-eqb, ne_eqb, cond-true, cond-false, cond_both}
use Rattle.pattern.specs.Lists.{upto, keep}
use Rattle.pattern.specs.Forest.{Grows, children}
use Rattle.pattern.specs.Passes.{one_if}
use Rattle.pattern.proofs.Tests.{eqb_swap}
use Rattle.pattern.proofs.Lists.{keep_next}
use Rattle.gather.specs.Kinds.{weight, no_weight, summed}
use Rattle.gather.specs.Gatherings.{Gathered}
use Rattle.analysis.specs.declared.records.Vertex.{Vertex}
use Rattle.analysis.specs.Tables.{vertex, no_vertex, parent_of, with_weight}
use Rattle.analysis.specs.Tables.{Has, Only, counts_from, weight_from}
use Rattle.analysis.specs.Counts.{Same64, weighed, child_taken, ChildrenTaken, longer, lengthened}
use Rattle.analysis.specs.Counts.{EntryCounted}
use Rattle.analysis.proofs.Changes.{vertex_same, vertex_other, counts_takes, weight_takes}
use Rattle.analysis.proofs.Changes.{only_none, only_then, only_set, only_more, only_gathered}

-- the weights are gathered
pub gathered_only : (n : ℕ) (vs ws : List Vertex) →
    Gathered no_weight summed no_vertex (λ x. x.parent) (λ x. x.weight) with_weight n vs ws → Only counts_from vs ws
gathered_only = only_gathered no_weight summed _ _ with_weight counts_from counts_takes (λ _ _. refl)

-- the same number in 64 bits
pub wrapped_same : (z : ℤ) → Same64 (int_wrap w64 z) z
wrapped_same z = int_wrap_fits w64 (int_wrap w64 z) (SFits-int_wrap w64 z)

pub plus_none : (z : ℤ) → z ≡ z +ℤ pos 0
plus_none z = omega (arith, ints)

-- so much is added to the weight of v
module _ (vs ws : List Vertex) (v : ℕ) (by : ℤ) (from : 1 ≤ v) (to : v ≤ length vs) (is : ws ≡ weighed vs v by) where
  abbrev heavier : Vertex
  heavier = with_weight (vertex vs v) (weight (int_wrap w64 ((vertex vs v).weight.0 +ℤ by)))

  pub weighed_only : Only weight_from vs ws
  weighed_only = only_set weight_takes vs (v - 1) heavier ws refl is

  pub weighs : (w : ℕ) → 1 ≤ w →
      Same64 (vertex ws w).weight.0 ((vertex vs w).weight.0 +ℤ cond (eqb w v) by (pos 0))
  weighs w p =
      elim (cases_eq w v) [
        | inl i ↦
            ap (int_wrap w64)
            (ap (λ y. (vertex ws y).weight.0) i ∙ ap (λ t. (vertex t v).weight.0) is
            ∙ ap (λ x. x.weight.0) (vertex_same vs v heavier from to))
            ∙ wrapped_same ((vertex vs v).weight.0 +ℤ by)
            ∙ ap (λ y. int_wrap w64 ((vertex vs y).weight.0 +ℤ by)) (sym i)
            ∙ ap (λ k. int_wrap w64 ((vertex vs w).weight.0 +ℤ k)) (sym (cond-true (eqb w v) by (pos 0) (eq-eqb w v i)))
        | inr ne ↦
            ap (λ t. int_wrap w64 (vertex t w).weight.0) is
            ∙ ap (λ x. int_wrap w64 x.weight.0) (vertex_other vs v w heavier from p ne)
            ∙ ap (int_wrap w64) (plus_none (vertex vs w).weight.0)
            ∙ ap (λ k. int_wrap w64 ((vertex vs w).weight.0 +ℤ k))
            (sym (cond-false (eqb w v) by (pos 0) (ne_eqb w v ne)))
      ]

cond_field : (field : Vertex → ℕ) (b : Bool) (x y : Vertex) → field (cond b x y) ≡ cond b (field x) (field y)
cond_field field true x y = refl
cond_field field false x y = refl

less_one : (a : ℤ) (b : Bool) → a +ℤ cond b (negsuc 0) (pos 0) ≡ a -ℤ cond b (pos 1) (pos 0)
less_one a true = refl
less_one a false = refl

-- x is counted as a neighbour of u that meets its row at q
module _ (vs cs ds ws : List Vertex) (x u q : ℕ) (row : Has vs u) (met : Has vs x) (top : Has vs q)
    (is_c : cs ≡ lengthened vs u x q) (is_d : ds ≡ weighed cs x (pos 1))
    (is_w : ws ≡ weighed ds q (negsuc 0)) where
  abbrev by : ℕ
  by = (vertex vs x).level - (vertex vs q).level

  abbrev grown : Vertex
  grown = longer (vertex vs u) by x (vertex vs x).place

  to_x : x ≤ length cs
  to_x = let e = ap (λ t. length t) is_c ∙ length-set vs (u - 1) grown in let h = met.1 in omega arith

  to_q : q ≤ length ds
  to_q =
      let e = ap (λ t. length t) is_c ∙ length-set vs (u - 1) grown in
      let f = ap (λ t. length t) is_d ∙ length-set cs (x - 1) _ in
      let h = top.1 in
      omega arith

  heavier_only : Only weight_from cs ws
  heavier_only =
      only_then weight_takes cs ds ws (weighed_only cs ds x (pos 1) met.0 to_x is_d)
      (weighed_only ds ws q (negsuc 0) top.0 to_q is_w)

  at_row : vertex cs u ≡ grown
  at_row = ap (λ t. vertex t u) is_c ∙ vertex_same vs u grown row.0 row.1

  at_other : (v : ℕ) → 1 ≤ v → v ≢ u → vertex cs v ≡ vertex vs v
  at_other v p ne = ap (λ t. vertex t v) is_c ∙ vertex_other vs u v grown row.0 p ne

  pub entry_only : Only counts_from vs ws
  entry_only =
      only_then counts_takes vs cs ws (only_set counts_takes vs (u - 1) grown cs refl is_c)
      (only_more weight_from counts_from (λ _ _. refl) cs ws heavier_only)

  -- the row is longer, and all else as it was
  at_each : (v : ℕ) → 1 ≤ v →
      vertex cs v ≡ cond (eqb u v) (longer (vertex vs v) by x (vertex vs x).place) (vertex vs v)
  at_each v p =
      elim (cases_eq v u) [
        | inl i ↦
            ap (vertex cs) i ∙ at_row ∙ ap (λ y. longer (vertex vs y) by x (vertex vs x).place) (sym i)
            ∙ sym (cond-true (eqb u v) _ _ (eq-eqb u v (sym i)))
        | inr ne ↦ at_other v p ne ∙ sym (cond-false (eqb u v) _ _ (ne_eqb u v (λ i. ne (sym i))))
      ]

  entry_field : (field : Vertex → ℕ) → ((y z : Vertex) → field (weight_from y z) ≡ field y) → (v : ℕ) → 1 ≤ v →
      field (vertex ws v)
      ≡ cond (eqb u v) (field (longer (vertex vs v) by x (vertex vs x).place)) (field (vertex vs v))
  entry_field field stays v p =
      ap field (heavier_only v) ∙ stays (vertex cs v) (vertex ws v) ∙ ap field (at_each v p)
      ∙ cond_field field (eqb u v) _ _

  same_weight : (v : ℕ) → 1 ≤ v → (vertex cs v).weight.0 ≡ (vertex vs v).weight.0
  same_weight v p =
      ap (λ y. y.weight.0) (at_each v p)
      ∙ cond_both (eqb u v) _ _ (λ (y : Vertex). y.weight.0 ≡ (vertex vs v).weight.0) (λ _. refl) (λ _. refl)

  entry_weights : (v : ℕ) → 1 ≤ v →
      Same64 (vertex ws v).weight.0 ((vertex vs v).weight.0 +ℤ one_if v x -ℤ one_if v q)
  unfolding one_if
  entry_weights v p =
      weighs ds ws q (negsuc 0) top.0 to_q is_w v p
      ∙ int_wrap-add_same w64 (vertex ds v).weight.0 ((vertex vs v).weight.0 +ℤ one_if v x) _
      (weighs cs ds x (pos 1) met.0 to_x is_d v p
      ∙ ap (λ z. int_wrap w64 (z +ℤ one_if v x)) (same_weight v p))
      ∙ ap (int_wrap w64) (less_one ((vertex vs v).weight.0 +ℤ one_if v x) (eqb v q))

  pub entry_counted : EntryCounted x u q vs ws
  entry_counted = record {
    rows = entry_field (λ y. y.rows) (λ _ _. refl);
    weights = entry_weights;
    lasts = entry_field (λ y. y.last) (λ _ _. refl);
    mets = entry_field (λ y. y.met) (λ _ _. refl);
  }

-- the children so far, and one more
children_next : (k : ℕ) (up : ℕ → ℕ) (w : ℕ) →
    length (children (suc k) up w) ≡ length (children k up w) + cond (eqb (up (suc k)) w) 1 0
unfolding children
children_next k up w =
    ap (λ l. length l) (keep_next (λ c. eqb (up c) w) k)
    ∙ length-append (keep (λ c. eqb (up c) w) (upto k)) (cond (eqb (up (suc k)) w) (suc k ∷ []) [])
    ∙ ap (λ m. length (keep (λ c. eqb (up c) w) (upto k)) + m) (go (eqb (up (suc k)) w))
  where
    go : (b : Bool) → length (cond b (suc k ∷ []) []) ≡ cond b 1 0
    go true = refl
    go false = refl

pub taken_none : (vs : List Vertex) → ChildrenTaken 0 vs vs
unfolding children upto keep
taken_none vs =
    record {
      weights = λ v p q. ap (int_wrap w64) (plus_none (vertex vs v).weight.0);
      only = only_none weight_takes vs;
    }

add_zero : (m : ℕ) → m + 0 ≡ m
add_zero m = omega arith

-- one more child takes one off the weight of its parent
module _ (k : ℕ) (bs vs ws : List Vertex) (fits : suc k ≤ length bs) (long : length bs ≤ length vs)
    (grows : Grows (length bs) (parent_of bs)) (before : ChildrenTaken k bs vs) (is : ws ≡ child_taken vs (suc k)) where
  abbrev up : ℕ → ℕ
  up = parent_of bs

  same_up : parent_of vs (suc k) ≡ up (suc k)
  same_up = ap (λ x. x.parent) (before.only (suc k))

  taken_root : parent_of vs (suc k) ≡ 0 → ChildrenTaken (suc k) bs ws
  taken_root z =
      let stays = is ∙ cond-true (eqb (parent_of vs (suc k)) 0) _ _ (eq-eqb (parent_of vs (suc k)) 0 z) in
      subst (ChildrenTaken (suc k) bs) (sym stays)
      (record {
        weights = λ w p q.
            let r : up (suc k) ≡ 0 = sym same_up ∙ z in
            let ne : up (suc k) ≡ w → ⊥ = λ i. omega arith in
            let f : length (children k up w) ≡ length (children (suc k) up w) =
            sym
            (children_next k up w
            ∙ ap (λ t. length (children k up w) + cond t 1 0) (ne_eqb (up (suc k)) w ne)
            ∙ add_zero (length (children k up w))) in
            before.weights w p q ∙ ap (λ y. int_wrap w64 ((vertex bs w).weight.0 -ℤ pos y)) f;
        only = before.only;
      })

  one_fewer : (a : ℤ) (m : ℕ) (b : Bool) → a -ℤ pos m +ℤ cond b (negsuc 0) (pos 0) ≡ a -ℤ pos (m + cond b 1 0)
  one_fewer a m true = omega (arith, ints)
  one_fewer a m false = omega (arith, ints)

  taken_child : (w : ℕ) → parent_of vs (suc k) ≡ w → w ≢ 0 → ChildrenTaken (suc k) bs ws
  taken_child w i ne =
      let other = ne_eqb (parent_of vs (suc k)) 0 (λ z. ne (sym i ∙ z)) in
      let by = is ∙ cond-false (eqb (parent_of vs (suc k)) 0) _ _ other
      ∙ ap (λ y. weighed vs y (negsuc 0)) i in
      let e = same_up in
      let s = grows.stays (suc k) (omega arith) fits in
      let from : 1 ≤ w = omega arith in
      let to : w ≤ length vs = omega arith in
      record {
        weights = λ v p q.
            let m = length (children k up v) in
            let f : length (children (suc k) up v) ≡ m + cond (eqb v w) 1 0 =
            children_next k up v
            ∙ ap (λ t. m + cond t 1 0) (ap (λ y. eqb y v) (sym same_up ∙ i) ∙ eqb_swap w v) in
            weighs vs ws w (negsuc 0) from to by v p
            ∙ int_wrap-add_same w64 (vertex vs v).weight.0 ((vertex bs v).weight.0 -ℤ pos m) _ (before.weights v p q)
            ∙ ap (int_wrap w64) (one_fewer (vertex bs v).weight.0 m (eqb v w))
            ∙ ap (λ y. int_wrap w64 ((vertex bs v).weight.0 -ℤ pos y)) (sym f);
        only = only_then weight_takes bs vs ws before.only (weighed_only vs ws w (negsuc 0) from to by);
      }

  pub taken_next : ChildrenTaken (suc k) bs ws
  taken_next =
      elim (cases_eq (parent_of vs (suc k)) 0)
      [ inl z ↦ taken_root z | inr ne ↦ taken_child (parent_of vs (suc k)) refl ne ]

-- a loop's step
pub taken_more : (c m : ℕ) (bs vs ws : List Vertex) → 1 ≤ c → c ≤ length bs → m ≡ c → length bs ≤ length vs →
    Grows (length bs) (parent_of bs) → ChildrenTaken (c - 1) bs vs → ws ≡ child_taken vs c → ChildrenTaken m bs ws
taken_more zero m bs vs ws from to i long grows before is = absurd (omega arith)
taken_more (suc k) m bs vs ws from to i long grows before is =
    subst (λ j. ChildrenTaken j bs ws) (sym i)
    (taken_next k bs vs ws to long grows
    (subst (λ j. ChildrenTaken j bs vs) (let e : suc k - 1 ≡ k = omega arith in e) before) is)

pub taken_only : (k : ℕ) (bs vs : List Vertex) → ChildrenTaken k bs vs → Only counts_from bs vs
taken_only k bs vs taken = only_more weight_from counts_from (λ _ _. refl) bs vs taken.only
