-- The counts as the pass begins and ends, and their sum.
use Rattle.std.proofs.Common.{◌≡◌, ℕ, zero, suc, ◌-◌, ◌*◌, ◌^◌, ◌<◌, ◌≤◌, true, List, [], ◌∷◌, map, take, length, get_or, sum_by, ℤ, pos, ◌+ℤ◌, ◌-ℤ◌, sym, refl, ap, ◌∙◌, subst, add-one, arith, w64, SFits}
use Rattle.std.specs.Int.{int_wrap}
use Rattle.std.proofs.lemmas.Int.{int_wrap_fits as wrapped-fits, int_wrap-add_same, int_wrap-add_right}
use Rattle.std.proofs.lemmas.List.{take_all}
use Rattle.std.proofs.lemmas.List.Sums.{sum_by_more}
use Rattle.std.proofs.lemmas.Bool.{or_left, or_right, eq-eqb, both_ways}
use Rattle.pattern.specs.Lists.{upto, occurs, sum}
use Rattle.pattern.specs.Patterns.{Pattern}
use Rattle.pattern.specs.Elimination.{parent, col_count, total}
use Rattle.pattern.specs.Forest.{children, subtree}
use Rattle.pattern.specs.Counts.{sum_ℤ}
use Rattle.pattern.specs.Passes.{weight_so_far}
use Rattle.pattern.proofs.Lists.{in_keep, sum_next}
use Rattle.pattern.proofs.Agree.{children_agrees, subtree_agrees}
use Rattle.pattern.proofs.Columns.{column_fits}
use Rattle.pattern.proofs.Passes.{happened_none, last_none, last_place_none, row_none, weight_none, passing_none}
use Rattle.pattern.proofs.Passes.{met_to_none, met_to_end}
use Rattle.pattern.proofs.PassCounts.{row_passed}
use Rattle.pattern.proofs.PassWeights.{column_passed}
use Rattle.gather.specs.Kinds.{no_weight, summed}
use Rattle.gather.specs.Gatherings.{Gathered}
use Rattle.gather.proofs.Totals.{weights_over}
use Rattle.sets.specs.Meaning.{Sets}
use Rattle.analysis.specs.declared.records.Entry.{Entry}
use Rattle.analysis.specs.declared.records.Vertex.{Vertex}
use Rattle.analysis.specs.Tables.{vertex, no_vertex, parent_of, with_weight, Only, counts_from}
use Rattle.analysis.specs.Growth.{pattern_of, pattern_in}
use Rattle.analysis.specs.Counts.{Prepared, Ready, Passed, TopsAreRoots, Counted, Counting, Same64, uncounted, ChildrenTaken}
use Rattle.analysis.specs.Counts.{column_of}
use Rattle.analysis.proofs.Changes.{vertex_map, counts_takes, only_then, only_map}
use Rattle.analysis.proofs.CountedTables.{taken_only}
use Rattle.analysis.proofs.CountedEvents.{prepared_only, passed_at, tops_last}

-- no event has happened
pub counting_none : (p : Pattern) (vs bs ws : List Vertex) → p.order ≡ length vs → p.order ≡ length bs → Ready p bs →
    bs ≡ map uncounted vs → ChildrenTaken p.order bs ws → Counting p 0 ws
counting_none p vs bs ws long wide ready is taken =
    let at : (v : ℕ) → 1 ≤ v → v ≤ p.order → vertex bs v ≡ uncounted (vertex vs v) =
    λ v l h. ap (λ t. vertex t v) is ∙ vertex_map uncounted vs v l (omega arith) in
    record {
      events = [];
      passing = passing_none p;
      early = λ x u h. absurd (both_ways _ (happened_none x u) h);
      all = met_to_none p;
      tallied = record {
        rows = λ v l h. ap (λ x. x.rows) (taken.only v) ∙ ap (λ x. x.rows) (at v l h) ∙ sym (row_none p v);
        weights = λ v l h.
            taken.weights v l (omega arith)
            ∙ ap (λ x. int_wrap w64 (x.weight.0 -ℤ pos (length (children p.order (parent_of bs) v)))) (at v l h)
            ∙ ap (λ c. int_wrap w64 (pos 1 -ℤ pos (length c)))
            (children_agrees p.order (parent_of bs) (parent p) ready.parents v)
            ∙ ap (int_wrap w64) (sym (weight_none p v));
        lasts = λ v l h. ap (λ x. x.last) (taken.only v) ∙ ap (λ x. x.last) (at v l h) ∙ sym (last_none v);
        mets = λ v l h. ap (λ x. x.met) (taken.only v) ∙ ap (λ x. x.met) (at v l h) ∙ sym (last_place_none p v);
      };
    }

-- What counting begins with, the vertices ws: of them only the counts have changed, and none is counted.
pub record Begun (es : List Entry) (vs ws : List Vertex) : Type 0 where
  pub only : Only counts_from vs ws
  pub prepared : Prepared ws es
  pub counting : Counting (pattern_in ws es) 0 ws

-- each vertex has a row count and a weight, less by its children
module _ (es : List Entry) (vs bs : List Vertex) (prepared : Prepared vs es) (is : bs ≡ map uncounted vs)
    (wide : length vs ≡ length bs) where
  begun_only : Only counts_from vs bs
  begun_only = only_map counts_takes uncounted vs bs (λ _. refl) is

  pub begun_prepared : Prepared bs es
  begun_prepared = prepared_only vs bs es wide begun_only prepared

  pub taken_begun : (ws : List Vertex) → ChildrenTaken (length bs) bs ws → length bs ≡ length ws → Begun es vs ws
  taken_begun ws taken long =
      let both = only_then counts_takes vs bs ws begun_only (taken_only (length bs) bs ws taken) in
      record {
        only = both;
        prepared = prepared_only vs ws es (omega arith) both prepared;
        counting = counting_none (pattern_in ws es) vs bs ws (omega arith) (omega arith)
            (subst (λ m. Ready (pattern_of m es) bs) long begun_prepared.tree) is
            (subst (λ m. ChildrenTaken m bs ws) long taken);
      }

sum_wraps : (f g : ℕ → ℤ) (xs : List ℕ) → ((x : ℕ) → occurs x xs ≡ true → Same64 (f x) (g x)) →
    Same64 (sum_ℤ f xs) (sum_ℤ g xs)
unfolding sum_ℤ occurs
sum_wraps f g [] same = refl
sum_wraps f g (x ∷ xs) same =
    let i = sum_wraps f g xs (λ y o. same y (or_right _ _ o)) in
    int_wrap-add_same w64 (f x) (g x) (sum_ℤ f xs) (same x (or_left _ _ (eq-eqb x x refl)))
    ∙ sym (int_wrap-add_right w64 (g x) (sum_ℤ f xs))
    ∙ ap (λ s. int_wrap w64 (g x +ℤ s)) i
    ∙ int_wrap-add_right w64 (g x) (sum_ℤ g xs)

-- all events have happened, and the weights are gathered
pub counted_all : (p : Pattern) (vs ws : List Vertex) → p.order ≤ 16384 → Ready p vs → Counting p p.order vs →
    Gathered no_weight summed no_vertex (λ x. x.parent) (λ x. x.weight) with_weight p.order vs ws → Counted p ws
unfolding subtree
counted_all p vs ws few ready c g =
    let n = p.order in
    let passed = met_to_end p c.events c.passing c.all in
    record {
      rows = λ v l h.
          ap (λ x. x.rows) (g.vertices v l h) ∙ c.tallied.rows v l h ∙ row_passed p c.events passed v l h;
      columns = λ v l h.
          ap (λ x. x.weight.0) (g.vertices v l h)
          ∙ ap (λ x. x.0) (weights_over (λ x. (vertex vs x).weight) (subtree n (parent_of vs) v))
          ∙ ap (λ t. int_wrap w64 (sum_ℤ (λ x. (vertex vs x).weight.0) t))
          (subtree_agrees n (parent_of vs) (parent p) ready.parents v)
          ∙ sum_wraps (λ x. (vertex vs x).weight.0) (λ x. weight_so_far p x c.events) (subtree n (parent p) v)
          (λ x o. let k = (in_keep n _ x o).1 in c.tallied.weights x k.named k.fits)
          ∙ ap (int_wrap w64) (column_passed p c.events passed v l h)
          ∙ wrapped-fits w64 (pos (col_count p v)) (small (col_count p v) (let f = column_fits p v in omega arith));
    }
  where
    small : (k : ℕ) → k ≤ 16384 → SFits w64 (pos k)
    small k h = record { sfits = omega arith }

-- the counts at the end, of the pattern that counting began with
pub counted_last : (es : List Entry) (n m : ℕ) (vs ws : List Vertex) (s : Sets) → n ≡ length vs → m ≡ length vs →
    Prepared vs es → Passed (pattern_of m es) m vs s →
    Gathered no_weight summed no_vertex (λ x. x.parent) (λ x. x.weight) with_weight (length vs) vs ws →
    Counted (pattern_of n es) ws × TopsAreRoots (pattern_of n es) s
counted_last es n m vs ws s e i prepared passed g =
    let p = pattern_in vs es in
    let last = passed_at es m (length vs) m (length vs) vs s i i passed in
    subst (λ k. Counted (pattern_of k es) ws × TopsAreRoots (pattern_of k es) s) (sym e)
    (counted_all p vs ws prepared.few prepared.tree last.counting g, tops_last p s last.tops)

abbrev pub columns_of : List Vertex → ℕ
columns_of vs = sum_by (λ x. column_of x.weight.0) vs

module _ (p : Pattern) (vs : List Vertex) (order : p.order ≡ length vs) (counted : Counted p vs) where
  column_is : (v : ℕ) → 1 ≤ v → v ≤ p.order → column_of (vertex vs v).weight.0 ≡ col_count p v
  column_is v l h = ap column_of (counted.columns v l h)

  front_is : (i : ℕ) → i ≤ p.order → columns_of (take i vs) ≡ sum (col_count p) (upto i)
  unfolding sum upto
  front_is zero h = refl
  front_is (suc i) h =
      let a = sum_by_more (λ x. column_of x.weight.0) vs i no_vertex (omega arith) in
      let b = front_is i (omega arith) in
      let c = sum_next (col_count p) i in
      let d = column_is (suc i) (omega arith) h in
      let j : i ≡ suc i - 1 = omega arith in
      let f = ap (λ k. column_of (get_or vs k no_vertex).weight.0) j in
      let e = ap (λ k. columns_of (take k vs)) (add-one i) in
      omega arith

  total_is : total p ≡ sum (col_count p) (upto p.order)
  unfolding total
  total_is = refl

  -- the sum of the columns
  pub columns_is : columns_of vs ≡ total p
  unfolding total
  columns_is = ap columns_of (sym (take_all p.order vs (omega arith))) ∙ front_is p.order (omega arith)

  front_fits : p.order ≤ 16384 → (i : ℕ) → sum (col_count p) (upto i) ≤ i * 16384
  unfolding sum upto
  front_fits few zero = omega arith
  front_fits few (suc i) =
      let a = front_fits few i in
      let b = sum_next (col_count p) i in
      let c = column_fits p (suc i) in
      omega arith

  -- which stays small
  pub columns_fit : length vs ≤ 16384 → columns_of vs < 2 ^ 64
  columns_fit few =
      let a = columns_is in
      let b = ap (λ n. sum (col_count p) (upto n)) order in
      let c = front_fits (omega arith) p.order in
      let d = total_is in
      omega arith
