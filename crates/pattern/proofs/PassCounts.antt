-- The counts of the pass by place: what a row reaches so far, one identity an event, and the counts at the end.
use Rattle.std.proofs.Common.{◌≡◌, ℕ, ◌+◌, ◌≤◌, Bool, true, cond, ◌&&◌, ◌||◌, eqb, ◌⊎◌, List, [], ◌∷◌, ◌++◌, sym, refl, ap, ◌∙◌, subst, inl, inr, arith}
use Rattle.std.specs.List.{list_any}
use Rattle.std.proofs.lemmas.Bool.{cases_eq, both_ways, or_cases, or_left, or_right, and_parts, and_from, and_left, eqb-true, eq-eqb, ne_eqb, cond_both}
use Rattle.std.proofs.lemmas.Bool.Decides.{nat_tests}
use Rattle.pattern.specs.Lists.{upto, occurs, sum}
use Rattle.pattern.specs.Patterns.{Pattern}
use Rattle.pattern.specs.Elimination.{row_count, parent}
use Rattle.pattern.specs.Analysis.{place_of, level_of}
use Rattle.pattern.specs.Fill.{in_subtree}
use Rattle.pattern.specs.Counts.{unfalling, RowFrom, stops}
use Rattle.pattern.specs.Passes.{happened, last_met, MetUnder, bend_at, row_so_far, Passing, Passed}
use Rattle.pattern.proofs.Tests.{Vertex, same_test}
use Rattle.pattern.proofs.Lists.{occurs_append, in_upto}
use Rattle.pattern.proofs.Sums.{sum_plus}
use Rattle.pattern.proofs.Tallies.{bit, sum_same, bits_fit}
use Rattle.pattern.proofs.Lines.{under_trans}
use Rattle.pattern.proofs.Tree.{parents_grow}
use Rattle.pattern.proofs.Forest.{under_parts, under_counts, parent_counts}
use Rattle.pattern.proofs.Places.{block}
use Rattle.pattern.proofs.Meets.{meet_of_both}
use Rattle.pattern.proofs.Telescope.{any_has, any_tells, unfalling_push}
use Rattle.pattern.proofs.Counting.{in_row_test, row_tests, stop-cases, in_list, at_end, stops_reach}
use Rattle.pattern.proofs.Passes.{
  happened_none,
  happened_now,
  happened_cases,
  bend_first,
  bend_later,
  row_none,
  row_own,
  row_other,
  passing_older,
  older_placed,
  new_lower,
  under_before,
  NoneOrNewest,
  last_tells,
  bend_both,
  bend_lies,
}

-- b is what x and what was reached before have in common
balance : (x r b : Bool) → (b ≡ true → x ≡ true) → (b ≡ true → r ≡ true) → (x ≡ true → r ≡ true → b ≡ true) →
    bit (x || r) + bit b ≡ bit r + bit x
balance x r b f g h = grind arith

-- the lower neighbours of u that were met, from the oldest to the newest
unfoldable pub met : ℕ → List (ℕ × ℕ) → List ℕ
met u [] = []
met u (e ∷ es) = cond (eqb e.1 u) (met u es ++ e.0 ∷ []) (met u es)

pub met_occurs : (x u : ℕ) (es : List (ℕ × ℕ)) → occurs x (met u es) ≡ happened x u es
unfolding met happened occurs
met_occurs x u [] = refl
met_occurs x u ((y, w) ∷ es) =
    let i = met_occurs x u es in let o = occurs_append x (met u es) (y ∷ []) in grind (arith, nat_tests)

module _ (p : Pattern) where
  -- u, or one met as a lower neighbour of u, lies under v
  unfoldable pub reaches : ℕ → ℕ → List (ℕ × ℕ) → Bool
  reaches u v [] = in_subtree p u v
  reaches u v (e ∷ es) = (eqb e.1 u && in_subtree p e.0 v) || reaches u v es

  pub reaches_none : (u v : ℕ) → reaches u v [] ≡ in_subtree p u v
  unfolding reaches
  reaches_none u v = refl

  reaches_own : (u v : ℕ) (es : List (ℕ × ℕ)) → in_subtree p u v ≡ true → reaches u v es ≡ true
  unfolding reaches
  reaches_own u v [] t = t
  reaches_own u v (e ∷ es) t = or_right _ _ (reaches_own u v es t)

  reaches_met : (u v : ℕ) (es : List (ℕ × ℕ)) (y : ℕ) → happened y u es ≡ true → in_subtree p y v ≡ true →
      reaches u v es ≡ true
  unfolding reaches
  reaches_met u v [] y h t = absurd (both_ways _ (happened_none y u) h)
  reaches_met u v ((x, w) ∷ es) y h t =
      elim (happened_cases x w es y u h) [
        | inl (e, f) ↦ or_left _ _ (and_from _ _ (eq-eqb w u f) (ap (λ z. in_subtree p z v) e ∙ t))
        | inr m ↦ or_right _ _ (reaches_met u v es y m t)
      ]

  abbrev Reached : ℕ → ℕ → List (ℕ × ℕ) → Type 0
  Reached u v es = (in_subtree p u v ≡ true) ⊎ MetUnder p v u es

  reaches_tells : (u v : ℕ) (es : List (ℕ × ℕ)) → reaches u v es ≡ true → Reached u v es
  unfolding reaches
  reaches_tells u v [] r = inl r
  reaches_tells u v ((x, w) ∷ es) r =
      elim (or_cases _ _ r) [
        | inl m ↦
            let (e, t) = and_parts _ _ m in
            inr (x, subst (λ z. happened x z ((x, w) ∷ es) ≡ true) (eqb-true w u e) (happened_now x w es), t)
        | inr m ↦
            elim (reaches_tells u v es m) [
              | inl t ↦ inl t
              | inr below ↦ inr (under_before p x w es v u below)
            ]
      ]

  pub reaches_other : (x u : ℕ) (es : List (ℕ × ℕ)) (w v : ℕ) → (u ≡ w → ⊥) →
      reaches w v ((x, u) ∷ es) ≡ reaches w v es
  unfolding reaches
  reaches_other x u es w v d =
      ap (λ b. b || reaches w v es) (and_left (eqb u w) (in_subtree p x v) (ne_eqb u w d))

  -- the identity on which the pass rests: the bend lies under a vertex just if x and some stop of row u so far do
  pub reaches_more : (x u : ℕ) (es : List (ℕ × ℕ)) → Passing p ((x, u) ∷ es) → (v : ℕ) →
      bit (reaches u v ((x, u) ∷ es)) + bit (in_subtree p (bend_at p x u es) v)
      ≡ bit (reaches u v es) + bit (in_subtree p x v)
  unfolding reaches
  reaches_more x u es q v =
      ap (λ b. bit ((b && in_subtree p x v) || reaches u v es) + bit (in_subtree p bend v)) (eq-eqb u u refl)
      ∙ balance (in_subtree p x v) (reaches u v es) (in_subtree p bend v)
      (λ b. trans x bend v (bend_lies p x u es q).over b)
      (λ b. before b (last_tells p u es older))
      (λ t r. both t (reaches_tells u v es r) (last_tells p u es older))
    where
      n : ℕ
      n = p.order

      bend : ℕ
      bend = bend_at p x u es

      older : Passing p es
      older = passing_older p x u es q

      trans : (a b c : ℕ) → in_subtree p a b ≡ true → in_subtree p b c ≡ true → in_subtree p a c ≡ true
      trans = under_trans n (parent p) (parents_grow p)

      before : in_subtree p bend v ≡ true → NoneOrNewest p u (last_met u es) es → reaches u v es ≡ true
      before b (inl (e, _)) = reaches_own u v es (ap (λ z. in_subtree p z v) (sym (bend_first p x u es e)) ∙ b)
      before b (inr last) =
          reaches_met u v es (last_met u es) last.met
          (trans (last_met u es) bend v (bend_both p x u es q last.lower.from.named).0 b)

      both : in_subtree p x v ≡ true → Reached u v es → NoneOrNewest p u (last_met u es) es →
          in_subtree p bend v ≡ true
      both t (inl own) (inl (e, _)) = ap (λ z. in_subtree p z v) (bend_first p x u es e) ∙ own
      both t (inr (y, h, _)) (inl (_, none)) = absurd (both_ways _ (none y) h)
      both t r (inr last) =
          ap (λ z. in_subtree p z v) (bend_later p x u es last.lower.from.named)
          ∙ meet_of_both n (parent p) (parents_grow p) (last_met u es) x v (under r) t
        where
          under : Reached u v es → in_subtree p (last_met u es) v ≡ true
          under (inl own) = trans (last_met u es) u v last.lower.lies own
          under (inr (y, h, lies)) =
              let b = block n (parent p) (parents_grow p) v
              (under_parts n (parent p) (parents_grow p) x v t).1 in
              let low = b.inner y lies in
              let high = b.inner x t in
              let le = last.latest y h in
              let new = older_placed p x u es q (last_met u es) u last.met in
              b.outer (last_met u es) last.lower.from (omega arith) (omega arith)

  -- the row so far and what is above u is all that it reaches
  pub row_reached : (u : ℕ) → Vertex p.order u → (es : List (ℕ × ℕ)) → Passing p es →
      row_so_far p u es + level_of p u ≡ sum (λ v. bit (reaches u v es)) (upto p.order)
  unfolding reaches
  row_reached u h [] q =
      omega (arith, row_none p u, under_counts p.order (parent p) (parents_grow p) u h)
  row_reached u h ((x, w) ∷ es) q =
      let i = row_reached u h es (passing_older p x w es q) in
      elim (cases_eq w u) [
        | inl e ↦
            subst (λ w. row_so_far p u ((x, w) ∷ es) + level_of p u
            ≡ sum (λ v. bit (reaches u v ((x, w) ∷ es))) (upto n)) (sym e)
            (own (subst (λ w. Passing p ((x, w) ∷ es)) e q) i)
        | inr d ↦
            let a = sum_same (λ v. bit (reaches u v ((x, w) ∷ es))) (λ v. bit (reaches u v es)) (upto n)
            (λ v o. ap bit (reaches_other x w es u v d)) in
            let b = row_other p x w es u d in
            omega arith
      ]
    where
      n : ℕ
      n = p.order

      own : Passing p ((x, u) ∷ es) → row_so_far p u es + level_of p u ≡ sum (λ v. bit (reaches u v es)) (upto n) →
          row_so_far p u ((x, u) ∷ es) + level_of p u ≡ sum (λ v. bit (reaches u v ((x, u) ∷ es))) (upto n)
      own k i =
          let bend = bend_at p x u es in
          let at = bend_lies p x u es k in
          let new = new_lower p x u es k in
          let a = sum_same _ _ (upto n) (λ v o. reaches_more x u es k v) in
          let b = sum_plus (λ v. bit (reaches u v ((x, u) ∷ es))) (λ v. bit (in_subtree p bend v)) (upto n) in
          let c = sum_plus (λ v. bit (reaches u v es)) (λ v. bit (in_subtree p x v)) (upto n) in
          let d = under_counts n (parent p) (parents_grow p) bend at.vertex in
          let f = under_counts n (parent p) (parents_grow p) x new.from in
          let l = at.level in
          let r = row_own p x u es in
          omega arith

  -- the row so far never has more than n vertices
  pub row_fits : (u : ℕ) → 1 ≤ u → u ≤ p.order → (es : List (ℕ × ℕ)) → Passing p es →
      row_so_far p u es + level_of p u ≤ p.order
  row_fits u low high es q =
      omega (arith, row_reached u (record { named = low; fits = high }) es q, bits_fit (λ v. reaches u v es) p.order)

  -- and only grows
  pub row_grows : (u : ℕ) (newer older : List (ℕ × ℕ)) → row_so_far p u older ≤ row_so_far p u (newer ++ older)
  row_grows u [] older = omega arith
  row_grows u ((x, w) ∷ newer) older =
      let all = newer ++ older in
      let i = row_grows u newer older in
      elim (cases_eq w u) [
        | inl e ↦
            let a = row_own p x u all in
            subst (λ w. row_so_far p u older ≤ row_so_far p u ((x, w) ∷ all)) (sym e) (omega arith)
        | inr d ↦ let a = row_other p x w all u d in omega arith
      ]

  -- the events of u, from the oldest to the newest, serve row u
  met_placed : (u : ℕ) (es : List (ℕ × ℕ)) → Passing p es → unfalling (place_of p) (met u es) ≡ true
  unfolding met unfalling
  met_placed u [] q = refl
  met_placed u ((x, w) ∷ es) q =
      let i = met_placed u es (passing_older p x w es q) in
      cond_both (eqb w u) (met u es ++ x ∷ []) (met u es) (λ xs. unfalling (place_of p) xs ≡ true)
      (λ _. unfalling_push (place_of p) x (met u es) i
      (λ y o. older_placed p x w es q y u (sym (met_occurs y u es) ∙ o)))
      (λ _. i)

  pub row_from_met : (es : List (ℕ × ℕ)) → Passed p es → (u : ℕ) → RowFrom p u (met u es)
  row_from_met es q u = record {
    lower = λ x o. q.passing.lower x u (sym (met_occurs x u es) ∙ o);
    placed = met_placed u es q.passing;
    covers = λ y less s. let (x, h, lies) = q.covers y u less s in (x, met_occurs x u es ∙ h, lies);
  }

  -- at the end row u reaches itself and what is above u
  pub reached : (es : List (ℕ × ℕ)) → Passed p es → (u v : ℕ) → Vertex p.order u → Vertex p.order v →
      bit (reaches u v es) ≡ bit (in_row_test p v u) + bit (in_subtree p (parent p u) v)
  reached es q u v h g = ap bit (same_test _ _ into outof) ∙ stops_reach p u h (met u es) from v g
    where
      from : RowFrom p u (met u es)
      from = row_from_met es q u

      has : (y : ℕ) → occurs y (stops (met u es) u) ≡ true → in_subtree p y v ≡ true →
          list_any (λ x. in_subtree p x v) (stops (met u es) u) ≡ true
      has = any_has (λ x. in_subtree p x v) (stops (met u es) u)

      into : reaches u v es ≡ true → list_any (λ x. in_subtree p x v) (stops (met u es) u) ≡ true
      into r =
          elim (reaches_tells u v es r) [
            | inl own ↦ has u (at_end p u h (met u es) from) own
            | inr (y, k, t) ↦ has y (in_list p u h (met u es) from y (met_occurs y u es ∙ k)) t
          ]

      outof : list_any (λ x. in_subtree p x v) (stops (met u es) u) ≡ true → reaches u v es ≡ true
      outof a =
          let (y, o, t) = any_tells (λ x. in_subtree p x v) (stops (met u es) u) a in
          elim (stop-cases p u h (met u es) from y o) [
            | inl e ↦ reaches_own u v es (subst (λ z. in_subtree p z v ≡ true) e t)
            | inr m ↦ reaches_met u v es y (sym (met_occurs y u es) ∙ m) t
          ]

  -- at the end the rows are counted
  pub row_passed : (es : List (ℕ × ℕ)) → Passed p es → (u : ℕ) → 1 ≤ u → u ≤ p.order →
      row_so_far p u es ≡ row_count p u
  row_passed es q u low high =
      let n = p.order in
      let h : Vertex n u = record { named = low; fits = high } in
      let a = row_reached u h es q.passing in
      let b = sum_same _ _ (upto n) (λ v o. reached es q u v h (in_upto n v o)) in
      let c = sum_plus (λ v. bit (in_row_test p v u)) (λ v. bit (in_subtree p (parent p u) v)) (upto n) in
      let d = row_tests p u in
      let e = parent_counts n (parent p) (parents_grow p) u h in
      omega arith

  -- every row so far is at most the whole row
  pub row_part : (newer older : List (ℕ × ℕ)) → Passed p (newer ++ older) → (u : ℕ) → 1 ≤ u → u ≤ p.order →
      row_so_far p u older ≤ row_count p u
  row_part newer older q u low high =
      let a = row_grows u newer older in
      let b = row_passed (newer ++ older) q u low high in
      omega arith
