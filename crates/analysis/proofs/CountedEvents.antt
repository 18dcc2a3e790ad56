-- The pass in the tables: one event more, the neighbours of one vertex, one place more.
use Rattle.std.proofs.Common.{◌≡◌, ℕ, suc, ◌+◌, ◌-◌, ◌<◌, ◌≤◌, Bool, true, false, cond, not, ◌&&◌, eqb, List, ◌∷◌, length, get_or, ◌+ℤ◌, ◌-ℤ◌, neg_ℤ, Some, None, Option, unwrap_or, sym, refl, ap, ◌∙◌, subst, ap₂, inl, inr, arith, w64}
use Rattle.std.specs.Int.{int_wrap}
use Rattle.std.proofs.lemmas.Int.{int_wrap-add_same}
use Rattle.std.proofs.lemmas.Bool.{cases_Bool, cases_lt, cases_eq, ltb-false, cond-true, cond-false, cond_both}
use Rattle.std.proofs.lemmas.Bool.Decides.{nat_tests}
use Rattle.pattern.specs.Patterns.{Pattern, shares}
use Rattle.pattern.specs.Elimination.{parent}
use Rattle.pattern.specs.Forest.{Grows}
use Rattle.pattern.specs.Analysis.{place_of, level_of}
use Rattle.pattern.specs.Walks.{at_place}
use Rattle.pattern.specs.Tops.{top_after}
use Rattle.pattern.specs.Passes.{happened, last_met, MetUnder, bend_at, one_if, weight_so_far, Passing}
use Rattle.pattern.proofs.Tests as tests
use Rattle.pattern.proofs.Tree.{parents_grow}
use Rattle.pattern.proofs.Agree.{grows_agrees}
use Rattle.pattern.proofs.Places.{place_bounds, place_rises, at_place_vertex, place_at}
use Rattle.pattern.proofs.Tops.{top_here, top_step, top_at_first, top_at_last}
use Rattle.pattern.proofs.Passes.{happened_cases, last_more, last_place_more, row_more, row_own}
use Rattle.pattern.proofs.Passes.{weight_more, passing_more, passing_older, new_lower, last_fits}
use Rattle.pattern.proofs.Passes.{under_before, under_now, under_last, MetTo, met_to_next}
use Rattle.pattern.proofs.Passes.{bend_first, bend_lies, bend_top}
use Rattle.pattern.proofs.PassCounts.{row_fits}
use Rattle.sets.specs.Meaning as sets
use Rattle.sets.specs.Meaning.{Sets, Found, Merged, among, in_use, mergeable}
use Rattle.analysis.specs.declared.records.End.TheVariants.{Low}
use Rattle.analysis.specs.declared.records.Entry.{Entry}
use Rattle.analysis.specs.declared.records.Vertex.{Vertex}
use Rattle.analysis.specs.Tables.{vertex, no_vertex, entry, parent_of, SoundPair, counts_from, Only}
use Rattle.analysis.specs.Growth.{pattern_of, pattern_in, Fresh}
use Rattle.analysis.specs.Order.{Forest}
use Rattle.analysis.specs.Counts.{Prepared, Passed, Ready, Tallied, Counting, TopsAt, TopsAreRoots, SameTops}
use Rattle.analysis.specs.Counts.{Climbs, meets_at, EntryCounted, is_leaf, EntryPassed}
use Rattle.analysis.proofs.Tops.{among_true, among_parts}
use Rattle.analysis.proofs.Slots.{listed_only}

-- a change of counts leaves the tree
pub ready_only : (p : Pattern) (vs ws : List Vertex) → Only counts_from vs ws → Ready p vs → Ready p ws
ready_only p vs ws only ready =
    record {
      parents = λ v l h. ap (λ x. x.parent) (only v) ∙ ready.parents v l h;
      levels = λ v l h. ap (λ x. x.level) (only v) ∙ ready.levels v l h;
      places = λ v l h. ap (λ x. x.place) (only v) ∙ ready.places v l h;
      firsts = λ v l h. ap (λ x. x.first.0) (only v) ∙ ready.firsts v l h;
      walk = λ k l h. ap (λ x. x.at) (only k) ∙ ready.walk k l h;
    }

-- and all else that counting begins with
pub prepared_only : (vs ws : List Vertex) (es : List Entry) →
    length vs ≡ length ws → Only counts_from vs ws → Prepared vs es → Prepared ws es
prepared_only vs ws es long only prepared =
    record {
      few = let f = prepared.few in omega arith;
      lists = listed_only counts_from Low (λ _ _. refl) vs ws es long only prepared.lists;
      tree = subst (λ n. Ready (pattern_of n es) ws) long
          (ready_only (pattern_in vs es) vs ws only prepared.tree);
    }

pub ready_grows : (p : Pattern) (vs : List Vertex) → Ready p vs → Grows p.order (parent_of vs)
ready_grows p vs ready =
    grows_agrees p.order (parent p) (parent_of vs) (λ v l h. sym (ready.parents v l h)) (parents_grow p)

pub prepared_forest : (vs : List Vertex) (es : List Entry) → Prepared vs es → Forest vs
prepared_forest vs es prepared =
    record { few = prepared.few; grows = ready_grows (pattern_in vs es) vs prepared.tree }

-- One event more: x is met as a neighbour of u, when the places before that of x are passed.
module _ (p : Pattern) (vs : List Vertex) (s : Sets) (x u : ℕ) (es : List (ℕ × ℕ)) (ready : Ready p vs)
    (tallied : Tallied p es vs) (tops : TopsAt p (place_of p x - 1) s) (new : Passing p ((x, u) ∷ es)) where
  row : tests.Vertex p.order u
  row = (new_lower p x u es new).to

  last_is : (vertex vs u).last ≡ last_met u es
  last_is = tallied.lasts u row.named row.fits

  -- the top found is the bend
  pub met_bend : meets_at s vs u ≡ bend_at p x u es
  met_bend =
      elim (cases_lt 0 (last_met u es)) [
        | inl some ↦
            let l = last_is in
            let f = last_fits p u es (passing_older p x u es new) in
            let e = tops.used in
            cond-true (among s.used (vertex vs u).last) _ _
            (among_true s.used (vertex vs u).last (omega arith) (omega arith))
            ∙ ap s.top l ∙ tops.tops (last_met u es) some f ∙ (bend_top p x u es new some).1
        | inr none ↦
            let z : last_met u es ≡ 0 = omega arith in
            cond-false (among s.used (vertex vs u).last) _ _ (ap (among s.used) (last_is ∙ z))
            ∙ sym (bend_first p x u es z)
      ]

  level_met : (vertex vs (meets_at s vs u)).level ≡ level_of p (bend_at p x u es)
  level_met =
      let b = (bend_lies p x u es new).vertex in
      ap (λ y. (vertex vs y).level) met_bend ∙ ready.levels (bend_at p x u es) b.named b.fits

  level_new : (vertex vs x).level ≡ level_of p x
  level_new = let h = (new_lower p x u es new).from in ready.levels x h.named h.fits

  level_falls : (vertex vs (meets_at s vs u)).level ≤ (vertex vs x).level
  level_falls =
      let a = level_met in
      let b = level_new in
      let c = (bend_lies p x u es new).level in
      omega arith

  levels_between :
      (vertex vs x).level - (vertex vs (meets_at s vs u)).level ≡ level_of p x - level_of p (bend_at p x u es)
  levels_between = ap₂ (λ a b. a - b) level_new level_met

  row_short : (vertex vs u).rows + ((vertex vs x).level - (vertex vs (meets_at s vs u)).level) ≤ p.order
  row_short =
      let a = row_fits p u row.named row.fits ((x, u) ∷ es) new in
      let b = row_own p x u es in
      let c = levels_between in
      let d = tallied.rows u row.named row.fits in
      omega arith

  pub climbs : p.order ≤ 16384 → Climbs vs u x (meets_at s vs u)
  climbs few = record { falls = level_falls; short = let h = row_short in omega arith }

  pub tallied_more : (ws : List Vertex) → EntryCounted x u (meets_at s vs u) vs ws → Tallied p ((x, u) ∷ es) ws
  tallied_more ws counted =
      record {
        rows = λ v l h.
            counted.rows v l
            ∙ ap₂ (λ r d. cond (eqb u v) (r + d) r) (tallied.rows v l h) levels_between
            ∙ sym (row_more p x u es v);
        weights = λ v l h.
            counted.weights v l
            ∙ int_wrap-add_same w64 ((vertex vs v).weight.0 +ℤ one_if v x) (weight_so_far p v es +ℤ one_if v x)
            (neg_ℤ (one_if v (meets_at s vs u)))
            (int_wrap-add_same w64 (vertex vs v).weight.0 (weight_so_far p v es) (one_if v x) (tallied.weights v l h))
            ∙ ap (λ y. int_wrap w64 (weight_so_far p v es +ℤ one_if v x -ℤ one_if v y)) met_bend
            ∙ ap (int_wrap w64) (sym (weight_more p x u es v));
        lasts = λ v l h.
            counted.lasts v l ∙ ap (cond (eqb u v) x) (tallied.lasts v l h) ∙ sym (last_more x u es v);
        mets = λ v l h.
            let from = (new_lower p x u es new).from in
            counted.mets v l
            ∙ ap₂ (cond (eqb u v)) (ready.places x from.named from.fits) (tallied.mets v l h)
            ∙ sym (last_place_more p x u es from.named v);
      }

-- what a find answers, a vertex in use
pub found_meets : (s t : Sets) (vs : List Vertex) (u q : ℕ) (r : Option ℕ) →
    q ≡ unwrap_or r u → Found s (vertex vs u).last r t → q ≡ meets_at s vs u
found_meets s t vs u q r e f = e ∙ ap (λ o. unwrap_or o u) f.answer ∙ go (in_use s (vertex vs u).last) _
  where
    go : (b : Bool) (top : ℕ) → unwrap_or (cond b (Some top) None) u ≡ cond b top u
    go true top = refl
    go false top = refl

pub meets_within : (s : Sets) (vs : List Vertex) (u : ℕ) →
    sets.Sound s → 1 ≤ u → u ≤ s.used → (1 ≤ meets_at s vs u) × (meets_at s vs u ≤ s.used)
meets_within s vs u sound from to =
    cond_both (in_use s (vertex vs u).last) (s.top (vertex vs u).last) u (λ q. (1 ≤ q) × (q ≤ s.used))
    (λ is. among_parts s.used (s.top (vertex vs u).last) (sound.top_in_use (vertex vs u).last is))
    (λ out. (from, to))

-- The vertices before the place of x are counted, and x in the rows of the neighbours in its slots before k.
pub record CountingAt (p : Pattern) (x : ℕ) (slots : List Entry) (k : ℕ) (vs : List Vertex) : Type 0 where
  pub events : List (ℕ × ℕ)
  pub passing : Passing p events
  pub early : (y w : ℕ) → happened y w events ≡ true → place_of p y ≤ place_of p x
  pub before : (y w : ℕ) → y < w → shares p y w ≡ true → place_of p y ≤ place_of p x - 1 → MetUnder p y w events
  pub here : (j : ℕ) → j < k → MetUnder p x (entry slots j).upper events
  pub tallied : Tallied p events vs

pub counting_first : (p : Pattern) (x : ℕ) (slots : List Entry) (vs : List Vertex) →
    Counting p (place_of p x - 1) vs → CountingAt p x slots 0 vs
counting_first p x slots vs c =
    record {
      events = c.events;
      passing = c.passing;
      early = λ y w h. let i = c.early y w h in omega arith;
      before = c.all;
      here = λ j h. absurd (omega arith);
      tallied = c.tallied;
    }

-- slot k holds u, an upper neighbour of x
module _ (p : Pattern) (x : ℕ) (slots : List Entry) (k : ℕ) (vs : List Vertex)
    (pair : SoundPair p.order (x, (entry slots k).upper)) (meet : shares p x (entry slots k).upper ≡ true)
    (c : CountingAt p x slots k vs) where
  abbrev u : ℕ
  u = (entry slots k).upper

  pub event_more : Passing p ((x, u) ∷ c.events)
  event_more = passing_more p x u c.events c.passing pair.rises meet (λ y w h. c.early y w h)

  new : tests.Vertex p.order x
  new = let r = pair.rises in let f = pair.within in record { named = pair.from; fits = omega arith }

  -- on to the next slot, once one in the subtree of x is met as a lower neighbour of u
  counting_on : (ws : List Vertex) (events : List (ℕ × ℕ)) →
      Passing p events → ((y w : ℕ) → happened y w events ≡ true → place_of p y ≤ place_of p x) →
      ((y w : ℕ) → MetUnder p y w c.events → MetUnder p y w events) → MetUnder p x u events → Tallied p events ws →
      CountingAt p x slots (k + 1) ws
  counting_on ws events passing early keeps met tallied =
      record {
        events = events;
        passing = passing;
        early = early;
        before = λ y w l s h. keeps y w (c.before y w l s h);
        here = λ j l. elim (cases_eq j k) [
          | inl same ↦ subst (λ m. MetUnder p x (entry slots m).upper events) (sym same) met
          | inr ne ↦ keeps x _ (c.here j (omega arith))
        ];
        tallied = tallied;
      }

  -- x itself is
  counting_leaf : (ws : List Vertex) → Tallied p ((x, u) ∷ c.events) ws → CountingAt p x slots (k + 1) ws
  counting_leaf ws tallied =
      counting_on ws ((x, u) ∷ c.events) event_more
      (λ y w h. elim (happened_cases x u c.events y w h) [
        | inl same ↦ subst (λ z. place_of p z ≤ place_of p x) same.0 (omega arith)
        | inr older ↦ c.early y w older
      ])
      (under_before p x u c.events) (under_now p x u c.events new) tallied

  -- x is no leaf of row u, as the one met last is in its subtree
  not_leaf : Ready p vs → is_leaf vs x u ≡ false → MetUnder p x u c.events
  not_leaf ready out =
      let first = ready.firsts x new.named new.fits in
      let r = pair.rises in
      let last = c.tallied.mets u (omega arith) pair.within in
      let le = ltb-false (vertex vs u).met (vertex vs x).first.0 out in
      under_last p x u c.events c.passing new c.early (omega arith)

  -- on to the next slot once u is passed as a neighbour of x
  pub counting_next : (s : Sets) (ws : List Vertex) → Ready p vs → TopsAt p (place_of p x - 1) s →
      EntryPassed x u (meets_at s vs u) vs ws → CountingAt p x slots (k + 1) ws
  counting_next s ws ready tops passed =
      elim (cases_Bool (is_leaf vs x u)) [
        | inl is ↦
            counting_leaf ws (tallied_more p vs s x u c.events ready c.tallied tops event_more ws (passed.leaf is))
        | inr out ↦
            counting_on ws c.events c.passing c.early (λ _ _ met. met) (not_leaf ready out)
            (subst (Tallied p c.events) (sym (passed.other out)) c.tallied)
      ]

-- when no slot is left x is counted in all of its rows
pub counting_last : (p : Pattern) (x : ℕ) (slots : List Entry) (k : ℕ) (vs : List Vertex) → 1 ≤ x → x ≤ p.order →
    k ≡ length slots →
    ((u : ℕ) → x < u → shares p x u ≡ true → (j : ℕ) × (j < length slots) × ((entry slots j).upper ≡ u)) →
    CountingAt p x slots k vs → Counting p (place_of p x) vs
counting_last p x slots k vs low high last slot_for c =
    let b = place_bounds p.order (parent p) (parents_grow p) x (record { named = low; fits = high }) in
    let t = place_of p x - 1 in
    let e : place_of p x ≡ suc t = omega arith in
    record {
      events = c.events;
      passing = c.passing;
      early = c.early;
      all = subst (λ m. MetTo p m c.events) (sym e)
          (met_to_next p t x c.events low high e c.before own);
      tallied = c.tallied;
    }
  where
    own : (u : ℕ) → x < u → shares p x u ≡ true → MetUnder p x u c.events
    own u l s =
        let (j, fits, is) = slot_for u l s in
        subst (λ w. MetUnder p x w c.events) is (c.here j (omega arith))

-- the tops: as they begin, after a find, after a merge, and at the end
pub tops_first : (p : Pattern) (s : Sets) → Fresh p.order s → TopsAt p 0 s
tops_first p s fresh =
    record {
      used = fresh.used;
      tops = λ x l h.
          fresh.own x l h
          ∙ sym (top_at_first p.order (parent p) (parents_grow p) x (record { named = l; fits = h }));
    }

pub tops_same : (p : Pattern) (t : ℕ) (s r : Sets) → SameTops s r → TopsAt p t s → TopsAt p t r
tops_same p t s r same tops =
    record {
      used = same.used ∙ tops.used;
      tops = λ x l h. same.tops x ∙ tops.tops x l h;
    }

pub tops_last : (p : Pattern) (s : Sets) → TopsAt p p.order s → TopsAreRoots p s
tops_last p s tops =
    record {
      used = tops.used;
      tops = λ x l h. tops.tops x l h ∙ top_at_last p.order (parent p) (parents_grow p) x h l;
    }

-- x, whose place is passed, goes below its parent
module _ (p : Pattern) (x : ℕ) (low : 1 ≤ x) (high : x ≤ p.order) (s : Sets)
    (tops : TopsAt p (place_of p x - 1) s) where
  abbrev t : ℕ
  t = place_of p x - 1

  self : tests.Vertex p.order x
  self = record { named = low; fits = high }

  next : place_of p x ≡ suc t
  next = let b = place_bounds p.order (parent p) (parents_grow p) x self in omega arith

  step : (y : ℕ) → 1 ≤ y → y ≤ p.order →
      top_after p.order (parent p) (place_of p x) y
      ≡ cond (eqb (s.top y) x && not (eqb (parent p x) 0)) (parent p x) (s.top y)
  step y l h =
      ap (λ k. top_after p.order (parent p) k y) next
      ∙ top_step p.order (parent p) (parents_grow p) t x self next y h l
      ∙ ap (λ z. cond (eqb z x && not (eqb (parent p x) 0)) (parent p x) z) (sym (tops.tops y l h))

  pub tops_root : parent p x ≡ 0 → TopsAt p (place_of p x) s
  tops_root z =
      record {
        used = tops.used;
        tops = λ y l h. let e = step y l h in grind (arith, nat_tests);
      }

  own : (y : ℕ) → 1 ≤ y → y ≤ p.order → place_of p x ≤ place_of p y → s.top y ≡ y
  own y l h le =
      let e = next in
      tops.tops y l h
      ∙ top_here p.order (parent p) (parents_grow p) t y (record { named = l; fits = h }) (omega arith)

  -- x and its parent are two tops
  pub parent_apart : (w : ℕ) → w ≡ parent p x → 1 ≤ w → mergeable s x w ≡ true
  parent_apart w i some =
      let g = parents_grow p in
      let rises = g.rises x low high (omega arith) in
      let stays = g.stays x low high in
      let later = place_rises p.order (parent p) g x self (omega arith) in
      let at_x = own x low high (omega arith) in
      let at_w = own w some (omega arith) (subst (λ y. place_of p x ≤ place_of p y) (sym i) (omega arith)) in
      let e = tops.used in
      grind (arith, nat_tests)

  pub tops_merged : (w : ℕ) (b : Bool) (r : Sets) →
      w ≡ parent p x → 1 ≤ w → Merged s x w b r → TopsAt p (place_of p x) r
  tops_merged w b r i some m =
      let e = tops.used in
      let yes = parent_apart w i some in
      let b_is = m.accepted in
      record {
        used = m.used ∙ e;
        tops = λ y l h. let f = step y l h in let k = m.tops y in grind (arith, nat_tests);
      }

-- what is passed, of the same pattern, at an equal place
pub passed_at : (es : List Entry) (n m i k : ℕ) (vs : List Vertex) (s : Sets) → n ≡ m → i ≡ k →
    Passed (pattern_of n es) i vs s → Passed (pattern_of m es) k vs s
passed_at es n m i k vs s same e passed =
    subst (λ j. Passed (pattern_of m es) j vs s) e (subst (λ j. Passed (pattern_of j es) i vs s) same passed)

-- the vertex at place i + 1
pub record AtPlace (p : Pattern) (i x : ℕ) : Type 0 where
  pub from : 1 ≤ x
  pub to : x ≤ p.order
  pub place : place_of p x ≡ i + 1
  pub before : place_of p x - 1 ≡ i

pub at_walk : (p : Pattern) (vs : List Vertex) (i : ℕ) →
    Ready p vs → i < p.order → AtPlace p i (get_or vs i no_vertex).at
at_walk p vs i ready h =
    let n = p.order in
    let k : i ≡ i + 1 - 1 = omega arith in
    let e : (get_or vs i no_vertex).at ≡ at_place n (parent p) (i + 1) =
    ap (λ j. (get_or vs j no_vertex).at) k ∙ ready.walk (i + 1) (omega arith) (omega arith) in
    let v = at_place_vertex n (parent p) (parents_grow p) (i + 1) (omega arith) (omega arith) in
    let a = place_at n (parent p) (parents_grow p) (i + 1) (omega arith) (omega arith) in
    subst (AtPlace p i) (sym e) (record { from = v.named; to = v.fits; place = a; before = omega arith })
