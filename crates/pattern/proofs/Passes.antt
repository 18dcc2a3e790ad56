-- The pass by place: what one event more changes, what was met last, and where the path from a new one joins its row.
use Rattle.std.proofs.Common.{◌≡◌, ℕ, suc, ◌+◌, ◌-◌, ◌<◌, ◌≤◌, true, false, cond, ◌&&◌, ◌||◌, eqb, ◌⊎◌, List, [], ◌∷◌, ◌++◌, length, pos, ◌+ℤ◌, ◌-ℤ◌, sym, refl, ap, ◌∙◌, subst, inl, inr, arith}
use Rattle.std.proofs.lemmas.Bool.{cases_eq, cases_lt, both_ways, or_cases, or_left, or_right, or_from, and_parts, and_from, and_right, cond-true, cond-false, eqb-true, eq-eqb, ne_eqb, leb-true, le-leb}
use Rattle.std.proofs.lemmas.Bool.Decides.{nat_tests}
use Rattle.pattern.specs.Patterns.{Pattern, shares}
use Rattle.pattern.specs.Elimination.{parent}
use Rattle.pattern.specs.Forest.{children}
use Rattle.pattern.specs.Analysis.{place_of, first_place_of, level_of}
use Rattle.pattern.specs.Fill.{in_subtree}
use Rattle.pattern.specs.Counts.{meet_of}
use Rattle.pattern.specs.Tops.{top_after}
use Rattle.pattern.specs.Passes.{
  happened,
  last_met,
  last_place,
  MetUnder,
  bend_at,
  row_so_far,
  one_if,
  weight_so_far,
  by_place,
  Passing,
  Passed,
}
use Rattle.pattern.proofs.Tests.{Vertex}
use Rattle.pattern.proofs.Lines.{under_self}
use Rattle.pattern.proofs.Joins.{shares_parts}
use Rattle.pattern.proofs.Paths.{edge}
use Rattle.pattern.proofs.Tree.{parents_grow, way_lies}
use Rattle.pattern.proofs.Forest.{under_parts, under_level_le}
use Rattle.pattern.proofs.Places.{place_bounds, place_apart, interval}
use Rattle.pattern.proofs.Meets.{meet_of_both, meet_has_both}
use Rattle.pattern.proofs.Tops.{top_meets}

-- no event, and one event more
pub happened_none : (y w : ℕ) → happened y w [] ≡ false
unfolding happened
happened_none y w = refl

pub happened_more : (x u : ℕ) (es : List (ℕ × ℕ)) (y w : ℕ) →
    happened y w ((x, u) ∷ es) ≡ ((eqb x y && eqb u w) || happened y w es)
unfolding happened
happened_more x u es y w = refl

pub happened_now : (x u : ℕ) (es : List (ℕ × ℕ)) → happened x u ((x, u) ∷ es) ≡ true
unfolding happened
happened_now x u es = or_left _ _ (and_from _ _ (eq-eqb x x refl) (eq-eqb u u refl))

pub happened_before : (x u : ℕ) (es : List (ℕ × ℕ)) (y w : ℕ) → happened y w es ≡ true →
    happened y w ((x, u) ∷ es) ≡ true
unfolding happened
happened_before x u es y w h = or_right _ _ h

pub happened_cases : (x u : ℕ) (es : List (ℕ × ℕ)) (y w : ℕ) → happened y w ((x, u) ∷ es) ≡ true →
    ((x ≡ y) × (u ≡ w)) ⊎ (happened y w es ≡ true)
unfolding happened
happened_cases x u es y w h =
    elim (or_cases _ _ h) [
      | inl m ↦ let (a, b) = and_parts _ _ m in inl (eqb-true x y a, eqb-true u w b)
      | inr m ↦ inr m
    ]

pub last_none : (w : ℕ) → last_met w [] ≡ 0
unfolding last_met
last_none w = refl

pub last_more : (x u : ℕ) (es : List (ℕ × ℕ)) (w : ℕ) →
    last_met w ((x, u) ∷ es) ≡ cond (eqb u w) x (last_met w es)
unfolding last_met
last_more x u es w = refl

module _ (p : Pattern) where
  pub last_place_none : (w : ℕ) → last_place p w [] ≡ 0
  unfolding last_place
  last_place_none w = cond-true _ _ _ (eq-eqb (last_met w []) 0 (last_none w))

  pub last_place_more : (x u : ℕ) (es : List (ℕ × ℕ)) → 1 ≤ x → (w : ℕ) →
      last_place p w ((x, u) ∷ es) ≡ cond (eqb u w) (place_of p x) (last_place p w es)
  unfolding last_place
  last_place_more x u es some w = let m = last_more x u es w in grind (arith, nat_tests)

  place_met : (u : ℕ) (es : List (ℕ × ℕ)) → 1 ≤ last_place p u es →
      (1 ≤ last_met u es) × (last_place p u es ≡ place_of p (last_met u es))
  unfolding last_place
  place_met u es some = grind (arith, nat_tests)

  pub bend_is : (x u : ℕ) (es : List (ℕ × ℕ)) →
      bend_at p x u es ≡ cond (eqb (last_met u es) 0) u (meet_of p (last_met u es) x)
  unfolding bend_at
  bend_is x u es = refl

  -- the first of row u joins it at u
  pub bend_first : (x u : ℕ) (es : List (ℕ × ℕ)) → last_met u es ≡ 0 → bend_at p x u es ≡ u
  unfolding bend_at
  bend_first x u es e = cond-true _ _ _ (eq-eqb (last_met u es) 0 e)

  pub bend_later : (x u : ℕ) (es : List (ℕ × ℕ)) → 1 ≤ last_met u es → bend_at p x u es ≡ meet_of p (last_met u es) x
  unfolding bend_at
  bend_later x u es l = cond-false _ _ _ (ne_eqb (last_met u es) 0 (λ e. omega arith))

  pub row_none : (w : ℕ) → row_so_far p w [] ≡ 1
  unfolding row_so_far
  row_none w = refl

  pub row_more : (x u : ℕ) (es : List (ℕ × ℕ)) (w : ℕ) →
      row_so_far p w ((x, u) ∷ es)
      ≡ cond (eqb u w) (row_so_far p w es + (level_of p x - level_of p (bend_at p x u es))) (row_so_far p w es)
  unfolding row_so_far
  row_more x u es w = grind (arith, nat_tests)

  -- of u itself
  pub row_own : (x u : ℕ) (es : List (ℕ × ℕ)) →
      row_so_far p u ((x, u) ∷ es) ≡ row_so_far p u es + (level_of p x - level_of p (bend_at p x u es))
  row_own x u es = row_more x u es u ∙ cond-true _ _ _ (eq-eqb u u refl)

  pub row_other : (x u : ℕ) (es : List (ℕ × ℕ)) (w : ℕ) → (u ≡ w → ⊥) →
      row_so_far p w ((x, u) ∷ es) ≡ row_so_far p w es
  row_other x u es w d = row_more x u es w ∙ cond-false _ _ _ (ne_eqb u w d)

  pub weight_none : (v : ℕ) → weight_so_far p v [] ≡ pos 1 -ℤ pos (length (children p.order (parent p) v))
  unfolding weight_so_far
  weight_none v = refl

  pub weight_more : (x u : ℕ) (es : List (ℕ × ℕ)) (v : ℕ) →
      weight_so_far p v ((x, u) ∷ es)
      ≡ weight_so_far p v es +ℤ one_if v x -ℤ one_if v (bend_at p x u es)
  unfolding weight_so_far
  weight_more x u es v = refl

  -- passing lists
  placed_rest : (e : ℕ × ℕ) (es : List (ℕ × ℕ)) → by_place p (e ∷ es) ≡ true → by_place p es ≡ true
  unfolding by_place
  placed_rest e [] b = refl
  placed_rest e (f ∷ es) b = (and_parts _ _ b).1

  placed_first : (x u : ℕ) (es : List (ℕ × ℕ)) → by_place p ((x, u) ∷ es) ≡ true →
      (y w : ℕ) → happened y w es ≡ true → place_of p y ≤ place_of p x
  unfolding by_place
  placed_first x u [] b y w h = absurd (both_ways _ (happened_none y w) h)
  placed_first x u ((z, t) ∷ es) b y w h =
      let (l, s) = and_parts _ _ b in
      let a = leb-true (place_of p z) (place_of p x) l in
      elim (happened_cases z t es y w h) [
        | inl (e, _) ↦ omega (arith, ap (place_of p) e)
        | inr m ↦ omega (arith, placed_first z t es s y w m)
      ]

  placed_more : (x u : ℕ) (es : List (ℕ × ℕ)) → by_place p es ≡ true →
      ((y w : ℕ) → happened y w es ≡ true → place_of p y ≤ place_of p x) → by_place p ((x, u) ∷ es) ≡ true
  unfolding by_place
  placed_more x u [] b le = refl
  placed_more x u ((z, t) ∷ es) b le =
      and_from _ _ (le-leb (place_of p z) (place_of p x) (le z t (happened_now z t es))) b

  pub passing_none : Passing p []
  unfolding by_place
  passing_none = record { lower = λ x u h. absurd (both_ways _ (happened_none x u) h); placed = refl }

  -- x may be met as a lower neighbour of u if none met before stands at a later place
  pub passing_more : (x u : ℕ) (es : List (ℕ × ℕ)) → Passing p es → x < u → shares p x u ≡ true →
      ((y w : ℕ) → happened y w es ≡ true → place_of p y ≤ place_of p x) → Passing p ((x, u) ∷ es)
  passing_more x u es q low s le = record {
    lower = λ y w h. elim (happened_cases x u es y w h) [
      | inl (e, f) ↦ (omega arith, subst (λ z. shares p z w ≡ true) e (subst (λ z. shares p x z ≡ true) f s))
      | inr m ↦ q.lower y w m
    ];
    placed = placed_more x u es q.placed le;
  }

  pub passing_older : (x u : ℕ) (es : List (ℕ × ℕ)) → Passing p ((x, u) ∷ es) → Passing p es
  passing_older x u es q = record {
    lower = λ y w h. q.lower y w (happened_before x u es y w h);
    placed = placed_rest (x, u) es q.placed;
  }

  pub passing_part : (newer older : List (ℕ × ℕ)) → Passing p (newer ++ older) → Passing p older
  passing_part [] older q = q
  passing_part ((x, u) ∷ newer) older q = passing_part newer older (passing_older x u (newer ++ older) q)

  -- none met before stands at a later place
  pub older_placed : (x u : ℕ) (es : List (ℕ × ℕ)) → Passing p ((x, u) ∷ es) →
      (y w : ℕ) → happened y w es ≡ true → place_of p y ≤ place_of p x
  older_placed x u es q = placed_first x u es q.placed

  -- x is a lower neighbour of u: two vertices, the one below the other in the tree
  pub record Lower (x u : ℕ) : Type 0 where
    pub low : x < u
    pub entry : shares p x u ≡ true
    pub from : Vertex p.order x
    pub to : Vertex p.order u
    pub lies : in_subtree p x u ≡ true

  lower_from : (x u : ℕ) → x < u → shares p x u ≡ true → Lower x u
  lower_from x u low s = record {
    low = low;
    entry = s;
    from = (shares_parts p x u s).0.left;
    to = (shares_parts p x u s).0.right;
    lies = way_lies p u x low (edge x s);
  }

  pub met_lower : (es : List (ℕ × ℕ)) → Passing p es → (x u : ℕ) → happened x u es ≡ true → Lower x u
  met_lower es q x u h = let (low, s) = q.lower x u h in lower_from x u low s

  pub new_lower : (x u : ℕ) (es : List (ℕ × ℕ)) → Passing p ((x, u) ∷ es) → Lower x u
  new_lower x u es q = met_lower ((x, u) ∷ es) q x u (happened_now x u es)

  -- l was met as a lower neighbour of u, and none was at a later place
  pub record Newest (u l : ℕ) (es : List (ℕ × ℕ)) : Type 0 where
    pub met : happened l u es ≡ true
    pub latest : (y : ℕ) → happened y u es ≡ true → place_of p y ≤ place_of p l
    pub lower : Lower l u

  abbrev pub NoneOrNewest : ℕ → ℕ → List (ℕ × ℕ) → Type 0
  NoneOrNewest u l es = ((l ≡ 0) × ((y : ℕ) → happened y u es ≡ false)) ⊎ Newest u l es

  pub last_tells : (u : ℕ) (es : List (ℕ × ℕ)) → Passing p es → NoneOrNewest u (last_met u es) es
  last_tells u [] q = inl (last_none u, λ y. happened_none y u)
  last_tells u ((x, w) ∷ es) q =
      subst (λ l. NoneOrNewest u l ((x, w) ∷ es)) (sym (last_more x w es u))
      (elim (cases_eq w u) [
        | inl e ↦
            let now : happened x u ((x, w) ∷ es) ≡ true =
            subst (λ z. happened x z ((x, w) ∷ es) ≡ true) e (happened_now x w es) in
            subst (λ l. NoneOrNewest u l ((x, w) ∷ es)) (sym (cond-true _ _ _ (eq-eqb w u e)))
            (inr (record {
              met = now;
              latest = λ y h. elim (happened_cases x w es y u h) [
                | inl (s, _) ↦ omega (arith, ap (place_of p) s)
                | inr m ↦ older_placed x w es q y u m
              ];
              lower = met_lower ((x, w) ∷ es) q x u now;
            }))
        | inr d ↦
            subst (λ l. NoneOrNewest u l ((x, w) ∷ es)) (sym (cond-false _ _ _ (ne_eqb w u d)))
            (elim (last_tells u es (passing_older x w es q)) [
              | inl (z, none) ↦ inl (
                z,
                λ y. happened_more x w es y u ∙ or_from _ _ (and_right (eqb x y) _ (ne_eqb w u d)) (none y),
              )
              | inr new ↦ inr (record {
                met = happened_before x w es _ u new.met;
                latest = λ y h. new.latest y
                    (elim (happened_cases x w es y u h) [ inl (_, s) ↦ absurd (d s) | inr m ↦ m ]);
                lower = new.lower;
              })
            ])
      ])

  -- what was met last, if it is not 0
  pub last_newest : (u : ℕ) (es : List (ℕ × ℕ)) → Passing p es → 1 ≤ last_met u es → Newest u (last_met u es) es
  last_newest u es q l = elim (last_tells u es q) [ inl (e, _) ↦ absurd (omega arith) | inr new ↦ new ]

  -- it lies below u
  pub last_lower : (u : ℕ) (es : List (ℕ × ℕ)) → Passing p es → 1 ≤ last_met u es → Lower (last_met u es) u
  last_lower u es q l = (last_newest u es q l).lower

  pub last_fits : (u : ℕ) (es : List (ℕ × ℕ)) → Passing p es → last_met u es ≤ p.order
  last_fits u es q = elim (last_tells u es q) [ inl (e, _) ↦ omega arith | inr new ↦ new.lower.from.fits ]

  -- q is where the path from x joins row u: a vertex on the way from x to u
  pub record Bend (x u q : ℕ) : Type 0 where
    pub vertex : Vertex p.order q
    pub over : in_subtree p x q ≡ true
    pub lies : in_subtree p q u ≡ true
    pub level : level_of p q ≤ level_of p x

  bend_on : (x u q : ℕ) → in_subtree p x q ≡ true → in_subtree p q u ≡ true → Bend x u q
  bend_on x u q over lies =
      let ends = under_parts p.order (parent p) (parents_grow p) x q over in
      record {
        vertex = ends.1;
        over = over;
        lies = lies;
        level = under_level_le p.order (parent p) (parents_grow p) x ends.0.fits q over;
      }

  -- the meeting vertex with what was met last lies over both and under u
  pub bend_both : (x u : ℕ) (es : List (ℕ × ℕ)) → Passing p ((x, u) ∷ es) → 1 ≤ last_met u es →
      (in_subtree p (last_met u es) (bend_at p x u es) ≡ true)
      × (in_subtree p x (bend_at p x u es) ≡ true)
      × (in_subtree p (bend_at p x u es) u ≡ true)
  bend_both x u es q l =
      let n = p.order in
      let g = parents_grow p in
      let below = last_lower u es (passing_older x u es q) l in
      let lies = meet_of_both n (parent p) g (last_met u es) x u below.lies (new_lower x u es q).lies in
      let m = (under_parts n (parent p) g _ u lies).0 in
      let (a, b) = meet_has_both n (parent p) g (last_met u es) x below.from.fits m.named in
      subst (λ q. (in_subtree p (last_met u es) q ≡ true) × (in_subtree p x q ≡ true) × (in_subtree p q u ≡ true))
      (sym (bend_later x u es l)) (a, b, lies)

  pub bend_lies : (x u : ℕ) (es : List (ℕ × ℕ)) → Passing p ((x, u) ∷ es) → Bend x u (bend_at p x u es)
  bend_lies x u es q =
      elim (last_tells u es (passing_older x u es q)) [
        | inl (e, _) ↦
            let new = new_lower x u es q in
            subst (Bend x u) (sym (bend_first x u es e))
            (bend_on x u u new.lies (under_self p.order (parent p) (parents_grow p) u new.to))
        | inr last ↦ let (_, over, lies) = bend_both x u es q last.lower.from.named in bend_on x u _ over lies
      ]

  -- what was met last has the bend for its top when x is about to be passed
  pub bend_top : (x u : ℕ) (es : List (ℕ × ℕ)) → Passing p ((x, u) ∷ es) → 1 ≤ last_met u es →
      (place_of p (last_met u es) ≤ place_of p x)
      × (top_after p.order (parent p) (place_of p x - 1) (last_met u es) ≡ bend_at p x u es)
  bend_top x u es q l =
      let last = last_newest u es (passing_older x u es q) l in
      let new = new_lower x u es q in
      let le = older_placed x u es q (last_met u es) u last.met in (
        le,
        top_meets p.order (parent p) (parents_grow p) x new.from u new.lies
            (last_met u es) last.lower.from.fits last.lower.lies le ∙ sym (bend_later x u es l),
      )

  -- the same where x stands at place t + 1
  pub bend_top_at : (x u : ℕ) (es : List (ℕ × ℕ)) → Passing p ((x, u) ∷ es) → 1 ≤ last_met u es →
      (t : ℕ) → place_of p x ≡ suc t → top_after p.order (parent p) t (last_met u es) ≡ bend_at p x u es
  bend_top_at x u es q l t at =
      ap (λ k. top_after p.order (parent p) k (last_met u es)) (let k : t ≡ place_of p x - 1 = omega arith in k)
      ∙ (bend_top x u es q l).1

  -- what was met stays so
  pub under_before : (x u : ℕ) (es : List (ℕ × ℕ)) (y w : ℕ) → MetUnder p y w es → MetUnder p y w ((x, u) ∷ es)
  under_before x u es y w (z, met, lies) = (z, happened_before x u es z w met, lies)

  -- x is met, and lies in its own subtree
  pub under_now : (x u : ℕ) (es : List (ℕ × ℕ)) → Vertex p.order x → MetUnder p x u ((x, u) ∷ es)
  under_now x u es h = (x, happened_now x u es, under_self p.order (parent p) (parents_grow p) x h)

  -- what was met last at a place from the first of x to that of x lies in the subtree of x
  pub under_last : (x u : ℕ) (es : List (ℕ × ℕ)) → Passing p es → Vertex p.order x →
      ((y w : ℕ) → happened y w es ≡ true → place_of p y ≤ place_of p x) →
      first_place_of p x ≤ last_place p u es → MetUnder p x u es
  under_last x u es q h early from =
      let i = interval p.order (parent p) (parents_grow p) x h in
      let b = i.begins in
      let (some, at) = place_met u es (omega arith) in
      let last = last_newest u es q some in
      let v = last.lower.from in
      (last_met u es, last.met, (i.exactly (last_met u es) v.named v.fits).1 (omega arith, early _ u last.met))

  -- every lower neighbour up to place k has one met in its subtree: at first, one place more, at the end
  abbrev pub MetTo : ℕ → List (ℕ × ℕ) → Type 0
  MetTo k es = (y u : ℕ) → y < u → shares p y u ≡ true → place_of p y ≤ k → MetUnder p y u es

  pub met_to_none : MetTo 0 []
  met_to_none y u low s le =
      let b = place_bounds p.order (parent p) (parents_grow p) y (shares_parts p y u s).0.left in
      absurd (omega arith)

  pub met_to_next : (k z : ℕ) (es : List (ℕ × ℕ)) → 1 ≤ z → z ≤ p.order → place_of p z ≡ suc k → MetTo k es →
      ((u : ℕ) → z < u → shares p z u ≡ true → MetUnder p z u es) → MetTo (suc k) es
  met_to_next k z es named fits at before own y u low s le =
      elim (cases_lt k (place_of p y)) [
        | inl late ↦
            let h = (shares_parts p y u s).0.left in
            let e = place_apart p.order (parent p) (parents_grow p) y z h (record { named = named; fits = fits })
            (omega arith) in
            subst (λ y. MetUnder p y u es) (sym e)
            (own u (omega arith) (subst (λ y. shares p y u ≡ true) e s))
        | inr early ↦ before y u low s early
      ]

  pub met_to_end : (es : List (ℕ × ℕ)) → Passing p es → MetTo p.order es → Passed p es
  met_to_end es q all = record {
    passing = q;
    covers = λ y u low s.
        all y u low s
        (place_bounds p.order (parent p) (parents_grow p) y (shares_parts p y u s).0.left).1;
  }
