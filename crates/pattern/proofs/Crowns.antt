-- The tree grown row by row: the laws of crowns, which vertices a row gives their parent, and the tables row by row.
use Rattle.std.proofs.Common.{◌≡◌, ℕ, zero, suc, ◌+◌, ◌<◌, ◌≤◌, true, false, cond, not, ◌&&◌, eqb, ◌⊎◌, ◌↔◌, sym, refl, ap, ◌∙◌, subst, inl, inr, arith}
use Rattle.std.proofs.lemmas.Bool.{cases_eq, cases_lt, cond-true, cond-false, eq-eqb, ne_eqb}
use Rattle.std.proofs.lemmas.Bool.Decides.{nat_tests}
use Rattle.pattern.specs.Patterns.{Pattern, shares}
use Rattle.pattern.specs.Elimination.{parent}
use Rattle.pattern.specs.Forest.{Grows, under}
use Rattle.pattern.specs.Fill.{in_subtree}
use Rattle.pattern.specs.Crowns.{crown, crown_of, cut, AfterRows, InRow, Adopts}
use Rattle.pattern.proofs.Forest.{parent_vertex}
use Rattle.pattern.proofs.Tests.{Vertex}
use Rattle.pattern.proofs.Lines.{
  Climb,
  here,
  step,
  climb_of,
  under_of,
  climb_start,
  climb_end,
  climb_up,
  climb_le,
  chain,
  under_le,
}
use Rattle.pattern.proofs.Joins.{shares_parts}
use Rattle.pattern.proofs.Tree.{IsParent, parent_is, parents_grow, parent_of_joined}
use Rattle.pattern.proofs.Rows.{fill_touches, touches_fill}

-- c is the highest of x and its ancestors that is numbered at most u, or x itself
pub record IsCrown (n : ℕ) (up : ℕ → ℕ) (u x c : ℕ) : Type 0 where
  pub lies : Climb n up c x
  pub low : x ≤ u → c ≤ u
  pub ends : (up c ≡ 0) ⊎ (u < up c)
  pub own : u ≤ x → c ≡ x

pub crown_start : (up : ℕ → ℕ) (x : ℕ) → crown up 0 x ≡ x
unfolding crown
crown_start up x = refl

-- one row more
pub crown_step : (up : ℕ → ℕ) (u x : ℕ) →
    crown up (suc u) x ≡ cond (eqb (up (crown up u x)) (suc u)) (suc u) (crown up u x)
unfolding crown
crown_step up u x = refl

module _ (n : ℕ) (up : ℕ → ℕ) (grows : Grows n up) where
  -- a parent is 0 or above
  parent_ends : (v : ℕ) → Vertex n v → (up v ≡ 0) ⊎ (v < up v)
  parent_ends v vv =
      elim (cases_lt 0 (up v)) [ inl some ↦ inr (grows.rises v vv.named vv.fits some) | inr none ↦ inl (omega arith) ]

  pub crown_is : (u x : ℕ) → Vertex n x → IsCrown n up u x (crown up u x)
  crown_is zero x vx =
      subst (IsCrown n up 0 x) (sym (crown_start up x))
      (record {
        lies = here vx;
        low = λ e. e;
        ends = elim (parent_ends x vx) [ inl none ↦ inl none | inr high ↦ inr (omega arith) ];
        own = λ _. refl;
      })
  crown_is (suc u) x vx =
      let c = crown up u x in
      let is = crown_is u x vx in
      subst (IsCrown n up (suc u) x) (sym (crown_step up u x))
      (elim (cases_eq (up c) (suc u)) [
        | inl same ↦
            let more = climb_up is.lies (parent_vertex n up grows c (climb_end is.lies) (omega arith)) in
            let climb : Climb n up (suc u) x = subst (λ d. Climb n up d x) same more in
            subst (IsCrown n up (suc u) x) (sym (cond-true _ _ _ (eq-eqb _ _ same)))
            (record {
              lies = climb;
              low = λ _. omega arith;
              ends = parent_ends (suc u) (climb_end climb);
              own = λ e. omega (arith, climb_le grows climb);
            })
        | inr other ↦
            subst (IsCrown n up (suc u) x) (sym (cond-false _ _ _ (ne_eqb _ _ other)))
            (record {
              lies = is.lies;
              low = λ e. elim (cases_lt u x) [
                | inl above ↦ omega (arith, is.own (omega arith))
                | inr within ↦ omega (arith, is.low within)
              ];
              ends = elim is.ends [ inl none ↦ inl none | inr more ↦ inr (omega arith) ];
              own = λ e. is.own (omega arith);
            })
      ])

  -- there is only one
  crown_meets : (u x : ℕ) {c d : ℕ} → IsCrown n up u x c → IsCrown n up u x d → Climb n up d c → c ≡ d
  crown_meets u x is' is (here vd) = refl
  crown_meets u x {d = d} is' is (step c vc more) =
      elim (cases_lt u x) [
        | inl above ↦ is'.own (omega arith) ∙ sym (is.own (omega arith))
        | inr within ↦
            elim is'.ends [
              | inl none ↦ absurd (omega (arith, (climb_start more).named))
              | inr high ↦ absurd (omega (arith, climb_le grows more, is.low within))
            ]
      ]

  pub crown_only : (u x c : ℕ) → IsCrown n up u x c → crown up u x ≡ c
  crown_only u x c is =
      let it = crown_is u x (climb_start is.lies) in
      elim (chain it.lies is.lies) [
        | inl above ↦ crown_meets u x it is above
        | inr under ↦ sym (crown_meets u x is it under)
      ]

  -- a crown is a vertex, and what it is the crown of lies under it
  pub crown_vertex : (u x : ℕ) → 1 ≤ x → x ≤ n → (1 ≤ crown up u x) × (crown up u x ≤ n)
  crown_vertex u x some fits =
      let v = climb_end (crown_is u x (record { named = some; fits = fits })).lies in (v.named, v.fits)

  pub crown_under : (u x : ℕ) → 1 ≤ x → x ≤ n → under n up x (crown up u x) ≡ true
  crown_under u x some fits = under_of n up grows (crown_is u x (record { named = some; fits = fits })).lies

  -- what has no parent up to u is the crown of all in its subtree
  pub crown_of_under : (u x r : ℕ) → under n up x r ≡ true → r ≤ u → (up r ≡ 0) ⊎ (u < up r) → crown up u x ≡ r
  crown_of_under u x r e within ends =
      let climb = climb_of n up x r e in
      crown_only u x r
      (record {
        lies = climb;
        low = λ _. within;
        ends = ends;
        own = λ h. omega (arith, h, within, climb_le grows climb);
      })

  pub crown_twice : (u x : ℕ) → 1 ≤ x → x ≤ n → crown up u (crown up u x) ≡ crown up u x
  crown_twice u x some fits =
      let is = crown_is u x (record { named = some; fits = fits }) in
      crown_only u (crown up u x) (crown up u x)
      (record { lies = here (climb_end is.lies); low = λ e. e; ends = is.ends; own = λ _. refl })

  -- of a vertex r that is its own crown at u: the vertices with that crown are just those of its subtree
  pub crown_subtree : (u x r : ℕ) → 1 ≤ x → x ≤ n → r ≤ u → crown up u r ≡ r →
      (under n up x r ≡ true) ↔ (crown up u x ≡ r)
  crown_subtree u x r some fits within own = (to, from)
    where
      from : crown up u x ≡ r → under n up x r ≡ true
      from e = subst (λ c. under n up x c ≡ true) e (crown_under u x some fits)

      to : under n up x r ≡ true → crown up u x ≡ r
      to e =
          let vr = climb_end (climb_of n up x r e) in
          crown_of_under u x r e within
          (subst (λ c. (up c ≡ 0) ⊎ (u < up c)) own (crown_is u r vr).ends)

  -- at last the crown is the root
  pub crown_root : (x : ℕ) → Vertex n x → up (crown up n x) ≡ 0
  crown_root x vx =
      let is = crown_is n x vx in
      let vc = climb_end is.lies in
      let stays = grows.stays (crown up n x) vc.named vc.fits in
      elim is.ends [ inl none ↦ none | inr high ↦ absurd (omega arith) ]

-- the crowns of a pattern: a row gives its parent to each crown of a lower neighbour, and to no other vertex
module _ (p : Pattern) where
  of_pattern : (u x : ℕ) → Vertex p.order x → IsCrown p.order (parent p) u x (crown_of p u x)
  of_pattern = crown_is p.order (parent p) (parents_grow p)

  crown_adopted : (u w x : ℕ) → w ≡ u + 1 → x < w → shares p x w ≡ true → parent p (crown_of p u x) ≡ w
  crown_adopted u w x next less s =
      let c = crown_of p u x in
      let is = of_pattern u x (shares_parts p x w s).0.left in
      let low : c < w = omega (arith, is.low (omega arith)) in
      let joins = touches_fill p c w x low (under_of p.order (parent p) (parents_grow p) is.lies) s in
      let q = parent_of_joined p c w low joins in
      elim is.ends [
        | inl none ↦ absurd (omega (arith, q.above))
        | inr high ↦ omega (arith, q.smallest w low joins)
      ]

  adopted_crown : (u w r : ℕ) → w ≡ u + 1 → parent p r ≡ w →
      (x : ℕ) × (x < w) × (shares p x w ≡ true) × (crown_of p u x ≡ r)
  adopted_crown u w r next is =
      let q : IsParent p r w = subst (IsParent p r) is (parent_is p r (omega arith)) in
      let above = q.above in
      let t = fill_touches p r w above q.joins in (
        t.at,
        omega (arith, under_le p.order (parent p) (parents_grow p) t.at r t.lies),
        t.entry,
        crown_of_under p.order (parent p) (parents_grow p) u t.at r t.lies (omega arith) (inr (omega arith)),
      )

  pub parent_by_crowns : (u w r : ℕ) → w ≡ u + 1 →
      (parent p r ≡ w) ↔ ((x : ℕ) × (x < w) × (shares p x w ≡ true) × (crown_of p u x ≡ r))
  parent_by_crowns u w r next = (
    adopted_crown u w r next,
    λ t. ap (parent p) (sym t.3) ∙ crown_adopted u w t.0 next t.1 t.2,
  )

cut_low : (u v : ℕ) → cut u v ≤ u
unfolding cut
cut_low u v = grind (arith, nat_tests)

cut_within : (u v : ℕ) → v ≤ u → cut u v ≡ v
unfolding cut
cut_within u v e = grind (arith, nat_tests)

-- a row more makes a difference only to that row's own vertex
cut_next : (u w v a : ℕ) → w ≡ u + 1 → a ≡ cond (eqb a w) v (cut u v) → (v ≡ w → a ≡ w) → a ≡ cut w v
unfolding cut
cut_next u w v a next before due = grind (arith, nat_tests)

-- x is adopted by find, store and merge: its top is w, and nothing is done; or it is not, and it is put below w
module _ (n x w : ℕ) (P T P' T' : ℕ → ℕ) where
  pub adopts_none : T x ≡ w → ((v : ℕ) → 1 ≤ v → v ≤ n → P' v ≡ P v) →
      ((y : ℕ) → 1 ≤ y → y ≤ n → T' y ≡ T y) → Adopts n x w P T P' T'
  adopts_none found parents tops =
      record {
        parents = λ v some fits. let e = parents v some fits in grind (arith, nat_tests);
        tops = λ y some fits. let e = tops y some fits in grind (arith, nat_tests);
      }

  pub adopts_one : (T x ≡ w → ⊥) → ((v : ℕ) → 1 ≤ v → v ≤ n → P' v ≡ cond (eqb v (T x)) w (P v)) →
      ((y : ℕ) → 1 ≤ y → y ≤ n → T' y ≡ cond (eqb (T y) (T x)) w (T y)) → Adopts n x w P T P' T'
  adopts_one found parents tops =
      record { parents = λ v some fits. let e = parents v some fits in grind (arith, nat_tests); tops = tops }

  -- the top of x is w now, and what had the top w has it still
  pub adopts_taken : Adopts n x w P T P' T' → 1 ≤ x → x ≤ n → T' x ≡ w
  adopts_taken a some fits = let e = a.tops x some fits in grind (arith, nat_tests)

  pub adopts_keeps : Adopts n x w P T P' T' → (y : ℕ) → 1 ≤ y → y ≤ n → T y ≡ w → T' y ≡ w
  adopts_keeps a y some fits had = let e = a.tops y some fits in grind (arith, nat_tests)

-- the entries of one adoption in the two tables, as plain numbers
step_parent : (v w c q t up k a b : ℕ) → t ≡ cond (eqb q w) w c → (v ≡ c → up ≡ w) →
    a ≡ cond (eqb a w) up k → b ≡ cond (eqb v t && not (eqb v w)) w a → b ≡ cond (eqb b w) up k
step_parent v w c q t up k a b top due before now = grind (arith, nat_tests)

step_top : (d w t a b y z : ℕ) → y ≡ cond (eqb a w) w d → b ≡ cond (eqb d t && not (eqb d w)) w a →
    z ≡ cond (eqb y t) w y → z ≡ cond (eqb b w) w d
step_top d w t a b y z top parent now = grind (arith, nat_tests)

-- the tables row by row
module _ (p : Pattern) where
  crown_fits : (u x : ℕ) → 1 ≤ x → x ≤ p.order → (1 ≤ crown_of p u x) × (crown_of p u x ≤ p.order)
  crown_fits u x some fits =
      let v = climb_end (of_pattern p u x (record { named = some; fits = fits })).lies in (v.named, v.fits)

  -- no row is done: no parent is known, and each vertex is its own top
  pub rows_start : (P T : ℕ → ℕ) → ((v : ℕ) → 1 ≤ v → v ≤ p.order → P v ≡ 0) →
      ((x : ℕ) → 1 ≤ x → x ≤ p.order → T x ≡ x) → AfterRows p 0 P T
  rows_start P T parents tops =
      record {
        parents = λ v some fits. omega (arith, parents v some fits, cut_low 0 (parent p v));
        tops = λ x some fits. tops x some fits ∙ sym (crown_start (parent p) x);
      }

  pub row_begin : (u w : ℕ) (P T : ℕ → ℕ) → w ≡ u + 1 → AfterRows p u P T → InRow p u w P T
  row_begin u w P T next after =
      record {
        next = next;
        parents = λ v some fits. after.parents v some fits ∙ sym (cond-false _ _ _ (fresh v some fits));
        tops = λ x some fits.
            let c = crown_fits u x some fits in
            after.tops x some fits ∙ sym (cond-false _ _ _ (fresh (crown_of p u x) c.0 c.1));
      }
    where
      fresh : (v : ℕ) → 1 ≤ v → v ≤ p.order → eqb (P v) w ≡ false
      fresh v some fits =
          ne_eqb (P v) w (λ e. omega (arith, e, next, after.parents v some fits, cut_low u (parent p v)))

  -- a lower neighbour x of w is adopted
  pub row_step : (u w x : ℕ) (P T P' T' : ℕ → ℕ) → x < w → shares p x w ≡ true → InRow p u w P T →
      Adopts p.order x w P T P' T' → InRow p u w P' T'
  row_step u w x P T P' T' less s in_row adopts =
      record {
        next = in_row.next;
        parents = λ v some fits.
            step_parent v w (crown_of p u x) (P (crown_of p u x)) (T x) (parent p v) (cut u (parent p v)) (P v) (P' v)
            (in_row.tops x vx.named vx.fits)
            (λ e. ap (parent p) e ∙ crown_adopted p u w x in_row.next less s)
            (in_row.parents v some fits) (adopts.parents v some fits);
        tops = λ y some fits.
            let c = crown_fits u y some fits in
            step_top (crown_of p u y) w (T x) (P (crown_of p u y)) (P' (crown_of p u y)) (T y) (T' y)
            (in_row.tops y some fits) (adopts.parents (crown_of p u y) c.0 c.1) (adopts.tops y some fits);
      }
    where
      vx : Vertex p.order x
      vx = (shares_parts p x w s).0.left

  -- all lower neighbours of w are adopted, so their top is w: the row is done
  pub row_end : (u w : ℕ) (P T : ℕ → ℕ) → InRow p u w P T →
      ((x : ℕ) → x < w → shares p x w ≡ true → T x ≡ w) → AfterRows p w P T
  row_end u w P T in_row adopted =
      record {
        parents = λ v some fits.
            cut_next u w (parent p v) (P v) in_row.next (in_row.parents v some fits) (due v);
        tops = λ x some fits.
            let c = crown_fits u x some fits in
            in_row.tops x some fits
            ∙ ap (λ t. cond t w (crown_of p u x)) (same_mark (crown_of p u x) c.0 c.1)
            ∙ sym (crown_next x);
      }
    where
      mark : (a c t : ℕ) → t ≡ cond (eqb a w) w c → c ≤ u → t ≡ w → a ≡ w
      mark a c t top low had = let next = in_row.next in grind (arith, nat_tests)

      -- a vertex whose parent is w has it by now
      due : (v : ℕ) → parent p v ≡ w → P v ≡ w
      due v is =
          let (x, less, s, crowned) = adopted_crown p u w v in_row.next is in
          let vx = (shares_parts p x w s).0.left in
          let low = (of_pattern p u x vx).low (omega (arith, in_row.next)) in
          let top = in_row.tops x vx.named vx.fits in
          ap P (sym crowned) ∙ mark (P (crown_of p u x)) (crown_of p u x) (T x) top low (adopted x less s)

      same_mark : (v : ℕ) → 1 ≤ v → v ≤ p.order → eqb (P v) w ≡ eqb (parent p v) w
      same_mark v some fits =
          let held = in_row.parents v some fits in let own = due v in grind (arith, nat_tests)

      crown_next : (x : ℕ) → crown_of p w x ≡ cond (eqb (parent p (crown_of p u x)) w) w (crown_of p u x)
      crown_next x =
          let e : suc u ≡ w = omega (arith, in_row.next) in
          subst (λ m. crown_of p m x ≡ cond (eqb (parent p (crown_of p u x)) m) m (crown_of p u x)) e
          (crown_step (parent p) u x)

  -- within a row, w is its own top, and so is the top of each vertex below w
  pub row_top : (u w : ℕ) (P T : ℕ → ℕ) → InRow p u w P T → w ≤ p.order → T w ≡ w
  row_top u w P T in_row fits =
      let some : 1 ≤ w = omega (arith, in_row.next) in
      let vw : Vertex p.order w = record { named = some; fits = fits } in
      let own = (of_pattern p u w vw).own (omega (arith, in_row.next)) in
      let top = in_row.tops w some fits in grind (arith, nat_tests)

  pub row_tops : (u w : ℕ) (P T : ℕ → ℕ) → InRow p u w P T → w ≤ p.order → (x : ℕ) → 1 ≤ x → x < w →
      (1 ≤ T x) × (T x ≤ w) × (T (T x) ≡ T x)
  row_tops u w P T in_row fits x some less =
      let vx : Vertex p.order x = record { named = some; fits = omega (arith, less, fits) } in
      elim (cases_eq (P (crown_of p u x)) w) [
        | inl has ↦
            let top : T x ≡ w = in_row.tops x some vx.fits ∙ cond-true _ _ _ (eq-eqb _ _ has) in
            (omega (arith, top, in_row.next), omega (arith, top), ap T top ∙ row_top u w P T in_row fits ∙ sym top)
        | inr none ↦
            let c = crown_fits u x some vx.fits in
            let low = (of_pattern p u x vx).low (omega (arith, less, in_row.next)) in
            let twice = crown_twice p.order (parent p) (parents_grow p) u x some vx.fits in
            let top : T x ≡ crown_of p u x = in_row.tops x some vx.fits ∙ cond-false _ _ _ (ne_eqb _ _ none) in
            let own : T (crown_of p u x) ≡ crown_of p u x =
            in_row.tops (crown_of p u x) c.0 c.1
            ∙ ap (λ d. cond (eqb (P d) w) w d) twice ∙ cond-false _ _ _ (ne_eqb _ _ none) in
            (omega (arith, top, c.0), omega (arith, top, low, in_row.next), ap T top ∙ own ∙ sym top)
      ]

  -- all rows are done: the parents are the tree's, and the top of each vertex is its root
  pub rows_end : (P T : ℕ → ℕ) → AfterRows p p.order P T → (v : ℕ) → 1 ≤ v → v ≤ p.order → P v ≡ parent p v
  rows_end P T after v some fits =
      after.parents v some fits ∙ cut_within p.order (parent p v) ((parents_grow p).stays v some fits)

  pub rows_end_tops : (P T : ℕ → ℕ) → AfterRows p p.order P T → (x : ℕ) → 1 ≤ x → x ≤ p.order →
      (in_subtree p x (T x) ≡ true) × (parent p (T x) ≡ 0)
  rows_end_tops P T after x some fits =
      let vx : Vertex p.order x = record { named = some; fits = fits } in
      let lies = under_of p.order (parent p) (parents_grow p) (of_pattern p p.order x vx).lies in
      let ends = crown_root p.order (parent p) (parents_grow p) x vx in
      subst (λ t. (in_subtree p x t ≡ true) × (parent p t ≡ 0)) (sym (after.tops x some fits)) (lies, ends)
