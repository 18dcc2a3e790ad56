-- The structure row by row: columns as they are begun, the climbs of a row, and all rows.
use Rattle.std.proofs.Common.{◌≡◌, ◌≢◌, ℕ, ◌+◌, ◌-◌, ◌<◌, ◌≤◌, true, ◌⊎◌, get_or, sym, refl, ap, ◌∙◌, subst, inl, inr, arith}
use Rattle.std.proofs.lemmas.Bool.{cases_Bool, cases_eq, cases_lt, both_ways}
use Rattle.pattern.specs.Patterns.{Pattern, shares}
use Rattle.pattern.specs.Elimination.{fill, parent}
use Rattle.pattern.specs.Structure.{taken, rows}
use Rattle.pattern.specs.Filling.{cursor, Written, Filled, InRow, Climbing, Rest, Climbed}
use Rattle.pattern.proofs.Tests.{Vertex}
use Rattle.pattern.proofs.Lines.{Climb, here, step, climb_of, climb_le}
use Rattle.pattern.proofs.Tree.{parents_grow, parent_joined}
use Rattle.pattern.proofs.Rows.{fill_touches, sharing_fill}
use Rattle.pattern.proofs.Columns.{taken_grows}
use Rattle.pattern.proofs.Cursors.{cursor_within, cursor_other, cursor_own, cursor_some, cursor_more, cursor_root, cursor_begun, low_vertex, parent_low, last_row, row_before, row_next, row_begun}

-- the cursor of column v was set to a place
pub record Placed (v place : ℕ) (C C' : ℕ → ℕ) : Type 0 where
  pub at : C' v ≡ place
  pub others : (w : ℕ) → w ≢ v → C' w ≡ C w

-- u was written at the cursor of column v, which moved on
pub record Appended (u v : ℕ) (C R C' R' : ℕ → ℕ) : Type 0 where
  pub cursor : C' v ≡ C v + 1
  pub others : (w : ℕ) → w ≢ v → C' w ≡ C w
  pub row : R' (C v) ≡ u
  pub places : (j : ℕ) → j ≢ C v → R' j ≡ R j

module _ (p : Pattern) where
  pub rest_none : (C R : ℕ → ℕ) → Rest p C R C R
  rest_none C R = record { first = refl; cursors = λ j _. refl; places = λ j _. refl }

  pub rest_then : {C R C' R' C'' R'' : ℕ → ℕ} → Rest p C R C' R' → Rest p C' R' C'' R'' → Rest p C R C'' R''
  rest_then a b =
      record {
        first = b.first ∙ a.first;
        cursors = λ j h. b.cursors j h ∙ a.cursors j h;
        places = λ j h. b.places j h ∙ a.places j h;
      }

  pub rest_placed : {v place : ℕ} {C C' : ℕ → ℕ} (R : ℕ → ℕ) → Vertex p.order v → Placed v place C C' → Rest p C R C' R
  rest_placed R vv put =
      record {
        first = put.others 0 (λ e. omega (arith, vv.named));
        cursors = λ j h. put.others j (λ e. omega (arith, vv.fits));
        places = λ j _. refl;
      }

  -- a place of column v
  pub record Within (v j : ℕ) : Type 0 where
    pub vertex : Vertex p.order v
    pub from : taken p (v - 1) ≤ j
    pub under : j < taken p v

  -- columns have no place in common
  apart : (v w i j : ℕ) → Within v i → Within w j → v ≢ w → i ≢ j
  apart v w i j a b other same =
      elim (cases_lt v w) [
        | inl less ↦ omega (arith, a.under, b.from, taken_grows p v (w - 1) (omega arith))
        | inr le ↦ omega (arith, b.under, a.from, taken_grows p w (v - 1) (omega (arith, other)))
      ]

  pub rest_appended : {u v : ℕ} {C R C' R' : ℕ → ℕ} → Within v (C v) → Appended u v C R C' R' → Rest p C R C' R'
  rest_appended {v} h put =
      let vv = h.vertex in
      let low = h.under in
      let more = taken_grows p v p.order vv.fits in
      record {
        first = put.others 0 (λ e. omega (arith, vv.named));
        cursors = λ j past. put.others j (λ e. omega (arith, vv.fits));
        places = λ j past. put.places j (λ e. omega arith);
      }

  -- one row more is written where it belongs
  written_more : {k u v : ℕ} {C R C' R' : ℕ → ℕ} → k ≤ p.order →
      ((w : ℕ) → 1 ≤ w → w ≤ k → C w ≤ taken p w) → Written p k C R → Within v (C v) →
      get_or (rows p) (C v) 0 ≡ u → Appended u v C R C' R' → Written p k C' R'
  written_more {v} {C} {R} {C'} {R'} fits bound written h is put w j some le from under =
      elim (cases_eq w v) [
        | inl same ↦ elim (cases_eq j (C v)) [
          | inl at ↦ ap R' at ∙ put.row ∙ sym is ∙ ap (λ i. get_or (rows p) i 0) (sym at)
          | inr other ↦
              put.places j other
              ∙ written w j some le from (omega (arith, ap C' same, ap C same, put.cursor))
        ]
        | inr other ↦
            let same = put.others w other in
            let here : Within w j = record {
              vertex = record { named = some; fits = omega arith };
              from = from;
              under = omega (arith, bound w some le);
            } in
            put.places j (λ e. apart v w (C v) j h here (λ f. other (sym f)) (sym e))
            ∙ written w j some le from (omega arith)
      ]

  -- of no columns, nothing is asked
  pub filled_none : (C R : ℕ → ℕ) → Filled p 0 0 C R
  filled_none C R =
      record {
        cursors = λ v some le. absurd (omega (arith, some, le));
        written = λ v j some le. absurd (omega (arith, some, le));
      }

  filled_within : {k u : ℕ} {C R : ℕ → ℕ} → k ≤ p.order → u ≤ p.order → Filled p k u C R →
      (w : ℕ) → 1 ≤ w → w ≤ k → C w ≤ taken p w
  filled_within {u = u} fits low filled w some le =
      omega (
        arith,
        filled.cursors w some le,
        cursor_within p w u (record { named = some; fits = omega arith }) low,
      )

  -- column v is begun at its place: its rows are none yet
  module _ {v : ℕ} {C R C' : ℕ → ℕ} (vv : Vertex p.order v) (before : Filled p (v - 1) 0 C R)
      (put : Placed v (taken p (v - 1)) C C') where
    written_placed : Written p v C' R
    written_placed w j some le from under =
        elim (cases_eq w v) [
          | inl same ↦ absurd (omega (arith, ap C' same, put.at, ap (λ x. taken p (x - 1)) same))
          | inr other ↦ before.written w j some (omega arith) from (omega (arith, put.others w other))
        ]

    cursors_placed : (w : ℕ) → 1 ≤ w → w ≤ v → w ≢ v → C' w ≡ cursor p 0 w
    cursors_placed w some le other = put.others w other ∙ before.cursors w some (omega arith)

    pub begun_root : parent p v ≡ 0 → Filled p v 0 C' R
    begun_root root =
        record {
          cursors = λ w some le. elim (cases_eq w v) [
            | inl same ↦ ap C' same ∙ put.at ∙ sym (cursor_root p v root) ∙ ap (cursor p 0) (sym same)
            | inr other ↦ cursors_placed w some le other
          ];
          written = written_placed;
        }

    module _ (some : 1 ≤ parent p v) where
      pub within_begun : Within v (C' v)
      within_begun =
          let room = cursor_within p v 0 vv (omega arith) in
          record {
            vertex = vv;
            from = omega (arith, put.at);
            under = omega (arith, put.at, cursor_begun p v some);
          }

      pub begun_parent : {D S : ℕ → ℕ} → Appended (parent p v) v C' R D S → Filled p v 0 D S
      begun_parent {D} more =
          record {
            cursors = λ w named le. elim (cases_eq w v) [
              | inl same ↦
                  ap D same ∙ more.cursor ∙ ap (λ c. c + 1) put.at ∙ sym (cursor_begun p v some)
                  ∙ ap (cursor p 0) (sym same)
              | inr other ↦ more.others w other ∙ cursors_placed w named le other
            ];
            written = written_more vv.fits bound written_placed within_begun
                (ap (λ j. get_or (rows p) j 0) put.at ∙ row_begun p v some) more;
          }
        where
          bound : (w : ℕ) → 1 ≤ w → w ≤ v → C' w ≤ taken p w
          bound w named le = elim (cases_eq w v) [
            | inl same ↦
                let room = within_begun.under in
                omega (arith, ap C' same, ap (taken p) same)
            | inr other ↦
                let vw : Vertex p.order w = record { named = named; fits = omega (arith, vv.fits) } in
                omega (arith, cursors_placed w named le other, cursor_within p w 0 vw (omega arith))
          ]

  -- the climb from x has come to v
  pub record ClimbAt (u x v : ℕ) (C₀ R₀ C R : ℕ → ℕ) : Type 0 where
    pub row : InRow p u v
    pub climbing : Climbing p u v C R
    pub met : (x ≡ v) ⊎ (C x ≡ cursor p u x)
    pub kept : (w : ℕ) → 1 ≤ w → w ≤ p.order → C₀ w ≡ cursor p u w → C w ≡ cursor p u w
    pub rest : Rest p C₀ R₀ C R

  -- row u
  module _ (u : ℕ) (uu : Vertex p.order u) where
    -- column v has u last, or it has its rows before u, with its parent among them, and u is to come
    data Stands (v : ℕ) (C R : ℕ → ℕ) : Type 0 where
      has : C v ≡ cursor p u v → R (C v - 1) ≡ u → Stands v C R
      lacks : C v ≡ cursor p (u - 1) v → parent p v < u → R (C v - 1) < u → Stands v C R

    module _ {y v : ℕ} {C R : ℕ → ℕ} (climbing : Climbing p u y C R) (row : InRow p u v) where
      vv : Vertex p.order v
      vv = low_vertex p v u uu.fits row

      stands_last : C v ≡ cursor p u v → taken p (v - 1) < cursor p u v → Stands v C R
      stands_last e some =
          has e
          (climbing.written v (C v - 1) vv.named vv.fits (omega arith) (omega arith)
          ∙ ap (λ c. get_or (rows p) (c - 1) 0) e ∙ last_row p v u uu.fits row)

      stands : Stands v C R
      stands =
          let some = cursor_some p v u uu.fits row in
          elim (cases_lt (parent p v) u) [
            | inl less ↦
                let more = cursor_more p v u uu.fits row less in
                elim (climbing.cursors v vv.named vv.fits) [
                  | inr e ↦ stands_last e (omega arith)
                  | inl e ↦
                      let same = climbing.written v (C v - 1) vv.named vv.fits (omega arith) (omega arith)
                      ∙ ap (λ c. get_or (rows p) (c - 1) 0) e in
                      lacks e less (omega (arith, row_before p v u uu.fits row less))
                ]
            | inr le ↦
                let same = cursor_own p v u uu.fits row (omega (arith, (parent_low p v u uu.fits row).1)) in
                elim (climbing.cursors v vv.named vv.fits) [
                  | inr e ↦ stands_last e (omega arith)
                  | inl e ↦ stands_last (e ∙ same) (omega arith)
                ]
          ]

      -- the column has a row, and no more than belong to it
      pub cursor_bounds : (taken p (v - 1) < C v) × (C v ≤ taken p v)
      cursor_bounds =
          let some = cursor_some p v u uu.fits row in
          let early = cursor_within p v (u - 1) vv (omega (arith, uu.fits)) in
          let late = cursor_within p v u vv uu.fits in
          elim stands [
            | lacks e _ _ ↦ (omega arith, omega arith)
            | has e _ ↦ elim (cases_lt (parent p v) u) [
              | inl less ↦ (omega (arith, cursor_more p v u uu.fits row less), omega arith)
              | inr le ↦
                  let same = cursor_own p v u uu.fits row (omega (arith, (parent_low p v u uu.fits row).1)) in
                  (omega arith, omega arith)
            ]
          ]

    pub climb_begins : {x : ℕ} {C R : ℕ → ℕ} → InRow p u x → Climbing p u 0 C R → ClimbAt u x x C R C R
    climb_begins {x} {C} {R} row climbing =
        record {
          row = row;
          climbing = record {
            cursors = climbing.cursors;
            written = climbing.written;
            closed = λ w low e _.
                climbing.closed w low e (λ none. omega (arith, none, (parent_low p w u uu.fits low).0));
          };
          met = inl refl;
          kept = λ w _ _ e. e;
          rest = rest_none C R;
        }

    module _ {x v : ℕ} {C₀ R₀ C R : ℕ → ℕ} (at : ClimbAt u x v C₀ R₀ C R) where
      -- column v has u: so have those above it
      pub climb_ends : R (C v - 1) ≡ u → Climbed p u x C₀ R₀ C R
      climb_ends last = elim (stands at.climbing at.row) [
        | lacks _ _ less ↦ absurd (omega arith)
        | has e _ ↦ record {
          done = record {
            cursors = at.climbing.cursors;
            written = at.climbing.written;
            closed = λ w low f _. elim (cases_eq (parent p w) v) [
              | inl same ↦ subst (λ y. C y ≡ cursor p u y) (sym same) e
              | inr other ↦ at.climbing.closed w low f other
            ];
          };
          met = elim at.met [ inl same ↦ subst (λ y. C y ≡ cursor p u y) (sym same) e | inr had ↦ had ];
          kept = at.kept;
          rest = at.rest;
        }
      ]

      pub record Lacks : Type 0 where
        pub within : Within v (C v)
        pub above : (1 ≤ parent p v) × (parent p v < u)
        pub due : C v + 1 ≡ cursor p u v
        pub next : get_or (rows p) (C v) 0 ≡ u
        pub row : InRow p u (parent p v)

      -- column v is still to have u, and so is its parent's, or it had it before
      pub climb_lacks : R (C v - 1) ≢ u → Lacks
      climb_lacks other = elim (stands at.climbing at.row) [
        | has _ e ↦ absurd (other e)
        | lacks e less _ ↦
            let vw = low_vertex p v u uu.fits at.row in
            let more = cursor_more p v u uu.fits at.row less in
            let bound = cursor_within p v u vw uu.fits in
            let some = (parent_low p v u uu.fits at.row).0 in
            record {
              within = record {
                vertex = vw;
                from = omega (arith, cursor_some p v u uu.fits at.row);
                under = omega arith;
              };
              above = (some, less);
              due = omega arith;
              next = ap (λ c. get_or (rows p) c 0) e ∙ row_next p v u uu.fits at.row less;
              row = record {
                under = less;
                joined = elim (parent_joined p v u at.row.under at.row.joined).1 [
                  | inl same ↦ absurd (omega arith)
                  | inr joins ↦ joins
                ];
              };
            }
      ]

      cursors_within : (w : ℕ) → 1 ≤ w → w ≤ p.order → C w ≤ taken p w
      cursors_within w some le =
          let vw : Vertex p.order w = record { named = some; fits = le } in
          elim (at.climbing.cursors w some le) [
            | inl e ↦ omega (arith, cursor_within p w (u - 1) vw (omega (arith, uu.fits)))
            | inr e ↦ omega (arith, cursor_within p w u vw uu.fits)
          ]

      -- u is written there, and the climb goes on to the parent
      pub climb_step : {C' R' : ℕ → ℕ} → R (C v - 1) ≢ u → Appended u v C R C' R' → ClimbAt u x (parent p v) C₀ R₀ C' R'
      climb_step {C'} {R'} other put =
          record {
            row = lacks.row;
            climbing = record {
              cursors = λ w some le. elim (cases_eq w v) [
                | inl same ↦ inr (has_now w same)
                | inr away ↦ elim (at.climbing.cursors w some le) [
                  | inl e ↦ inl (put.others w away ∙ e)
                  | inr e ↦ inr (put.others w away ∙ e)
                ]
              ];
              written = written_more (omega arith) cursors_within at.climbing.written lacks.within lacks.next put;
              closed = λ w low e past. elim (cases_eq (parent p w) v) [
                | inl same ↦ has_now (parent p w) same
                | inr away ↦ elim (cases_eq w v) [
                  | inl same ↦ absurd (past (ap (parent p) same))
                  | inr off ↦
                      put.others (parent p w) away
                      ∙ at.climbing.closed w low (sym (put.others w off) ∙ e) away
                ]
              ];
            };
            met = elim at.met [ inl same ↦ inr (has_now x same) | inr had ↦ inr (still x had) ];
            kept = λ w some le e. still w (at.kept w some le e);
            rest = rest_then at.rest (rest_appended lacks.within put);
          }
        where
          lacks : Lacks
          lacks = climb_lacks other

          has_now : (w : ℕ) → w ≡ v → C' w ≡ cursor p u w
          has_now w same =
              subst (λ y. C' y ≡ cursor p u y) (sym same) (put.cursor ∙ lacks.due)

          still : (w : ℕ) → C w ≡ cursor p u w → C' w ≡ cursor p u w
          still w e = elim (cases_eq w v) [ inl same ↦ has_now w same | inr away ↦ put.others w away ∙ e ]

    -- the rows before u are written: no column has u yet but those of the children of u
    pub row_begins : {C R : ℕ → ℕ} → Filled p p.order (u - 1) C R → Climbing p u 0 C R
    row_begins {C} filled =
        record {
          cursors = λ w some le. inl (filled.cursors w some le);
          written = filled.written;
          closed = λ w low e _. elim (cases_lt (parent p w) u) [
            | inl less ↦
                let vw = low_vertex p w u uu.fits low in
                absurd (omega (arith, filled.cursors w vw.named vw.fits, cursor_more p w u uu.fits low less))
            | inr le ↦
                let same : parent p w ≡ u = omega (arith, (parent_low p w u uu.fits low).1) in
                subst (λ y. C y ≡ cursor p u y) (sym same)
                (filled.cursors u uu.named uu.fits
                ∙ sym (cursor_other p u u uu.named (λ own. omega (arith, own.under))))
          ];
        }

    -- every lower neighbour was climbed from, and so the row is done
    module _ {C R : ℕ → ℕ} (climbing : Climbing p u 0 C R)
        (met : (x : ℕ) → x < u → shares p x u ≡ true → C x ≡ cursor p u x) where
      carried : {v x : ℕ} → Climb p.order (parent p) v x → v < u → InRow p u x → C x ≡ cursor p u x → C v ≡ cursor p u v
      carried (here vx) less row e = e
      carried {v} (step x vx c) less row e =
          let low = (parent_low p x u uu.fits row).0 in
          let under = climb_le (parents_grow p) c in
          let joined : fill p (parent p x) u ≡ true = elim (parent_joined p x u row.under row.joined).1 [
            | inl same ↦ absurd (omega arith)
            | inr joins ↦ joins
          ] in
          carried c less (record { under = omega arith; joined = joined })
          (climbing.closed x row e (λ none. omega arith))

      reached : (v : ℕ) → InRow p u v → C v ≡ cursor p u v
      reached v row =
          let t = fill_touches p v u row.under row.joined in
          let c = climb_of p.order (parent p) t.at v t.lies in
          let less : t.at < u = omega (arith, climb_le (parents_grow p) c, row.under) in
          carried c row.under (record { under = less; joined = sharing_fill p t.at u less t.entry })
          (met t.at less t.entry)

      pub row_ends : Filled p p.order u C R
      row_ends =
          record {
            cursors = λ v some le. elim (climbing.cursors v some le) [
              | inr e ↦ e
              | inl e ↦ elim (cases_lt v u) [
                | inr past ↦ e ∙ sym (cursor_other p v u uu.named (λ row. omega (arith, row.under)))
                | inl less ↦ elim (cases_Bool (fill p v u)) [
                  | inl joins ↦ reached v (record { under = less; joined = joins })
                  | inr not ↦ e ∙ sym (cursor_other p v u uu.named (λ row. both_ways _ not row.joined))
                ]
              ]
            ];
            written = climbing.written;
          }
