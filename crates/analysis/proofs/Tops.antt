-- Ancestor sets and the parents they give: what a find and a merge come to, and the rows by which the trees grow.
use Rattle.std.proofs.Common.{◌≡◌, ℕ, ◌+◌, ◌-◌, ◌<◌, ◌≤◌, Bool, true, cond, eqb, ◌≢◌, List, map, length, set, Some, None, Option, unwrap_or, sym, refl, ap, ◌∙◌, subst, inl, inr, arith}
use Rattle.std.proofs.lemmas.Bool.{cases_eq, cases_Bool, ne_eqb, eq-eqb, cond-true, cond-false}
use Rattle.std.proofs.lemmas.Bool.Decides.{nat_tests}
use Rattle.std.proofs.lemmas.List.{length-map}
use Rattle.pattern.specs.Patterns.{Pattern, shares}
use Rattle.pattern.specs.Forest.{Grows}
use Rattle.pattern.specs.Crowns.{AfterRows, InRow, Adopts}
use Rattle.pattern.proofs.Tree.{parents_grow}
use Rattle.pattern.proofs.Crowns.{adopts_none, adopts_one, adopts_taken, adopts_keeps}
use Rattle.pattern.proofs.Crowns.{rows_start, row_begin, row_step, row_end, rows_end, rows_end_tops}
use Rattle.sets.specs.Meaning.{Sets, Sound, Found, Merged, among, in_use, mergeable}
use Rattle.analysis.specs.declared.records.End.TheVariants.{High}
use Rattle.analysis.specs.declared.records.Entry.{Entry}
use Rattle.analysis.specs.declared.records.Vertex.{Vertex}
use Rattle.analysis.specs.Tables as tables
use Rattle.analysis.specs.Tables.{entry, pair_of, pairs_of, vertex, no_vertex, parent_of}
use Rattle.analysis.specs.Tables.{with_parent, parent_from, Only}
use Rattle.analysis.specs.Pools.{Neighbours}
use Rattle.analysis.specs.Growth.{pattern_of, pattern_in, Fresh, alone, Adopted, adopted, Tree, Rooted}
use Rattle.analysis.specs.Order.{AllWeighOne}
use Rattle.analysis.proofs.Changes.{vertex_same, vertex_other, parent_takes, only_none, only_set, vertex_map}
use Rattle.analysis.proofs.Slots.{slot_sound, slot_shares, slot_for}

pub among_true : (m v : ℕ) → 1 ≤ v → v ≤ m → among m v ≡ true
among_true m v p q = grind (arith, nat_tests)

pub among_parts : (m v : ℕ) → among m v ≡ true → (1 ≤ v) × (v ≤ m)
among_parts m v e = grind (arith, nat_tests)

-- a top is a vertex in use
pub top_within : (s : Sets) (v : ℕ) → Sound s → 1 ≤ v → v ≤ s.used → (1 ≤ s.top v) × (s.top v ≤ s.used)
top_within s v sound p q = among_parts s.used (s.top v) (sound.top_in_use v (among_true s.used v p q))

-- a find answers the top of a vertex in use
pub found_some : (s t : Sets) (v : ℕ) (o : Option ℕ) →
    Found s v o t → 1 ≤ v → v ≤ s.used → o ≡ Some (s.top v)
found_some s t v o f from to =
    f.answer ∙ ap (λ b. cond b (Some (s.top v)) None) (among_true s.used v from to)

pub found_top : (s t : Sets) (v r : ℕ) (o : Option ℕ) →
    o ≡ Some r → Found s v o t → 1 ≤ v → v ≤ s.used → r ≡ s.top v
found_top s t v r o e f from to = let i = found_some s t v o f from to in cc

-- the top of a vertex in use, or else d
pub found_within : (s t : Sets) (v d : ℕ) (r : Option ℕ) →
    Sound s → Found s v r t → 1 ≤ d → d ≤ s.used → (1 ≤ unwrap_or r d) × (unwrap_or r d ≤ s.used)
found_within s t v d r sound f p q =
    elim (cases_Bool (in_use s v)) [
      | inl is ↦
          let e = ap (λ o. unwrap_or o d) f.answer ∙ ap (λ b. unwrap_or (cond b (Some (s.top v)) None) d) is in
          let b = among_parts s.used (s.top v) (sound.top_in_use v is) in
          (omega arith, omega arith)
      | inr out ↦
          let e = ap (λ o. unwrap_or o d) f.answer ∙ ap (λ b. unwrap_or (cond b (Some (s.top v)) None) d) out in
          (omega arith, omega arith)
    ]

pub adopted_other : (vs : List Vertex) (r q u : ℕ) →
    r ≡ q → r ≢ u → set vs (r - 1) (with_parent (vertex vs r) u) ≡ adopted vs q u
adopted_other vs r q u i ne =
    ap (λ m. set vs (m - 1) (with_parent (vertex vs m) u)) i ∙
    sym (ap (λ b. cond b vs (set vs (q - 1) (with_parent (vertex vs q) u))) (ne_eqb q u (λ e. ne (i ∙ e))))

-- the set of x is found, and its top is put below u
module _ (s t : Sets) (x u r : ℕ) (o : Option ℕ) (sound : Sound s) (f : Found s x o t) (i : r ≡ s.top x) (ne : r ≢ u)
    (px : 1 ≤ x) (qx : x ≤ s.used) (pu : 1 ≤ u) (qu : u ≤ s.used) (own : s.top u ≡ u) where
  pub two_tops : mergeable t r u ≡ true
  two_tops =
      let within = top_within s x sound px qx in
      let same = sound.top_own x (among_true s.used x px qx) in
      let at_r : t.top r ≡ r = f.tops r ∙ ap s.top i ∙ same ∙ sym i in
      let at_u : t.top u ≡ u = f.tops u ∙ own in
      let n = f.used in
      grind (arith, nat_tests)

  pub merged_tops : (w : Sets) (b : Bool) → Merged t r u b w → Adopted s x u w
  merged_tops w b m =
      let b_is = m.accepted in
      let yes = two_tops in
      record {
        size = m.size ∙ f.size;
        used = m.used ∙ f.used;
        tops = λ v. let e = f.tops v in let h = m.tops v in grind (arith, nat_tests);
      }

module _ (r u : ℕ) (vs ws : List Vertex) (is : ws ≡ adopted vs r u) where
  adopted_none : r ≡ u → ws ≡ vs
  adopted_none e = is ∙ ap (λ b. cond b vs (set vs (r - 1) (with_parent (vertex vs r) u))) (eq-eqb r u e)

  adopted_one : r ≢ u → ws ≡ set vs (r - 1) (with_parent (vertex vs r) u)
  adopted_one ne = is ∙ sym (adopted_other vs r r u refl ne)

  pub only_adopted : Only parent_from vs ws
  only_adopted =
      elim (cases_eq r u) [
        | inl e ↦ subst (Only parent_from vs) (sym (adopted_none e)) (only_none parent_takes vs)
        | inr ne ↦ only_set parent_takes vs (r - 1) (with_parent (vertex vs r) u) ws refl (adopted_one ne)
      ]

  parent_adopted : r ≢ u → 1 ≤ r → r ≤ length vs → (v : ℕ) → 1 ≤ v →
      parent_of ws v ≡ cond (eqb v r) u (parent_of vs v)
  parent_adopted ne some fits v p =
      elim (cases_eq v r) [
        | inl e ↦
            ap (parent_of ws) e ∙ ap (λ t. parent_of t r) (adopted_one ne) ∙
            ap (λ y. y.parent) (vertex_same vs r (with_parent (vertex vs r) u) some fits) ∙
            sym (cond-true (eqb v r) u (parent_of vs v) (eq-eqb v r e))
        | inr nv ↦
            ap (λ t. parent_of t v) (adopted_one ne) ∙
            ap (λ y. y.parent) (vertex_other vs r v (with_parent (vertex vs r) u) some p nv) ∙
            sym (cond-false (eqb v r) u (parent_of vs v) (ne_eqb v r nv))
      ]

-- one adoption, in the tables of parents and tops
pub adoption : (n x u : ℕ) (s t : Sets) (vs ws : List Vertex) →
    Adopted s x u t → ws ≡ adopted vs (s.top x) u → 1 ≤ s.top x → s.top x ≤ length vs →
    Adopts n x u (parent_of vs) s.top (parent_of ws) t.top
adoption n x u s t vs ws put is some fits =
    elim (cases_eq (s.top x) u) [
      | inl e ↦
          adopts_none n x u (parent_of vs) s.top (parent_of ws) t.top e
          (λ v _ _. ap (λ l. parent_of l v) (adopted_none (s.top x) u vs ws is e))
          (λ y _ _. let h = put.tops y in grind (arith, nat_tests))
      | inr ne ↦
          adopts_one n x u (parent_of vs) s.top (parent_of ws) t.top ne
          (λ v p _. parent_adopted (s.top x) u vs ws is ne some fits v p) (λ y _ _. put.tops y)
    ]

-- Row u done as far as slot k: the neighbours in the slots before it are adopted.
pub record RowAt (n : ℕ) (es : List Entry) (u : ℕ) (slots : List Entry) (k : ℕ) (P T : ℕ → ℕ) : Type 0 where
  pub in_row : InRow (pattern_of n es) (u - 1) u P T
  pub taken : (j : ℕ) → j < k → T (entry slots j).lower ≡ u

pub row_at_first : (n : ℕ) (es : List Entry) (u : ℕ) (slots : List Entry) (P T : ℕ → ℕ) → 1 ≤ u →
    AfterRows (pattern_of n es) (u - 1) P T → RowAt n es u slots 0 P T
row_at_first n es u slots P T some after =
    record {
      in_row = row_begin (pattern_of n es) (u - 1) u P T (omega arith) after;
      taken = λ j h. absurd (omega arith);
    }

-- the slots hold the lower neighbours of u
module _ (n : ℕ) (es : List Entry) (u : ℕ) (slots : List Entry) (fits : u ≤ n) (sound : tables.Sound n (pairs_of es))
    (list : Neighbours High (pairs_of es) u slots) where
  -- the one in slot k is adopted
  pub row_at_next : (k x : ℕ) (P T P' T' : ℕ → ℕ) → k < length slots → x ≡ (entry slots k).lower →
      RowAt n es u slots k P T → Adopts n x u P T P' T' → RowAt n es u slots (k + 1) P' T'
  row_at_next k x P T P' T' h is row adopts =
      let s = slot_sound High n es u slots sound list k h in
      let r = s.rises in
      let f = s.from in
      record {
        in_row = row_step (pattern_of n es) (u - 1) u x P T P' T' (omega arith)
            (subst (λ y. shares (pattern_of n es) y u ≡ true) (sym is) (slot_shares High n es u slots sound list k h))
            row.in_row adopts;
        taken = λ j l. elim (cases_eq j k) [
          | inl i ↦
              ap (λ m. T' (entry slots m).lower) i ∙ ap T' (sym is)
              ∙ adopts_taken n x u P T P' T' adopts (omega arith) (omega arith)
          | inr ne ↦
              let t = slot_sound High n es u slots sound list j (omega arith) in
              let a = t.rises in
              adopts_keeps n x u P T P' T' adopts (entry slots j).lower t.from (omega arith) (row.taken j (omega arith))
        ];
      }

  -- no slot is left: the row is done
  pub row_at_last : (k : ℕ) (P T : ℕ → ℕ) → k ≡ length slots → RowAt n es u slots k P T →
      AfterRows (pattern_of n es) u P T
  row_at_last k P T last row = row_end (pattern_of n es) (u - 1) u P T row.in_row all
    where
      all : (x : ℕ) → x < u → shares (pattern_of n es) x u ≡ true → T x ≡ u
      all x less s =
          let (j, h, is) = slot_for High n es u slots sound list x less s in
          ap T (sym is) ∙ row.taken j (omega arith)

-- no row is done, and all are roots
-- every vertex is alone at first, and keeps its weight then
pub all_alone : (vs ws : List Vertex) → ws ≡ map alone vs → AllWeighOne ws
all_alone vs ws is v p q =
    let l = ap length is ∙ length-map vs alone in
    ap (λ t. (vertex t v).weight.0) is ∙ ap (λ x. x.weight.0) (vertex_map alone vs v p (omega arith))

pub weights_stay : (vs ws : List Vertex) → length ws ≡ length vs → Only parent_from vs ws → AllWeighOne vs →
    AllWeighOne ws
weights_stay vs ws long only ones v p q = ap (λ x. x.weight.0) (only v) ∙ ones v p (omega arith)

pub rows_none : (es : List Entry) (s : Sets) (vs ws : List Vertex) →
    ws ≡ map alone vs → Fresh (length vs) s → AfterRows (pattern_in vs es) 0 (parent_of ws) s.top
rows_none es s vs ws is fresh =
    rows_start (pattern_in vs es) (parent_of ws) s.top
    (λ v p q. ap (λ t. parent_of t v) is ∙ ap (λ x. x.parent) (vertex_map alone vs v p q))
    fresh.own

pub rows_at : (p : Pattern) (u w : ℕ) (P T : ℕ → ℕ) → u ≡ w → AfterRows p u P T → AfterRows p w P T
rows_at p u w P T e after = subst (λ m. AfterRows p m P T) e after

-- the last row is done
pub rows_all : (es : List Entry) (n m u : ℕ) (P T : ℕ → ℕ) → n ≡ m → u ≡ m →
    AfterRows (pattern_of n es) u P T → AfterRows (pattern_of m es) m P T
rows_all es n m u P T e i after =
    subst (λ k. AfterRows (pattern_of m es) k P T) i (subst (λ k. AfterRows (pattern_of k es) u P T) e after)

-- all rows are done: the parents are those of the tree, and the tops its roots
pub rows_tree : (p : Pattern) (vs : List Vertex) (T : ℕ → ℕ) →
    AfterRows p p.order (parent_of vs) T → Tree p vs
rows_tree p vs T after = record { parents = rows_end p (parent_of vs) T after }

pub rows_rooted : (p : Pattern) (s : Sets) (P : ℕ → ℕ) → AfterRows p p.order P s.top → Rooted p s
rows_rooted p s P after =
    record {
      above = λ x some fits. (rows_end_tops p P s.top after x some fits).0;
      root = λ x some fits. (rows_end_tops p P s.top after x some fits).1;
    }

-- so each parent is a greater vertex, or none
pub tree_grows : (p : Pattern) (vs : List Vertex) → Tree p vs → Grows p.order (parent_of vs)
tree_grows p vs tree =
    record {
      rises = λ v some fits h.
          let e = tree.parents v some fits in
          let r = (parents_grow p).rises v some fits (omega arith) in omega arith;
      stays = λ v some fits.
          let e = tree.parents v some fits in
          let r = (parents_grow p).stays v some fits in omega arith;
    }
