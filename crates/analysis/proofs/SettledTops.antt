-- Ancestor sets in which one vertex after the other is put below its parent.
use Rattle.std.proofs.Common.{◌≡◌, ℕ, ◌+◌, ◌<◌, ◌≤◌, Bool, true, ◌≢◌, List, get_or, length, sym, ap, ◌∙◌, inl, inr, arith}
use Rattle.std.proofs.lemmas.Bool.{cases_eq, cond-true, cond-false, eq-eqb, ne_eqb}
use Rattle.std.proofs.lemmas.Bool.Decides.{nat_tests}
use Rattle.pattern.specs.Patterns.{Pattern}
use Rattle.pattern.specs.Elimination.{parent}
use Rattle.pattern.specs.Forest.{Grows}
use Rattle.pattern.specs.Tops.{root}
use Rattle.pattern.proofs.Tree.{parents_grow}
use Rattle.pattern.proofs.Forest.{from_parents}
use Rattle.pattern.proofs.Tops.{root_more}
use Rattle.sets.specs.Meaning.{Sets, Sound, Started, Merged, among, mergeable}
use Rattle.analysis.specs.declared.records.Vertex.{Vertex}
use Rattle.analysis.specs.Tables.{no_vertex, parent_of}
use Rattle.analysis.specs.Growth.{Tree}
use Rattle.analysis.specs.Counts.{TopsAreRoots}
use Rattle.analysis.specs.Settling.{Settled}
use Rattle.analysis.proofs.Tops.{among_true, top_within, tree_grows}

-- Of the vertices 1 to n those up to t are put below their parents, and no others are. So each top is a vertex of the
-- same tree, and either a root or above t.
pub record SettledTo (n : ℕ) (up : ℕ → ℕ) (t : ℕ) (s : Sets) : Type 0 where
  pub used : s.used ≡ n
  pub tree : (x : ℕ) → 1 ≤ x → x ≤ n → root n up (s.top x) ≡ root n up x
  pub done : (x : ℕ) → 1 ≤ x → x ≤ n → s.top x ≤ t → up (s.top x) ≡ 0
  pub own : (x : ℕ) → t < x → x ≤ n → s.top x ≡ x

-- newly started, each vertex is its own top
pub settled_none : (n : ℕ) (up : ℕ → ℕ) (s t : Sets) (r : Bool) → r ≡ true → Started s n r t → SettledTo n up 0 t
settled_none n up s t r told start =
    record {
      used = start.used ∙ cond-true r _ _ told;
      tree = λ x some fits. ap (root n up) (own x some fits);
      done = λ x some fits none. absurd (let e = own x some fits in omega arith);
      own = λ x some fits. own x some fits;
    }
  where
    own : (x : ℕ) → 1 ≤ x → x ≤ n → t.top x ≡ x
    own x some fits =
        start.tops x ∙ cond-true r _ _ told ∙ cond-true (among n x) x 0 (among_true n x some fits)

-- the parent of the vertex after t
pub parent_after : (vs : List Vertex) (t : ℕ) → parent_of vs (t + 1) ≡ (get_or vs t no_vertex).parent
parent_after vs t = ap (λ k. (get_or vs k no_vertex).parent) (omega arith)

-- the next vertex, with the parent p
module _ (n : ℕ) (up : ℕ → ℕ) (grows : Grows n up) (t : ℕ) (s : Sets) (to : SettledTo n up t s) (fits : t + 1 ≤ n)
    (p : ℕ) (is : up (t + 1) ≡ p) where
  -- a root stays as it is
  pub settled_root : p ≡ 0 → SettledTo n up (t + 1) s
  settled_root none =
      record {
        used = to.used;
        tree = to.tree;
        done = λ x l h le. elim (cases_eq (s.top x) (t + 1)) [
          | inl here ↦ ap up here ∙ is ∙ none
          | inr ne ↦ to.done x l h (omega arith)
        ];
        own = λ x l h. to.own x (omega arith) h;
      }

  rises : p ≢ 0 → t + 1 < p
  rises some = let r = grows.rises (t + 1) (omega arith) fits (omega arith) in omega arith

  -- it and its parent are two tops
  pub two_apart : p ≢ 0 → mergeable s (t + 1) p ≡ true
  two_apart some =
      let above = rises some in
      let stays = grows.stays (t + 1) (omega arith) fits in
      let at_v = to.own (t + 1) (omega arith) fits in
      let at_p = to.own p (omega arith) (omega arith) in
      let e = to.used in
      grind (arith, nat_tests)

  -- it goes below its parent
  pub settled_merged : p ≢ 0 → (w : Sets) (b : Bool) → Merged s (t + 1) p b w → SettledTo n up (t + 1) w
  settled_merged some w b m =
      record {
        used = m.used ∙ to.used;
        tree = λ x l h. elim (cases_eq (s.top x) (t + 1)) [
          | inl here ↦ ap (root n up) (moved x here) ∙ sym same ∙ ap (root n up) (sym here) ∙ to.tree x l h
          | inr ne ↦ ap (root n up) (kept x ne) ∙ to.tree x l h
        ];
        done = λ x l h le. elim (cases_eq (s.top x) (t + 1)) [
          | inl here ↦ absurd (let e = moved x here in let r = rises some in omega arith)
          | inr ne ↦ let e = kept x ne in ap up e ∙ to.done x l h (omega arith)
        ];
        own = λ x l h. let e = to.own x (omega arith) h in kept x (λ f. omega arith) ∙ e;
      }
    where
      same : root n up (t + 1) ≡ root n up p
      same =
          root_more n up grows (t + 1) (record { named = omega arith; fits = fits })
          ∙ cond-false _ _ _ (ne_eqb (up (t + 1)) 0 (λ e. some (sym is ∙ e)))
          ∙ ap (root n up) is

      moved : (x : ℕ) → s.top x ≡ t + 1 → w.top x ≡ p
      moved x here = let e = m.tops x in let y = m.accepted ∙ two_apart some in grind (arith, nat_tests)

      kept : (x : ℕ) → s.top x ≢ t + 1 → w.top x ≡ s.top x
      kept x ne = let e = m.tops x in grind (arith, nat_tests)

-- once all are, each top is a root
pub settled_all : (vs : List Vertex) (s t : Sets) → Grows (length vs) (parent_of vs) → Sound t → length vs ≤ s.size →
    t.size ≡ s.size → (k : ℕ) → k ≡ length vs → SettledTo (length vs) (parent_of vs) k t → Settled vs s t
settled_all vs s t grows sound room size k last to =
    record {
      room = room;
      size = size;
      used = to.used;
      tops = λ x l h.
          let n = length vs in
          let e = to.used in
          let within = top_within t x sound l (omega arith) in
          let root_of_top =
          root_more n (parent_of vs) grows (t.top x) (record { named = within.0; fits = omega (arith, within.1) })
          ∙ cond-true _ _ _ (eq-eqb _ 0 (to.done x l h (omega (arith, within.1)))) in
          sym root_of_top ∙ to.tree x l h;
    }

-- Where the parents are those of a pattern, the roots are those of its elimination tree.
module _ (p : Pattern) (vs : List Vertex) (tree : Tree p vs) where
  root_same : (x : ℕ) → x ≤ p.order → 1 ≤ x → root p.order (parent_of vs) x ≡ root p.order (parent p) x
  root_same =
      let grows = tree_grows p vs tree in
      from_parents p.order (parent p) (parents_grow p)
      (λ x. 1 ≤ x → root p.order (parent_of vs) x ≡ root p.order (parent p) x)
      (λ l. absurd (omega arith))
      (λ x h up l.
      let e = tree.parents x h.named h.fits in
      let here = root_more p.order (parent_of vs) grows x h in
      let there = root_more p.order (parent p) (parents_grow p) x h in
      elim (cases_eq (parent p x) 0) [
        | inl none ↦
            here ∙ cond-true _ _ _ (eq-eqb (parent_of vs x) 0 (e ∙ none))
            ∙ sym (there ∙ cond-true _ _ _ (eq-eqb (parent p x) 0 none))
        | inr ne ↦
            here ∙ cond-false _ _ _ (ne_eqb (parent_of vs x) 0 (λ f. ne (sym e ∙ f)))
            ∙ ap (root p.order (parent_of vs)) e ∙ up (omega arith)
            ∙ sym (there ∙ cond-false _ _ _ (ne_eqb (parent p x) 0 ne))
      ])

  pub settled_roots : (s t : Sets) → length vs ≡ p.order → Settled vs s t → TopsAreRoots p t
  settled_roots s t long settled =
      record {
        used = settled.used ∙ long;
        tops = λ x l h.
            settled.tops x l (omega arith) ∙ ap (λ n. root n (parent_of vs) x) long ∙ root_same x h l;
      }
