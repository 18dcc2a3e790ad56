-- The phases of an analysis put together: what one leaves, the later ones keep. Listing the neighbours keeps the pairs
-- of the entries, so the pattern is the same throughout.
use Rattle.std.proofs.Common.{◌≡◌, ℕ, ◌+◌, ◌-◌, ◌≤◌, List, take, ◌++◌, length, refl, sym, ap, ◌∙◌, subst, ap₂, arith}
use Rattle.std.proofs.Math.Seq.{take-append_seam}
use Rattle.std.proofs.lemmas.List.{get_or_append_left}
use Rattle.pattern.specs.Patterns.{Pattern}
use Rattle.pattern.specs.Analysis.{height_of}
use Rattle.analysis.specs.declared.records.Entry.{Entry}
use Rattle.analysis.specs.declared.records.End.{End}
use Rattle.analysis.specs.declared.records.End.TheVariants.{Low, High}
use Rattle.analysis.specs.declared.records.Vertex.{Vertex}
use Rattle.analysis.specs.Tables.{vertex, no_vertex, pairs_of, slots_end, Only}
use Rattle.analysis.specs.Tables.{tree_from, order_from, counts_from}
use Rattle.analysis.specs.Pools.{Listed}
use Rattle.analysis.specs.Growth.{pattern_of, pattern_in, Tree}
use Rattle.analysis.specs.Order.{ParentsOf, OrderedAs}
use Rattle.analysis.specs.Counts.{Ready, Counted}
use Rattle.analysis.specs.Analysed.{Answered}
use Rattle.analysis.proofs.Slots.{listed_only}

-- entries with the same pairs make up the same pattern
pub same_pattern : (n m : ℕ) (es fs : List Entry) → m ≡ n → pairs_of fs ≡ pairs_of es → pattern_of m fs ≡ pattern_of n es
same_pattern n m es fs long same = ap₂ (λ k ps. record { order = k; entries = ps }) long same

-- the tree of the pattern and all that it alone gives are in the table
pub record Settled (p : Pattern) (vs : List Vertex) : Type 0 where
  pub tree : Tree p vs
  pub order : OrderedAs p vs

-- So it is once the tree is grown of vertices that are pooled, and they are in order.
pub settled : (es : List Entry) (pooled grown ordered : List Vertex) →
    length pooled ≡ length ordered → length grown ≡ length ordered → Tree (pattern_in pooled es) grown →
    ((p : Pattern) → ParentsOf p (length grown) grown → OrderedAs p ordered) → Only order_from grown ordered →
    Settled (pattern_in ordered es) ordered
settled es pooled grown ordered long wide tree order only =
    let p = pattern_in ordered es in
    let parents : Tree p grown = subst (λ n. Tree (pattern_of n es) grown) long tree in
    record {
      tree = record { parents = λ v q r. ap (λ x. x.parent) (only v) ∙ parents.parents v q r };
      order = order p (record { order = wide; parents = λ v q r. parents.parents v q (omega arith) });
    }

-- then all is ready to be counted
pub ready : (p : Pattern) (vs : List Vertex) → Settled p vs → Ready p vs
ready p vs s =
    record {
      parents = s.tree.parents;
      levels = s.order.levels;
      places = s.order.places;
      firsts = s.order.firsts;
      walk = s.order.walk;
    }

-- and once it is, every question is answered
pub answered : (p : Pattern) (vs ws : List Vertex) →
    Settled p vs → Only counts_from vs ws → Counted p ws → Answered p ws
answered p vs ws s only counts =
    record {
      parents = λ v q r. ap (λ x. x.parent) (only v) ∙ s.tree.parents v q r;
      places = λ v q r. ap (λ x. x.place) (only v) ∙ s.order.places v q r;
      firsts = λ v q r. ap (λ x. x.first.0) (only v) ∙ s.order.firsts v q r;
      heights = λ v q r.
          ap (λ l. l + height_of p v) (ap (λ x. x.level) (only v)) ∙ s.order.heights v q r
          ∙ sym (ap (λ x. x.deepest.0) (only v));
      rows = counts.rows;
      columns = counts.columns;
    }

-- the answers stand in the whole table, of which the vertices are the front
module _ (p : Pattern) (vs rest : List Vertex) (long : p.order ≤ length vs) where
  front_same : {X : Type 0} (field : Vertex → X) (v : ℕ) → 1 ≤ v → v ≤ p.order →
      field (vertex (vs ++ rest) v) ≡ field (vertex vs v)
  front_same field v some fits = ap field (get_or_append_left vs rest no_vertex (v - 1) (omega arith))

  pub answered_front : Answered p vs → Answered p (vs ++ rest)
  answered_front answers = record {
    parents = λ v some fits. front_same (λ x. x.parent) v some fits ∙ answers.parents v some fits;
    places = λ v some fits. front_same (λ x. x.place) v some fits ∙ answers.places v some fits;
    firsts = λ v some fits. front_same (λ x. x.first.0) v some fits ∙ answers.firsts v some fits;
    heights = λ v some fits.
        ap (λ l. l + height_of p v) (front_same (λ x. x.level) v some fits) ∙ answers.heights v some fits
        ∙ sym (front_same (λ x. x.deepest.0) v some fits);
    rows = λ v some fits. front_same (λ x. x.rows) v some fits ∙ answers.rows v some fits;
    columns = λ v some fits. front_same (λ x. x.weight.0) v some fits ∙ answers.columns v some fits;
  }

-- What the phases change keeps where the slots of a vertex end.
parents_keep : (which : End) (x y : Vertex) → slots_end which (tree_from x y) ≡ slots_end which x
parents_keep Low x y = refl
parents_keep High x y = refl

order_keeps : (which : End) (x y : Vertex) → slots_end which (order_from x y) ≡ slots_end which x
order_keeps Low x y = refl
order_keeps High x y = refl

counts_keep : (which : End) (x y : Vertex) → slots_end which (counts_from x y) ≡ slots_end which x
counts_keep Low x y = refl
counts_keep High x y = refl

-- and both stay through the phases
pub listed_ordered : (which : End) (es : List Entry) (pooled grown ordered : List Vertex) →
    length pooled ≡ length grown → length grown ≡ length ordered → Only tree_from pooled grown →
    Only order_from grown ordered → Listed which pooled es → Listed which ordered es
listed_ordered which es pooled grown ordered tall wide a b l =
    listed_only order_from which (order_keeps which) grown ordered es wide b
    (listed_only tree_from which (parents_keep which) pooled grown es tall a l)

-- to stand for the front of the whole table
pub listed_front : (which : End) (n : ℕ) (es : List Entry) (ordered counted rest : List Vertex) →
    length ordered ≡ length counted → n ≡ length counted → Only counts_from ordered counted →
    Listed which ordered es → Listed which (take n (counted ++ rest)) es
listed_front which n es ordered counted rest long front only l =
    subst (λ vs. Listed which vs es) (sym (ap (λ i. take i (counted ++ rest)) front ∙ take-append_seam counted rest))
    (listed_only counts_from which (counts_keep which) ordered counted es long only l)
