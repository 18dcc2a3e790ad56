-- Rows as subtrees, columns by children, counts by rows, and what more entries change.
use Rattle.std.proofs.Common.{◌≡◌, ℕ, zero, suc, ◌<◌, ◌≤◌, Bool, true, false, ◌&&◌, ◌||◌, eqb, ltb, ◌⊎◌, length, sym, refl, ◌∙◌, subst, inl, inr, arith}
use Rattle.std.proofs.lemmas.Bool.{and_parts, and_from, lt-ltb}
use Rattle.pattern.specs.Lists.{upto, keep, occurs, sum}
use Rattle.pattern.specs.Patterns.{Pattern, listed, shares}
use Rattle.pattern.specs.Elimination.{joined, fill, row, col, row_count, col_count, total, parent}
use Rattle.pattern.specs.Fill.{in_subtree, Keeps}
use Rattle.pattern.proofs.Tests.{Vertex}
use Rattle.pattern.proofs.Lists.{in_own, own_has, keep_grows, sum_grows}
use Rattle.pattern.proofs.Lines.{climb_of, under_of, under_self, last_climb, climb_start}
use Rattle.pattern.proofs.Joins.{
  Ends,
  shares_parts,
  shares_from,
  joined_start,
  joined_parts,
  joined_before,
  joined_now,
  fill_ends,
}
use Rattle.pattern.proofs.Paths.{Way, edge, hop, join, back, last_step, fill_way, way_fill}
use Rattle.pattern.proofs.Tree.{parent_is, parents_grow, climb_way, parent_joined, way_lies}

module _ (p : Pattern) where
  -- the smaller v is in row u, and u in the column of v, exactly when the fill joins them
  pub in_row : (v u : ℕ) → v < u → occurs v (row p u) ≡ true → fill p v u ≡ true
  unfolding row
  in_row v u less e =
      in_own p.order u (λ x. ltb x u) (λ x. fill p x u) v (λ same. omega (arith, same, less)) e

  pub row_has : (v u : ℕ) → v < u → fill p v u ≡ true → occurs v (row p u) ≡ true
  unfolding row
  row_has v u less e =
      own_has p.order u (λ x. ltb x u) (λ x. fill p x u) v (lt-ltb v u less) e (fill_ends p v u e).left

  pub in_col : (v u : ℕ) → v < u → occurs u (col p v) ≡ true → fill p v u ≡ true
  unfolding col
  in_col v u less e =
      in_own p.order v (λ x. ltb v x) (λ x. fill p v x) u (λ same. omega (arith, same, less)) e

  pub col_has : (v u : ℕ) → v < u → fill p v u ≡ true → occurs u (col p v) ≡ true
  unfolding col
  col_has v u less e =
      own_has p.order v (λ x. ltb v x) (λ x. fill p v x) u (lt-ltb v u less) e (fill_ends p v u e).right

  -- of v's subtree, one shares an entry with u
  pub record Touches (v u : ℕ) : Type 0 where
    pub at : ℕ
    pub lies : in_subtree p at v ≡ true
    pub entry : shares p at u ≡ true

  pub fill_touches : (v u : ℕ) → v < u → fill p v u ≡ true → Touches v u
  fill_touches v u less e =
      elim (last_step (fill_way v u less e)) [
        | inl s ↦ record {
          at = v;
          lies = under_self p.order (parent p) (parents_grow p) v (shares_parts p v u s).0.left;
          entry = s;
        }
        | inr (x, low, w, s) ↦ record {
          at = x;
          lies = way_lies p v x low (back w);
          entry = s;
        }
      ]

  pub touches_fill : (v u x : ℕ) → v < u → in_subtree p x v ≡ true → shares p x u ≡ true → fill p v u ≡ true
  touches_fill v u x less lies s =
      way_fill v u less
      (elim (climb_way p v (climb_of p.order (parent p) x v lies)) [
        | inl same ↦ edge v (subst (λ y. shares p y u ≡ true) same s)
        | inr (low, w) ↦ join (back w) low (edge x s)
      ])

  -- the columns of its children, and its own entries, make up the column of v
  pub fill_by_children : (v u : ℕ) → v < u → fill p v u ≡ true →
      (shares p v u ≡ true) ⊎ ((c : ℕ) × (parent p c ≡ v) × (fill p c u ≡ true))
  fill_by_children v u less e =
      let t = fill_touches v u less e in
      elim (last_climb (climb_of p.order (parent p) t.at v t.lies)) [
        | inl same ↦ inl (subst (λ y. shares p y u ≡ true) same t.entry)
        | inr (c, is, d) ↦
            let high = (parent_is p c (omega (arith, (fill_ends p v u e).left.named))).above in
            inr (
              c,
              is,
              touches_fill c u t.at (omega arith) (under_of p.order (parent p) (parents_grow p) d) t.entry,
            )
      ]

  pub children_fill : (v u c : ℕ) → 1 ≤ v → v < u → parent p c ≡ v → fill p c u ≡ true → fill p v u ≡ true
  children_fill v u c some less is e =
      let q = parent_is p c (omega arith) in
      elim (parent_joined p c u (omega (arith, q.above)) e).1 [
        | inl same ↦ absurd (omega arith)
        | inr joins ↦ subst (λ y. fill p y u ≡ true) is joins
      ]

  pub sharing_fill : (a b : ℕ) → a < b → shares p a b ≡ true → fill p a b ≡ true
  sharing_fill a b less s = way_fill a b less (edge a s)

-- q has the order of p, and shares what p shares
module _ (p q : Pattern) (same : p.order ≡ q.order)
    (more : (a b : ℕ) → shares p a b ≡ true → shares q a b ≡ true) where
  joined_grows : (k a b : ℕ) → joined p k a b ≡ true → joined q k a b ≡ true
  joined_grows zero a b e = sym (joined_start q a b) ∙ more a b (joined_start p a b ∙ e)
  joined_grows (suc k) a b e =
      elim (joined_parts p k a b e) [
        | inl before ↦ joined_before q k a b (joined_grows k a b before)
        | inr j ↦
            joined_now q k a b
            (record {
              a-above = j.a-above;
              b-above = j.b-above;
              apart = j.apart;
              at_a = joined_grows k (suc k) a j.at_a;
              at_b = joined_grows k (suc k) b j.at_b;
            })
      ]

  pub fill_grows : (a b : ℕ) → fill p a b ≡ true → fill q a b ≡ true
  unfolding fill
  fill_grows a b e = subst (λ n. joined q n a b ≡ true) same (joined_grows p.order a b e)

  -- a test of equality, or of order and fill
  test_grows : (s t : Bool) (a b : ℕ) → (s || (t && fill p a b)) ≡ true → (s || (t && fill q a b)) ≡ true
  test_grows true t a b e = refl
  test_grows false t a b e =
      let (first, second) = and_parts _ _ e in and_from _ _ first (fill_grows a b second)

  pub row_grows : (u : ℕ) → row_count p u ≤ row_count q u
  unfolding row_count row
  row_grows u =
      subst (λ n. row_count p u ≤ length (keep (λ v. eqb v u || (ltb v u && fill q v u)) (upto n))) same
      (keep_grows _ _ (λ v. test_grows (eqb v u) (ltb v u) v u) (upto p.order))

  pub col_grows : (v : ℕ) → col_count p v ≤ col_count q v
  unfolding col_count col
  col_grows v =
      subst (λ n. col_count p v ≤ length (keep (λ u. eqb u v || (ltb v u && fill q v u)) (upto n))) same
      (keep_grows _ _ (λ u. test_grows (eqb u v) (ltb v u) v u) (upto p.order))

  pub total_grows : total p ≤ total q
  unfolding total
  total_grows =
      subst (λ n. total p ≤ sum (col_count q) (upto n)) same
      (sum_grows (col_count p) (col_count q) col_grows (upto p.order))

  way_grows : {m b a : ℕ} → Way p m b a → Way q m b a
  way_grows {b} (edge a s) = edge a (more a b s)
  way_grows (hop a x s low w) = hop a x (more a x s) low (way_grows w)

  pub above_grows : (x v : ℕ) → in_subtree p x v ≡ true → in_subtree q x v ≡ true
  above_grows x v lies =
      let c = climb_of p.order (parent p) x v lies in
      elim (climb_way p v c) [
        | inl is ↦
            subst (λ y. in_subtree q x y ≡ true) is
            (under_self q.order (parent q) (parents_grow q) x (subst (λ n. Vertex n x) same (climb_start c)))
        | inr (low, w) ↦ way_lies q v x low (way_grows w)
      ]

  pub keeps : Keeps p q
  keeps =
      record {
        the_fill = fill_grows;
        rows = row_grows;
        columns = col_grows;
        places = total_grows;
        above = above_grows;
      }

-- pairs listed in p and in q make shared entries of p shared entries of q
pub listed_more : (p q : Pattern) → p.order ≡ q.order →
    ((a b : ℕ) → listed p.entries a b ≡ true → listed q.entries a b ≡ true) →
    (a b : ℕ) → shares p a b ≡ true → shares q a b ≡ true
listed_more p q same more a b s =
    let (ends, held) = shares_parts p a b s in
    shares_from q a b (subst (λ n. Ends n a b) same ends) (more a b held)
