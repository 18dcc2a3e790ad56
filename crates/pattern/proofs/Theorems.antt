-- The theorems on the fill and its tree, as they are stated.
use Rattle.std.proofs.Common.{◌≡◌, ℕ, ◌<◌, true, ◌⊎◌, List, sym, subst, inl, inr, arith}
use Rattle.pattern.specs.Lists.{occurs}
use Rattle.pattern.specs.Patterns.{shares}
use Rattle.pattern.specs.Elimination.{fill, col, parent}
use Rattle.pattern.specs.Paths.{Leads, start, front, inner, all_under, FillIsPaths}
use Rattle.pattern.specs.Fill.{
  below,
  BelowIsPaths,
  RowsAreSubtrees,
  ColumnsByChildren,
  TotalByRows,
  MoreEntriesKeep,
}
use Rattle.pattern.specs.Structure.{StructureInColumns}
use Rattle.pattern.proofs.Columns.{columns}
use Rattle.pattern.proofs.Tests.{within_parts}
use Rattle.pattern.proofs.Paths.{fill_way, way_fill}
use Rattle.pattern.proofs.Lined.{listed_way, way_of, front_low, low_front}
use Rattle.pattern.proofs.Tree.{below_way, way_below, parent_is}
use Rattle.pattern.proofs.Counting.{counted_by_rows}
use Rattle.pattern.proofs.Rows.{
  in_row,
  row_has,
  in_col,
  col_has,
  fill_touches,
  touches_fill,
  fill_by_children,
  children_fill,
  sharing_fill,
  keeps,
  listed_more,
}

pub fill_by_paths : FillIsPaths
fill_by_paths p v u less = (to, λ l. way_fill v u less (way_of p v v u l.0 l.1 l.2))
  where
    to : fill p v u ≡ true → (l : List ℕ) × Leads p v u l × (all_under v (inner l) ≡ true)
    to e = let found = listed_way p v (fill_way v u less e) in (found.vertices, found.leads, found.low)

pub below_by_paths : BelowIsPaths
below_by_paths p v u = (to, from)
  where
    to : below p v u ≡ true → (l : List ℕ) × Leads p v u l × (all_under u (front l) ≡ true)
    to e =
        let (less, w) = below_way p v u e in
        let found = listed_way p u w in
        let begins : start found.vertices < u = subst (λ x. x < u) (sym found.leads.from) less in
        (found.vertices, found.leads, low_front p u found.vertices found.leads.several begins found.low)

    from : ((l : List ℕ) × Leads p v u l × (all_under u (front l) ≡ true)) → below p v u ≡ true
    from (l, leads, low) =
        let (begins, rest) = front_low p u l leads.several low in
        way_below p v u (subst (λ x. x < u) leads.from begins) (way_of p u v u l leads rest)

pub rows_by_subtrees : RowsAreSubtrees
rows_by_subtrees p v u less = (
  (λ e. let t = fill_touches p v u less (in_row p v u less e) in (t.at, t.lies, t.entry)),
  (λ t. row_has p v u less (touches_fill p v u t.0 less t.1 t.2)),
)

pub columns_from_children : ColumnsByChildren
columns_from_children p v u here less = (λ e. to (fill_by_children p v u less (in_col p v u less e)), from)
  where
    -- a child is under its parent, so under u
    child : (c : ℕ) → parent p c ≡ v → c < u
    child c is =
        let named = (within_parts p.order v here).named in
        omega (arith, (parent_is p c (omega (arith, named, is))).above, is, less)

    to : (shares p v u ≡ true) ⊎ ((c : ℕ) × (parent p c ≡ v) × (fill p c u ≡ true)) →
        (shares p v u ≡ true) ⊎ ((c : ℕ) × (parent p c ≡ v) × (occurs u (col p c) ≡ true))
    to (inl s) = inl s
    to (inr (c, is, joins)) = inr (c, is, col_has p c u (child c is) joins)

    from : (shares p v u ≡ true) ⊎ ((c : ℕ) × (parent p c ≡ v) × (occurs u (col p c) ≡ true)) →
        occurs u (col p v) ≡ true
    from (inl s) = col_has p v u less (sharing_fill p v u less s)
    from (inr (c, is, held)) =
        col_has p v u less
        (children_fill p v u c (within_parts p.order v here).named less is (in_col p c u (child c is) held))

pub total_from_rows : TotalByRows
total_from_rows p = counted_by_rows p

pub entries_keep : MoreEntriesKeep
entries_keep p q same = (λ more. keeps p q same more, λ more. keeps p q same (listed_more p q same more))

pub in_columns : StructureInColumns
in_columns p = columns p
