-- Columns read back from the arrays that the structure was written into.
use Rattle.std.proofs.Common.{◌≡◌, ℕ, ◌-◌, ◌≤◌, List, ◌++◌, Some, length, take, drop, get_or, ap, ap₂, ◌∙◌, subst, arith}
use Rattle.std.proofs.lemmas.Bool.{and_from, le-leb, lt-ltb, cond-true}
use Rattle.std.proofs.lemmas.List.{length-append, length-drop, get_or_append_left, take-append-le, drop-append-le}
use Rattle.pattern.specs.Structure.{starts, rows, higher, taken, over}
use Rattle.pattern.proofs.Tests.{within_parts}
use Rattle.pattern.proofs.Columns.{start_at, column_of, columns, taken_grows}
use Rattle.pattern.proofs.Arrays.{rows_long}
use Rattle.model.specs.Columns.{part, ColumnsReadBack}

-- what stands behind a list is not in its parts
range_front : (xs ys : List ℕ) (from to : ℕ) → from ≤ to → to ≤ length xs →
    take (to - from) (drop from (xs ++ ys)) ≡ take (to - from) (drop from xs)
range_front xs ys from to rises fits =
    ap (take (to - from)) (drop-append-le from xs ys (omega arith))
    ∙ take-append-le (to - from) (drop from xs) ys (omega (arith, length-drop from xs))

pub read_back : ColumnsReadBack
read_back p before below v here =
    let s = over (starts p) before in
    let r = over (rows p) below in
    let vertex = within_parts p.order v here in
    let few = (columns p).starts_are in
    let from : get_or s (v - 1) 0 ≡ taken p (v - 1) =
    get_or_append_left (starts p) _ 0 (v - 1) (omega arith) ∙ start_at p (v - 1) (omega arith) in
    let to : get_or s v 0 ≡ taken p v = get_or_append_left (starts p) _ 0 v (omega arith) ∙ start_at p v vertex.fits in
    let rises = taken_grows p (v - 1) v (omega arith) in
    let fits : taken p v ≤ length (rows p) = omega (arith, rows_long p, taken_grows p v p.order vertex.fits) in
    let long = length-append (rows p) (drop (length (rows p)) below) in
    let wide = length-append (starts p) (drop (length (starts p)) before) in
    cond-true _ _ _ (and_from _ _ (le-leb 1 v vertex.named) (lt-ltb v (length s) (omega arith)))
    ∙ ap₂ (part r) from to
    ∙ cond-true _ _ _ (and_from _ _ (le-leb _ _ rises) (le-leb (taken p v) (length r) (omega arith)))
    ∙ ap Some (range_front (rows p) _ (taken p (v - 1)) (taken p v) rises fits ∙ column)
  where
    column : take (taken p v - taken p (v - 1)) (drop (taken p (v - 1)) (rows p)) ≡ higher p v
    column =
        let vertex = within_parts p.order v here in
        subst (λ w. take (taken p w - taken p (v - 1)) (drop (taken p (v - 1)) (rows p)) ≡ higher p w) (omega arith)
        (column_of p (v - 1) (omega arith))
