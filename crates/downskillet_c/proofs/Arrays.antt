-- Arrays into which an answer of each vertex was copied.
use Rattle.std.proofs.Common.{◌≡◌, ℕ, ◌+◌, ◌-◌, ◌<◌, ◌≤◌, min, Bool, true, false, cond, ltb, List, ◌++◌, map, length, take, drop, get_or, refl, sym, ap, ◌∙◌, add-one, arith}
use Rattle.std.specs.Bool.{MatchBool}
use Rattle.std.proofs.lemmas.Bool.{ltb-false}
use Rattle.std.proofs.lemmas.Grind.{same_number_lists}
use Rattle.std.proofs.lemmas.List.{length-map, length-take-le, get_or-map, get_or-take, take-append-drop}
use Rattle.pattern.specs.Patterns.{Pattern}
use Rattle.pattern.specs.Structure.{over}
use Rattle.pattern.specs.Lists.{upto}
use Rattle.pattern.proofs.Lists.{get_or_upto, length_upto}
use Rattle.pattern.specs.Elimination.{col_count}
use Rattle.pattern.proofs.Columns.{column_fits}
use Rattle.analysis.specs.Counts.{column_of}
use Rattle.analysis.specs.Tables.{no_vertex, vertex}
use Rattle.analysis.specs.declared.records.Vertex.{Vertex}
use Rattle.downskillet_c.specs.Analysing.{TableOf}
use Rattle.downskillet_c.specs.Answers.{ReadOff, column_told, written}

-- What was read off by `f` is the list that f makes of the records, and what was there after it.
module _ {gives : Vertex → ℕ → Type 0} (f : Vertex → ℕ) (vs : List Vertex) (before after : List ℕ)
    (long : length after ≡ length before) (reads : (x : Vertex) (r : ℕ) → gives x r → r ≡ f x) where
  read_all : ReadOff gives vs before after → length vs ≤ length before → after ≡ over (map f vs) before
  read_all read room =
      let n = length vs in
      let m = length-map vs f in
      let taken = length-take-le n after (omega arith) in
      let front : take n after ≡ map f vs =
      same_number_lists (take n after) (map f vs) (taken ∙ sym m)
      (λ k under.
      let fits : k < n = omega arith in
      get_or-take n after k 0 fits ∙ reads _ _ (read.given k fits) ∙ sym (get_or-map f vs k no_vertex 0 fits)) in
      sym (take-append-drop n after) ∙ ap (λ xs. xs ++ drop n after) front
      ∙ ap (λ xs. map f vs ++ xs) (read.others ∙ ap (λ i. drop i before) (sym m))

  at : (b : Bool) → ltb (length before) (length vs) ≡ b → MatchBool b (after ≡ before) (ReadOff gives vs before after) →
      after ≡ cond b before (over (map f vs) before)
  at true short same = same
  at false room read = read_all read (ltb-false _ _ room)

  pub copied_off : MatchBool (ltb (length before) (length vs)) (after ≡ before) (ReadOff gives vs before after) →
      after ≡ written (map f vs) before
  copied_off read =
      at _ refl read ∙ ap (λ n. cond (ltb (length before) n) before (over (map f vs) before)) (sym (length-map vs f))

-- What f makes of the records is what g makes of the pattern's vertices.
pub told_of : (p : Pattern) (f : Vertex → ℕ) (g : ℕ → ℕ) (vs : List Vertex) (before after : List ℕ) → TableOf p vs →
    ((v : ℕ) → 1 ≤ v → v ≤ p.order → f (vertex vs v) ≡ g v) → after ≡ written (map f vs) before →
    after ≡ written (map g (upto p.order)) before
told_of p f g vs before after table same copied =
    let order = table.order in
    let m = length-map vs f in
    let n = length-map (upto p.order) g in
    let upto_long = length_upto p.order in
    copied
    ∙ ap (λ xs. written xs before)
    (same_number_lists (map f vs) (map g (upto p.order)) (omega arith)
    (λ k under.
    let fits : k < p.order = omega arith in
    let back : k ≡ k + 1 - 1 = omega arith in
    get_or-map f vs k no_vertex 0 (omega arith) ∙ ap (λ i. f (get_or vs i no_vertex)) back ∙ same (k + 1) (omega arith) (omega arith)
    ∙ ap g (add-one k ∙ sym (get_or_upto p.order k 0 fits)) ∙ sym (get_or-map g (upto p.order) k 0 0 (omega arith))))

-- the column count that a record tells is that of its vertex
pub column_counted : (p : Pattern) (vs : List Vertex) → TableOf p vs → (v : ℕ) → 1 ≤ v → v ≤ p.order →
    column_told (vertex vs v) ≡ col_count p v
column_counted p vs table v one most =
    let small : min (col_count p v) 4294967295 ≡ col_count p v = omega (arith, column_fits p v, table.few) in
    ap (λ z. min (column_of z) 4294967295) (table.answered.columns v one most) ∙ small
