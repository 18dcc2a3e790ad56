-- Sets whose tops are written out: what each call owes.
use Rattle.std.proofs.Common.{◌≡◌, ℕ, Bool, true, List, refl, ap, ◌∙◌, subst, arith}
use Rattle.std.proofs.lemmas.Bool.Decides.{nat_tests}
use Rattle.sets.specs.Meaning.{among, Started, Merged}
use Rattle.sets.specs.Tables.{number, written_sets, two_tops, Stays, Rests, Begun, Rewritten}
use Rattle.sets.proofs.Owed.{moved, begun_keeps, started_of, mergeable_is, merged_of}

pub begun_rests : {xs ys : List ℕ} {m n k : ℕ} {r : Bool} → Begun xs m n r ys k → Rests m (number xs) →
    Rests k (number ys)
begun_rests {xs} {ys} {m} {n} {k} {r} b rests =
    begun_keeps r (λ zs j. Rests j (number zs)) b rests (λ own v i. let o = own v i in ap (number ys) o)

pub begun_started : {xs ys : List ℕ} {m n k : ℕ} {r : Bool} → Begun xs m n r ys k →
    Started (written_sets xs m) n r (written_sets ys k)
begun_started {xs} {ys} {r} b =
    started_of r (number xs) (number ys) b b.own (λ e x. ap (λ zs. number zs x) (b.same e))

pub rewritten_rests : {xs ys : List ℕ} {m k v p : ℕ} → k ≡ m → Rewritten xs m v p ys →
    true ≡ two_tops m (number xs) v p → Stays m (number xs) → Rests m (number xs) → Rests k (number ys)
rewritten_rests {xs} {ys} {m} {k} {v} {p} used w ok stays rests x i =
    let ix = subst (λ j. among j x ≡ true) used i in
    let s = stays x ix in
    let n = w.numbers x ix in
    let ns = w.numbers (number xs x) s in
    let np = w.numbers p (grind (arith, nat_tests)) in
    let r = rests x ix in
    grind (arith, nat_tests)

pub rewritten_merged : {xs ys : List ℕ} {m k v p : ℕ} → k ≡ m → Rewritten xs m v p ys →
    true ≡ two_tops m (number xs) v p → Merged (written_sets xs m) v p true (written_sets ys k)
rewritten_merged {xs} {ys} {m} {k} {v} {p} used w ok =
    moved {xs = ys} (λ zs j. Merged (written_sets xs m) v p true (written_sets zs j)) used refl
    (merged_of xs ys true (number xs) (number ys) w.long
    (ok ∙ mergeable_is xs m (number xs) (number xs) v p (λ x i. refl)) w.numbers)
