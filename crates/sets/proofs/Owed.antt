-- What every kind of sets owes for its calls, from what is so of its table and its tops.
use Rattle.std.proofs.Common.{◌≡◌, ℕ, min, Bool, true, false, cond, ◌&&◌, eqb, List, length, Some, None, Option, sym, refl, ap, subst, arith}
use Rattle.std.proofs.lemmas.Bool.Decides.{nat_tests}
use Rattle.sets.specs.Meaning.{limit, among, mergeable, Started, Found, Merged}
use Rattle.sets.specs.Tables.{number, sets_of, two_tops, Begun}

-- what is so of a table is so of the same table
pub moved : {xs ys : List ℕ} {m k : ℕ} (P : List ℕ → ℕ → Type 0) → k ≡ m → ys ≡ xs → P xs m → P ys k
moved {xs} {ys} {m} {k} P e f h = subst (λ j. P ys j) (sym e) (subst (λ zs. P zs m) (sym f) h)

-- after a start, what was so of the table still is, or every number in use is its own vertex
pub begun_keeps : {xs ys : List ℕ} {m n k : ℕ} (r : Bool) (P : List ℕ → ℕ → Type 0) → Begun xs m n r ys k → P xs m →
    (((x : ℕ) → among k x ≡ true → number ys x ≡ x) → P ys k) → P ys k
begun_keeps {xs} {ys} {m} {n} {k} true P b old new =
    let e = b.used in new (λ x i. b.own refl x (grind (arith, nat_tests)))
begun_keeps false P b old new = moved P b.used (b.same refl) old

pub started_of : {xs ys : List ℕ} {m n k : ℕ} (r : Bool) (t t' : ℕ → ℕ) → Begun xs m n r ys k →
    (r ≡ true → (x : ℕ) → among n x ≡ true → t' x ≡ x) → (r ≡ false → (x : ℕ) → t' x ≡ t x) →
    Started (sets_of xs m t) n r (sets_of ys k t')
started_of {xs} {ys} {m} {n} {k} true t t' b new old =
    let e = b.used in
    record {
      accepted = b.accepted;
      size = ap (λ l. min l limit) b.long;
      used = b.used;
      tops = λ x. let o = new refl x in grind (arith, nat_tests);
    }
started_of {xs} {ys} {m} {n} {k} false t t' b new old =
    let e = b.used in
    record {
      accepted = b.accepted;
      size = ap (λ l. min l limit) b.long;
      used = b.used;
      tops = λ x. let o = old refl x in grind (arith, nat_tests);
    }

pub missed_of : (xs : List ℕ) {m v : ℕ} (t : ℕ → ℕ) → false ≡ among m v →
    Found (sets_of xs m t) v None (sets_of xs m t)
missed_of xs {m} {v} t out = record { answer = rw (← out) refl; size = refl; used = refl; tops = λ x. refl }

pub found_of : (xs ys : List ℕ) {m v r : ℕ} (t t' : ℕ → ℕ) → length ys ≡ length xs →
    ((x : ℕ) → among m x ≡ true → t' x ≡ t x) → true ≡ among m v → r ≡ t v →
    Found (sets_of xs m t) v (Some r) (sets_of ys m t')
found_of xs ys {m} {v} {r} t t' long same inside top = record {
  answer = rw (← inside) (ap {B = Option ℕ} Some top);
  size = ap (λ l. min l limit) long;
  used = refl;
  tops = λ x. let s = same x in grind (arith, nat_tests);
}

-- the two tests for a merge agree where own tops are those whose number is their own
pub mergeable_is : (xs : List ℕ) (m : ℕ) (t f : ℕ → ℕ) (v p : ℕ) →
    ((x : ℕ) → among m x ≡ true → eqb (t x) x ≡ eqb (f x) x) → two_tops m f v p ≡ mergeable (sets_of xs m t) v p
mergeable_is xs m t f v p same =
    let a = same v in
    let b = same p in
    grind (arith, nat_tests)

pub merged_of : (xs ys : List ℕ) {m v p : ℕ} (r : Bool) (t t' : ℕ → ℕ) → length ys ≡ length xs →
    r ≡ mergeable (sets_of xs m t) v p →
    ((x : ℕ) → among m x ≡ true → t' x ≡ cond (r && eqb (t x) v) p (t x)) →
    Merged (sets_of xs m t) v p r (sets_of ys m t')
merged_of xs ys {m} {v} {p} r t t' long ok after = record {
  accepted = ok;
  size = ap (λ l. min l limit) long;
  used = refl;
  tops = λ x. let a = after x in grind (arith, nat_tests);
}
