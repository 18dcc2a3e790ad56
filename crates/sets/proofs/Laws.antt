-- For callers: what the answers of ancestor sets say of a vertex, of a start, of a find and of a merge.
use Rattle.std.proofs.Common.{◌≡◌, ℕ, ◌≤◌, Bool, true, false, cond, eqb, Some, Option, arith}
use Rattle.std.proofs.lemmas.Bool.Decides.{nat_tests}
use Rattle.sets.specs.Meaning.{Sets, in_use, own_top, Sound, Started, Found, Merged}

pub in_use_from : (s : Sets) (v : ℕ) → 1 ≤ v → v ≤ s.used → in_use s v ≡ true
in_use_from s v low high = grind (arith, nat_tests)

-- the top of a vertex in use is a vertex in use
pub top_within : {s : Sets} → Sound s → (v : ℕ) → 1 ≤ v → v ≤ s.used → (1 ≤ s.top v) × (s.top v ≤ s.used)
top_within {s} h v low high =
    let i = h.top_in_use v (in_use_from s v low high) in
    (grind (arith, nat_tests), grind (arith, nat_tests))

-- and its own top
pub top_owns : {s : Sets} → Sound s → (v : ℕ) → 1 ≤ v → v ≤ s.used → own_top s (s.top v) ≡ true
top_owns {s} h v low high =
    let i = in_use_from s v low high in
    let inside = h.top_in_use v i in
    let own = h.top_own v i in
    grind (arith, nat_tests)

-- own tops are known by their top alone
pub own_from : {s : Sets} → Sound s → (v : ℕ) → 1 ≤ v → s.top v ≡ v → own_top s v ≡ true
own_from {s} h v low own = let out = h.top_none v in grind (arith, nat_tests)

-- a start that has room is accepted, and each vertex is then its own top
pub start_accepted : {s t : Sets} {n : ℕ} {r : Bool} → Started s n r t → n ≤ s.size → r ≡ true
start_accepted {s} {t} {n} {r} h room = let a = h.accepted in grind (arith, nat_tests)

pub start_owns : {s t : Sets} {n : ℕ} {r : Bool} → Started s n r t → r ≡ true → (x : ℕ) → 1 ≤ x → x ≤ n → t.top x ≡ x
start_owns {s} {t} {n} {r} h ok x low high = let e = h.tops x in grind (arith, nat_tests)

pub start_used : {s t : Sets} {n : ℕ} {r : Bool} → Started s n r t → r ≡ true → t.used ≡ n
start_used {s} {t} {n} {r} h ok = let e = h.used in grind (arith, nat_tests)

-- a find of a vertex in use answers its top
pub find_answers : {s t : Sets} {v : ℕ} {r : Option ℕ} → Found s v r t → 1 ≤ v → v ≤ s.used → r ≡ Some (s.top v)
find_answers {s} {t} {v} {r} h low high = let i = in_use_from s v low high in rw i at h.answer

-- a merge of two tops is accepted
pub merge_accepted : {s t : Sets} {v p : ℕ} {r : Bool} → Merged s v p r t → own_top s v ≡ true → own_top s p ≡ true →
    (v ≡ p → ⊥) → r ≡ true
merge_accepted {s} {t} {v} {p} {r} h a b apart = let e = h.accepted in grind (arith, nat_tests)

pub merge_tops : {s t : Sets} {v p : ℕ} {r : Bool} → Merged s v p r t → r ≡ true → (x : ℕ) →
    t.top x ≡ cond (eqb (s.top x) v) p (s.top x)
merge_tops {s} {t} {v} {p} {r} h ok x = let e = h.tops x in grind (arith, nat_tests)

pub merge_refused : {s t : Sets} {v p : ℕ} {r : Bool} → Merged s v p r t → r ≡ false → (x : ℕ) → t.top x ≡ s.top x
merge_refused {s} {t} {v} {p} {r} h refused x = let e = h.tops x in grind (arith, nat_tests)
