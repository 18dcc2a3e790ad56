-- Tables: what they keep, and what a start and a rewriting leave behind.
use Rattle.std.proofs.Common.{◌≡◌, ℕ, ◌+◌, ◌-◌, ◌<◌, ◌≤◌, true, cond, eqb, nat_le, List, ◌++◌, map, length, get_or, take, drop, set, sym, refl, ap, ◌∙◌, inl, inr, arith, length-set, get_or-set_other, get_or-set_same}
use Rattle.std.proofs.lemmas.List.{length-append, length-drop, length-map, length-take-le, drop_all, take_all, append-nil, get_or_append_left, get_or-map, get_or-take}
use Rattle.std.proofs.lemmas.Bool.{cases_eq, eq-eqb, ne_eqb}
use Rattle.std.proofs.lemmas.Bool.Decides.{nat_tests}
use Rattle.sets.specs.Meaning.{among}
use Rattle.sets.specs.Tables.{number, room, Stays, Begun, Rewritten}
use Rattle.sets.proofs.Linking.{Relinked}

-- what a table keeps
abbrev pub Kept : List ℕ → ℕ → Type 0
Kept xs m = record { fits : m ≤ room xs; stays : Stays m (number xs) }

-- one number is stored
pub relinked : (xs : List ℕ) (m v w : ℕ) → among m v ≡ true → m ≤ length xs →
    Relinked m (number xs) v w (number (set xs (v - 1) w))
relinked xs m v w iv long x ix =
    elim (cases_eq x v) [
      | inl e ↦
          let lt : v - 1 < length xs = grind (arith, nat_tests) in
          let s = get_or-set_same xs (v - 1) w 0 lt in
          let b = eq-eqb x v e in
          ap (λ j. get_or (set xs (v - 1) w) (j - 1) 0) e ∙ s ∙ sym (ap (λ q. cond q w (number xs x)) b)
      | inr n ↦
          let s = get_or-set_other xs (v - 1) (x - 1) w 0 (grind (arith, nat_tests)) in
          let b = ne_eqb x v n in
          s ∙ sym (ap (λ q. cond q w (number xs x)) b)
    ]

pub stored_kept : (xs : List ℕ) (m v w : ℕ) → among m v ≡ true → among m w ≡ true → Kept xs m →
    Kept (set xs (v - 1) w) m
stored_kept xs m v w iv iw kept =
    let fits = kept.fits in
    let same = length-set xs (v - 1) w in
    record {
      fits = omega arith;
      stays = λ x i. let r = relinked xs m v w iv (omega arith) x i in let s = kept.stays x i in grind (arith, nat_tests);
    }

-- the first n numbers are written anew, and the others are as they were
pub front_long : (xs ys : List ℕ) (n : ℕ) → length ys ≡ n → n ≤ length xs → length (ys ++ drop n xs) ≡ length xs
front_long xs ys n long fits =
    let a = length-append ys (drop n xs) in
    let d = length-drop n xs in
    omega arith

pub begun_of : (xs ys : List ℕ) (m n i : ℕ) → true ≡ nat_le n (room xs) → length ys ≡ length (take n xs) →
    length (take n xs) ≤ i → ((k : ℕ) → k < i → get_or ys k 0 ≡ k + 1) → Begun xs m n true (ys ++ drop n xs) n
begun_of xs ys m n i ok same end own =
    let fits : n ≤ room xs = grind (arith, nat_tests) in
    let short = length-take-le n xs (omega arith) in
    let long : length ys ≡ n = same ∙ short in
    record {
      accepted = ok;
      long = front_long xs ys n long (omega arith);
      used = refl;
      same = λ e. absurd (grind (arith, nat_tests));
      own = λ _ x i.
          let lt : x - 1 < length ys = grind (arith, nat_tests) in
          let o = own (x - 1) (omega arith) in
          let a = get_or_append_left ys (drop n xs) 0 (x - 1) lt in
          grind (arith, nat_tests);
    }

pub begun_kept : (xs ys : List ℕ) (m n : ℕ) → Begun xs m n true ys n → Kept ys n
begun_kept xs ys m n b =
    let a = b.accepted in
    let l = b.long in
    record {
      fits = grind (arith, nat_tests);
      stays = λ x i. let o = b.own refl x i in rw o i;
    }

-- what a number becomes, if v becomes p
abbrev pub becomes : ℕ → ℕ → ℕ → ℕ
becomes v p n = cond (eqb n v) p n

pub rewritten_of : (xs ys : List ℕ) (m v p i : ℕ) → m ≤ length xs → length (take m xs) ≤ i →
    ys ≡ map (becomes v p) (take i (take m xs)) ++ drop i (take m xs) → Rewritten xs m v p (ys ++ drop m xs)
rewritten_of xs ys m v p i fits end is =
    let f = becomes v p in
    let front = take m xs in
    let all : ys ≡ map f front =
    is ∙ ap (λ l. map f (take i front) ++ l) (drop_all i front end) ∙ append-nil _ ∙ ap (map f) (take_all i front end) in
    let short = length-take-le m xs fits in
    let long : length ys ≡ m = ap length all ∙ length-map front f ∙ short in
    record {
      long = front_long xs ys m long fits;
      numbers = λ x j.
          let lt : x - 1 < m = grind (arith, nat_tests) in
          get_or_append_left ys (drop m xs) 0 (x - 1) (omega arith) ∙ ap (λ l. get_or l (x - 1) 0) all
          ∙ get_or-map f front (x - 1) 0 0 (omega arith) ∙ ap f (get_or-take m xs (x - 1) 0 lt);
    }

pub rewritten_kept : (xs ys : List ℕ) (m v p : ℕ) → among m p ≡ true → Rewritten xs m v p ys → Kept xs m → Kept ys m
rewritten_kept xs ys m v p ip w kept =
    let long = w.long in
    let fits = kept.fits in
    record {
      fits = omega arith;
      stays = λ x i. let n = w.numbers x i in let s = kept.stays x i in grind (arith, nat_tests);
    }
