-- A test of every byte and the number that digits write, one byte on.
use Rattle.std.proofs.Common.{◌≡◌, ℕ, zero, suc, ◌+◌, ◌-◌, ◌*◌, ◌^◌, ◌<◌, ◌≤◌, Bool, true, false, ◌&&◌, leb, List, [], ◌∷◌, length, get_or, take, drop, sym, ap, ◌∙◌, add-one, arith, lit<}
use native.Mathlib.Nat.{pow-succ', pow-le-pow_right}
use Rattle.std.proofs.lemmas.Bool.{and_parts, leb-true}
use Rattle.std.proofs.lemmas.List.{at_drop_more, take-append-drop, length-take}
use Rattle.std.proofs.lemmas.List.Folds.{list_all-append}
use Rattle.std.proofs.lemmas.Str.Parse.{digits_value_short}
use Rattle.std.specs.Char.{is_ascii_digit}
use Rattle.frame_text.specs.Fields.{every, read_on}
use Rattle.frame_text.proofs.Numerals.{own}

pub every_stops : (test : ℕ → Bool) (bs : List ℕ) (i : ℕ) → i < length bs →
    test (get_or bs i 0) ≡ false → every test (drop i bs) ≡ false
every_stops test bs i l fails = at_drop_more (every test) bs i 0 l ∙ ap (λ t. t && every test (drop (i + 1) bs)) fails

pub every_more : (test : ℕ → Bool) (bs : List ℕ) (i : ℕ) → i < length bs →
    test (get_or bs i 0) ≡ true → every test (drop i bs) ≡ every test (drop (i + 1) bs)
every_more test bs i l passes = at_drop_more (every test) bs i 0 l ∙ ap (λ t. t && every test (drop (i + 1) bs)) passes

passes_at : (test : ℕ → Bool) (bs : List ℕ) (i d : ℕ) → i < length bs → every test bs ≡ true →
    test (get_or bs i d) ≡ true
passes_at test (b ∷ bs) zero d l all = (and_parts (test b) (every test bs) all).0
passes_at test (b ∷ bs) (suc i) d l all = passes_at test bs i d (omega arith) (and_parts (test b) (every test bs) all).1
passes_at test [] i d l all = absurd (omega arith)

pub every_at : (test : ℕ → Bool) (bs : List ℕ) (i : ℕ) → i < length bs →
    every test bs ≡ true → test (get_or bs i 0) ≡ true
every_at test bs i l all = passes_at test bs i 0 l all

pub digit_bounds : (b : ℕ) → is_ascii_digit b ≡ true → (48 ≤ b) × (b ≤ 57)
digit_bounds b d =
    let both = and_parts (leb 48 b) (leb b 57) d in (leb-true 48 b both.0, leb-true b 57 both.1)

-- one digit more is one power of ten more
pub ten_more : (n d i : ℕ) → n < 10 ^ i → d ≤ 9 → n * 10 + d < 10 ^ (i + 1)
ten_more n d i under digit =
    let step : 10 ^ (i + 1) ≡ 10 * 10 ^ i = ap (λ k. 10 ^ k) (add-one i) ∙ pow-succ' 10 i in omega arith

pub five_digits : (n i : ℕ) → n < 10 ^ i → i ≤ 5 → n ≤ 99999
five_digits n i under few =
    let most : 10 ^ i ≤ 10 ^ 5 = pow-le-pow_right (lit< tt) {i = i} {j = 5} few in omega arith

-- where the digits before i write n, and the one at i is v
pub read_more : (bs : List ℕ) (n v i : ℕ) → i < length bs → every is_ascii_digit bs ≡ true → v ≡ get_or bs i 0 - 48 →
    (read_on 0 bs ≡ read_on n (drop i bs)) × (n < 10 ^ i) →
    (read_on 0 bs ≡ read_on (n * 10 + v) (drop (i + 1) bs)) × (n * 10 + v < 10 ^ (i + 1))
read_more bs n v i l digits e inv =
    let digit = digit_bounds (get_or bs i 0) (every_at is_ascii_digit bs i l digits) in (
      inv.0 ∙ at_drop_more (read_on n) bs i 0 l ∙ ap (λ d. read_on (n * 10 + d) (drop (i + 1) bs)) (sym e),
      ten_more n v i inv.1 (omega arith),
    )

-- where the digits before i write n, there is room for x, the one at i
pub room : (bs : List ℕ) (i n x : ℕ) → length bs ≤ 5 → every is_ascii_digit bs ≡ true → i < length bs →
    n ≡ read_on 0 (take i bs) → x ≡ get_or bs i x → (n < 10000) × (48 ≤ x) × (x ≤ 57)
room bs i n x few digits within before at =
    let split : every is_ascii_digit (take i bs) && every is_ascii_digit (drop i bs) ≡ true =
    sym (list_all-append is_ascii_digit (take i bs) (drop i bs)) ∙
    ap (every is_ascii_digit) (take-append-drop i bs) ∙ digits in
    let front = (and_parts (every is_ascii_digit (take i bs)) (every is_ascii_digit (drop i bs)) split).0 in
    let digit : is_ascii_digit x ≡ true = ap is_ascii_digit at ∙ passes_at is_ascii_digit bs i x within digits in
    let both = and_parts (leb 48 x) (leb x 57) digit in
    let shorter = length-take i bs in
    let under : read_on 0 (take i bs) < 10 ^ 4 = digits_value_short own (take i bs) 4 front (omega arith) in
    (omega arith, leb-true 48 x both.0, leb-true x 57 both.1)
