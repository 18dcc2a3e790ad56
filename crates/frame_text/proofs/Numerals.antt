-- A number field is the decimal text of its value.
use Rattle.std.proofs.Common.{◌≡◌, ℕ, ◌^◌, ◌<◌, ◌≤◌, true, false, not, ◌&&◌, leb, List, [], ◌∷◌, length, get_or, decimal, refl, ap, ◌∙◌, arith, rules}
use Rattle.std.specs.Char.{is_ascii_digit}
use Rattle.std.specs.Int.{is_in_range}
use Rattle.std.proofs.lemmas.Fmt.{decimal-digits_value}
use Rattle.std.proofs.lemmas.Str.Parse.{IsNumeralModel, numerals_by_fold, digits_value_short}
use Rattle.std.proofs.lemmas.Bool.{and_parts, not-true, leb-true, eqb-false, cond-true}
use Rattle.frame_text.specs.Fields.{every, padded, is_number, read_on}
use Rattle.frame_text.specs.Laws.{NumbersReadBack}

pub own : IsNumeralModel (λ ds. every is_ascii_digit ds ≡ true) (read_on 0)
own = numerals_by_fold _ (search rules) read_on (search rules)

unpadded : (ds : List ℕ) → padded ds ≡ false → get_or ds 0 0 ≡ 48 → length ds ≡ 1
unpadded [] plain zero-first = absurd (omega arith)
unpadded (d ∷ []) plain zero-first = refl
unpadded (d ∷ e ∷ ds) plain zero-first = absurd (eqb-false d 48 plain zero-first)

pub numbers_read_back : NumbersReadBack
numbers_read_back ds good =
    let parts = and_parts (is_in_range 1 5 (length ds)) (every is_ascii_digit ds && not (padded ds)) good in
    let few = and_parts (leb 1 (length ds)) (leb (length ds) 5) parts.0 in
    let some : 0 < length ds = omega (arith, leb-true 1 (length ds) few.0) in
    let most : length ds ≤ 5 = leb-true (length ds) 5 few.1 in
    let digits = and_parts (every is_ascii_digit ds) (not (padded ds)) parts.1 in
    let under : read_on 0 ds < 2 ^ 64 = omega (arith, digits_value_short own ds 5 digits.0 most) in
    ap decimal (cond-true (is_number ds) (read_on 0 ds) 0 good) ∙
    decimal-digits_value own ds digits.0 some (unpadded ds (not-true (padded ds) digits.1)) under
