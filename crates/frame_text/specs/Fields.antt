-- The fields of a line, which every comma parts, and what a name and a number are.
use Rattle.std.specs.Prelude.{ℕ, ◌+◌, ◌-◌, ◌*◌, Bool, false, cond, not, ◌&&◌, ◌||◌, List, [], ◌∷◌, length, fold, ◌==◌}
use Rattle.std.specs.Char.{is_ascii_digit, is_ascii_uppercase}
use Rattle.std.specs.Int.{is_in_range}
use Rattle.std.specs.List.{list_all, slice_split}

-- the parts between commas (44), of which there is always one
abbrev pub fields : List ℕ → List (List ℕ)
fields bs = slice_split (λ b. b == 44) bs

abbrev pub every : (ℕ → Bool) → List ℕ → Bool
every test bs = list_all test bs

-- A to Z, 0 to 9, hyphen
abbrev pub name_byte : ℕ → Bool
name_byte b = is_ascii_uppercase b || (is_ascii_digit b || b == 45)

abbrev pub is_name : List ℕ → Bool
is_name bs = is_in_range 1 16 (length bs) && every name_byte bs

-- a zero before other digits
abbrev pub padded : List ℕ → Bool
padded [] = false
padded (b ∷ []) = false
padded (b ∷ c ∷ bs) = b == 48

-- one to five decimal digits
abbrev pub is_number : List ℕ → Bool
is_number bs = is_in_range 1 5 (length bs) && (every is_ascii_digit bs && not (padded bs))

-- the number that digits write after those that write n
abbrev pub read_on : ℕ → List ℕ → ℕ
read_on n bs = fold (λ m b. m * 10 + (b - 48)) n bs

-- the number that a field writes; 0 where it writes none
abbrev pub value_of : List ℕ → ℕ
value_of bs = cond (is_number bs) (read_on 0 bs) 0
