-- What lines, fields and numbers are, said the other way round: by what they are made of.
use Rattle.std.specs.Prelude.{◌≡◌, ℕ, Bool, true, cond, not, ◌&&◌, List, [], ◌∷◌, ◌++◌, decimal, ◌==◌}
use Rattle.frame_text.specs.Fields.{every, fields, is_number, value_of}
use Rattle.frame_text.specs.Lines.{lines}

-- a number field is what is printed of its value
abbrev pub NumbersReadBack : Type 0
NumbersReadBack = (bs : List ℕ) → is_number bs ≡ true → decimal (value_of bs) ≡ bs

-- lines put together again, each with its LF if it has one
abbrev pub unlines : List (List ℕ × Bool) → List ℕ
unlines [] = []
unlines ((bs, ended) ∷ ls) = bs ++ (cond ended (10 ∷ []) [] ++ unlines ls)

abbrev pub without : ℕ → List ℕ → Bool
without mark bs = every (λ b. not (b == mark)) bs

-- no line has an LF in it, and only the last may have none after it
abbrev pub sound : List (List ℕ × Bool) → Bool
sound [] = true
sound ((bs, ended) ∷ []) = without 10 bs
sound ((bs, ended) ∷ l ∷ ls) = (without 10 bs && ended) && sound (l ∷ ls)

abbrev pub LinesJoin : Type 0
LinesJoin = (bs : List ℕ) → (unlines (lines bs) ≡ bs) × (sound (lines bs) ≡ true)

-- fields put together again, with a comma between two
abbrev pub commas : List (List ℕ) → List ℕ
commas [] = []
commas (f ∷ []) = f
commas (f ∷ g ∷ fs) = f ++ 44 ∷ commas (g ∷ fs)

abbrev pub comma_free : List (List ℕ) → Bool
comma_free [] = true
comma_free (f ∷ fs) = without 44 f && comma_free fs

abbrev pub FieldsJoin : Type 0
FieldsJoin = (bs : List ℕ) → (commas (fields bs) ≡ bs) × (comma_free (fields bs) ≡ true)
