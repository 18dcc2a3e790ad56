-- The fields after a line's letter, as the code takes them: one, two, or two numbers.
use Rattle.std.specs.Prelude.{ℕ, List, [], ◌∷◌, Some, None, Ok, Option, Result, slice_index_or}
use Rattle.std.specs.Borrow.{Bor}
use Rattle.std.specs.Result.{result_map_both}
use Rattle.frame_text.specs.declared.faults.LineFault.{LineFault}
use Rattle.frame_text.specs.declared.fields.Field.{Field}
use Rattle.frame_text.specs.declared.records.Operands.{Operands}
use Rattle.frame_text.specs.Records.{Part, part, part_of, counted, numbered}

abbrev pub one_of : Result Field LineFault → Result Part LineFault
one_of r = result_map_both part_of (λ fault. fault) r

abbrev pub pair_of : Result (Field × Field) LineFault → Result (Part × Part) LineFault
pair_of r = result_map_both (λ fs. (part_of fs.0, part_of fs.1)) (λ fault. fault) r

abbrev pub second : ℕ → List (List ℕ) → Part
second line rest = part line 2 (slice_index_or rest 0 [])

abbrev pub third : ℕ → List (List ℕ) → Part
third line rest = part line 3 (slice_index_or rest 1 [])

abbrev pub one_field : ℕ → ℕ → List (List ℕ) → Result Part LineFault
one_field line number rest = counted line 1 rest (Ok (part line number (slice_index_or rest 0 [])))

abbrev pub two_fields : ℕ → List (List ℕ) → Result (Part × Part) LineFault
two_fields line rest = counted line 2 rest (Ok (second line rest, third line rest))

abbrev pub two_numbers : ℕ → List (List ℕ) → Result (Part × Part) LineFault
two_numbers line rest = counted line 2 rest
    (numbered (second line rest) (numbered (third line rest) (Ok (second line rest, third line rest))))

-- the fields taken of those after a letter, with no more after the first that is missing
abbrev pub before_fields : Option (Bor (List ℕ)) → List (List ℕ) → List (List ℕ)
before_fields None fs = []
before_fields (Some f) fs = f.now ∷ fs

abbrev pub at_hand : Operands → List (List ℕ)
at_hand o = before_fields o.second (before_fields o.third (before_fields o.fourth []))
