-- The faults of a line as a plain list, each with its condition; the first that holds is the line's.
use Rattle.std.specs.Prelude.{◌≡◌, ℕ, Bool, true, false, cond, not, ◌&&◌, List, [], ◌∷◌, length, drop, Some, None, Option, ◌==◌, nat_lt, slice_index_or}
use Rattle.std.specs.Result.{result_err}
use Rattle.frame_text.specs.declared.faults.FieldFault.TheVariants.{Name, Number}
use Rattle.frame_text.specs.declared.faults.LineFault.{LineFault}
use Rattle.frame_text.specs.declared.faults.LineFault.TheVariants.{TooLong, NoLf, FieldCount, Field}
use Rattle.frame_text.specs.declared.faults.LineFault.TheVariants as in_line
use Rattle.frame_text.specs.declared.records.Kind.{Kind}
use Rattle.frame_text.specs.declared.records.Kind.TheVariants.{Make, Put, Drop, Analyse, Ask}
use Rattle.frame_text.specs.Fields.{fields, is_name, is_number}
use Rattle.frame_text.specs.Records.{letter, operands, reading}

abbrev pub first_of : List (Bool × LineFault) → Option LineFault
first_of [] = None
first_of ((holds, fault) ∷ more) = cond holds (Some fault) (first_of more)

-- whether field 1 is no kind letter; whether the fields after it are more or fewer than its kind has
abbrev pub no_kind : Option Kind → Bool
no_kind None = true
no_kind (Some kind) = false

abbrev pub miscounted : Option Kind → List (List ℕ) → Bool
miscounted None rest = false
miscounted (Some kind) rest = not (length rest == operands kind)

-- whether field 2 is to be a name, field 2 a number, field 3 a number
abbrev pub named_second : Option Kind → Bool
named_second None = false
named_second (Some Make) = true
named_second (Some Put) = false
named_second (Some Drop) = false
named_second (Some Analyse) = false
named_second (Some (Ask question)) = false

abbrev pub numbered_second : Option Kind → Bool
numbered_second None = false
numbered_second (Some Make) = false
numbered_second (Some Put) = true
numbered_second (Some Drop) = true
numbered_second (Some Analyse) = false
numbered_second (Some (Ask question)) = true

abbrev pub numbered_third : Option Kind → Bool
numbered_third None = false
numbered_third (Some Make) = true
numbered_third (Some Put) = true
numbered_third (Some Drop) = true
numbered_third (Some Analyse) = false
numbered_third (Some (Ask question)) = false

-- the faults of field 1 and of the fields after it
abbrev pub field_faults : ℕ → Option Kind → List (List ℕ) → List (Bool × LineFault)
field_faults line kind rest =
    (no_kind kind, in_line.Kind line) ∷
    (miscounted kind rest, FieldCount line) ∷
    (named_second kind && not (is_name (slice_index_or rest 0 [])), Field (Name line 2)) ∷
    (numbered_second kind && not (is_number (slice_index_or rest 0 [])), Field (Number line 2)) ∷
    (numbered_third kind && not (is_number (slice_index_or rest 1 [])), Field (Number line 3)) ∷ []

abbrev pub faults_of : ℕ → List ℕ → Bool → List (Bool × LineFault)
faults_of line bytes ended =
    (nat_lt 64 (length bytes), TooLong line) ∷
    (not ended, NoLf line) ∷
    field_faults line (letter (slice_index_or (fields bytes) 0 [])) (drop 1 (fields bytes))

abbrev pub FirstFaultStands : Type 0
FirstFaultStands = (line : ℕ) (bytes : List ℕ) (ended : Bool) →
    result_err (reading line bytes ended) ≡ first_of (faults_of line bytes ended)
