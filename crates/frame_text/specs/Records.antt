-- What a line says: its kind, its fields, and the statement that they make, or the first fault.
use Rattle.std.specs.Prelude.{ℕ, Bool, cond, List, [], ◌∷◌, length, Some, None, Ok, Err, Option, Result, ◌==◌, nat_lt, slice_index_or}
use Rattle.std.specs.Result.{result_map_both}
use Rattle.frame_text.specs.declared.faults.FieldFault.TheVariants as in_field
use Rattle.frame_text.specs.declared.faults.LineFault.{LineFault}
use Rattle.frame_text.specs.declared.faults.LineFault.TheVariants as in_line
use Rattle.frame_text.specs.declared.fields.Field.{Field}
use Rattle.frame_text.specs.declared.records.Kind.{Kind}
use Rattle.frame_text.specs.declared.records.Kind.TheVariants.{Make, Put, Drop, Analyse, Ask}
use Rattle.frame_text.specs.declared.records.Question.{Question}
use Rattle.frame_text.specs.declared.records.Question.TheVariants as question
use Rattle.frame_text.specs.declared.records.Record.{Record}
use Rattle.frame_text.specs.declared.records.Record.TheVariants as borrowed
use Rattle.frame_text.specs.Fields.{fields, is_name, is_number}

-- a field by its bytes, its line's number and its own
pub record Part : Type 0 where
  pub bytes : List ℕ
  pub line : ℕ
  pub number : ℕ

-- what a line without fault says
pub data Statement : Type 0 where
  makes : Part → Part → Statement
  puts : Part → Part → Statement
  drops : Part → Part → Statement
  analyses : Statement
  asks : Question → Part → Statement

-- the statement of a record that borrows its fields from the file
abbrev pub part_of : Field → Part
part_of f = record { bytes = f.bytes.now; line = f.line; number = f.number }

abbrev pub statement_of : Record → Statement
statement_of (borrowed.Make name order) = makes (part_of name) (part_of order)
statement_of (borrowed.Put i j) = puts (part_of i) (part_of j)
statement_of (borrowed.Drop i j) = drops (part_of i) (part_of j)
statement_of borrowed.Analyse = analyses
statement_of (borrowed.Ask question vertex) = asks question (part_of vertex)

abbrev pub stated : Result Record LineFault → Result Statement LineFault
stated r = result_map_both statement_of (λ fault. fault) r

-- the ten kinds by their letters: M, P, D, A, U, O, F, H, R, C
abbrev pub kind_of : ℕ → Option Kind
kind_of b =
    cond (b == 77) (Some Make) (cond (b == 80) (Some Put) (cond (b == 68) (Some Drop)
    (cond (b == 65) (Some Analyse)
    (cond (b == 85) (Some (Ask question.Parent)) (cond (b == 79) (Some (Ask question.Place))
    (cond (b == 70) (Some (Ask question.FirstPlace)) (cond (b == 72) (Some (Ask question.Height))
    (cond (b == 82) (Some (Ask question.RowCount)) (cond (b == 67) (Some (Ask question.ColumnCount)) None)))))))))

-- how many fields a kind has after its letter
abbrev pub operands : Kind → ℕ
operands Make = 2
operands Put = 2
operands Drop = 2
operands Analyse = 0
operands (Ask question) = 1

abbrev pub part : ℕ → ℕ → List ℕ → Part
part line number bytes = record { bytes = bytes; line = line; number = number }

-- what follows if there are n fields, if a field is a name, if it is a number
abbrev pub counted : {X : Type 0} → ℕ → ℕ → List (List ℕ) → Result X LineFault → Result X LineFault
counted line n rest next = cond (length rest == n) next (Err (in_line.FieldCount line))

abbrev pub named : {X : Type 0} → Part → Result X LineFault → Result X LineFault
named p next = cond (is_name p.bytes) next (Err (in_line.Field (in_field.Name p.line p.number)))

abbrev pub numbered : {X : Type 0} → Part → Result X LineFault → Result X LineFault
numbered p next = cond (is_number p.bytes) next (Err (in_line.Field (in_field.Number p.line p.number)))

-- stage 4: fields 2 and 3, i and j, by what the kind wants of them
abbrev pub by_fields : Kind → Part → Part → Result Statement LineFault
by_fields Make i j = named i (numbered j (Ok (makes i j)))
by_fields Put i j = numbered i (numbered j (Ok (puts i j)))
by_fields Drop i j = numbered i (numbered j (Ok (drops i j)))
by_fields Analyse i j = Ok analyses
by_fields (Ask question) i j = numbered i (Ok (asks question i))

-- stage 3: there are as many fields after the letter as the kind wants
abbrev pub by_count : ℕ → Kind → List (List ℕ) → Result Statement LineFault
by_count line kind rest = counted line (operands kind) rest
    (by_fields kind (part line 2 (slice_index_or rest 0 [])) (part line 3 (slice_index_or rest 1 [])))

-- stage 2: field 1 is one kind letter
abbrev pub by_kind : ℕ → Option Kind → List (List ℕ) → Result Statement LineFault
by_kind line None rest = Err (in_line.Kind line)
by_kind line (Some kind) rest = by_count line kind rest

abbrev pub letter : List ℕ → Option Kind
letter [] = None
letter (b ∷ []) = kind_of b
letter (b ∷ c ∷ cs) = None

abbrev pub by_letter : ℕ → List (List ℕ) → Result Statement LineFault
by_letter line [] = Err (in_line.Kind line)
by_letter line (first ∷ rest) = by_kind line (letter first) rest

-- stage 1: the line is at most 64 bytes and has its LF
abbrev pub reading : ℕ → List ℕ → Bool → Result Statement LineFault
reading line bytes ended =
    cond (nat_lt 64 (length bytes)) (Err (in_line.TooLong line))
    (cond ended (by_letter line (fields bytes)) (Err (in_line.NoLf line)))
