-- The stages of a line's reading find the first fault of the list.
use Rattle.std.proofs.Common.{◌≡◌, ℕ, Bool, true, false, cond, not, eqb, ltb, List, [], ◌∷◌, length, get_or, drop, Some, None, Ok, Err, Option, refl}
use Rattle.std.specs.Result.{result_err}
use Rattle.frame_text.specs.declared.faults.LineFault.{LineFault}
use Rattle.frame_text.specs.declared.faults.LineFault.TheVariants.{TooLong, NoLf}
use Rattle.frame_text.specs.declared.records.Kind.{Kind}
use Rattle.frame_text.specs.declared.records.Kind.TheVariants.{Make, Put, Drop, Analyse, Ask}
use Rattle.frame_text.specs.Fields.{fields, is_name, is_number}
use Rattle.frame_text.specs.Records.{letter, by_kind, by_letter}
use Rattle.frame_text.specs.Order.{first_of, field_faults, FirstFaultStands}

-- three tests in turn, each with its fault
in_turn : {X : Type 0} (a b c : Bool) (x : X) (fa fb fc : LineFault) →
    result_err (cond a (cond b (cond c (Ok x) (Err fc)) (Err fb)) (Err fa)) ≡
    cond (not a) (Some fa) (cond (not b) (Some fb) (cond (not c) (Some fc) None))
in_turn true true true x fa fb fc = refl
in_turn true true false x fa fb fc = refl
in_turn true false c x fa fb fc = refl
in_turn false b c x fa fb fc = refl

by_kinds : (line : ℕ) (kind : Option Kind) (rest : List (List ℕ)) →
    result_err (by_kind line kind rest) ≡ first_of (field_faults line kind rest)
by_kinds line None rest = refl
by_kinds line (Some Make) rest =
    in_turn (eqb (length rest) 2) (is_name (get_or rest 0 [])) (is_number (get_or rest 1 [])) _ _ _ _
by_kinds line (Some Put) rest =
    in_turn (eqb (length rest) 2) (is_number (get_or rest 0 [])) (is_number (get_or rest 1 [])) _ _ _ _
by_kinds line (Some Drop) rest =
    in_turn (eqb (length rest) 2) (is_number (get_or rest 0 [])) (is_number (get_or rest 1 [])) _ _ _ _
by_kinds line (Some Analyse) rest =
    in_turn (eqb (length rest) 0) true true _ _ (TooLong line) (TooLong line)
by_kinds line (Some (Ask question)) rest =
    in_turn (eqb (length rest) 1) (is_number (get_or rest 0 [])) true _ _ _ (TooLong line)

by_letters : (line : ℕ) (fs : List (List ℕ)) →
    result_err (by_letter line fs) ≡ first_of (field_faults line (letter (get_or fs 0 [])) (drop 1 fs))
by_letters line [] = refl
by_letters line (f ∷ fs) = by_kinds line (letter f) fs

pub first_fault_stands : FirstFaultStands
first_fault_stands line bytes ended =
    elim (ltb 64 (length bytes)) as (λ v.
    result_err (cond v (Err (TooLong line)) (cond ended (by_letter line (fields bytes)) (Err (NoLf line)))) ≡
    cond v (Some (TooLong line)) (cond (not ended) (Some (NoLf line))
    (first_of (field_faults line (letter (get_or (fields bytes) 0 [])) (drop 1 (fields bytes)))))) [
      | true ↦ refl
      | false ↦ elim ended as (λ e.
          result_err (cond e (by_letter line (fields bytes)) (Err (NoLf line))) ≡
          cond (not e) (Some (NoLf line))
          (first_of (field_faults line (letter (get_or (fields bytes) 0 [])) (drop 1 (fields bytes)))))
          [ true ↦ by_letters line (fields bytes) | false ↦ refl ]
    ]
