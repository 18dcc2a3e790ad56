-- The stages of a line's reading, as the code takes them.
use Rattle.std.proofs.Common.{◌≡◌, ℕ, suc, ◌<◌, ◌≤◌, Bool, true, false, cond, eqb, List, [], ◌∷◌, length, get_or, drop, Ok, Err, IsOkAnd, MatchResult, Result, sym, refl, ap, inl, inr, arith}
use Rattle.std.specs.List.{onto_first}
use Rattle.std.specs.Result.{result_map_both}
use Rattle.std.proofs.lemmas.Bool.{ne_eqb, le-ltb, cond-false, cases_eq}
use Rattle.frame_text.specs.declared.faults.FieldFault.{FieldFault}
use Rattle.frame_text.specs.declared.faults.LineFault.{LineFault}
use Rattle.frame_text.specs.declared.faults.LineFault.TheVariants as in_line
use Rattle.frame_text.specs.declared.fields.Field.{Field}
use Rattle.frame_text.specs.declared.records.Kind.{Kind}
use Rattle.frame_text.specs.declared.records.Kind.TheVariants.{Put, Drop, Analyse, Ask}
use Rattle.frame_text.specs.declared.records.Question.{Question}
use Rattle.frame_text.specs.declared.records.Record.{Record}
use Rattle.frame_text.specs.Fields.{fields, is_number}
use Rattle.frame_text.specs.Parts.{pair_of, second, third, one_field, two_fields, two_numbers}
use Rattle.frame_text.specs.Records.{Part, Statement, part, part_of, statement_of, stated, puts, drops}
use Rattle.frame_text.specs.Records.{counted, numbered, operands, by_fields}
use Rattle.frame_text.specs.Records.{kind_of, by_count, by_kind, by_letter, reading}

pub some_field : (bs : List ℕ) → 0 < length (fields bs)
some_field [] = omega arith
some_field (b ∷ bs) = elim (eqb b 44) as (λ v. 0 < length (cond v ([] ∷ fields bs) (onto_first b (fields bs)))) [
  | true ↦ omega arith
  | false ↦ elim (fields bs) as (λ fs. 0 < length (onto_first b fs)) [ [] ↦ omega arith | (f ∷ fs) ↦ omega arith ]
]

abbrev beside : Part → Result Part LineFault → Result (Part × Part) LineFault
beside p r = result_map_both (λ q. (p, q)) (λ fault. fault) r

pub first_of_two : (line : ℕ) (f : List ℕ) (fs : List (List ℕ)) →
    two_fields line (f ∷ fs) ≡ beside (part line 2 f) (counted line 1 fs (Ok (part line 3 (get_or fs 0 []))))
first_of_two line f [] = refl
first_of_two line f (g ∷ []) = refl
first_of_two line f (g ∷ h ∷ gs) =
    rw (ne_eqb (suc (suc (suc (length gs)))) 2 (λ e. omega arith), ne_eqb (suc (suc (length gs))) 1 (λ e. omega arith))

-- a check that passed, and one that failed
pub passed : {X Y : Type 0} (test : Bool) (fault : FieldFault) (x y : Y) (next : Result X LineFault) →
    ◌≡◌ {A = Result Y FieldFault} (Ok x) (cond test (Ok y) (Err fault)) →
    next ≡ cond test next (Err (in_line.Field fault))
passed true fault x y next e = refl
passed false fault x y next e = absurd (let z : ◌≡◌ {A = ℕ} 0 1 = cc in omega arith)

pub failed : {X Y : Type 0} (test : Bool) (fault f : FieldFault) (y : Y) (next : Result X LineFault) →
    ◌≡◌ {A = Result Y FieldFault} (Err f) (cond test (Ok y) (Err fault)) →
    Err (in_line.Field f) ≡ cond test next (Err (in_line.Field fault))
failed true fault f y next e = absurd (let z : ◌≡◌ {A = ℕ} 0 1 = cc in omega arith)
failed false fault f y next e = cc

-- the one field, and the two fields, at hand
one_is : {X : Type 0} (test : Bool) (p s : X) (fault : LineFault) →
    ◌≡◌ {A = Result X LineFault} (Ok p) (cond test (Ok s) (Err fault)) → (test ≡ true) × (p ≡ s)
one_is true p s fault e = (refl, cc)
one_is false p s fault e = absurd (let z : ◌≡◌ {A = ℕ} 0 1 = cc in omega arith)

both_are : {X : Type 0} (test : Bool) (p q s t : X) (fault : LineFault) →
    ◌≡◌ {A = Result (X × X) LineFault} (Ok (p, q)) (cond test (Ok (s, t)) (Err fault)) →
    (test ≡ true) × (p ≡ s) × (q ≡ t)
both_are {X} true p q s t fault e =
    let same : ◌≡◌ {A = X × X} (p, q) (s, t) = cc in (refl, ap (λ z. z.0) same, ap (λ z. z.1) same)
both_are false p q s t fault e = absurd (let z : ◌≡◌ {A = ℕ} 0 1 = cc in omega arith)

-- a kind of two fields, and one of one field, at those
pub two_kind : (kind : Kind) (line : ℕ) (fs : List (List ℕ)) (p q : Part) → operands kind ≡ 2 →
    Ok (p, q) ≡ two_fields line fs → by_fields kind p q ≡ by_count line kind fs
two_kind kind line fs p q two e =
    let are = both_are (eqb (length fs) 2) p q (second line fs) (third line fs) (in_line.FieldCount line) e in
    rw (two, are.0, are.1, are.2)

pub ask_kind : (question : Question) (line : ℕ) (fs : List (List ℕ)) (p : Part) → Ok p ≡ one_field line 2 fs →
    by_fields (Ask question) p p ≡ by_count line (Ask question) fs
ask_kind question line fs p e =
    let are = one_is (eqb (length fs) 1) p (second line fs) (in_line.FieldCount line) e in rw (are.0, are.1)

-- too few or too many fields are so whatever follows
pub miscount : {X Y : Type 0} (test : Bool) (x : X) (fault f : LineFault) (next : Result Y LineFault) →
    ◌≡◌ {A = Result X LineFault} (Err f) (cond test (Ok x) (Err fault)) → Err f ≡ cond test next (Err fault)
miscount true x fault f next e = absurd (let z : ◌≡◌ {A = ℕ} 0 1 = cc in omega arith)
miscount false x fault f next e = cc

pub numbered_two : (line : ℕ) (fs : List (List ℕ)) (p q : Part) → Ok (p, q) ≡ two_fields line fs →
    numbered p (numbered q (Ok (p, q))) ≡ two_numbers line fs
numbered_two line fs p q e =
    let are = both_are (eqb (length fs) 2) p q (second line fs) (third line fs) (in_line.FieldCount line) e in
    rw (are.0, are.1, are.2)

-- the record of a kind of two numbers, from those
through : {X : Type 0} (f : X → Statement) (a b c : Bool) (x : X) (fa fb fc : LineFault) →
    result_map_both f (λ fault. fault) (cond a (cond b (cond c (Ok x) (Err fc)) (Err fb)) (Err fa)) ≡
    cond a (cond b (cond c (Ok (f x)) (Err fc)) (Err fb)) (Err fa)
through f true true true x fa fb fc = refl
through f true true false x fa fb fc = refl
through f true false c x fa fb fc = refl
through f false b c x fa fb fc = refl

abbrev pub with_two : (Part → Part → Statement) → Result (Part × Part) LineFault → Result Statement LineFault
with_two f r = result_map_both (λ (ps : Part × Part). f ps.0 ps.1) (λ fault. fault) r

-- a record made of two fields, where they are there
pub made_of : (f : Part → Part → Statement) (r : Result (Field × Field) LineFault) (m : Result Record LineFault) →
    MatchResult r (λ fs. IsOkAnd m (λ x. statement_of x ≡ f (part_of fs.0) (part_of fs.1))) (λ e. m ≡ Err e) →
    stated m ≡ with_two f (pair_of r)
made_of f (Ok fs) (Ok x) e = ap (λ s. Ok s) e
made_of f (Ok fs) (Err x) e = absurd e
made_of f (Err fault) m e = ap stated e

pub puts_two : (line : ℕ) (fs : List (List ℕ)) → with_two puts (two_numbers line fs) ≡ by_count line Put fs
puts_two line fs = through _ (eqb (length fs) 2) (is_number (get_or fs 0 [])) (is_number (get_or fs 1 [])) _ _ _ _

pub drops_two : (line : ℕ) (fs : List (List ℕ)) → with_two drops (two_numbers line fs) ≡ by_count line Drop fs
drops_two line fs = through _ (eqb (length fs) 2) (is_number (get_or fs 0 [])) (is_number (get_or fs 1 [])) _ _ _ _

pub analyse_more : (line : ℕ) (bs : List ℕ) → Err (in_line.FieldCount line) ≡ by_count line Analyse (fields bs)
analyse_more line bs =
    let left = some_field bs in
    sym (cond-false (eqb (length (fields bs)) 0) _ _ (ne_eqb (length (fields bs)) 0 (λ e. omega arith)))

-- a line by its first bytes; where the letter is itself a comma, field 1 is empty
first_byte : (line b : ℕ) (fs gs : List (List ℕ)) →
    by_kind line (kind_of b) fs ≡ by_letter line (cond (eqb b 44) ([] ∷ gs) ((b ∷ []) ∷ fs))
first_byte line b fs gs = elim (cases_eq b 44) [ inl e ↦ rw e | inr ne ↦ rw (ne_eqb b 44 ne) ]

pub letter_alone : (line : ℕ) (bs : List ℕ) → length bs ≡ 1 →
    by_kind line (kind_of (get_or bs 0 0)) [] ≡ by_letter line (fields bs)
letter_alone line [] one = absurd (omega arith)
letter_alone line (b ∷ c ∷ bs) one = absurd (omega arith)
letter_alone line (b ∷ []) one = first_byte line b [] ([] ∷ [])

-- a letter and a comma, with the fields of the rest
pub letter_comma : (line : ℕ) (bs rest : List ℕ) → rest ≡ drop 2 bs → 2 ≤ length bs → get_or bs 1 0 ≡ 44 →
    by_kind line (kind_of (get_or bs 0 0)) (fields rest) ≡ by_letter line (fields bs)
letter_comma line [] rest is long comma = absurd (omega arith)
letter_comma line (b ∷ []) rest is long comma = absurd (omega arith)
letter_comma line (b ∷ c ∷ bs) rest is long comma = rw (is, comma) (first_byte line b (fields bs) ([] ∷ fields bs))

two_bytes : (line b c : ℕ) (fs : List (List ℕ)) →
    Err (in_line.Kind line) ≡ by_letter line (onto_first b (onto_first c fs))
two_bytes line b c [] = refl
two_bytes line b c (f ∷ fs) = refl

pub no_letter : (line : ℕ) (bs : List ℕ) → (length bs ≡ 1 → ⊥) → (2 ≤ length bs → get_or bs 1 0 ≡ 44 → ⊥) →
    Err (in_line.Kind line) ≡ by_letter line (fields bs)
no_letter line [] long other = refl
no_letter line (b ∷ []) long other = absurd (long refl)
no_letter line (b ∷ c ∷ bs) long other =
    rw (ne_eqb c 44 (other (omega arith)))
    (elim (eqb b 44) as (λ v. Err (in_line.Kind line) ≡
    by_letter line (cond v ([] ∷ onto_first c (fields bs)) (onto_first b (onto_first c (fields bs)))))
    [ true ↦ refl | false ↦ two_bytes line b c (fields bs) ])

pub whole_line : (line : ℕ) (bs : List ℕ) (ended : Bool) → length bs ≤ 64 → ended ≡ true →
    by_letter line (fields bs) ≡ reading line bs ended
whole_line line bs ended short lf = rw (le-ltb 64 (length bs) short, lf)
