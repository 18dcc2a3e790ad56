-- The block that answers a line, and that every answer stands whole in its block.
use Rattle.std.proofs.Common.{◌≡◌, ℕ, ◌≤◌, Bool, true, false, cond, ◌&&◌, eqb, ltb, leb, List, [], ◌∷◌, length}
use Rattle.std.proofs.Common.{get_or, Some, None, Ok, Err, Option, Result, sym, refl, ap, ◌∙◌, arith, lit≤}
use Rattle.std.proofs.lemmas.Bool.{and_parts, leb-true}
use Rattle.model.specs.Meaning.{meaning}
use Rattle.model.specs.States.{State}
use Rattle.model.specs.declared.models.Model.{Model}
use Rattle.model.specs.declared.refusals.Refusal.{Refusal}
use Rattle.frame_text.specs.Answers.{name_length, text_of, whole_block}
use Rattle.frame_text.specs.Fields.{every, fields, is_name, is_number, name_byte}
use Rattle.frame_text.specs.Records.{Part, Statement, makes, puts, drops, analyses, asks, numbered, part}
use Rattle.frame_text.specs.Records.{by_fields, by_kind, by_letter, letter, operands, reading}
use Rattle.frame_text.specs.declared.answers.Answer.{Answer}
use Rattle.frame_text.specs.declared.answers.Answer.TheVariants as says
use Rattle.frame_text.specs.declared.faults.LineFault.{LineFault}
use Rattle.frame_text.specs.declared.faults.LineFault.TheVariants.{FieldCount, Field}
use Rattle.frame_text.specs.declared.faults.FieldFault.TheVariants.{Name, Number}
use Rattle.frame_text.specs.declared.lines.Line.{Line}
use Rattle.frame_text.specs.declared.records.Kind.{Kind}
use Rattle.frame_text.specs.declared.records.Kind.TheVariants as kinds
use Rattle.frame_file.specs.declared.faults.RunFault.{RunFault}
use Rattle.frame_file.specs.Carried.{Carried, Does, LineAnswered, lent_with}
use Rattle.frame_file.specs.Runs.{Sizes, answer_by, bare, in_place, line_verdict, refusal_of, said, state_by, unless}
use Rattle.frame_file.specs.Runs.{verdict}

-- how long a name a statement gives
abbrev pub given_name : Statement → ℕ
given_name (makes name order) = length name.bytes
given_name (puts i j) = 0
given_name (drops i j) = 0
given_name analyses = 0
given_name (asks question vertex) = 0

abbrev pub Short : {E : Type 0} → Result Statement E → Type 0
Short (Ok t) = given_name t ≤ 16
Short (Err fault) = Unit {0}

short_if : {E : Type 0} (b : Bool) (x y : Result Statement E) → (b ≡ true → Short x) → Short y → Short (cond b x y)
short_if true x y hx hy = hx refl
short_if false x y hx hy = hy

short_numbered : (p : Part) (next : Result Statement LineFault) → Short next → Short (numbered p next)
short_numbered p next h = short_if (is_number p.bytes) next (Err (Field (Number p.line p.number))) (λ _. h) tt

short_fields : (kind : Kind) (i j : Part) → Short (by_fields kind i j)
short_fields kinds.Make i j =
    short_if (is_name i.bytes) (numbered j (Ok (makes i j))) (Err (Field (Name i.line i.number)))
    (λ e. short_numbered j (Ok (makes i j))
    (let n : ℕ = length i.bytes in
    let ends = and_parts (leb 1 n && leb n 16) (every name_byte i.bytes) e in
    leb-true n 16 (and_parts (leb 1 n) (leb n 16) ends.0).1)) tt
short_fields kinds.Put i j = short_numbered i (numbered j (Ok (puts i j))) (short_numbered j (Ok (puts i j)) (lit≤ tt))
short_fields kinds.Drop i j =
    short_numbered i (numbered j (Ok (drops i j))) (short_numbered j (Ok (drops i j)) (lit≤ tt))
short_fields kinds.Analyse i j = lit≤ tt
short_fields (kinds.Ask question) i j = short_numbered i (Ok (asks question i)) (lit≤ tt)

short_kind : (line : ℕ) (kind : Option Kind) (rest : List (List ℕ)) → Short (by_kind line kind rest)
short_kind line None rest = tt
short_kind line (Some kind) rest =
    short_if (eqb (length rest) (operands kind))
    (by_fields kind (part line 2 (get_or rest 0 [])) (part line 3 (get_or rest 1 []))) (Err (FieldCount line))
    (λ _. short_fields kind (part line 2 (get_or rest 0 [])) (part line 3 (get_or rest 1 []))) tt

short_letter : (line : ℕ) (fs : List (List ℕ)) → Short (by_letter line fs)
short_letter line [] = tt
short_letter line (first ∷ rest) = short_kind line (letter first) rest

short_reading : (line : ℕ) (bytes : List ℕ) (ended : Bool) → Short (reading line bytes ended)
short_reading line bytes ended =
    short_if (ltb 64 (length bytes)) _ _ (λ _. tt) (short_if ended _ _ (λ _. short_letter line (fields bytes)) tt)

short_unless : (line : ℕ) (f : Option Refusal) (t : Statement) → given_name t ≤ 16 → Short (unless line f t)
short_unless line None t h = h
short_unless line (Some refusal) t h = tt

short_verdict : (z : Sizes) (s : State) (line : ℕ) (r : Result Statement LineFault)
    → Short r → Short (verdict z s line r)
short_verdict z s line (Ok t) h = short_if (in_place s t) _ _ (λ _. short_unless line (refusal_of z s t) t h) tt
short_verdict z s line (Err fault) h = tt

name_said : (s : State) (t : Statement) → name_length (said s t) ≡ given_name t
name_said s (makes name order) = refl
name_said s (puts i j) = refl
name_said s (drops i j) = refl
name_said s analyses = refl
name_said s (asks question vertex) = refl

name_bare : (a : Answer) → name_length (bare a) ≡ name_length a
name_bare (says.Made name order) = refl
name_bare (says.Put held) = refl
name_bare (says.Dropped held) = refl
name_bare (says.Analysed total) = refl
name_bare (says.Asked question vertex n) = refl
name_bare (says.Refused report) = refl

text_bare : (a : Answer) → text_of (bare a) ≡ text_of a
text_bare (says.Made name order) = refl
text_bare (says.Put held) = refl
text_bare (says.Dropped held) = refl
text_bare (says.Analysed total) = refl
text_bare (says.Asked question vertex n) = refl
text_bare (says.Refused report) = refl

-- the text of an answer that is given, and that its name is short
told : (z : Sizes) (before after : Model) (v : Result Statement RunFault) (a : Answer) → Short v
    → Carried z v before after (Ok a)
    → (name_length a ≤ 16) × (text_of a ≡ text_of (answer_by (state_by z (meaning before) v) v))
told z before after (Ok t) a h c =
    let same : bare a ≡ said (meaning after) t = let e = c.answer in cc in
    let named : name_length a ≡ given_name t
    = sym (name_bare a) ∙ ap name_length same ∙ name_said (meaning after) t in (
      omega arith,
      sym (text_bare a) ∙ ap text_of same ∙ ap (λ s. text_of (said s t)) c.state,
    )
told z before after (Err fault) a h c = let e = c.answer in grind arith

-- a line that is answered by a
pub line_answered : (size : ℕ) (l : Line) (before after : Model) (a : Answer) (block : List ℕ)
    → Does size (λ z s. line_verdict z s l.number (l.bytes.now, l.ended)) before after (Ok a)
    → (name_length a ≤ 16 → block ≡ whole_block (text_of a))
    → LineAnswered size l before after block
line_answered size l before after a block c whole =
    let z : Sizes = lent_with before size in
    let s : State = meaning before in
    let v : Result Statement RunFault = line_verdict z s l.number (l.bytes.now, l.ended) in
    let h : Short v = short_verdict z s l.number _ (short_reading l.number l.bytes.now l.ended) in
    let both = told z before after v a h c in
    record { state = c.state; block = whole both.0 ∙ ap whole_block both.1; keeps = c.keeps; rest = c.rest }
