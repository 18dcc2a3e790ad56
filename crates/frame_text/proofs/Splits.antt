-- A file is its first line and the lines of the rest.
use Rattle.std.proofs.Common.{◌≡◌, ℕ, suc, ◌+◌, ◌<◌, ◌≤◌, Bool, true, false, cond, not, eqb, List, [], ◌∷◌, length, take, drop, position, Option, Some, None, sym, refl, ap, ◌∙◌, inl, inr, arith}
use Rattle.std.specs.List.{position_or_len, before_first, after_first}
use Rattle.std.specs.Option.{unwrap_or}
use Rattle.std.proofs.lemmas.Bool.{cases_lt, le-ltb, lt-ltb}
use Rattle.std.proofs.lemmas.List.{drop_all, drop-drop}
use Rattle.std.proofs.lemmas.List.Sums.{prefix_len-le-length}
use Rattle.frame_text.specs.Lines.{lines, onto_line}

abbrev pub lf : ℕ → Bool
lf b = eqb b 10

-- the one answer of `position`: the place of the first that passes, or none
placed : {X : Type 0} (p : X → Bool) (xs : List X) (n : ℕ) → position p xs ≡ Some n →
    (n ≡ position_or_len p xs) × (n < length xs)
placed p xs n at =
    let P : Bool → Option ℕ = λ v. cond v (Some (position_or_len p xs)) None in
    elim (cases_lt (position_or_len p xs) (length xs)) [
      | inl found ↦
          let is : P true ≡ Some n = sym (ap P (lt-ltb (position_or_len p xs) (length xs) found)) ∙ at in
          let same : position_or_len p xs ≡ n = cc in (omega arith, omega arith)
      | inr none ↦
          let is : P false ≡ Some n = sym (ap P (le-ltb (position_or_len p xs) (length xs) none)) ∙ at in
          absurd (let z : ◌≡◌ {A = ℕ} 0 1 = cc in omega arith)
    ]

nowhere : {X : Type 0} (p : X → Bool) (xs : List X) → position p xs ≡ None → position_or_len p xs ≡ length xs
nowhere p xs at =
    let P : Bool → Option ℕ = λ v. cond v (Some (position_or_len p xs)) None in
    let most : position_or_len p xs ≤ length xs = prefix_len-le-length _ xs in
    elim (cases_lt (position_or_len p xs) (length xs)) [
      | inl found ↦
          let is : P true ≡ None = sym (ap P (lt-ltb (position_or_len p xs) (length xs) found)) ∙ at in
          absurd (let z : ◌≡◌ {A = ℕ} 0 1 = cc in omega arith)
      | inr none ↦ omega arith
    ]

-- a search that answers the length where it finds none: it found none if it ends there, and else the place
pub none_by : (bs : List ℕ) (o : Option ℕ) → position lf bs ≡ o → unwrap_or o (length bs) ≡ length bs → o ≡ None
none_by bs None at last = refl
none_by bs (Some n) at last = let found = placed lf bs n at in absurd (omega (arith, last, found.1))

pub some_by : (bs : List ℕ) (o : Option ℕ) (n : ℕ) → unwrap_or o (length bs) ≡ n → (n ≡ length bs → ⊥) → o ≡ Some n
some_by bs None n is other = absurd (other (sym is))
some_by bs (Some m) n is other = ap Some is

pub lines_ended : (bs : List ℕ) → position_or_len lf bs < length bs →
    lines bs ≡ (before_first lf bs, true) ∷ lines (after_first lf bs)
lines_ended [] found = absurd (omega arith)
lines_ended (b ∷ bs) found =
    let one : 1 + position_or_len lf bs ≡ suc (position_or_len lf bs) = omega arith in
    let two : suc (position_or_len lf bs) + 1 ≡ suc (position_or_len lf bs + 1) = omega arith in
    elim (eqb b 10) as (λ v. cond (not v) (1 + position_or_len lf bs) 0 < suc (length bs) →
    cond v (([], true) ∷ lines bs) (onto_line b (lines bs)) ≡
    (take (cond (not v) (1 + position_or_len lf bs) 0) (b ∷ bs), true) ∷
    lines (drop (cond (not v) (1 + position_or_len lf bs) 0 + 1) (b ∷ bs)))
    [ true ↦ λ _. refl | false ↦ λ later. rw (one, two) (ap (onto_line b) (lines_ended bs (omega arith))) ] found

pub lines_last : (b : ℕ) (bs : List ℕ) → position_or_len lf (b ∷ bs) ≡ length (b ∷ bs) →
    lines (b ∷ bs) ≡ ((b ∷ bs), false) ∷ []
lines_last b [] none =
    elim (eqb b 10) as (λ v. ◌≡◌ {A = ℕ} (cond (not v) 1 0) 1 →
    cond v (([], true) ∷ lines []) (onto_line b (lines [])) ≡ ((b ∷ []), false) ∷ [])
    [ true ↦ λ (e : ◌≡◌ {A = ℕ} 0 1). absurd (omega (arith, e)) | false ↦ λ _. refl ] none
lines_last b (c ∷ bs) none =
    elim (eqb b 10) as (λ v. cond (not v) (1 + position_or_len lf (c ∷ bs)) 0 ≡ suc (length (c ∷ bs)) →
    cond v (([], true) ∷ lines (c ∷ bs)) (onto_line b (lines (c ∷ bs))) ≡ ((b ∷ c ∷ bs), false) ∷ [])
    [ true ↦ λ e. absurd (omega arith) | false ↦ λ later. ap (onto_line b) (lines_last c bs (omega arith)) ] none

-- a reader at `at`, with `rest` to come: at the end, before a last line that has no LF, before a line that has one
pub reads_end : (file : List ℕ) (at : ℕ) → at ≡ length file → lines (drop at file) ≡ []
reads_end file at end = ap lines (drop_all at file (omega arith))

pub reads_last : (file rest : List ℕ) (at : ℕ) → rest ≡ drop at file → (length rest ≡ 0 → ⊥) →
    position lf rest ≡ None → lines (drop at file) ≡ (rest, false) ∷ lines (drop (length file) file)
reads_last file [] at is some none = absurd (some refl)
reads_last file (b ∷ rest) at is some none =
    ap lines (sym is) ∙ lines_last b rest (nowhere lf (b ∷ rest) none) ∙
    ap (λ ls. ((b ∷ rest), false) ∷ lines ls) (sym (drop_all (length file) file (omega arith)))

pub reads_line : (file rest : List ℕ) (at n : ℕ) → rest ≡ drop at file → position lf rest ≡ Some n →
    lines (drop at file) ≡ (take n rest, true) ∷ lines (drop (at + (n + 1)) file)
reads_line file rest at n is found =
    let place = placed lf rest n found in
    ap lines (sym is) ∙ lines_ended rest (omega arith) ∙
    ap (λ k. (take k rest, true) ∷ lines (drop (k + 1) rest)) (sym place.0) ∙
    ap (λ r. (take n rest, true) ∷ lines r) (ap (drop (n + 1)) is ∙ drop-drop (n + 1) at file)
