-- Lines and fields, put together again.
use Rattle.std.proofs.Common.{◌≡◌, ℕ, ◌<◌, Bool, true, false, eqb, List, [], ◌∷◌, length, sym, refl, ap, ◌∙◌, inl, inr, arith}
use Rattle.std.specs.List.{onto_first}
use Rattle.std.proofs.lemmas.Bool.{eqb-true, cases_Bool}
use Rattle.frame_text.specs.Fields.{fields}
use Rattle.frame_text.specs.Lines.{lines, onto_line}
use Rattle.frame_text.proofs.Stages.{some_field}
use Rattle.frame_text.specs.Laws.{unlines, sound, commas, comma_free, LinesJoin, FieldsJoin}

-- a byte that is no LF, put before a file's first line
onto_joins : (b : ℕ) (ls : List (List ℕ × Bool)) → unlines (onto_line b ls) ≡ b ∷ unlines ls
onto_joins b [] = refl
onto_joins b ((bs, ended) ∷ ls) = refl

onto_sound : (b : ℕ) (ls : List (List ℕ × Bool)) → eqb b 10 ≡ false → sound ls ≡ true → sound (onto_line b ls) ≡ true
onto_sound b [] other good = rw other
onto_sound b ((bs, ended) ∷ []) other good = rw other good
onto_sound b ((bs, ended) ∷ l ∷ ls) other good = rw other good

lf_sound : (ls : List (List ℕ × Bool)) → sound ls ≡ true → sound (([], true) ∷ ls) ≡ true
lf_sound [] good = refl
lf_sound (l ∷ ls) good = good

pub lines_join : LinesJoin
lines_join [] = (refl, refl)
lines_join (b ∷ bs) =
    let rest = lines_join bs in
    elim (cases_Bool (eqb b 10)) [
      | inl lf ↦ rw lf
          (ap (λ u. 10 ∷ u) rest.0 ∙ ap (λ c. c ∷ bs) (sym (eqb-true b 10 lf)), lf_sound (lines bs) rest.1)
      | inr other ↦ rw other
          (onto_joins b (lines bs) ∙ ap (λ u. b ∷ u) rest.0, onto_sound b (lines bs) other rest.1)
    ]

-- a comma, and any other byte, put before a line's first field
comma_joins : (fs : List (List ℕ)) → 0 < length fs → commas ([] ∷ fs) ≡ 44 ∷ commas fs
comma_joins [] some = absurd (omega arith)
comma_joins (f ∷ fs) some = refl

first_joins : (b : ℕ) (fs : List (List ℕ)) → commas (onto_first b fs) ≡ b ∷ commas fs
first_joins b [] = refl
first_joins b (f ∷ []) = refl
first_joins b (f ∷ g ∷ fs) = refl

first_free : (b : ℕ) (fs : List (List ℕ)) → eqb b 44 ≡ false → comma_free fs ≡ true →
    comma_free (onto_first b fs) ≡ true
first_free b [] other good = rw other
first_free b (f ∷ fs) other good = rw other good

pub fields_join : FieldsJoin
fields_join [] = (refl, refl)
fields_join (b ∷ bs) =
    let rest = fields_join bs in
    elim (cases_Bool (eqb b 44)) [
      | inl comma ↦ rw comma (
        comma_joins (fields bs) (some_field bs) ∙ ap (λ u. 44 ∷ u) rest.0 ∙
            ap (λ c. c ∷ bs) (sym (eqb-true b 44 comma)),
        rest.1,
      )
      | inr other ↦ rw other
          (first_joins b (fields bs) ∙ ap (λ u. b ∷ u) rest.0, first_free b (fields bs) other rest.1)
    ]
