-- The fields that `split` hands out one by one, and that three after the letter are enough to read a line.
use Rattle.std.proofs.Common.{◌≡◌, ℕ, suc, Bool, List, [], ◌∷◌, length, take, drop, slice_get, option_map, Some, None, Option, sym, refl, ap, ◌∙◌, subst, arith}
use Rattle.std.specs.Borrow.{Bor}
use Rattle.std.specs.Slice.Iter.{split_steps}
use Rattle.std.specs.declared.slice.Split.{Split}
use denote.Param.Members.{Mut}
use Rattle.std.proofs.lemmas.Bool.{ne_eqb}
use Rattle.std.proofs.lemmas.Iterator.{YieldsList}
use Rattle.frame_text.specs.declared.records.Kind.{Kind}
use Rattle.frame_text.specs.declared.records.Kind.TheVariants.{Make, Put, Drop, Analyse, Ask}
use Rattle.frame_text.specs.Parts.{before_fields}
use Rattle.frame_text.specs.Records.{by_count, by_kind}

-- a call hands out the first of the fields that are left
pub taken : {F : Type 0} (g : Mut F (Bor ℕ × Unit {0}) Bool) (s t : Split ℕ F) (r : Option (Bor (List ℕ)))
    (fs : List (List ℕ)) →
    YieldsList (split_steps g) (λ x. x.now) s fs → split_steps g s r t →
    (option_map (λ x. x.now) r ≡ slice_get fs 0) × YieldsList (split_steps g) (λ x. x.now) t (drop 1 fs)
taken g s t None [] e step = (refl, subst (λ u. YieldsList (split_steps g) (λ x. x.now) u []) (sym step.1) e)
taken g s t None (f ∷ fs) e step = absurd (e.runs.0 t step)
taken g s t (Some x) [] e step = absurd (e.runs x t step)
taken g s t (Some x) (f ∷ fs) e step = let m = e.runs.1 x t step in (ap (λ y. Some y) m.0, record { runs = m.1 })

-- the fields handed out are the first that were left
pub one_more : (n : ℕ) (o : Option (Bor (List ℕ))) (fs rest : List (List ℕ)) →
    option_map (λ x. x.now) o ≡ slice_get fs 0 → rest ≡ take n (drop 1 fs) → before_fields o rest ≡ take (suc n) fs
one_more n None [] rest e same = refl
one_more n None (f ∷ fs) rest e same = absurd (let z : ◌≡◌ {A = ℕ} 0 1 = cc in omega arith)
one_more n (Some x) [] rest e same = absurd (let z : ◌≡◌ {A = ℕ} 0 1 = cc in omega arith)
one_more n (Some x) (f ∷ fs) rest e same = let first : x.now ≡ f = cc in ap (λ h. h ∷ rest) first ∙ ap (λ t. f ∷ t) same

-- no kind has more than two fields after its letter
three_are : (line : ℕ) (kind : Kind) (fs : List (List ℕ)) → by_count line kind (take 3 fs) ≡ by_count line kind fs
three_are line kind [] = refl
three_are line kind (f ∷ []) = refl
three_are line kind (f ∷ g ∷ []) = refl
three_are line Make (f ∷ g ∷ h ∷ hs) = rw (ne_eqb (suc (suc (suc (length hs)))) 2 (λ e. omega arith)) refl
three_are line Put (f ∷ g ∷ h ∷ hs) = rw (ne_eqb (suc (suc (suc (length hs)))) 2 (λ e. omega arith)) refl
three_are line Drop (f ∷ g ∷ h ∷ hs) = rw (ne_eqb (suc (suc (suc (length hs)))) 2 (λ e. omega arith)) refl
three_are line Analyse (f ∷ g ∷ h ∷ hs) = rw (ne_eqb (suc (suc (suc (length hs)))) 0 (λ e. omega arith)) refl
three_are line (Ask question) (f ∷ g ∷ h ∷ hs) = rw (ne_eqb (suc (suc (suc (length hs)))) 1 (λ e. omega arith)) refl

pub three_do : (line : ℕ) (kind : Option Kind) (fs : List (List ℕ)) → by_kind line kind (take 3 fs) ≡ by_kind line kind fs
three_do line None fs = refl
three_do line (Some kind) fs = three_are line kind fs
