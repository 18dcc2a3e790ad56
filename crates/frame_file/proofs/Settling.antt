-- What a line makes of the ancestor sets.
use Rattle.std.proofs.Common.{◌≡◌, ℕ, Bool, true, false, cond, Some, None, Ok, Err, Option, Result, refl, sym, ap}
use Rattle.std.proofs.Common.{◌∙◌, subst}
use mathlib.Core.Path.{fun_ext}
use Rattle.sets.specs.Meaning.{Sets}
use Rattle.model.specs.SetsAfter.{SameSets, sets_accepted, sets_after}
use Rattle.model.specs.States.{State, Analyse, if_accepted}
use Rattle.model.specs.declared.refusals.Refusal.{Refusal}
use Rattle.frame_text.specs.Records.{Statement, makes, puts, drops, analyses, asks, statement_of}
use Rattle.frame_text.specs.declared.records.Record.{Record}
use Rattle.frame_file.specs.declared.faults.RunFault.TheVariants.{OutOfPlace}
use Rattle.frame_file.specs.Runs.{Sizes, allowed, in_place, refusal_of, sets_by, sets_left, unless}

same_self : (s : Sets) → SameSets s s
same_self s = record { size = refl; used = refl; tops = λ _. refl }

-- sets that stand for the same are the same
pub same_sets : (s t : Sets) → SameSets s t → t ≡ s
same_sets s t same = λ k. record { size = same.size k; used = same.used k; top = fun_ext same.tops k }

-- every verdict leaves their size
pub sets_size : {E : Type 0} (z : Sizes) (s : State) (v : Result Statement E) (lent : Sets) →
    (sets_by z s v lent).size ≡ lent.size
sets_size z s (Ok (makes name order)) lent = refl
sets_size z s (Ok (puts i j)) lent = refl
sets_size z s (Ok (drops i j)) lent = refl
sets_size z s (Ok analyses) lent = refl
sets_size z s (Ok (asks question vertex)) lent = refl
sets_size z s (Err fault) lent = refl

-- a statement that leaves them where it is accepted leaves them
stay_if : (z : Sizes) (s : State) (line : ℕ) (t : Statement) (b : Bool) (f : Option Refusal) (lent : Sets) →
    sets_left z s t lent ≡ lent → sets_by z s (cond b (unless line f t) (Err (OutOfPlace line))) lent ≡ lent
stay_if z s line t true None lent left = left
stay_if z s line t true (Some refusal) lent left = refl
stay_if z s line t false f lent left = refl

pub stay : (z : Sizes) (s : State) (line : ℕ) (record' : Record) (lent : Sets) {t : Statement} {after : Sets} →
    statement_of record' ≡ t → after ≡ lent → sets_left z s t lent ≡ lent →
    SameSets (sets_by z s (allowed z s line (statement_of record')) lent) after
stay z s line record' lent {t} {after} is same left =
    let kept = ap (λ u. sets_by z s (allowed z s line u) lent) is
    ∙ stay_if z s line t (in_place s t) (refusal_of z s t) lent left in
    subst (λ (u : Sets). SameSets u after) (sym kept) (subst (SameSets lent) (sym same) (same_self lent))

-- an analysis in its place makes of them what the model's own call does
settle_if : (z : Sizes) (s : State) (line : ℕ) (f : Option Refusal) (lent after : Sets) →
    SameSets (if_accepted f (sets_accepted s (Analyse z.sets) lent) lent) after →
    SameSets (sets_by z s (unless line f analyses) lent) after
settle_if z s line None lent after same = same
settle_if z s line (Some refusal) lent after same = same

pub settle : (z : Sizes) (s : State) (line : ℕ) (record' : Record) (lent : Sets) {after after' : Sets} →
    statement_of record' ≡ analyses → after' ≡ after → in_place s analyses ≡ true →
    SameSets (sets_after s (Analyse z.sets) lent) after →
    SameSets (sets_by z s (allowed z s line (statement_of record')) lent) after'
settle z s line record' lent {after} {after'} is same placed settled =
    let f = refusal_of z s analyses in
    let T : Statement → Type 0 = λ t. SameSets (sets_by z s (allowed z s line t) lent) after' in
    let P : Bool → Type 0 =
    λ b. SameSets (sets_by z s (cond b (unless line f analyses) (Err (OutOfPlace line))) lent) after' in
    subst T (sym is)
    (subst P (sym placed) (settle_if z s line f lent after' (subst (SameSets _) (sym same) settled)))
