-- Which of several rules is met first, and what that makes of a call's outcome.
use Rattle.std.proofs.Common.{not, is_some, Result, subst, ◌≡◌, true, false, List, [], ◌∷◌, ◌++◌, Some, None, Ok}
use Rattle.std.proofs.Common.{Err, Option, sym, refl, ap, ◌∙◌}
use Rattle.std.specs.Option.{ok_or}
use Rattle.std.specs.Result.{IsErrAnd}
use Rattle.model.specs.declared.models.Model.{Model}
use Rattle.model.specs.declared.refusals.Refusal.{Refusal}
use Rattle.model.specs.Meaning.{meaning, Outcome}
use Rattle.model.specs.States.{Given, Rule, first_of, first_refusal, accepted, if_accepted, answer}
use Rattle.model.specs.Untouched.{Untouched, writes}
use Rattle.model.proofs.Rests.{untouched}

-- the rules after those that are not met
pub none_of : (xs ys : List Rule) → first_of xs ≡ None → first_of (xs ++ ys) ≡ first_of ys
none_of [] ys none = refl
none_of ((true, f) ∷ xs) ys none = absurd (cc)
none_of ((false, f) ∷ xs) ys none = none_of xs ys none

-- the rules before others
pub some_of : (xs ys : List Rule) (f : Refusal) → first_of xs ≡ Some f → first_of (xs ++ ys) ≡ Some f
some_of [] ys f some = absurd (cc)
some_of ((true, e) ∷ xs) ys f some = some
some_of ((false, e) ∷ xs) ys f some = some_of xs ys f some

-- none of the rules is met
abbrev pub Unmet : List Rule → Type 0
Unmet [] = Unit {0}
Unmet ((met, f) ∷ rules) = (met ≡ false) × Unmet rules

pub unmet : (rules : List Rule) → first_of rules ≡ None → Unmet rules
unmet [] none = tt
unmet ((true, f) ∷ rules) none = absurd (cc)
unmet ((false, f) ∷ rules) none = (refl, unmet rules none)

-- what an answer that is no refusal tells
pub answered : {X : Type 0} (o : Option Refusal) (x y : X) → answer o x ≡ Ok y → (o ≡ None) × (x ≡ y)
answered None x y ok = (refl, cc)
answered (Some f) x y ok = absurd (cc)

-- what an answer that is one tells
pub met_some : {X : Type 0} (o : Option Refusal) (x : X) (f : Refusal) → answer o x ≡ Err f → o ≡ Some f
met_some None x f err = absurd (cc)
met_some (Some e) x f err = ap Some (cc)

pub refused : {X : Type 0} (g : Given) (m : Model) (x : X) (f : Refusal) → first_refusal (meaning m) g ≡ Some f →
    Outcome g m m x (Err f)
refused g m x f is =
    record {
      answers = ap (λ o. answer o x) (sym is);
      turns = ap (λ o. if_accepted o (accepted (meaning m) g) (meaning m)) (sym is);
      keeps = λ _. refl;
      rest = untouched _ m.store;
    }

pub carried : {X : Type 0} (g : Given) (m n : Model) (x y : X) → first_refusal (meaning m) g ≡ None →
    meaning n ≡ accepted (meaning m) g → y ≡ x → Untouched (writes (meaning m) g) m.store n.store →
    Outcome g m n x (Ok y)
carried g m n x y is turned same rest =
    record {
      answers = ap Ok same ∙ ap (λ o. answer o x) (sym is);
      turns = turned ∙ ap (λ o. if_accepted o (accepted (meaning m) g) (meaning m)) (sym is);
      keeps = λ err. absurd (cc);
      rest = rest;
    }

-- a call that answers as an option that holds nothing does
pub missed : {X Y : Type 0} (g : Given) (m : Model) (x : X) (o : Option Y) (e f : Refusal) (r : Result X Refusal) →
    first_refusal (meaning m) g ≡ first_of ((not (is_some o), f) ∷ []) → ok_or o f ≡ Err e →
    IsErrAnd r (λ d. d ≡ e) → Outcome g m m x r
missed g m x None e f (Err d) is err same = subst (λ d. Outcome g m m x (Err d)) (cc) (refused g m x f is)
missed g m x (Some y) e f (Err d) is err same = absurd (cc)
missed g m x o e f (Ok y) is err same = absurd same
