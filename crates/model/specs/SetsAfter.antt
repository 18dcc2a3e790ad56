-- What the ancestor sets lent to a call stand for after it.
use Rattle.std.specs.Prelude.{◌≡◌, ℕ, cond}
use Rattle.pattern.specs.Elimination.{parent}
use Rattle.pattern.specs.Patterns.{Pattern, within}
use Rattle.pattern.specs.Tops.{root}
use Rattle.sets.specs.Meaning.{Sets}
use Rattle.model.specs.States.{State, Given, Put, Drop, Analyse, Question, Total, Structure, if_accepted}
use Rattle.model.specs.States.{first_refusal, pattern_in}

-- t stands for what s does
pub record SameSets (s t : Sets) : Type 0 where
  pub size : t.size ≡ s.size
  pub used : t.used ≡ s.used
  pub tops : (v : ℕ) → t.top v ≡ s.top v

-- ancestor sets in which the vertices of the pattern p are in use, and the top of each is the root of its tree
abbrev pub settled : Pattern → Sets → Sets
settled p s =
    record {
      size = s.size;
      used = p.order;
      top = λ v. cond (within p.order v) (root p.order (parent p) v) 0;
    }

-- what an accepted call makes of the sets lent to it
abbrev pub sets_accepted : State → Given → Sets → Sets
sets_accepted s (Analyse size) lent = settled (pattern_in s) lent
sets_accepted s (Put i j) lent = lent
sets_accepted s (Drop i j) lent = lent
sets_accepted s (Question v) lent = lent
sets_accepted s Total lent = lent
sets_accepted s (Structure starts rows) lent = lent

-- what the sets stand for after a call: a refused one leaves them
abbrev pub sets_after : State → Given → Sets → Sets
sets_after s g lent = if_accepted (first_refusal s g) (sets_accepted s g lent) lent
