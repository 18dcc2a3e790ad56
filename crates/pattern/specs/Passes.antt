-- The one pass over the vertices by place that finds row counts and weights. An event (x, u) is that x is met as a
-- lower neighbour of u. Events are listed from the newest to the oldest, so each definition says what one event more
-- changes.
use Rattle.std.specs.Prelude.{◌≡◌, ℕ, ◌+◌, ◌-◌, ◌<◌, Bool, true, cond, ◌&&◌, List, [], ◌∷◌, length, ℤ, pos, ◌+ℤ◌, ◌-ℤ◌, ◌==◌, nat_le}
use Rattle.std.specs.List.{list_any}
use Rattle.pattern.specs.Patterns.{Pattern, shares}
use Rattle.pattern.specs.Elimination.{parent}
use Rattle.pattern.specs.Forest.{children}
use Rattle.pattern.specs.Analysis.{place_of, level_of}
use Rattle.pattern.specs.Fill.{in_subtree}
use Rattle.pattern.specs.Counts.{meet_of}

-- whether x was met as a lower neighbour of u
unfoldable pub happened : ℕ → ℕ → List (ℕ × ℕ) → Bool
happened x u es = list_any (λ e. e.0 == x && e.1 == u) es

-- the lower neighbour of u that was met last, or 0
unfoldable pub last_met : ℕ → List (ℕ × ℕ) → ℕ
last_met u [] = 0
last_met u (e ∷ es) = cond (e.1 == u) e.0 (last_met u es)

-- its place, or 0
unfoldable pub last_place : Pattern → ℕ → List (ℕ × ℕ) → ℕ
last_place p u es = cond (last_met u es == 0) 0 (place_of p (last_met u es))

-- some vertex of the subtree of y was met as a lower neighbour of u
abbrev pub MetUnder : Pattern → ℕ → ℕ → List (ℕ × ℕ) → Type 0
MetUnder p y u es = (x : ℕ) × (happened x u es ≡ true) × (in_subtree p x y ≡ true)

-- where the path from x joins what row u has so far: at the meeting vertex of x and the one met last, at first at u
unfoldable pub bend_at : Pattern → ℕ → ℕ → List (ℕ × ℕ) → ℕ
bend_at p x u es = cond (last_met u es == 0) u (meet_of p (last_met u es) x)

-- how many vertices row u has so far: each event adds the path from x up to its bend
unfoldable pub row_so_far : Pattern → ℕ → List (ℕ × ℕ) → ℕ
row_so_far p u [] = 1
row_so_far p u (e ∷ es) =
    let before = row_so_far p u es in
    cond (e.1 == u) (before + (level_of p e.0 - level_of p (bend_at p e.0 u es))) before

-- 1 if v is x, and 0 if not
unfoldable pub one_if : ℕ → ℕ → ℤ
one_if v x = cond (v == x) (pos 1) (pos 0)

-- the weight of v so far: 1 less its children to begin with; an event adds one at x and takes one off at the bend
unfoldable pub weight_so_far : Pattern → ℕ → List (ℕ × ℕ) → ℤ
weight_so_far p v [] = pos 1 -ℤ pos (length (children p.order (parent p) v))
weight_so_far p v (e ∷ es) =
    weight_so_far p v es +ℤ one_if v e.0 -ℤ one_if v (bend_at p e.0 e.1 es)

-- no event is at a later place than a newer one
unfoldable pub by_place : Pattern → List (ℕ × ℕ) → Bool
by_place p [] = true
by_place p (e ∷ []) = true
by_place p (e ∷ f ∷ es) = nat_le (place_of p f.0) (place_of p e.0) && by_place p (f ∷ es)

-- the events of a pass as far as it has come: only lower neighbours, and by place
pub record Passing (p : Pattern) (es : List (ℕ × ℕ)) : Type 0 where
  pub lower : (x u : ℕ) → happened x u es ≡ true → (x < u) × (shares p x u ≡ true)
  pub placed : by_place p es ≡ true

-- the events of a whole pass: every lower neighbour is met, or another one in its subtree is
pub record Passed (p : Pattern) (es : List (ℕ × ℕ)) : Type 0 where
  pub passing : Passing p es
  pub covers : (y u : ℕ) → y < u → shares p y u ≡ true → MetUnder p y u es
