-- Where a call may write in the two tables of a model, and that it leaves all other places as they were.
use Rattle.std.specs.Prelude.{◌≡◌, ℕ, ◌+◌, Bool, false, cond, ◌||◌, length, ◌==◌, nat_le, nat_lt}
use Rattle.analysis.specs.Tables.{entry, vertex}
use Rattle.model.specs.States.{State, Given, Put, Drop, Analyse, Question, Total, Structure}
use Rattle.model.specs.declared.stores.Store.{Store}

-- places of the two tables: vertices by their numbers, from 1, and entries by their positions, from 0
pub record Places : Type 0 where
  pub vertices : ℕ → Bool
  pub entries : ℕ → Bool

abbrev pub nowhere : Places
nowhere = record { vertices = λ _. false; entries = λ _. false }

-- the places of the one or of the other
abbrev pub either : Places → Places → Places
either a b = record { vertices = λ v. a.vertices v || b.vertices v; entries = λ k. a.entries k || b.entries k }

-- the vertices of the order, and the entries held
abbrev pub all_of : State → Places
all_of s = record { vertices = λ v. nat_le v s.order; entries = λ k. nat_lt k (length s.entries) }

-- a put writes the place after the entries held, a drop those of the entries that stay held, and an analysis, unless
-- it is done already, all that it is of
abbrev pub writes : State → Given → Places
writes s (Put i j) = record { vertices = λ _. false; entries = λ k. k == length s.entries }
writes s (Drop i j) = record { vertices = λ _. false; entries = λ k. nat_lt (k + 1) (length s.entries) }
writes s (Analyse size) = cond s.analysed nowhere (all_of s)
writes s (Question v) = nowhere
writes s Total = nowhere
writes s (Structure starts rows) = nowhere

-- From s to t no more than these places are written: the same tables are lent, and all other places are as they were.
pub record Untouched (w : Places) (s t : Store) : Type 0 where
  pub vertices_lent : t.vertices.ghost_name ≡ s.vertices.ghost_name
  pub entries_lent : t.entries.ghost_name ≡ s.entries.ghost_name
  pub tall : length t.vertices.now ≡ length s.vertices.now
  pub long : length t.entries.now ≡ length s.entries.now
  pub vertices : (v : ℕ) → w.vertices v ≡ false → vertex t.vertices.now v ≡ vertex s.vertices.now v
  pub entries : (k : ℕ) → w.entries k ≡ false → entry t.entries.now k ≡ entry s.entries.now k
