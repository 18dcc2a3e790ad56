-- What a store holds and means, and what it holds after a push and after a removal.
use Rattle.std.specs.Prelude.{◌≡◌, ℕ, ◌+◌, ◌<◌, min, Bool, false, List, [], ◌∷◌, ◌++◌, length, take, is_some, None}
use Rattle.std.specs.Prelude.{◌==◌, nat_lt}
use Rattle.std.specs.List.{remove}
use Rattle.analysis.specs.declared.records.Entry.{Entry}
use Rattle.analysis.specs.Tables.{SoundPair, entry, pairs_of}
use Rattle.pattern.specs.Patterns.{listed}
use Rattle.model.specs.States.{State, most_entries}
use Rattle.model.specs.declared.pairs.Pair.{Pair}
use Rattle.model.specs.declared.stores.Store.{Store}

-- the entries that a store holds
abbrev pub held_by : Store → List Entry
held_by s = take s.held s.entries.now

-- what a store means
abbrev pub means : Store → State
means s =
    record {
      order = s.order;
      capacity = min (length s.entries.now) most_entries;
      entries = pairs_of (held_by s);
      analysed = is_some s.total;
    }

-- an entry of two vertices of the order, the lower one first, that is not held while there is room for it
pub record Fresh (p : Pair) (s : Store) : Type 0 where
  pub room : s.held < (means s).capacity
  pub sound : SoundPair s.order (p.low, p.high)
  pub absent : listed (means s).entries p.low p.high ≡ false

-- what a change of the entries that writes these places leaves as it was; it ends the analysis
pub record Changed (writes : ℕ → Bool) (s t : Store) : Type 0 where
  pub order : t.order ≡ s.order
  pub vertices : t.vertices ≡ s.vertices
  pub lent : t.entries.ghost_name ≡ s.entries.ghost_name
  pub long : length t.entries.now ≡ length s.entries.now
  pub rest : (k : ℕ) → writes k ≡ false → entry t.entries.now k ≡ entry s.entries.now k
  pub unanalysed : t.total ≡ None

pub record Pushed (p : Pair) (s t : Store) : Type 0 where
  pub others : Changed (λ k. k == s.held) s t
  pub count : t.held ≡ s.held + 1
  pub entries : held_by t ≡ held_by s ++ record { low = p.low; high = p.high; lower = 0; upper = 0 } ∷ []

pub record Removed (at : ℕ) (s t : Store) : Type 0 where
  pub others : Changed (λ k. nat_lt (k + 1) s.held) s t
  pub count : t.held + 1 ≡ s.held
  pub entries : held_by t ≡ remove (held_by s) at
