-- The law over runs: what a model answers, told by paths of members. Here s is the account, and its entries are the
-- members; m is the model after the run. `asked f m v` is what the model's call for f answers, `told m g` whether a
-- call is accepted, and `starts_after` and `rows_after` what the structure call writes, each by the contract of that
-- call in crates/model. The fill is that of elimination.
use Rattle.std.specs.Prelude.{◌≡◌, ℕ, ◌+◌, ◌-◌, ◌<◌, ◌≤◌, true, ◌⊎◌, ◌↔◌}
use Rattle.std.specs.Prelude.{List, length, drop, Some, Ok, Result, slice_index}
use Rattle.std.specs.List.Sorted.{IsStrictlyIncreasing}
use Rattle.pattern.specs.Lists.{occurs}
use Rattle.pattern.specs.Patterns.{within, listed}
use Rattle.pattern.specs.Elimination.{parent, fill, row_count, col_count}
use Rattle.pattern.specs.Paths.{Leads, front, inner, all_under}
use Rattle.model.specs.Asked.{asked, told}
use Rattle.model.specs.Columns.{column_in}
use Rattle.model.specs.States.{State, Structure, pattern_in}
use Rattle.model.specs.Written.{starts_after, rows_after}
use Rattle.model.specs.declared.models.Model.{Model}
use Rattle.model.specs.declared.refusals.Refusal.{Refusal}

-- v lies below u: one or more steps lead from v to u, each to the joint that is answered as the parent
pub data LiesBelow (m : Model) : ℕ → ℕ → Type 0 where
  to_parent : (v u : ℕ) → 1 ≤ u → asked parent m v ≡ Ok u → LiesBelow m v u
  by_parent : (v w u : ℕ) → asked parent m v ≡ Ok w → LiesBelow m w u → LiesBelow m v u

-- a path of members leads from v to u, and all its joints but u, so v too, are numbered under u
abbrev pub LeadsUnder : State → ℕ → ℕ → Type 0
LeadsUnder s v u = (l : List ℕ) × Leads (pattern_in s) v u l × (all_under u (front l) ≡ true)

-- a path of members leads from v to u, and its inner joints are all numbered under v
abbrev pub LeadsThrough : State → ℕ → ℕ → Type 0
LeadsThrough s v u = (l : List ℕ) × Leads (pattern_in s) v u l × (all_under v (inner l) ≡ true)

-- v is numbered under u, and they are joined by such a path
abbrev pub Joined : State → ℕ → ℕ → Type 0
Joined s v u = (v < u) × LeadsThrough s v u

-- xs are just the numbers of which P holds, ascending, so each once
pub record Lists (xs : List ℕ) (P : ℕ → Type 0) : Type 0 where
  pub ascending : IsStrictlyIncreasing xs
  pub exactly : (x : ℕ) → occurs x xs ≡ true ↔ P x

-- r answers how many numbers P holds of
abbrev pub Counts : (ℕ → Type 0) → Result ℕ Refusal → Type 0
Counts P r = (xs : List ℕ) × Lists xs P × (r ≡ Ok (length xs))

-- The structure stands at the beginning of two arrays: the first start is 0, each next one is greater by the column
-- count answered less 1, and from the start of v to the next stand just the joints that v is joined to, ascending.
pub record Stands (s : State) (m : Model) (starts rows : List ℕ) : Type 0 where
  pub long : s.order < length starts
  pub begins : slice_index starts 0 ≡ 0
  pub grows : (v : ℕ) → within s.order v ≡ true →
      (c : ℕ) × (asked col_count m v ≡ Ok c) × (slice_index starts v + 1 ≡ slice_index starts (v - 1) + c)
  pub columns : (v : ℕ) → within s.order v ≡ true →
      (us : List ℕ) × (column_in starts rows v ≡ Some us) × Lists us (Joined s v)

-- Behind that the arrays are as they were.
pub record Rest (s : State) (starts rows starts' rows' : List ℕ) : Type 0 where
  pub starts_stay : drop (s.order + 1) starts' ≡ drop (s.order + 1) starts
  pub rows_stay : drop (slice_index starts' s.order) rows' ≡ drop (slice_index starts' s.order) rows

-- a structure call that is accepted writes it so
abbrev pub Writes : State → Model → List ℕ → List ℕ → Type 0
Writes s m starts rows =
    let g = Structure (length starts) (length rows) in
    told {X = Unit {0}} m g tt ≡ Ok tt →
    Stands s m (starts_after s g starts) (rows_after s g rows)
    × Rest s starts rows (starts_after s g starts) (rows_after s g rows)

-- what an analysed model answers, by the paths of members
pub record Answers (s : State) (m : Model) : Type 0 where
  pub below : (v u : ℕ) → LiesBelow m v u ↔ LeadsUnder s v u
  pub fill : (v u : ℕ) → v < u → fill (pattern_in s) v u ≡ true ↔ LeadsThrough s v u
  pub rows : (u : ℕ) → within s.order u ≡ true → Counts (λ v. (v ≡ u) ⊎ Joined s v u) (asked row_count m u)
  pub columns : (v : ℕ) → within s.order v ≡ true → Counts (λ u. (u ≡ v) ⊎ Joined s v u) (asked col_count m v)
  pub structure : (starts rows : List ℕ) → Writes s m starts rows

-- the second answer is no smaller than the first
abbrev pub NoSmaller : Result ℕ Refusal → Result ℕ Refusal → Type 0
NoSmaller q r = (a : ℕ) × (b : ℕ) × (q ≡ Ok a) × (r ≡ Ok b) × (a ≤ b)

-- every member of the first account is one of the second, either way round
abbrev pub MoreMembers : State → State → Type 0
MoreMembers s t = (a b : ℕ) → listed s.entries a b ≡ true → listed t.entries a b ≡ true

-- with more members no joint of n has a smaller count, and what lies above a joint still does
pub record Grown (n : ℕ) (m k : Model) : Type 0 where
  pub rows : (v : ℕ) → within n v ≡ true → NoSmaller (asked row_count m v) (asked row_count k v)
  pub columns : (v : ℕ) → within n v ≡ true → NoSmaller (asked col_count m v) (asked col_count k v)
  pub above : (v u : ℕ) → LiesBelow m v u → LiesBelow k v u
