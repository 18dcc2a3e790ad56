-- Vertex records that hold a value, and what the gathering makes of them.
-- The record of vertex v stands at index v - 1.
use Rattle.std.specs.Prelude.{◌≡◌, ℕ, ◌-◌, ◌<◌, ◌≤◌, cond, List, ◌==◌, slice_index_or, slice_set}
use Rattle.pattern.specs.Forest.{subtree}
use Rattle.gather.specs.Joinings.{joined_over}

-- The value set is the one that is read, it is all that is set, and setting it leaves the parent.
pub record NodeLaws {J N : Type 0} (above : N → ℕ) (held : N → J) (holding : N → J → N) : Type 0 where
  pub reads : (x : N) (value : J) → held (holding x value) ≡ value
  pub same : (x : N) → holding x (held x) ≡ x
  pub again : (x : N) (value later : J) → holding (holding x value) later ≡ holding x later
  pub parent : (x : N) (value : J) → above (holding x value) ≡ above x

-- the record of v, and the blank one where there is none
abbrev pub record_of : {N : Type 0} → N → List N → ℕ → N
record_of blank nodes v = slice_index_or nodes (v - 1) blank

-- a field of the record of each vertex
abbrev pub field_of : {N A : Type 0} → N → (N → A) → List N → ℕ → A
field_of blank field nodes v = field (record_of blank nodes v)

-- the records once the value of v is joined into that of its parent, if it has one
abbrev pub joined_up : {J N : Type 0} → (J → J → J) → N → (N → ℕ) → (N → J) → (N → J → N) → List N → ℕ → List N
joined_up join blank above held holding nodes v =
    let vertex = record_of blank nodes v in
    let parent = record_of blank nodes (above vertex) in
    let raised = holding parent (join (held parent) (held vertex)) in
    cond (above vertex == 0) nodes (slice_set nodes (above vertex - 1) raised)

-- After the gathering over the vertices 1 to n: each record is the one before with just its value set, to the joining
-- of the values before over its subtree; all other records are as before.
pub record Gathered {J N : Type 0} (neutral : J) (join : J → J → J) (blank : N) (above : N → ℕ) (held : N → J)
    (holding : N → J → N) (n : ℕ) (before after : List N) : Type 0 where
  pub vertices : (v : ℕ) → 1 ≤ v → v ≤ n →
      record_of blank after v ≡
      holding (record_of blank before v)
      (joined_over neutral join (field_of blank held before) (subtree n (field_of blank above before) v))
  pub others : (v : ℕ) → n < v → record_of blank after v ≡ record_of blank before v

-- Each of the first n records has just its value set, to one that `gives` allows for the record as it was.
pub record Begun {J N : Type 0} (gives : N → J → Type 0) (blank : N) (held : N → J) (holding : N → J → N) (n : ℕ)
    (before after : List N) : Type 0 where
  pub only : (v : ℕ) → 1 ≤ v → v ≤ n →
      record_of blank after v ≡ holding (record_of blank before v) (held (record_of blank after v))
  pub given : (v : ℕ) → 1 ≤ v → v ≤ n → gives (record_of blank before v) (held (record_of blank after v))

-- After a gathering that begins so: each record is the one before with just its value set, to the joining over its
-- subtree of the values that were given.
pub record GatheredFrom {J N : Type 0} (gives : N → J → Type 0) (neutral : J) (join : J → J → J) (blank : N)
    (above : N → ℕ) (holding : N → J → N) (n : ℕ) (before after : List N) : Type 0 where
  pub first : ℕ → J
  pub given : (v : ℕ) → 1 ≤ v → v ≤ n → gives (record_of blank before v) (first v)
  pub vertices : (v : ℕ) → 1 ≤ v → v ≤ n →
      record_of blank after v ≡
      holding (record_of blank before v) (joined_over neutral join first (subtree n (field_of blank above before) v))
