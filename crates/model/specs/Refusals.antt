-- The number of each refusal.
use Rattle.std.specs.Prelude.{ℕ}
use Rattle.model.specs.declared.refusals.Refusal.{Refusal}
use Rattle.model.specs.declared.refusals.Refusal.TheVariants.{OrderOutOfRange, EmptyModel, TableTooShort, SetsTooSmall}
use Rattle.model.specs.declared.refusals.Refusal.TheVariants.{VertexOutOfRange, EqualVertices, EntryHeld, ModelFull}
use Rattle.model.specs.declared.refusals.Refusal.TheVariants.{EntryNotHeld, NotAnalysed, ArraysTooShort}

abbrev pub number_of : Refusal → ℕ
number_of OrderOutOfRange = 8
number_of EmptyModel = 8
number_of TableTooShort = 9
number_of SetsTooSmall = 9
number_of (VertexOutOfRange side) = 10
number_of EqualVertices = 11
number_of EntryHeld = 12
number_of ModelFull = 13
number_of EntryNotHeld = 14
number_of NotAnalysed = 15
number_of ArraysTooShort = 16
