-- What is reported of a fault of a run: its line, its field (0 for the whole line) and its number in the list of
-- faults.
use Rattle.std.specs.Prelude.{ℕ}
use Rattle.model.specs.Refusals.{number_of}
use Rattle.model.specs.declared.refusals.Refusal.{Refusal}
use Rattle.model.specs.declared.refusals.Refusal.TheVariants.{OrderOutOfRange, EmptyModel, TableTooShort, SetsTooSmall}
use Rattle.model.specs.declared.refusals.Refusal.TheVariants.{VertexOutOfRange, EqualVertices, EntryHeld, ModelFull}
use Rattle.model.specs.declared.refusals.Refusal.TheVariants.{EntryNotHeld, NotAnalysed, ArraysTooShort}
use Rattle.model.specs.declared.refusals.Side.TheVariants.{First, Second}
use Rattle.frame_text.specs.Faults.{report_of, line_report}
use Rattle.frame_text.specs.declared.faults.Report.{Report}
use Rattle.frame_file.specs.declared.faults.RunFault.{RunFault}
use Rattle.frame_file.specs.declared.faults.RunFault.TheVariants.{FileTooLong, Line, OutOfPlace, Refused}

abbrev pub field_of : Refusal → ℕ
field_of OrderOutOfRange = 3
field_of EmptyModel = 3
field_of TableTooShort = 3
field_of SetsTooSmall = 3
field_of (VertexOutOfRange First) = 2
field_of (VertexOutOfRange Second) = 3
field_of EqualVertices = 0
field_of EntryHeld = 0
field_of ModelFull = 0
field_of EntryNotHeld = 0
field_of NotAnalysed = 0
field_of ArraysTooShort = 0

abbrev pub run_report : RunFault → Report
run_report FileTooLong = report_of 0 0 1
run_report (Line fault) = line_report fault
run_report (OutOfPlace line) = report_of line 1 7
run_report (Refused line refusal) = report_of line (field_of refusal) (number_of refusal)
