-- What is reported of a fault: its line, its field (0 for the whole line) and its number in the list of faults.
use Rattle.std.specs.Prelude.{ℕ}
use Rattle.frame_text.specs.declared.faults.FieldFault.{FieldFault}
use Rattle.frame_text.specs.declared.faults.FieldFault.TheVariants.{Name, Number}
use Rattle.frame_text.specs.declared.faults.LineFault.{LineFault}
use Rattle.frame_text.specs.declared.faults.LineFault.TheVariants.{TooLong, NoLf, Kind, FieldCount, Field}
use Rattle.frame_text.specs.declared.faults.Report.{Report}

abbrev pub report_of : ℕ → ℕ → ℕ → Report
report_of line field number = record { line = line; field = field; number = number }

abbrev pub field_report : FieldFault → Report
field_report (Name line field) = report_of line field 5
field_report (Number line field) = report_of line field 6

abbrev pub line_report : LineFault → Report
line_report (TooLong line) = report_of line 0 2
line_report (NoLf line) = report_of line 0 2
line_report (Kind line) = report_of line 1 3
line_report (FieldCount line) = report_of line 0 4
line_report (Field fault) = field_report fault
