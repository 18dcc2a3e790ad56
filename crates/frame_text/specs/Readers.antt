-- A reader of lines: those that it has handed out, by their number, and those that are left.
use Rattle.std.specs.Prelude.{◌≡◌, ℕ, ◌+◌, Bool, List, [], ◌∷◌, drop, Some, None, Option}
use Rattle.frame_text.specs.declared.lines.FrameReader.{FrameReader}
use Rattle.frame_text.specs.declared.lines.Line.{Line}
use Rattle.frame_text.specs.Lines.{lines}

abbrev pub left : FrameReader → List (List ℕ × Bool)
left r = lines (drop r.at r.file.now)

abbrev pub handed : FrameReader → ℕ
handed r = r.line

-- the first line left, with its number, and the others left after it; at the end none, and nothing changes
abbrev pub Hands : FrameReader → Option Line → FrameReader → Type 0
Hands r None r' = (left r ≡ []) × (left r' ≡ []) × (handed r' ≡ handed r)
Hands r (Some l) r' =
    (left r ≡ (l.bytes.now, l.ended) ∷ left r') × (l.number ≡ handed r + 1) × (handed r' ≡ handed r + 1)
