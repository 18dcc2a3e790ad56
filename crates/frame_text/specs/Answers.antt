-- The text of an answer, and the block of 32 bytes that it is written into.
use Rattle.std.specs.Prelude.{ℕ, zero, suc, ◌-◌, List, [], ◌∷◌, ◌++◌, length, replicate, decimal}
use Rattle.frame_text.specs.declared.answers.Answer.{Answer}
use Rattle.frame_text.specs.declared.answers.Answer.TheVariants.{Made, Put, Dropped, Analysed, Asked, Refused}
use Rattle.frame_text.specs.declared.records.Question.{Question}
use Rattle.frame_text.specs.declared.records.Question.TheVariants.{Parent, Place, FirstPlace, Height}
use Rattle.frame_text.specs.declared.records.Question.TheVariants.{RowCount, ColumnCount}

-- the letter of a question: U, O, F, H, R, C
abbrev pub letter_of : Question → ℕ
letter_of Parent = 85
letter_of Place = 79
letter_of FirstPlace = 70
letter_of Height = 72
letter_of RowCount = 82
letter_of ColumnCount = 67

-- a comma and a number
abbrev pub then : ℕ → List ℕ
then n = 44 ∷ decimal n

abbrev pub text_of : Answer → List ℕ
text_of (Made name order) = 77 ∷ 44 ∷ name.now ++ then order
text_of (Put held) = 80 ∷ then held
text_of (Dropped held) = 68 ∷ then held
text_of (Analysed total) = 65 ∷ then total
text_of (Asked question vertex number) = letter_of question ∷ then vertex ++ then number
text_of (Refused r) = 69 ∷ then r.line ++ then r.field ++ then r.number

-- the first n bytes, with zeros where there are fewer
abbrev pub filled : ℕ → List ℕ → List ℕ
filled zero bs = []
filled (suc n) [] = 0 ∷ filled n []
filled (suc n) (b ∷ bs) = b ∷ filled n bs

-- the text, an LF, and zeros to the end of the block
abbrev pub block_of : List ℕ → List ℕ
block_of text = filled 32 (text ++ 10 ∷ [])

abbrev pub whole_block : List ℕ → List ℕ
whole_block text = text ++ 10 ∷ replicate (31 - length text) 0

-- the length of the one part of an answer that its type does not bound
abbrev pub name_length : Answer → ℕ
name_length (Made name order) = length name.now
name_length (Put held) = 0
name_length (Dropped held) = 0
name_length (Analysed total) = 0
name_length (Asked question vertex number) = 0
name_length (Refused r) = 0
