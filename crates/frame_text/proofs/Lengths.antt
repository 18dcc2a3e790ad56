-- Every answer whose name has at most 16 bytes is short.
use Rattle.std.proofs.Common.{ℕ, ◌^◌, ◌<◌, ◌≤◌, length, arith, lit<, length-append}
use Rattle.std.proofs.lemmas.Fmt.{length-decimal-le}
use Rattle.frame_text.specs.declared.answers.Answer.{Answer}
use Rattle.frame_text.specs.declared.answers.Answer.TheVariants.{Made, Put, Dropped, Analysed, Asked, Refused}
use Rattle.frame_text.specs.Answers.{then, text_of, name_length}

-- the numbers of an answer fit their types
abbrev pub Fitting : Answer → Type 0
Fitting (Made name order) = order < 2 ^ 32
Fitting (Put held) = held < 2 ^ 32
Fitting (Dropped held) = held < 2 ^ 32
Fitting (Analysed total) = total < 2 ^ 64
Fitting (Asked question vertex number) = (vertex < 2 ^ 32) × (number < 2 ^ 32)
Fitting (Refused r) = (r.line < 2 ^ 64) × (r.field < 2 ^ 8) × (r.number < 2 ^ 8)

ten : (n : ℕ) → n < 2 ^ 32 → length (then n) ≤ 11
ten n fits = let d = length-decimal-le 10 n (lit< tt) (omega arith) (omega arith) in omega arith

pub short_text : (a : Answer) → Fitting a → name_length a ≤ 16 → length (text_of a) ≤ 31
short_text (Made name order) fits few =
    let n = ten order fits in let all = length-append name.now (then order) in omega arith
short_text (Put held) fits few = let n = ten held fits in omega arith
short_text (Dropped held) fits few = let n = ten held fits in omega arith
short_text (Analysed total) fits few =
    let n = length-decimal-le 20 total (lit< tt) (omega arith) (omega arith) in omega arith
short_text (Asked question vertex number) fits few =
    let v = ten vertex fits.0 in let n = ten number fits.1 in
    let all = length-append (then vertex) (then number) in omega arith
short_text (Refused r) fits few =
    let l = length-decimal-le 20 r.line (lit< tt) (omega arith) (omega arith) in
    let f = length-decimal-le 3 r.field (lit< tt) (omega arith) (omega arith) in
    let n = length-decimal-le 3 r.number (lit< tt) (omega arith) (omega arith) in
    simp length-append (omega arith)
