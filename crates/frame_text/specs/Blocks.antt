-- A block as far as it is written: the bytes t, of which the first 32 stand in it.
use Rattle.std.specs.Prelude.{◌≡◌, ℕ, List, ◌++◌, take}
use Rattle.frame_text.specs.declared.answers.Block.{Block}

pub record Holds (b : Block) (t : List ℕ) : Type 0 where
  pub bytes : b.text.items ≡ take 32 t

-- from a to b, the bytes ts are written after whatever was
abbrev pub Adds : Block → List ℕ → Block → Type 0
Adds a ts b = (t : List ℕ) → Holds a t → Holds b (t ++ ts)
