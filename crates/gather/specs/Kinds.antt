-- The three kinds of values that are joined: each made of its number, its neutral value and its joining.
use Rattle.std.specs.Prelude.{ℕ, min, max, ℤ, pos, ◌+ℤ◌}
use Rattle.std.specs.Int.{int_wrap, w64}
use Rattle.gather.specs.declared.kinds.Weight.{Weight}
use Rattle.gather.specs.declared.kinds.LeastPlace.{LeastPlace}
use Rattle.gather.specs.declared.kinds.GreatestLevel.{GreatestLevel}

abbrev pub weight : ℤ → Weight
weight z = record { 0 = z }

abbrev pub no_weight : Weight
no_weight = weight (pos 0)

-- the sum, wrapped to 64 bits
abbrev pub summed : Weight → Weight → Weight
summed x y = weight (int_wrap w64 (x.0 +ℤ y.0))

abbrev pub least_place : ℕ → LeastPlace
least_place n = record { 0 = n }

abbrev pub no_place : LeastPlace
no_place = least_place 65535

abbrev pub lesser : LeastPlace → LeastPlace → LeastPlace
lesser x y = least_place (min x.0 y.0)

abbrev pub greatest_level : ℕ → GreatestLevel
greatest_level n = record { 0 = n }

abbrev pub no_level : GreatestLevel
no_level = greatest_level 0

abbrev pub greater : GreatestLevel → GreatestLevel → GreatestLevel
greater x y = greatest_level (max x.0 y.0)
