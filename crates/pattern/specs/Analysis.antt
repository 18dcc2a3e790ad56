-- What an analysis answers of a pattern: the tree of its parents, walked in postorder.
use Rattle.std.specs.Prelude.{ℕ}
use Rattle.pattern.specs.Patterns.{Pattern}
use Rattle.pattern.specs.Elimination.{parent}
use Rattle.pattern.specs.Forest as forest

abbrev pub place_of : Pattern → ℕ → ℕ
place_of p v = forest.place p.order (parent p) v

abbrev pub first_place_of : Pattern → ℕ → ℕ
first_place_of p v = forest.first_place p.order (parent p) v

abbrev pub height_of : Pattern → ℕ → ℕ
height_of p v = forest.height p.order (parent p) v

abbrev pub level_of : Pattern → ℕ → ℕ
level_of p v = forest.level p.order (parent p) v
