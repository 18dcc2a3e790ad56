-- What a listing holds after it has taken one more block.
use Rattle.std.specs.Prelude.{◌≡◌, ℕ, ◌+◌, cond, List, length, nat_lt, slice_set}
use Rattle.frame_file.specs.declared.sinks.Listing.{Listing}

-- the block stands after those before it; where there is no room for it, nothing changes
pub record Listed (s : Listing) (block : List ℕ) (t : Listing) : Type 0 where
  pub blocks : t.blocks.now ≡ slice_set s.blocks.now s.len block
  pub count : t.len ≡ cond (nat_lt s.len (length s.blocks.now)) (s.len + 1) s.len
  pub loan : t.blocks.ghost_name ≡ s.blocks.ghost_name
