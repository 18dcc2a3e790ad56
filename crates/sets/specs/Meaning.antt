-- What ancestor sets stand for, what is so of them at any time, and what each call answers and leaves behind.
use Rattle.std.specs.Prelude.{◌≡◌, ℕ, ◌≤◌, min, Bool, true, false, cond, not, ◌&&◌, Some, None, Option, ◌==◌, nat_le}

-- The vertices 1 to `used` lie in sets, and each set has a top, one of its vertices. A vertex not in use has top 0.
-- At most `size` vertices can be in use.
pub record Sets : Type 0 where
  pub size : ℕ
  pub used : ℕ
  pub top : ℕ → ℕ

-- no sets have room for more vertices than this
abbrev pub limit : ℕ
limit = 16384

-- v is one of the vertices 1 to m
abbrev pub among : ℕ → ℕ → Bool
among m v = nat_le 1 v && nat_le v m

-- v is in use
abbrev pub in_use : Sets → ℕ → Bool
in_use s v = among s.used v

-- v is in use and its own top
abbrev pub own_top : Sets → ℕ → Bool
own_top s v = in_use s v && s.top v == v

-- the set of v may be put below p: two different tops
abbrev pub mergeable : Sets → ℕ → ℕ → Bool
mergeable s v p = (own_top s v && own_top s p) && not (v == p)

-- what is so of all ancestor sets, at any time
pub record Sound (s : Sets) : Type 0 where
  pub size_limit : s.size ≤ limit
  pub used_limit : s.used ≤ s.size
  pub top_in_use : (v : ℕ) → in_use s v ≡ true → in_use s (s.top v) ≡ true
  pub top_own : (v : ℕ) → in_use s v ≡ true → s.top (s.top v) ≡ s.top v
  pub top_none : (v : ℕ) → in_use s v ≡ false → s.top v ≡ 0

-- newly made over so many numbers: none in use
pub record Made (numbers : ℕ) (t : Sets) : Type 0 where
  pub size : t.size ≡ min numbers limit
  pub used : t.used ≡ 0

-- start n answers r and turns s into t: accepted exactly if n have room; then 1 to n are in use, each its own top
pub record Started (s : Sets) (n : ℕ) (r : Bool) (t : Sets) : Type 0 where
  pub accepted : r ≡ nat_le n s.size
  pub size : t.size ≡ s.size
  pub used : t.used ≡ cond r n s.used
  pub tops : (x : ℕ) → t.top x ≡ cond r (cond (among n x) x 0) (s.top x)

-- find v answers r and turns s into t: the top of v exactly if v is in use; no top changes
pub record Found (s : Sets) (v : ℕ) (r : Option ℕ) (t : Sets) : Type 0 where
  pub answer : r ≡ cond (in_use s v) (Some (s.top v)) None
  pub size : t.size ≡ s.size
  pub used : t.used ≡ s.used
  pub tops : (x : ℕ) → t.top x ≡ s.top x

-- merge v p answers r and turns s into t: accepted exactly if v and p are two different tops; then p is the top of all
-- whose top was v, and no other top changes
pub record Merged (s : Sets) (v p : ℕ) (r : Bool) (t : Sets) : Type 0 where
  pub accepted : r ≡ mergeable s v p
  pub size : t.size ≡ s.size
  pub used : t.used ≡ s.used
  pub tops : (x : ℕ) → t.top x ≡ cond (r && s.top x == v) p (s.top x)
