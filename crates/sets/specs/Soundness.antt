-- What is so of all ancestor sets at any time, from what each kind keeps of its table.
use Rattle.std.specs.Prelude.{◌≡◌, ℕ, zero, suc, ◌≤◌, List, refl}
use Rattle.std.proofs.Common.{ap, ◌∙◌, arith}
use Rattle.sets.specs.Meaning.{Sound}
use Rattle.sets.specs.Tables.{number, room, sets_of, written_sets, Stays, Rests}
use Rattle.sets.specs.Links.{follow, elsewhere, end_of, linked_sets, Ends}

sound_of : (xs : List ℕ) (m : ℕ) (t : ℕ → ℕ) → m ≤ room xs → Stays m t → Rests m t → Sound (sets_of xs m t)
sound_of xs m t fits stays rests = record {
  size_limit = omega arith;
  used_limit = fits;
  top_in_use = λ v i. rw i (stays v i);
  top_own = λ v i. rw (i, stays v i) (rests v i);
  top_none = λ v i. rw i refl;
}

pub sound_written : (xs : List ℕ) (m : ℕ) → m ≤ room xs → Stays m (number xs) → Rests m (number xs) →
    Sound (written_sets xs m)
sound_written xs m = sound_of xs m (number xs)

-- who links to itself is where its way leads
pub follow_own : (f : ℕ → ℕ) (k x : ℕ) → f x ≡ x → follow f k x ≡ x
unfolding follow
follow_own f zero x e = refl
follow_own f (suc k) x e = ap (follow f k) e ∙ follow_own f k x e

-- no way leaves 1 to m
pub follow_stays : (m : ℕ) (f : ℕ → ℕ) → Stays m f → (k : ℕ) → Stays m (follow f k)
unfolding follow
follow_stays m f s zero x i = i
follow_stays m f s (suc k) x i = follow_stays m f s k (f x) (s x i)

-- the same where the tops are the ends of links
pub sound_linked : (xs : List ℕ) (m : ℕ) → m ≤ room xs → Stays m (number xs) → Ends m (number xs) →
    Sound (linked_sets xs m)
unfolding end_of
sound_linked xs m fits stays ends =
    let f = number xs in
    let c = elsewhere f m in
    sound_of xs m (follow f c) fits (follow_stays m f stays c) (λ v i. follow_own f c (follow f c v) (ends v i))
