-- Sets by links: what each call owes, and how a find goes along them.
use Rattle.std.proofs.Common.{◌≡◌, ℕ, suc, ◌-◌, ◌<◌, ◌≤◌, Bool, true, false, cond, eqb, ◌⊎◌, List, length, set, Some, sym, refl, ap, ◌∙◌, subst, inl, inr, arith, length-set}
use Rattle.std.proofs.lemmas.Bool.Decides.{nat_tests}
use Rattle.sets.specs.Meaning.{among, mergeable, Started, Found, Merged}
use Rattle.sets.specs.Tables.{number, two_tops, Begun, Hung}
use Rattle.sets.specs.Links.{elsewhere, end_of, linked_sets, Ends, Linked, Ended}
use Rattle.sets.specs.Soundness.{follow_own}
use Rattle.sets.proofs.Linking.{Leads, leads, linked, ends_at, way, way_short, elsewhere_more}
use Rattle.sets.proofs.Linking.{merged, halved, halved_elsewhere}
use Rattle.sets.proofs.Tables.{relinked}
use Rattle.sets.proofs.Owed.{moved, begun_keeps, started_of, found_of, mergeable_is, merged_of}

-- who links to itself is its own end
pub end_own : (m : ℕ) (f : ℕ → ℕ) (x : ℕ) → f x ≡ x → end_of m f x ≡ x
unfolding end_of
end_own m f x = follow_own f (elsewhere f m) x

pub begun_ends : {xs ys : List ℕ} {m n k : ℕ} {r : Bool} → Begun xs m n r ys k → Ends m (number xs) →
    Ends k (number ys)
begun_ends {xs} {ys} {m} {n} {k} {r} b ends =
    begun_keeps r (λ zs j. Ends j (number zs)) b ends
    (λ own v i. let o = own v i in let e = end_own k (number ys) v o in ap (number ys) e ∙ o ∙ sym e)

pub begun_started : {xs ys : List ℕ} {m n k : ℕ} {r : Bool} → Begun xs m n r ys k →
    Started (linked_sets xs m) n r (linked_sets ys k)
begun_started {xs} {ys} {m} {n} {k} {r} b =
    started_of r (end_of m (number xs)) (end_of k (number ys)) b
    (λ e x i. end_own k (number ys) x (b.own e x i))
    (λ e x.
    let used = b.used ∙ ap (λ q. cond q n m) e in
    ap (λ j. end_of j (number ys) x) used ∙ ap (λ zs. end_of m (number zs) x) (b.same e))

-- how far a vertex is from the end of its way
abbrev pub distance : ℕ → (ℕ → ℕ) → ℕ → ℕ
distance m f = way f (elsewhere f m)

-- what two_tops tells
record Tops (m : ℕ) (f : ℕ → ℕ) (v p : ℕ) : Type 0 where
  v_in : among m v ≡ true
  p_in : among m p ≡ true
  v_own : f v ≡ v
  p_own : f p ≡ p
  apart : p ≡ v → ⊥

tops_from : (m : ℕ) (f : ℕ → ℕ) (v p : ℕ) → true ≡ two_tops m f v p → Tops m f v p
tops_from m f v p h = record {
  v_in = grind (arith, nat_tests);
  p_in = grind (arith, nat_tests);
  v_own = grind (arith, nat_tests);
  p_own = grind (arith, nat_tests);
  apart = grind (arith, nat_tests);
}

-- an own top is one that links to itself
same_owns : (m : ℕ) (f : ℕ → ℕ) → Ends m f → (x : ℕ) → among m x ≡ true → eqb (end_of m f x) x ≡ eqb (f x) x
same_owns m f ends x i =
    let there = end_own m f x in
    let back = ends x i in
    grind (arith, nat_tests)

-- v linked to p: everyone whose top was v has the top p, and no way is longer by more than one link
record Joined (xs : List ℕ) (m v p : ℕ) (ys : List ℕ) : Type 0 where
  joined_links : Linked m (number ys)
  joined_ends : (x : ℕ) → among m x ≡ true →
      end_of m (number ys) x ≡ cond (eqb (end_of m (number xs) x) v) p (end_of m (number xs) x)

one_more : (b : Bool) {w n k : ℕ} → k ≡ suc n → w ≤ n → cond b 0 (suc w) ≤ k
one_more true e h = omega arith
one_more false e h = omega arith

joined : (xs : List ℕ) (m v p : ℕ) → true ≡ two_tops m (number xs) v p → m ≤ length xs → Linked m (number xs) →
    Joined xs m v p (set xs (v - 1) p)
joined xs m v p ok long l =
    let f = number xs in
    let g = number (set xs (v - 1) p) in
    let t = tops_from m f v p ok in
    let store = relinked xs m v p t.v_in long in
    let way_on = merged g v p (leads l) t.v_in t.p_in t.v_own t.p_own t.apart store in
    let more = elsewhere_more m f g v p t.v_in t.v_own t.apart store in
    let short : (x : ℕ) → among m x ≡ true → cond (eqb x p) 0 (suc (distance m f x)) ≤ elsewhere g m =
    λ x i. one_more (eqb x p) more (way_short f (elsewhere f m) x) in
    record { joined_links = linked way_on short; joined_ends = ends_at way_on short }

pub hung_ends : {xs ys : List ℕ} {m k v p : ℕ} (r : Bool) → k ≡ m → Hung xs m v p r ys → m ≤ length xs →
    Linked m (number xs) → Ends k (number ys)
hung_ends {xs} {ys} {m} {k} {v} {p} true used h long l =
    moved (λ zs j. Ends j (number zs)) used h.numbers (joined xs m v p h.accepted long l).joined_links.ends
hung_ends false used h long l = moved (λ zs j. Ends j (number zs)) used h.numbers l.ends

pub hung_merged : {xs ys : List ℕ} {m k v p : ℕ} (r : Bool) → k ≡ m → Hung xs m v p r ys → m ≤ length xs →
    Linked m (number xs) → Merged (linked_sets xs m) v p r (linked_sets ys k)
hung_merged {xs} {ys} {m} {k} {v} {p} r used h long l =
    moved (λ zs j. Merged (linked_sets xs m) v p r (linked_sets zs j)) used h.numbers (go r refl)
  where
    f : ℕ → ℕ
    f = number xs

    ok : r ≡ mergeable (linked_sets xs m) v p
    ok = h.accepted ∙ mergeable_is xs m (end_of m f) f v p (same_owns m f l.ends)

    go : (q : Bool) → r ≡ q → Merged (linked_sets xs m) v p q (linked_sets (cond q (set xs (v - 1) p) xs) m)
    go true e =
        merged_of xs (set xs (v - 1) p) true (end_of m f) (end_of m (number (set xs (v - 1) p))) (length-set _ _ _)
        (sym e ∙ ok) (joined xs m v p (sym e ∙ h.accepted) long l).joined_ends
    go false e = merged_of xs xs false (end_of m f) (end_of m f) refl (sym e ∙ ok) (λ x i. refl)

-- going along the way from v has come to `at`, with the links ys that were xs
pub record Going (m : ℕ) (xs : List ℕ) (v : ℕ) (ys : List ℕ) (at : ℕ) : Type 0 where
  pub long : length ys ≡ length xs
  pub leading : Leads m (number ys) (end_of m (number xs)) (distance m (number xs))
  pub as_many : elsewhere (number ys) m ≡ elsewhere (number xs) m
  pub inside : among m at ≡ true
  pub same_end : end_of m (number xs) at ≡ end_of m (number xs) v

pub going_begins : (m : ℕ) (xs : List ℕ) (v : ℕ) → Linked m (number xs) → among m v ≡ true → Going m xs v xs v
going_begins m xs v l i =
    record { long = refl; leading = leads l; as_many = refl; inside = i; same_end = refl }

-- one link further
pub following : {m : ℕ} {xs : List ℕ} {v : ℕ} {ys : List ℕ} {at : ℕ} (next : ℕ) → Going m xs v ys at →
    next ≡ number ys at → Going m xs v ys next
following next h e =
    let l = h.leading in
    record {
      long = h.long;
      leading = l;
      as_many = h.as_many;
      inside = rw e (l.stays _ h.inside);
      same_end = rw e (l.along _ h.inside ∙ h.same_end);
    }

pub following_nearer : {m : ℕ} {xs : List ℕ} {v : ℕ} {ys : List ℕ} {at : ℕ} (next : ℕ) → Going m xs v ys at →
    next ≡ number ys at → (next ≡ at → ⊥) → distance m (number xs) next < distance m (number xs) at
following_nearer next h e off =
    elim (h.leading.falls _ h.inside) [ inl own ↦ absurd (off (e ∙ own)) | inr nearer ↦ rw e nearer ]

halving_step : (m : ℕ) (xs : List ℕ) (v : ℕ) (ys : List ℕ) (at : ℕ) → Going m xs v ys at → m ≤ length xs →
    (number ys at ≡ at → ⊥) →
    Going m xs v (set ys (at - 1) (number ys (number ys at))) (number ys (number ys at))
halving_step m xs v ys at h long off =
    let two_on = following _ (following _ h refl) refl in
    let l = h.leading in
    let store = relinked ys m at (number ys (number ys at)) h.inside (omega (arith, h.long)) in
    record {
      long = length-set _ _ _ ∙ h.long;
      leading = halved _ at l h.inside off store;
      as_many = halved_elsewhere _ at l h.inside off store ∙ h.as_many;
      inside = two_on.inside;
      same_end = two_on.same_end;
    }

-- `next` is where the link of `at` links, and `at` is not its own top
pub record Jump (ys : List ℕ) (at next : ℕ) : Type 0 where
  pub next_is : next ≡ number ys (number ys at)
  pub off : number ys at ≡ at → ⊥

pub halving_goes_on : {m : ℕ} {xs : List ℕ} {v : ℕ} {ys : List ℕ} {at next : ℕ} (zs : List ℕ) → Going m xs v ys at →
    m ≤ length xs → Jump ys at next → zs ≡ set ys (at - 1) next → Going m xs v zs next
halving_goes_on {m} {xs} {v} {ys} {at} {next} zs h long jump stored =
    let step = halving_step m xs v ys at h long jump.off in
    let here = subst (λ w. Going m xs v (set ys (at - 1) w) w) (sym jump.next_is) step in
    subst (λ ws. Going m xs v ws next) (sym stored) here

pub halving_nearer : {m : ℕ} {xs : List ℕ} {v : ℕ} {ys : List ℕ} {at next : ℕ} → Going m xs v ys at →
    Jump ys at next → distance m (number xs) next < distance m (number xs) at
halving_nearer {m} {xs} {v} {ys} {at} h jump =
    let l = h.leading in
    let a = l.falls at h.inside in
    let b = l.falls (number ys at) (l.stays at h.inside) in
    rw jump.next_is (nearer a b jump.off)
  where
    d : ℕ → ℕ
    d = distance m (number xs)

    f : ℕ → ℕ
    f = number ys

    nearer : (f at ≡ at) ⊎ (d (f at) < d at) → (f (f at) ≡ f at) ⊎ (d (f (f at)) < d (f at)) → (f at ≡ at → ⊥) →
        d (f (f at)) < d at
    nearer a b off = grind arith

pub going_ends : (m : ℕ) (xs : List ℕ) (v : ℕ) (ys : List ℕ) (at : ℕ) → Going m xs v ys at → number ys at ≡ at →
    Ended xs m v at ys
going_ends m xs v ys at h own =
    let f = number xs in
    let l = h.leading in
    let short : (x : ℕ) → among m x ≡ true → distance m f x ≤ elsewhere (number ys) m =
    λ x i. let w = way_short f (elsewhere f m) x in omega (arith, h.as_many) in
    record {
      answer = sym (l.ends at h.inside own) ∙ h.same_end;
      long = h.long;
      linked = linked l short;
      same_ends = ends_at l short;
    }

pub ended_found : {xs ys : List ℕ} {m k v r : ℕ} → k ≡ m → Ended xs m v r ys → true ≡ among m v →
    Found (linked_sets xs m) v (Some r) (linked_sets ys k)
ended_found {xs} {ys} {m} {k} {v} {r} used h inside =
    moved {xs = ys} (λ zs j. Found (linked_sets xs m) v (Some r) (linked_sets zs j)) used refl
    (found_of xs ys (end_of m (number xs)) (end_of m (number ys)) h.long h.same_ends inside h.answer)
