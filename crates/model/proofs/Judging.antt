-- Which refusal a put and a drop meet first, from what the code has found out.
use Rattle.std.proofs.Common.{◌≡◌, ℕ, ◌<◌, ◌≤◌, min, max, Bool, false, not, eqb, [], ◌∷◌, ◌++◌, length, is_some, Some}
use Rattle.std.proofs.Common.{None, Ok, Option, sym, refl, ap, ◌∙◌, subst, arith}
use Rattle.std.proofs.lemmas.List.{length-take-le}
use Rattle.std.proofs.lemmas.Bool.{eqb-false, not-false}
use Rattle.pattern.specs.Patterns.{listed}
use Rattle.analysis.specs.Tables.{SoundPair}
use Rattle.model.specs.declared.models.Model.{Model}
use Rattle.model.specs.declared.pairs.Pair.{Pair}
use Rattle.model.specs.declared.stores.Store.{Store}
use Rattle.model.specs.declared.refusals.Side.{Side}
use Rattle.model.specs.declared.refusals.Refusal.TheVariants.{EntryHeld, ModelFull, EntryNotHeld}
use Rattle.model.specs.Meaning.{meaning, Outcome}
use Rattle.model.specs.States.{State, Given, Put, Drop, accepted, answer, changed, step}
use Rattle.model.specs.States.{first_of, first_refusal, entry_rules, largest_order, outside}
use Rattle.model.specs.Stored.{held_by, means, Fresh, Pushed, Removed}
use Rattle.model.specs.Tables.{index_of, sorted}
use Rattle.model.specs.Untouched.{Untouched, writes}
use Rattle.model.proofs.Entries.{listed_index, index_found}
use Rattle.model.proofs.Rules.{answered, none_of, unmet, carried}
use Rattle.model.proofs.Keeping.{within_from}
use Rattle.model.proofs.Turns.{count_is, pushed_means, removed_means}

-- what judging two vertices as those of an entry has found out: they meet none of the rules, and p is their pair
pub record Judged (s : State) (i j : ℕ) (p : Pair) : Type 0 where
  pub none : first_of (entry_rules s i j) ≡ None
  pub is : sorted i j ≡ p

pub judged : (s : State) (i j : ℕ) (p : Pair) → answer (first_of (entry_rules s i j)) (sorted i j) ≡ Ok p →
    Judged s i j p
judged s i j p ok = let (none, is) = answered _ _ _ ok in record { none = none; is = is }

-- such a pair is of the order, the lower vertex first
pub sound_pair : (s : State) (i j : ℕ) → first_of (entry_rules s i j) ≡ None → SoundPair s.order (min i j, max i j)
sound_pair s i j none =
    let (order, (first, (second, (other, end)))) = unmet (entry_rules s i j) none in
    let (i-one, i-most) = within_from s.order i (not-false _ first) in
    let (j-one, j-most) = within_from s.order j (not-false _ second) in
    let apart = eqb-false i j other in
    record { from = omega arith; rises = omega arith; within = omega arith }

-- a vertex that is judged to be of the order is one of the largest order, so that 16 bits hold it
pub vertex_small : (m : Model) (side : Side) (v : ℕ) (x : Unit {0}) →
    answer (first_of (outside (meaning m) side v ∷ [])) tt ≡ Ok x → v ≤ largest_order
vertex_small m side v x ok =
    let (none, end) = answered _ _ _ ok in
    let (inside, last) = unmet (outside (meaning m) side v ∷ []) none in
    let (one, most) = within_from m.store.order v (not-false _ inside) in
    omega (arith, m.store.small)

-- an entry is listed exactly if its pair is found
listed_as : (s : Store) (i j : ℕ) (p : Pair) (o : Option ℕ) (held : Bool) → Judged (means s) i j p →
    o ≡ index_of p (held_by s) → is_some o ≡ held → listed (means s).entries i j ≡ held
listed_as s i j p o held fine found is =
    listed_index s.order 0 i j (held_by s) s.sound
    ∙ ap (λ q. is_some (index_of q (held_by s))) fine.is ∙ ap is_some (sym found) ∙ is

-- a put's first refusal, by whether the entry is held and the model full
pub put_first : (m : Model) (i j : ℕ) (p : Pair) (o : Option ℕ) (held full : Bool) → Judged (meaning m) i j p →
    o ≡ index_of p (held_by m.store) → is_some o ≡ held → eqb m.store.held (meaning m).capacity ≡ full →
    first_refusal (meaning m) (Put i j) ≡ first_of ((held, EntryHeld) ∷ (full, ModelFull) ∷ [])
put_first m i j p o held full fine found is filled =
    let s = meaning m in
    let is_held = listed_as m.store i j p o held fine found is in
    let is_full = ap (λ n. eqb n s.capacity) (sym (count_is m.store)) ∙ filled in
    none_of (entry_rules s i j)
    ((listed s.entries i j, EntryHeld) ∷ (eqb (length s.entries) s.capacity, ModelFull) ∷ []) fine.none
    ∙ (λ k. first_of ((is_held k, EntryHeld) ∷ (is_full k, ModelFull) ∷ []))

-- a drop's first refusal, by whether the entry is held
pub drop_first : (m : Model) (i j : ℕ) (p : Pair) (o : Option ℕ) (held : Bool) → Judged (meaning m) i j p →
    o ≡ index_of p (held_by m.store) → is_some o ≡ held →
    first_refusal (meaning m) (Drop i j) ≡ first_of ((not held, EntryNotHeld) ∷ [])
drop_first m i j p o held fine found is =
    let s = meaning m in
    let is_held = listed_as m.store i j p o held fine found is in
    none_of (entry_rules s i j) ((not (listed s.entries i j), EntryNotHeld) ∷ []) fine.none
    ∙ (λ k. first_of ((not (is_held k), EntryNotHeld) ∷ []))

-- a pair that is judged and not found, while there is room, can be pushed
pub fresh : (m : Model) (i j : ℕ) (p : Pair) (o : Option ℕ) → Judged (meaning m) i j p →
    o ≡ index_of p (held_by m.store) → is_some o ≡ false → (m.store.held ≡ (meaning m).capacity → ⊥) →
    Fresh p m.store
fresh m i j p o fine found absent space =
    let s = m.store in
    let room = s.room in
    let pair : SoundPair s.order (p.low, p.high) =
    subst (λ (q : Pair). SoundPair s.order (q.low, q.high)) fine.is (sound_pair (meaning m) i j fine.none) in
    let as_low : min p.low p.high ≡ p.low = omega (arith, pair.rises) in
    let as_high : max p.low p.high ≡ p.high = omega (arith, pair.rises) in
    let same : sorted p.low p.high ≡ p = λ k. record { low = as_low k; high = as_high k } in
    record {
      room = omega arith;
      sound = pair;
      absent =
          listed_index s.order 0 p.low p.high (held_by s) s.sound
          ∙ ap (λ q. is_some (index_of q (held_by s))) same ∙ ap is_some (sym found) ∙ absent;
    }

pub put_turned : (s t : Store) (i j : ℕ) (p : Pair) → Judged (means s) i j p → Pushed p s t →
    means t ≡ accepted (means s) (Put i j)
put_turned s t i j p fine pushed =
    subst (λ (q : Pair). means t ≡ changed (means s) ((means s).entries ++ (q.low, q.high) ∷ [])) (sym fine.is)
    (pushed_means p s t pushed)

-- an accepted put or drop answers how many are then held
pub counted : (g : Given) (m n : Model) → first_refusal (meaning m) g ≡ None → meaning n ≡ accepted (meaning m) g →
    Untouched (writes (meaning m) g) m.store n.store →
    Outcome g m n (length (step (meaning m) g).entries) (Ok n.store.held)
counted g m n none turned rest =
    let outcome = carried {X = ℕ} g m n 0 0 none turned refl rest in
    carried g m n _ _ none turned (count_is n.store ∙ ap (λ s. length s.entries) outcome.turns) rest

-- where the pair is found, its entry either way round is
found_at : (s : Store) (i j at : ℕ) (p : Pair) (o : Option ℕ) → Judged (means s) i j p →
    o ≡ index_of p (held_by s) → o ≡ Some at → index_of (sorted i j) (held_by s) ≡ Some at
found_at s i j at p o fine found is = ap (λ q. index_of q (held_by s)) fine.is ∙ sym found ∙ is

pub stands : (s : Store) (i j at : ℕ) (p : Pair) (o : Option ℕ) → Judged (means s) i j p →
    o ≡ index_of p (held_by s) → o ≡ Some at → at < s.held
stands s i j at p o fine found is =
    let room = s.room in
    let place = index_found s.order 0 i j at (held_by s) s.sound (found_at s i j at p o fine found is) in
    let count = length-take-le s.held s.entries.now (omega arith) in
    omega (arith, place.is, place.under)

pub drop_turned : (s t : Store) (i j at : ℕ) (p : Pair) (o : Option ℕ) → Judged (means s) i j p →
    o ≡ index_of p (held_by s) → o ≡ Some at → Removed at s t → means t ≡ accepted (means s) (Drop i j)
drop_turned s t i j at p o fine found is removed =
    removed_means s t i j at (found_at s i j at p o fine found is) removed
