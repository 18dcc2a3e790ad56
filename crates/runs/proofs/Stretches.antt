-- A stretch of calls, one after another.
use Rattle.std.proofs.Common.{◌≡◌, ℕ, zero, suc, List, [], ◌∷◌, map, length, Some, None, Option, Result}
use Rattle.std.proofs.Common.{sym, refl, ap, ap₂, ◌∙◌, subst, arith, min, drop, ◌≤◌}
use Rattle.std.proofs.lemmas.List.{length-append, length-drop}
use Rattle.pattern.specs.Structure.{over, starts, rows}
use Rattle.sets.specs.Meaning.{Sets}
use Rattle.model.specs.Meaning.{meaning}
use Rattle.model.specs.SetsAfter.{sets_after, settled}
use Rattle.model.specs.States.{State, Given, Analyse, Structure, answer, first_refusal, if_accepted, pattern_in, step}
use Rattle.model.specs.Untouched.{Untouched, nowhere}
use Rattle.model.proofs.Rests.{untouched, untouched_by_both}
use Rattle.model.specs.declared.stores.Store.{Store}
use Rattle.model.specs.declared.models.Model.{Model}
use Rattle.model.specs.declared.refusals.Refusal.{Refusal}
use Rattle.runs.specs.declared.calls.Call.{Call}
use Rattle.runs.specs.declared.calls.Call.TheVariants as calls
use Rattle.runs.specs.declared.calls.Reply.{Reply}
use Rattle.runs.specs.Lending.{size_at, analysed_at}
use Rattle.runs.specs.Runs.{Lent, given, account, reply, said, Replied, Took, after_call, after_calls, Turned}
use Rattle.runs.specs.Runs.{Performed, written_by, written_by_calls}
use Rattle.runs.proofs.Windows.{accepted_structure}

-- what calls are given is the same by k as by l
pub record Alike (l k : Lent) : Type 0 where
  pub sizes : (i : ℕ) → size_at k.sets i ≡ size_at l.sets i
  pub long : length k.starts ≡ length l.starts
  pub wide : length k.rows ≡ length l.rows

pub alike_given : (l k : Lent) → Alike l k → (c : Call) → given k c ≡ given l c
alike_given l k e (calls.Analyse i) = ap Analyse (e.sizes i)
alike_given l k e (calls.Structure a b) = ap₂ (λ i j. Structure (min a i) (min b j)) e.long e.wide
alike_given l k e _ = refl

-- an analysis leaves the sizes
size_left : (s : State) (size : ℕ) (ss : Sets) → (sets_after s (Analyse size) ss).size ≡ ss.size
size_left s size ss = by (first_refusal s (Analyse size))
  where
    by : (o : Option Refusal) → (if_accepted o (settled (pattern_in s) ss) ss).size ≡ ss.size
    by None = refl
    by (Some refusal) = refl

sizes_left : (s : State) (ss : List Sets) (i k : ℕ) → size_at (analysed_at s ss i) k ≡ size_at ss k
sizes_left s [] i k = refl
sizes_left s (x ∷ xs) zero zero = size_left s x.size x
sizes_left s (x ∷ xs) zero (suc k) = refl
sizes_left s (x ∷ xs) (suc i) zero = refl
sizes_left s (x ∷ xs) (suc i) (suc k) = sizes_left s xs i k

-- and a structure call the lengths
pub kept : {X : Type 0} (o : Option Refusal) (x : X) → if_accepted o x x ≡ x
kept None x = refl
kept (Some refusal) x = refl

long_left : (o : Option Refusal) (ys xs : List ℕ) → (o ≡ None → length ys ≤ length xs) →
    length (if_accepted o (over ys xs) xs) ≡ length xs
long_left None ys xs fits =
    length-append ys (drop (length ys) xs) ∙ omega (arith, length-drop (length ys) xs, fits refl)
long_left (Some refusal) ys xs fits = refl

pub left_alike : (s : State) (c : Call) (k : Lent) → Alike k (after_call s (given k c) c k)
left_alike s (calls.Analyse i) k =
    record { sizes = sizes_left s k.sets i; long = ap length (kept _ k.starts); wide = ap length (kept _ k.rows) }
left_alike s (calls.Structure a b) k =
    let room = accepted_structure s (min a (length k.starts)) (min b (length k.rows)) in
    record {
      sizes = λ i. refl;
      long = long_left _ (starts (pattern_in s)) k.starts (λ none. let r = (room none).long in omega arith);
      wide = long_left _ (rows (pattern_in s)) k.rows (λ none. let r = (room none).wide in omega arith);
    }
left_alike s _ k =
    record { sizes = λ i. refl; long = ap length (kept _ k.starts); wide = ap length (kept _ k.rows) }

-- from a run of the calls cs on the model m, lent l, with the sink p: the calls ds that are left do to the model n, to
-- what k holds and to the sink q what all the calls do to them as they were
pub record Goes {A : Type 0} (took : Took A) (cs : List Call) (m : Model) (l : Lent) (p : A)
    (ds : List Call) (n : Model) (k : Lent) (q : A) : Type 0 where
  pub state : account (meaning n) (map (given l) ds) ≡ account (meaning m) (map (given l) cs)
  pub replies : (end : A) → Replied took l (meaning n) ds q end → Replied took l (meaning m) cs p end
  pub lent : after_calls l (meaning n) ds k ≡ after_calls l (meaning m) cs l
  pub rest : (end : Store) → Untouched (written_by_calls (meaning n) (map (given l) ds)) n.store end →
      Untouched (written_by_calls (meaning m) (map (given l) cs)) m.store end
  pub alike : Alike l k

-- with no calls left all is performed
pub performed : {A : Type 0} {took : Took A} {cs ds : List Call} {m n : Model} {l k : Lent} {p q : A} → ds ≡ [] →
    Goes took cs m l p ds n k q → Performed took cs m n l k p q
performed {A} {took} {cs} {ds} {m} {n} {l} {k} {p} {q} none goes =
    let done : Goes took cs m l p [] n k q = subst (λ es. Goes took cs m l p es n k q) none goes in
    record {
      state = done.state;
      replies = done.replies q refl;
      lent = done.lent;
      rest = done.rest n.store (untouched nowhere n.store);
    }

module _ {A : Type 0} (took : Took A) (cs : List Call) (m : Model) (l : Lent) (p : A) where
  pub goes_on : (c : Call) (ds es : List Call) (n o : Model) (k j : Lent) (q r : A) (answered : Result Reply Refusal)
      → es ≡ c ∷ ds
      → Turned c n o k j answered
      → took q c answered r
      → Goes took cs m l p es n k q
      → Goes took cs m l p ds o j r
  goes_on c ds es n o k j q r answered next turn took_it so_far =
      let same : given k c ≡ given l c = alike_given l k so_far.alike c in
      let stepped : meaning o ≡ step (meaning n) (given l c) = turn.state ∙ ap (step (meaning n)) same in
      let replied : answered ≡ reply l (meaning n) c
      = turn.reply ∙ ap (λ g. answer (first_refusal (meaning n) g) (said (meaning n) c)) same in
      let leaves : j ≡ after_call (meaning n) (given l c) c k
      = turn.lent ∙ ap (λ g. after_call (meaning n) g c k) same in
      let after : Alike k j = subst (Alike k) (sym turn.lent) (left_alike (meaning n) c k) in
      record {
        state =
            ap (λ t. account t (map (given l) ds)) stepped
            ∙ ap (λ ls. account (meaning n) (map (given l) ls)) (sym next) ∙ so_far.state;
        replies = λ end rest.
            let M : State → Type 0 = λ t. Replied took l t ds r end in
            let R : Result Reply Refusal → Type 0 = λ a. took q c a r in
            let L : List Call → Type 0 = λ ls. Replied took l (meaning n) ls q end in
            so_far.replies end (subst L (sym next) (r, subst R replied took_it, subst M stepped rest));
        lent =
            ap₂ (λ t i. after_calls l t ds i) stepped leaves
            ∙ ap (λ ls. after_calls l (meaning n) ls k) (sym next) ∙ so_far.lent;
        rest = λ end later.
            let Now : Given → Type 0 = λ g. Untouched (written_by (meaning n) g) n.store o.store in
            let Later : State → Type 0
            = λ t. Untouched (written_by_calls t (map (given l) ds)) o.store end in
            let Left : List Call → Type 0
            = λ ls. Untouched (written_by_calls (meaning n) (map (given l) ls)) n.store end in
            so_far.rest end
            (subst Left (sym next)
            (untouched_by_both _ _ n.store o.store end (subst Now same turn.rest) (subst Later stepped later)));
        alike = record {
          sizes = λ i. after.sizes i ∙ so_far.alike.sizes i;
          long = after.long ∙ so_far.alike.long;
          wide = after.wide ∙ so_far.alike.wide;
        };
      }
