-- The places of the tables that a call does not write.
use Rattle.std.proofs.Common.{◌≡◌, ℕ, ◌+◌, ◌-◌, ◌≤◌, Bool, false, eqb, ltb, List, ◌++◌, length, drop, get_or}
use Rattle.std.proofs.Common.{sym, refl, ap, ◌∙◌, arith}
use Rattle.std.proofs.lemmas.Bool.{leb-false, ltb-false, or_parts}
use Rattle.std.proofs.lemmas.List.{get_or-drop}
use Rattle.std.proofs.lemmas.Slice.{drop-append-drop}
use Rattle.std.specs.Borrow.{MutBor}
use Rattle.analysis.specs.Tables.{no_entry, no_vertex, vertex}
use Rattle.analysis.specs.declared.records.Entry.{Entry}
use Rattle.analysis.specs.declared.records.Vertex.{Vertex}
use Rattle.model.specs.declared.pairs.Pair.{Pair}
use Rattle.model.specs.declared.stores.Store.{Store}
use Rattle.model.specs.States.{Put, Drop}
use Rattle.model.specs.Stored.{means, Changed, Pushed, Removed}
use Rattle.model.specs.Untouched.{Places, Untouched, all_of, either, writes}
use Rattle.model.proofs.Turns.{count_is}

-- the slice lent, with other elements
abbrev pub with_now : {X : Type 0} → MutBor (List X) → List X → MutBor (List X)
with_now r xs = record { ref_ptr = r.ref_ptr; ghost_name = r.ghost_name; now = xs }

-- a store that stays
pub untouched : (w : Places) (s : Store) → Untouched w s s
untouched w s =
    record {
      vertices_lent = refl;
      entries_lent = refl;
      tall = refl;
      long = refl;
      vertices = λ _ _. refl;
      entries = λ _ _. refl;
    }

-- a call after another one
pub untouched_by_both : (a b : Places) (s t u : Store) → Untouched a s t → Untouched b t u → Untouched (either a b) s u
untouched_by_both a b s t u first second =
    record {
      vertices_lent = second.vertices_lent ∙ first.vertices_lent;
      entries_lent = second.entries_lent ∙ first.entries_lent;
      tall = second.tall ∙ first.tall;
      long = second.long ∙ first.long;
      vertices = λ v other.
          let (one, two) = or_parts (a.vertices v) (b.vertices v) other in
          second.vertices v two ∙ first.vertices v one;
      entries = λ k other.
          let (one, two) = or_parts (a.entries k) (b.entries k) other in
          second.entries k two ∙ first.entries k one;
    }

-- lists that are the same past their first n elements
same_past : {X : Type 0} (n k : ℕ) (d : X) (xs ys : List X) → drop n xs ≡ drop n ys → n ≤ k →
    get_or xs k d ≡ get_or ys k d
same_past n k d xs ys same past =
    let is : n + (k - n) ≡ k = omega arith in
    ap (λ j. get_or xs j d) (sym is) ∙ sym (get_or-drop n xs (k - n) d) ∙ ap (λ l. get_or l (k - n) d) same
    ∙ get_or-drop n ys (k - n) d ∙ ap (λ j. get_or ys j d) is

-- entries that are the same from the last one held on, which a removal frees
pub rest_past : (held k : ℕ) (es fs : List Entry) → drop (held - 1) fs ≡ drop (held - 1) es →
    ltb (k + 1) held ≡ false → get_or fs k no_entry ≡ get_or es k no_entry
rest_past held k es fs same past =
    same_past (held - 1) k no_entry fs es same (omega (arith, ltb-false (k + 1) held past))

-- a change of the entries writes where its number of entries held says
rest_of : (w : ℕ → ℕ → Bool) (s t : Store) → Changed (w s.held) s t →
    Untouched (record { vertices = λ _. false; entries = w (length (means s).entries) }) s t
rest_of w s t others =
    record {
      vertices_lent = λ k. (others.vertices k).ghost_name;
      entries_lent = others.lent;
      tall = λ k. length (others.vertices k).now;
      long = others.long;
      vertices = λ v _ k. vertex (others.vertices k).now v;
      entries = λ k other. others.rest k (ap (λ n. w n k) (count_is s) ∙ other);
    }

pub put_rest : (s t : Store) (i j : ℕ) {p : Pair} → Pushed p s t → Untouched (writes (means s) (Put i j)) s t
put_rest s t i j pushed = rest_of (λ n k. eqb k n) s t pushed.others

pub drop_rest : (s t : Store) (i j : ℕ) {at : ℕ} → Removed at s t → Untouched (writes (means s) (Drop i j)) s t
drop_rest s t i j removed = rest_of (λ n k. ltb (k + 1) n) s t removed.others

-- tables of which the vertices up to the order are written, and the entries held
pub written : (s t : Store) (vs : List Vertex) (es : List Entry) → t.vertices ≡ with_now s.vertices vs →
    t.entries ≡ with_now s.entries (es ++ drop s.held s.entries.now) → length t.vertices.now ≡ length s.vertices.now →
    length t.entries.now ≡ length s.entries.now → length es ≡ s.held → drop s.order vs ≡ drop s.order s.vertices.now →
    Untouched (all_of (means s)) s t
written s t vs es vertices entries tall long count past =
    record {
      vertices_lent = ap (λ r. r.ghost_name) vertices;
      entries_lent = ap (λ r. r.ghost_name) entries;
      tall = tall;
      long = long;
      vertices = λ v other.
          let under = leb-false v s.order other in
          ap (λ r. vertex r.now v) vertices ∙ same_past s.order (v - 1) no_vertex _ _ past (omega arith);
      entries = λ k other.
          let under = ltb-false k (length (means s).entries) other in
          ap (λ r. get_or r.now k no_entry) entries
          ∙ same_past s.held k no_entry _ _
          (drop-append-drop s.held s.entries.now es s.held (omega arith) count) (omega (arith, count_is s));
    }
