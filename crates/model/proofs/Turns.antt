-- What a push and a removal make of a store's meaning, and of the count of its entries.
use Rattle.std.proofs.Common.{◌≡◌, ℕ, min, Bool, List, [], ◌∷◌, ◌++◌, length, is_some, Some, sym, ap, ◌∙◌, subst}
use Rattle.std.proofs.Common.{arith}
use Rattle.std.proofs.lemmas.List.{length-map, length-take-le, map_push}
use Rattle.std.specs.List.{remove as taken_out}
use Rattle.analysis.specs.Tables.{Sound, pair_of, pairs_of}
use Rattle.model.specs.declared.pairs.Pair.{Pair}
use Rattle.model.specs.declared.stores.Store.{Store}
use Rattle.model.specs.States.{changed, without, most_entries}
use Rattle.model.specs.Stored.{held_by, means, Changed, Pushed, Removed}
use Rattle.model.specs.Tables.{index_of, sorted}
use Rattle.model.proofs.Entries.{index_found, none_sound}

pub count_is : (s : Store) → s.held ≡ length (means s).entries
count_is s =
    let room = s.room in
    sym (length-map (held_by s) pair_of ∙ length-take-le s.held s.entries.now (omega arith))

-- the empty store holds no entry
pub none_held : (s : Store) → s.order ≡ 0 → s.held ≡ 0
none_held s empty =
    count_is s ∙ ap length (none_sound (means s).entries (subst (λ n. Sound n (means s).entries) empty s.sound))

changed_means : (w : ℕ → Bool) (s t : Store) (es : List (ℕ × ℕ)) → Changed w s t → pairs_of (held_by t) ≡ es →
    means t ≡ changed (means s) es
changed_means w s t es others is =
    λ k.
    record {
      order = others.order k;
      capacity = min (others.long k) most_entries;
      entries = is k;
      analysed = is_some (others.unanalysed k);
    }

pub pushed_means : (p : Pair) (s t : Store) → Pushed p s t →
    means t ≡ changed (means s) ((means s).entries ++ (p.low, p.high) ∷ [])
pushed_means p s t pushed =
    changed_means _ s t _ pushed.others (ap pairs_of pushed.entries ∙ map_push pair_of (held_by s) _)

pub removed_means : (s t : Store) (i j at : ℕ) → index_of (sorted i j) (held_by s) ≡ Some at → Removed at s t →
    means t ≡ changed (means s) (without i j (means s).entries)
removed_means s t i j at is removed =
    let es = held_by s in
    let found = index_found s.order 0 i j at es s.sound is in
    let same : at ≡ found.at = omega (arith, found.is) in
    changed_means _ s t _ removed.others
    (ap pairs_of removed.entries ∙ ap (λ q. pairs_of (taken_out es q)) same ∙ sym found.rest)
