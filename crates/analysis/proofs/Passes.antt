-- What a pass over the vertices leaves, and what it has done once it is past some of them, from n down to 1.
use Rattle.std.proofs.Common.{◌≡◌, ℕ, ◌-◌, ◌<◌, ◌≤◌, ◌≢◌, List, length, sym, ap, ◌∙◌, inl, inr, arith}
use Rattle.std.proofs.lemmas.Bool.{cases_eq}
use Rattle.pattern.specs.Forest.{Grows}
use Rattle.analysis.specs.declared.records.Vertex.{Vertex}
use Rattle.analysis.specs.Tables.{vertex, parent_of, Only}
use Rattle.analysis.specs.Order.{Forest, Holds}
use Rattle.analysis.proofs.Changes.{at_equal, same_parents, grows_only}

-- A pass leaves the parents: then the vertices are the same forest, and what holds by its trees holds by their own.
module _ (mix : Vertex → Vertex → Vertex) (keeps : (x y : Vertex) → (mix x y).parent ≡ x.parent) (vs ws : List Vertex)
    (only : Only mix vs ws) (long : length ws ≡ length vs) where
  pub forest_after : Forest vs → Forest ws
  forest_after forest =
      let few = forest.few in
      record {
        few = omega arith;
        grows = at_equal (λ m up. Grows m up) (grows_only mix keeps (length vs) vs ws only forest.grows) (sym long);
      }

  pub holds_after : {A : Type 0} (field : Vertex → A) (f : ℕ → (ℕ → ℕ) → ℕ → A) →
      ((v : ℕ) → 1 ≤ v → v ≤ length vs → field (vertex ws v) ≡ f (length vs) (parent_of vs) v) →
      Holds (length ws) field f ws
  holds_after field f each =
      at_equal (λ m ts. Holds m field f ts)
      (λ v p q. each v p q ∙ ap (λ up. f (length vs) up v) (sym (same_parents mix keeps vs ws only)))
      (sym long)

  -- a field that the pass leaves
  pub holds_still : {A : Type 0} (field : Vertex → A) (f : ℕ → (ℕ → ℕ) → ℕ → A) →
      ((x y : Vertex) → field (mix x y) ≡ field x) →
      Holds (length vs) field f vs → Holds (length ws) field f ws
  holds_still field f stays h =
      holds_after field f (λ v p q. ap field (only v) ∙ stays (vertex vs v) (vertex ws v) ∙ h v p q)

-- in the records of the vertices past c, up to n, the field is what f gives
abbrev pub Past : {A : Type 0} → ℕ → ℕ → (Vertex → A) → (ℕ → A) → List Vertex → Type 0
Past n c field f vs = (w : ℕ) → c < w → w ≤ n → field (vertex vs w) ≡ f w

module _ {A : Type 0} (n c : ℕ) (vs ws : List Vertex) (field : Vertex → A) (f : ℕ → A)
    (past : Past n c field f vs) where
  -- a field that a change leaves
  pub past_still : (mix : Vertex → Vertex → Vertex) → ((x y : Vertex) → field (mix x y) ≡ field x) →
      Only mix vs ws → Past n c field f ws
  past_still mix stays only w p q = ap field (only w) ∙ stays (vertex vs w) (vertex ws w) ∙ past w p q

  -- one vertex more
  pub past_more : ((w : ℕ) → 1 ≤ w → w ≢ c → field (vertex ws w) ≡ field (vertex vs w)) → field (vertex ws c) ≡ f c →
      Past n (c - 1) field f ws
  past_more others own w p q =
      elim (cases_eq w c) [
        | inl i ↦ ap (λ y. field (vertex ws y)) i ∙ own ∙ ap f (sym i)
        | inr ne ↦ others w (omega arith) ne ∙ past w (omega arith) q
      ]
