-- Tables that change: each record by one function, or one record; and what stays then.
use Rattle.std.proofs.Common.{◌≡◌, ℕ, zero, suc, ◌+◌, ◌-◌, ◌<◌, ◌≤◌, ◌≢◌, List, [], ◌∷◌, map, take, drop, ◌++◌, length, get_or, set, sym, refl, ap, ◌∙◌, subst, inl, inr, arith}
use mathlib.Core.Path.{fun_ext}
use Rattle.std.proofs.lemmas.List.{get_or-map, get_or-set_same, get_or-set_other, set_past}
use Rattle.std.proofs.lemmas.List.{get_or_default}
use Rattle.std.proofs.lemmas.List.Edits.{map_over_more}
use Rattle.std.proofs.lemmas.Bool.{cases_lt, cases_eq}
use Rattle.pattern.specs.Forest.{Grows}
use Rattle.gather.specs.Gatherings.{Gathered}
use Rattle.analysis.specs.declared.records.Vertex.{Vertex}
use Rattle.analysis.specs.Tables.{vertex, no_vertex, Only, parent_from, level_from}
use Rattle.analysis.specs.Tables.{parent_of, weight_from, tree_from, place_from, at_from, walk_from, reach_from}
use Rattle.analysis.specs.Tables.{order_from, counts_from}
use Rattle.analysis.specs.Order.{Holds}

-- what holds at a number holds at an equal one
pub at_equal : {A : Type 0} (P : ℕ → A → Type 0) {a : A} {s t : ℕ} → P s a → s ≡ t → P t a
at_equal P {a} h e = subst (λ k. P k a) e h

-- One vertex's record is set.
pub vertex_same : (vs : List Vertex) (v : ℕ) (x : Vertex) →
    1 ≤ v → v ≤ length vs → vertex (set vs (v - 1) x) v ≡ x
vertex_same vs v x p q = get_or-set_same vs (v - 1) x no_vertex (omega arith)

pub vertex_other : (vs : List Vertex) (v w : ℕ) (x : Vertex) →
    1 ≤ v → 1 ≤ w → w ≢ v → vertex (set vs (v - 1) x) w ≡ vertex vs w
vertex_other vs v w x p q ne = get_or-set_other vs (v - 1) (w - 1) x no_vertex (λ e. ne (omega arith))

-- each record is changed by f
pub vertex_map : (f : Vertex → Vertex) (vs : List Vertex) (v : ℕ) →
    1 ≤ v → v ≤ length vs → vertex (map f vs) v ≡ f (vertex vs v)
vertex_map f vs v p q = get_or-map f vs (v - 1) no_vertex no_vertex (omega arith)

-- a loop's step, in which it is
pub map_more : (f : Vertex → Vertex) (xs ys : List Vertex) (i : ℕ) → i < length xs → i < length ys →
    ys ≡ map f (take i xs) ++ drop i xs →
    set ys i (f (get_or ys i no_vertex)) ≡ map f (take (i + 1) xs) ++ drop (i + 1) xs
map_more f xs ys i h l e =
    let x = get_or ys i no_vertex in map_over_more f xs ys i x h e (get_or_default ys i no_vertex x l)

-- A change that takes over some fields of the new record, and leaves the others.
pub record Takes (mix : Vertex → Vertex → Vertex) : Type 0 where
  pub same : (x : Vertex) → mix x x ≡ x
  pub latest : (x y z : Vertex) → mix (mix x y) z ≡ mix x z

pub parent_takes : Takes parent_from
parent_takes = record { same = λ _. refl; latest = λ _ _ _. refl }

pub level_takes : Takes level_from
level_takes = record { same = λ _. refl; latest = λ _ _ _. refl }

pub weight_takes : Takes weight_from
weight_takes = record { same = λ _. refl; latest = λ _ _ _. refl }

pub place_takes : Takes place_from
place_takes = record { same = λ _. refl; latest = λ _ _ _. refl }

pub at_takes : Takes at_from
at_takes = record { same = λ _. refl; latest = λ _ _ _. refl }

pub tree_takes : Takes tree_from
tree_takes = record { same = λ _. refl; latest = λ _ _ _. refl }

pub walk_takes : Takes walk_from
walk_takes = record { same = λ _. refl; latest = λ _ _ _. refl }

pub reach_takes : Takes reach_from
reach_takes = record { same = λ _. refl; latest = λ _ _ _. refl }

pub order_takes : Takes order_from
order_takes = record { same = λ _. refl; latest = λ _ _ _. refl }

pub counts_takes : Takes counts_from
counts_takes = record { same = λ _. refl; latest = λ _ _ _. refl }

module _ {mix : Vertex → Vertex → Vertex} (takes : Takes mix) where
  pub only_none : (vs : List Vertex) → Only mix vs vs
  only_none vs v = sym (takes.same (vertex vs v))

  pub only_then : (bs cs ds : List Vertex) → Only mix bs cs → Only mix cs ds → Only mix bs ds
  only_then bs cs ds f g v =
      g v ∙ ap (λ x. mix x (vertex ds v)) (f v) ∙ takes.latest (vertex bs v) (vertex cs v) (vertex ds v)

  set_only : (vs : List Vertex) (k : ℕ) (x : Vertex) → x ≡ mix (get_or vs k no_vertex) x → Only mix vs (set vs k x)
  set_only vs k x e v =
      let u = takes.same (get_or vs (v - 1) no_vertex) in
      elim (cases_eq (v - 1) k) [
        | inl i ↦ elim (cases_lt k (length vs))
            [ inl l ↦ let s = get_or-set_same vs k x no_vertex l in cc | inr g ↦ let s = set_past vs k x g in cc ]
        | inr ne ↦ let s = get_or-set_other vs k (v - 1) x no_vertex ne in cc
      ]

  -- one record has changed
  pub only_set : (vs : List Vertex) (k : ℕ) (x : Vertex) (ws : List Vertex) →
      x ≡ mix (get_or vs k no_vertex) x → ws ≡ set vs k x → Only mix vs ws
  only_set vs k x ws e i = subst (Only mix vs) (sym i) (set_only vs k x e)

  map_only : (f : Vertex → Vertex) (vs : List Vertex) → ((x : Vertex) → f x ≡ mix x (f x)) →
      (k : ℕ) → get_or (map f vs) k no_vertex ≡ mix (get_or vs k no_vertex) (get_or (map f vs) k no_vertex)
  map_only f [] e k = sym (takes.same no_vertex)
  map_only f (x ∷ vs) e zero = e x
  map_only f (x ∷ vs) e (suc k) = map_only f vs e k

  -- all records have
  pub only_map : (f : Vertex → Vertex) (vs ws : List Vertex) →
      ((x : Vertex) → f x ≡ mix x (f x)) → ws ≡ map f vs → Only mix vs ws
  only_map f vs ws e i = subst (Only mix vs) (sym i) (λ v. map_only f vs e (v - 1))

-- A change that leaves the parents leaves the trees, and what a field that stays holds of them.
module _ (mix : Vertex → Vertex → Vertex) (keeps : (x y : Vertex) → (mix x y).parent ≡ x.parent) where
  pub same_parents : (vs ws : List Vertex) → Only mix vs ws → parent_of ws ≡ parent_of vs
  same_parents vs ws only = fun_ext (λ v. ap (λ x. x.parent) (only v) ∙ keeps (vertex vs v) (vertex ws v))

  pub grows_only : (n : ℕ) (vs ws : List Vertex) → Only mix vs ws → Grows n (parent_of vs) → Grows n (parent_of ws)
  grows_only n vs ws only = subst (Grows n) (sym (same_parents vs ws only))

  pub holds_only : {A : Type 0} (field : Vertex → A) (f : ℕ → (ℕ → ℕ) → ℕ → A) →
      ((x y : Vertex) → field (mix x y) ≡ field x) →
      (n : ℕ) (vs ws : List Vertex) → Only mix vs ws → Holds n field f vs → Holds n field f ws
  holds_only field f stays n vs ws only h v p q =
      ap field (only v) ∙ stays (vertex vs v) (vertex ws v) ∙ h v p q
      ∙ ap (λ up. f n up v) (sym (same_parents vs ws only))

-- A change of some fields is a change of more.
pub only_more : (mix more : Vertex → Vertex → Vertex) → ((x y : Vertex) → mix x y ≡ more x (mix x y)) →
    (vs ws : List Vertex) → Only mix vs ws → Only more vs ws
only_more mix more e vs ws only v =
    only v ∙ e (vertex vs v) (vertex ws v) ∙ ap (more (vertex vs v)) (sym (only v))

-- A gathering changes the one field.
pub only_gathered : {J : Type 0} (neutral : J) (join : J → J → J) (above : Vertex → ℕ) (held : Vertex → J)
    (holding : Vertex → J → Vertex) (mix : Vertex → Vertex → Vertex) → Takes mix →
    ((x : Vertex) (j : J) → holding x j ≡ mix x (holding x j)) → (n : ℕ) (vs ws : List Vertex) →
    Gathered neutral join no_vertex above held holding n vs ws → Only mix vs ws
only_gathered neutral join above held holding mix takes e n vs ws g v =
    let at : (u : ℕ) → 1 ≤ u → vertex ws u ≡ mix (vertex vs u) (vertex ws u) =
    λ u p. elim (cases_lt n u) [
      | inl past ↦
          g.others u past ∙ sym (takes.same (vertex vs u)) ∙ ap (mix (vertex vs u)) (sym (g.others u past))
      | inr here ↦
          let h = g.vertices u p here in h ∙ e (vertex vs u) _ ∙ ap (mix (vertex vs u)) (sym h)
    ] in
    elim (cases_eq v 0) [
      | inl z ↦ subst (λ u. vertex ws u ≡ mix (vertex vs u) (vertex ws u)) (sym z) (at 1 (omega arith))
      | inr ne ↦ at v (omega arith)
    ]
