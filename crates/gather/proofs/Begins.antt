-- The records whose values are set one by one, and what a gathering that begins so comes to.
use Rattle.std.proofs.Common.{◌≡◌, ℕ, ◌+◌, ◌-◌, ◌<◌, ◌≤◌, List, length, get_or, set, sym, ap, ◌∙◌, subst, inl, inr, arith}
use Rattle.std.proofs.lemmas.List.{get_or-set_same, get_or-set_other, get_or_default}
use Rattle.std.proofs.lemmas.Bool.{cases_eq}
use Rattle.pattern.specs.Forest.{Grows, subtree}
use Rattle.pattern.proofs.Agree.{grows_agrees, subtree_agrees}
use Rattle.gather.specs.Joinings.{joined_over}
use Rattle.gather.specs.Gatherings.{NodeLaws, record_of, field_of, Gathered, Begun, GatheredFrom}

module _ {J N : Type 0} {above : N → ℕ} {held : N → J} {holding : N → J → N} (holds : NodeLaws above held holding)
    {gives : N → J → Type 0} {blank : N} {before : List N} where
  -- a record more
  module _ (i : ℕ) (nodes : List N) (d : N) (value : J) (inside : i < length nodes)
      (so_far : Begun gives blank held holding i before nodes)
      (rest : (v : ℕ) → i < v → record_of blank nodes v ≡ record_of blank before v)
      (given : gives (get_or nodes i d) value) where
    abbrev after : List N
    after = set nodes i (holding (get_or nodes i d) value)

    at : (xs : List N) → record_of blank xs (i + 1) ≡ get_or xs i blank
    at xs = let same : i + 1 - 1 ≡ i = omega arith in ap (λ k. get_or xs k blank) same

    this : get_or nodes i d ≡ record_of blank before (i + 1)
    this = get_or_default nodes i d blank inside ∙ sym (at nodes) ∙ rest (i + 1) (omega arith)

    set_one : record_of blank after (i + 1) ≡ holding (record_of blank before (i + 1)) value
    set_one = at after ∙ get_or-set_same nodes i _ blank inside ∙ ap (λ x. holding x value) this

    held_one : held (record_of blank after (i + 1)) ≡ value
    held_one = ap held set_one ∙ holds.reads _ _

    others : (v : ℕ) → 1 ≤ v → (v ≡ i + 1 → ⊥) → record_of blank after v ≡ record_of blank nodes v
    others v p ne = get_or-set_other nodes i (v - 1) _ blank (λ e. ne (omega arith))

    pub begun_more : Begun gives blank held holding (i + 1) before after ×
        ((v : ℕ) → i + 1 < v → record_of blank after v ≡ record_of blank before v)
    begun_more = (
      record {
        only = λ v p q. elim (cases_eq v (i + 1)) [
          | inl e ↦
              subst (λ w. record_of blank after w ≡ holding (record_of blank before w) (held (record_of blank after w)))
              (sym e)
              (set_one ∙ ap (holding (record_of blank before (i + 1))) (sym held_one))
          | inr ne ↦
              let o = others v p ne in
              o
              ∙ so_far.only v p (omega arith)
              ∙ ap (λ x. holding (record_of blank before v) (held x)) (sym o)
        ];
        given = λ v p q. elim (cases_eq v (i + 1)) [
          | inl e ↦
              subst (λ w. gives (record_of blank before w) (held (record_of blank after w))) (sym e)
              (subst (gives (record_of blank before (i + 1))) (sym held_one) (subst (λ x. gives x value) this given))
          | inr ne ↦
              subst (λ x. gives (record_of blank before v) (held x)) (sym (others v p ne))
              (so_far.given v p (omega arith))
        ];
      },
      λ v q. others v (omega arith) (λ e. omega arith) ∙ rest v (omega arith),
    )

  -- all of them
  module _ {n : ℕ} {middle : List N} (begun : Begun gives blank held holding n before middle)
      (grows : Grows n (field_of blank above before)) where
    parent_kept : (v : ℕ) → 1 ≤ v → v ≤ n → field_of blank above middle v ≡ field_of blank above before v
    parent_kept v p q = ap above (begun.only v p q) ∙ holds.parent _ _

    pub begun_grows : Grows n (field_of blank above middle)
    begun_grows = grows_agrees n _ _ (λ v p q. sym (parent_kept v p q)) grows

    pub gathered_from : {neutral : J} {join : J → J → J} {after : List N} →
        Gathered neutral join blank above held holding n middle after →
        GatheredFrom gives neutral join blank above holding n before after
    gathered_from {neutral} {join} {after} g = record {
      first = field_of blank held middle;
      given = begun.given;
      vertices = λ v p q.
          g.vertices v p q
          ∙ ap
          (λ x. holding x (joined_over neutral join (field_of blank held middle)
          (subtree n (field_of blank above middle) v)))
          (begun.only v p q)
          ∙ holds.again _ _ _
          ∙ ap (λ xs. holding (record_of blank before v) (joined_over neutral join (field_of blank held middle) xs))
          (subtree_agrees n _ _ parent_kept v);
    }
