-- The gathering, turn by turn: what the records hold once the vertices 1 to b are joined into their parents.
use Rattle.std.proofs.Common.{◌≡◌, ℕ, zero, suc, ◌-◌, ◌<◌, ◌≤◌, Bool, true, false, cond, ◌&&◌, ◌||◌, eqb, ◌⊎◌, List, length, set, sym, refl, ap, ◌∙◌, subst, ap₂, inl, inr, arith}
use Rattle.std.proofs.lemmas.List.{get_or-set_same, get_or-set_other}
use Rattle.std.proofs.lemmas.Bool.{eqb-true, eq-eqb, ne_eqb, cases_eq, cond-true, cond-false}
use Rattle.pattern.specs.Lists.{upto, keep}
use Rattle.pattern.specs.Forest.{Grows, under, subtree}
use Rattle.pattern.proofs.Tests.{Vertex}
use Rattle.gather.specs.Joinings.{JoiningLaws, joined_over}
use Rattle.gather.specs.Gatherings.{NodeLaws, record_of, field_of, joined_up, Gathered}
use Rattle.gather.proofs.Keeps.{keep_same, keep_alone}
use Rattle.gather.proofs.Joins.{both_neutral, over_either}
use Rattle.gather.proofs.Arrivals.{arrived, arrived_all, arrived_apart}

-- the values: what has arrived at each vertex, joined
module _ {J : Type 0} {neutral : J} {join : J → J → J} {fits : J → Type 0} (joins : JoiningLaws neutral join fits)
    {n : ℕ} {up : ℕ → ℕ} (grows : Grows n up) (first : ℕ → J) where
  abbrev over : (ℕ → Bool) → J
  over test = joined_over neutral join first (keep test (upto n))

  abbrev arrived_value : ℕ → ℕ → J
  arrived_value b v = over (λ x. arrived n up b x v)

  pub value_begins : (v : ℕ) → Vertex n v → join (first v) neutral ≡ arrived_value 0 v
  unfolding joined_over arrived
  value_begins v vertex = sym (ap (joined_over neutral join first) (keep_alone n v vertex))

  pub value_all : (b v : ℕ) → Vertex n v → v ≤ suc b → arrived_value b v ≡ over (λ x. under n up x v)
  value_all b v vertex high =
      ap (joined_over neutral join first) (keep_same _ _ (arrived_all n up grows b v vertex high) (upto n))

  pub value_more : (b v : ℕ) (value : ℕ → J) → suc b ≤ n → Vertex n v →
      ((u : ℕ) → Vertex n u → join (value u) neutral ≡ arrived_value b u) →
      join (cond (eqb (up (suc b)) v) (join (value v) (value (suc b))) (value v)) neutral ≡ arrived_value (suc b) v
  unfolding arrived
  value_more b v value within vertex so_far = go (eqb (up (suc b)) v) (eqb-true (up (suc b)) v)
    where
      go : (t : Bool) → (t ≡ true → up (suc b) ≡ v) →
          join (cond t (join (value v) (value (suc b))) (value v)) neutral ≡
          over (λ x. (t && under n up x (suc b)) || arrived n up b x v)
      go true parent =
          let child : Vertex n (suc b) = record { named = omega arith; fits = within } in
          let idle = joins.keeps neutral joins.begins in
          both_neutral neutral join joins.commutes joins.regroups idle (value v) (value (suc b))
          ∙ ap₂ join (so_far (suc b) child ∙ value_all b (suc b) child (omega arith)) (so_far v vertex)
          ∙ sym
          (over_either neutral join joins.commutes joins.regroups first idle _ _
          (arrived_apart n up grows b v within vertex (parent refl))
          (upto n))
      go false parent = so_far v vertex

-- the records once the vertices 1 to b are joined into their parents
pub record Turn {J N : Type 0} {neutral : J} {join : J → J → J} {fits : J → Type 0} {above : N → ℕ} {held : N → J}
    {holding : N → J → N} (joins : JoiningLaws neutral join fits) (holds : NodeLaws above held holding) (blank : N)
    (n : ℕ) (before : List N) (b : ℕ) (nodes : List N) : Type 0 where
  pub only : (v : ℕ) → 1 ≤ v →
      record_of blank nodes v ≡ holding (record_of blank before v) (held (record_of blank nodes v))
  pub value : (v : ℕ) → Vertex n v →
      join (held (record_of blank nodes v)) neutral ≡
      joined_over neutral join (λ x. held (record_of blank before x))
      (keep (λ x. arrived n (λ y. above (record_of blank before y)) b x v) (upto n))
  pub fit : (v : ℕ) → 1 ≤ v → v ≤ b → fits (held (record_of blank nodes v))
  pub rest : (v : ℕ) → n < v → record_of blank nodes v ≡ record_of blank before v

module _ {J N : Type 0} (join : J → J → J) (blank : N) (above : N → ℕ) (held : N → J) (holding : N → J → N) where
  -- the record of v after one joining
  joined_record : (nodes : List N) (c v p : ℕ) → 1 ≤ v → p ≤ length nodes → above (record_of blank nodes c) ≡ p →
      record_of blank (joined_up join blank above held holding nodes c) v ≡
      cond (eqb p v)
      (holding (record_of blank nodes v)
      (join (held (record_of blank nodes v)) (held (record_of blank nodes c))))
      (record_of blank nodes v)
  joined_record nodes c v p named within is =
      ap (λ u. record_of blank (cond (eqb u 0) nodes (set nodes (u - 1) (raised u))) v) is
      ∙ go (cases_eq p 0) (cases_eq p v)
    where
      raised : ℕ → N
      raised u =
          holding (record_of blank nodes u) (join (held (record_of blank nodes u)) (held (record_of blank nodes c)))

      go : (p ≡ 0) ⊎ (p ≡ 0 → ⊥) → (p ≡ v) ⊎ (p ≡ v → ⊥) →
          record_of blank (cond (eqb p 0) nodes (set nodes (p - 1) (raised p))) v ≡
          cond (eqb p v) (raised v) (record_of blank nodes v)
      go (inl root) (inl same) = absurd (omega arith)
      go (inl root) (inr other) =
          ap (λ l. record_of blank l v) (cond-true _ _ _ (eq-eqb p 0 root)) ∙ sym (cond-false _ _ _ (ne_eqb p v other))
      go (inr below) (inl same) =
          ap (λ l. record_of blank l v) (cond-false _ _ _ (ne_eqb p 0 below))
          ∙ ap (λ u. record_of blank (set nodes (u - 1) (raised u)) v) same
          ∙ get_or-set_same nodes (v - 1) (raised v) blank (omega arith)
          ∙ sym (cond-true _ _ _ (eq-eqb p v same))
      go (inr below) (inr other) =
          ap (λ l. record_of blank l v) (cond-false _ _ _ (ne_eqb p 0 below))
          ∙ get_or-set_other nodes (p - 1) (v - 1) (raised p) blank (λ e. other (omega arith))
          ∙ sym (cond-false _ _ _ (ne_eqb p v other))

module _ {J N : Type 0} {above : N → ℕ} {held : N → J} {holding : N → J → N}
    (holds : NodeLaws above held holding) where
  -- a record that may have been set once more
  held_then : (t : Bool) (x : N) (w : J) → held (cond t (holding x w) x) ≡ cond t w (held x)
  held_then true x w = holds.reads x w
  held_then false x w = refl

  only_then : (t : Bool) (old x : N) (w : J) → x ≡ holding old (held x) →
      cond t (holding x w) x ≡ holding old (held (cond t (holding x w) x))
  only_then true old x w so_far =
      ap (λ y. holding y w) so_far ∙ holds.again old (held x) w ∙ ap (holding old) (sym (holds.reads x w))
  only_then false old x w so_far = so_far

module _ {J N : Type 0} {neutral : J} {join : J → J → J} {fits : J → Type 0} {blank : N} {above : N → ℕ} {held : N → J}
    {holding : N → J → N} (joins : JoiningLaws neutral join fits) (holds : NodeLaws above held holding) {n : ℕ}
    {before : List N} (grows : Grows n (field_of blank above before)) where
  pub begin : Turn joins holds blank n before 0 before
  begin = record {
    only = λ v named. sym (holds.same _);
    value = λ v vertex. value_begins joins grows (field_of blank held before) v vertex;
    fit = λ v named none. absurd (omega arith);
    rest = λ v past. refl;
  }

  pub parent_stays : (b : ℕ) (nodes : List N) → Turn joins holds blank n before b nodes → (v : ℕ) → 1 ≤ v →
      field_of blank above nodes v ≡ field_of blank above before v
  parent_stays b nodes turn v named = ap above (turn.only v named) ∙ holds.parent _ _

  more : (b : ℕ) (nodes : List N) → suc b ≤ n → n ≤ length nodes →
      Turn joins holds blank n before b nodes →
      fits (held (record_of blank nodes (suc b))) →
      Turn joins holds blank n before (suc b) (joined_up join blank above held holding nodes (suc b))
  more b nodes within long turn fitting = record {
    only = λ v named.
        subst (λ x. x ≡ holding (record_of blank before v) (held x)) (sym (after v named))
        (only_then holds _ _ _ _ (turn.only v named));
    value = λ v vertex.
        ap (λ x. join (held x) neutral) (after v vertex.named)
        ∙ ap (λ w. join w neutral)
        (held_then holds (eqb (field_of blank above before (suc b)) v) (record_of blank nodes v)
        (join (held (record_of blank nodes v)) (held (record_of blank nodes (suc b)))))
        ∙ value_more joins grows (field_of blank held before) b v (field_of blank held nodes) within vertex
        turn.value;
    fit = λ v named small.
        subst (λ x. fits (held x)) (sym (elsewhere v named (above_all v named small)))
        (fit_so_far v named small (cases_eq v (suc b)));
    rest = λ v past. elsewhere v (omega arith) (inside v past) ∙ turn.rest v past;
  }
    where
      after : (v : ℕ) → 1 ≤ v →
          record_of blank (joined_up join blank above held holding nodes (suc b)) v ≡
          cond (eqb (field_of blank above before (suc b)) v)
          (holding (record_of blank nodes v)
          (join (held (record_of blank nodes v)) (held (record_of blank nodes (suc b)))))
          (record_of blank nodes v)
      after v named =
          joined_record join blank above held holding nodes (suc b) v (field_of blank above before (suc b)) named
          (omega (arith, grows.stays (suc b) (omega arith) within))
          (parent_stays b nodes turn (suc b) (omega arith))

      elsewhere : (v : ℕ) → 1 ≤ v → (field_of blank above before (suc b) ≡ v → ⊥) →
          record_of blank (joined_up join blank above held holding nodes (suc b)) v ≡ record_of blank nodes v
      elsewhere v named other = after v named ∙ cond-false _ _ _ (ne_eqb _ _ other)

      above_all : (v : ℕ) → 1 ≤ v → v ≤ suc b → field_of blank above before (suc b) ≡ v → ⊥
      above_all v named small e =
          let rises = grows.rises (suc b) (omega arith) within (omega arith) in
          omega arith

      inside : (v : ℕ) → n < v → field_of blank above before (suc b) ≡ v → ⊥
      inside v past e = omega (arith, grows.stays (suc b) (omega arith) within)

      fit_so_far : (v : ℕ) → 1 ≤ v → v ≤ suc b → (v ≡ suc b) ⊎ (v ≡ suc b → ⊥) →
          fits (held (record_of blank nodes v))
      fit_so_far v named small (inl this) =
          subst (λ u. fits (held (record_of blank nodes u))) (sym this) fitting
      fit_so_far v named small (inr other) = turn.fit v named (omega arith)

  pub next : (v : ℕ) (nodes after : List N) → 1 ≤ v → v ≤ n → n ≤ length nodes →
      Turn joins holds blank n before (v - 1) nodes → after ≡ joined_up join blank above held holding nodes v →
      fits (held (record_of blank nodes v)) → Turn joins holds blank n before v after
  next zero nodes after named within long turn is fitting = absurd (omega arith)
  next (suc b) nodes after named within long turn is fitting =
      let so_far : Turn joins holds blank n before b nodes =
      subst (λ k. Turn joins holds blank n before k nodes) (omega arith) turn in
      subst (Turn joins holds blank n before (suc b)) (sym is) (more b nodes within long so_far fitting)

  pub finish : (b : ℕ) (nodes : List N) → n ≤ b → Turn joins holds blank n before b nodes →
      Gathered neutral join blank above held holding n before nodes
  unfolding subtree
  finish b nodes all turn = record {
    vertices = λ v named within.
        let vertex : Vertex n v = record { named = named; fits = within } in
        turn.only v named
        ∙ ap (holding (record_of blank before v))
        (sym (joins.keeps _ (turn.fit v named (omega arith)))
        ∙ turn.value v vertex
        ∙ value_all joins grows (field_of blank held before) b v vertex (omega arith));
    others = turn.rest;
  }
