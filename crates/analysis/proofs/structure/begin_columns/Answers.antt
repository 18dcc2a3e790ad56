use Rattle.std.proofs.Common.{◌≡◌, ◌+◌, ◌-◌, ◌∙◌, sym, ap, subst, arith}
use Rattle.pattern.specs.Structure.{taken}
use Rattle.analysis.specs.Structure.{Filled}
use Rattle.pattern.proofs.Filling.{filled_none, rest_none, rest_then}
use Rattle.pattern.proofs.Arrays.{taken_none}
use Rattle.analysis.proofs.Structures.{Next, next_parent, next_place}
use Rattle.analysis.proofs.structure.begin_columns.Given as given
use Rattle.analysis.proofs.structure.begin_columns.Goals as goal
use Rattle.analysis.proofs.structure.begin_columns.Goals.{After-column_count}

pub loop-i-init : goal.loop-i-init
loop-i-init g c =
    record { place = sym (taken_none g.p); begun = filled_none g.p _ _; rest = rest_none g.p _ _ }

pub begin_column-requires : goal.begin_column-requires
begin_column-requires g c =
    let (found, room) = c.requires in
    let i = c.loop-i.invariant in
    let order = found.order in
    let back : c.loop-i.i ≡ c.loop-i.i + 1 - 1 = omega arith in (
      (omega arith, omega arith),
      (
        found.few,
        (
          record { starts = omega arith; rows = omega arith },
          (
            next_parent g.p _ found c.loop-i.i c.loop-i-test.true,
            (i.place ∙ ap (taken g.p) back, subst (λ k. Filled g.p k 0 c.loop-i.starts c.loop-i.rows) back i.begun),
          ),
        ),
      ),
    )

next : (g : given.Over) (c : After-column_count g) →
    Next g.p c.args.vertices.now c.requires.0 c.loop-i.i c.loop-i-test.true c.loop-i.place c.column_count.result
next g c =
    next_place g.p _ c.requires.0 c.loop-i.i c.loop-i-test.true _ _ c.loop-i.invariant.place c.column_count.ensures

pub overflow_cast-place : goal.overflow_cast-place
overflow_cast-place g c = let n = next g (goal.at.overflow_cast-place g c).After-column_count in omega arith

pub overflow_sub-place : goal.overflow_sub-place
overflow_sub-place g c = (next g (goal.at.overflow_sub-place g c).After-column_count).some

pub overflow_add-place : goal.overflow_add-place
overflow_add-place g c = let n = next g (goal.at.overflow_add-place g c).After-column_count in omega arith

pub loop-i-preserved : goal.loop-i-preserved
loop-i-preserved g c =
    record {
      place = (next g (goal.at.loop-i-preserved g c).After-column_count).after;
      begun = c.begin_column.ensures.begun;
      rest = rest_then g.p c.loop-i.invariant.rest c.begin_column.ensures.rest;
    }

pub returns : goal.returns
returns g c =
    let i = c.loop-i.invariant in
    let order = c.requires.0.order in
    record {
      begun = subst (λ k. Filled g.p k 0 c.loop-i.starts c.loop-i.rows) (omega arith) i.begun;
      rest = i.rest;
    }
