use Rattle.std.proofs.Common.{◌≡◌, ℕ, zero, suc, ◌<◌, ◌≤◌, List, [], ◌∷◌, ap, arith}
use Rattle.analysis.specs.declared.records.Vertex.{Vertex}
use Rattle.analysis.specs.Tables.{parent_of, with_parent}
use Rattle.analysis.proofs.tests.parents_alone.Goals as goal

-- 1 below 3
abbrev one_below : Vertex → List Vertex
one_below x = with_parent x 3 ∷ x ∷ x ∷ []

rises : (x : Vertex) → x.parent ≡ 0 → (v : ℕ) → 1 ≤ v → v ≤ 3 → 1 ≤ parent_of (one_below x) v →
    v < parent_of (one_below x) v
rises x root zero l h some = absurd (omega arith)
rises x root (suc zero) l h some = omega arith
rises x root (suc (suc zero)) l h some = omega (arith, root)
rises x root (suc (suc (suc zero))) l h some = omega (arith, root)
rises x root (suc (suc (suc (suc v)))) l h some = absurd (omega arith)

stays : (x : Vertex) → x.parent ≡ 0 → (v : ℕ) → 1 ≤ v → v ≤ 3 → parent_of (one_below x) v ≤ 3
stays x root zero l h = absurd (omega arith)
stays x root (suc zero) l h = omega arith
stays x root (suc (suc zero)) l h = omega (arith, root)
stays x root (suc (suc (suc zero))) l h = omega (arith, root)
stays x root (suc (suc (suc (suc v)))) l h = absurd (omega arith)

pub settle-requires : goal.settle-requires
settle-requires g c =
    let root = ap (λ x. x.parent) c.new-vertices.ensures in
    record { few = omega arith; grows = record { rises = rises _ root; stays = stays _ root } }
