use mathlib.Core.Path.{◌≡◌, ap, ◌∙◌}
use mathlib.Core.List.{List}
use Prim.Native.Nat.{ℕ, ◌+◌, ◌-◌, ◌<◌}
use native.Mathlib.Omega.{arith}
use lib.IntN.{ℤ, ◌+ℤ◌}
use lib.ListN.{length, get_or, take, drop, length-take, length-drop}
use mir.Syntax.{w64}
use mir.Val.{SFits, to_z, of_z}
use mir.Facts.{to_z-of_z}
use Rattle.std.proofs.lemmas.List.{get_or-take}
use Rattle.std.proofs.lemmas.Grind.{get_or_after_one}
use Rattle.page_meaning.specs.Limits.{most_vertices}
use Rattle.page_walks.specs.Grid.{weight}
use Rattle.page_walks.proofs.Rounds.{below_at, part_next, part_exact}
use Rattle.grid.specs.Facts.{with_fact}
use Rattle.grid.proofs.Grid.closing.Goals as goal
use Rattle.grid.proofs.Grid.closing.Goals.{After-edge_with-sum}

-- the vertices after the first
abbrev others : List ℕ → List ℕ
others l = take (length l - 1) (drop 1 l)

within : (l : List ℕ) (i : ℕ) → i < length (others l) → i + 1 < length l
within l i h = omega (arith, length-take (length l - 1) (drop 1 l), length-drop 1 l)

other_is : (l : List ℕ) (i : ℕ) → i < length (others l) → get_or (others l) i 0 ≡ get_or l (i + 1) 0
other_is l i h = get_or-take (length l - 1) (drop 1 l) i 0 (omega (arith, within l i h)) ∙ get_or_after_one l i 0 ∙ ap (λ k. get_or l k 0) (omega arith)

pub edge_with-sum-requires : goal.edge_with-sum-requires
edge_with-sum-requires c = let l = c.args.vertices.now in
    let i = c.loop-v.v-index in
    let h = c.loop-v-test.true in
    (c.loop-v.invariant.here, rw (other_is l i h) (below_at most_vertices l (i + 1) c.requires.walk.2 (within l i h)), c.requires.edge.0, c.requires.edge.1)

-- one edge more: what is summed is the weight, and the sum is exact
added : (c : After-edge_with-sum) → let l = c.loop-v in
    to_z w64 l.sum-bits +ℤ to_z w64 (of_z w64 c.edge_with-sum.result) ≡ to_z w64 l.sum-bits +ℤ weight (with_fact c.args.self.now.rows c.args.e) l.at (get_or c.args.vertices.now (l.v-index + 1) 0)
added c = ap (λ (z : ℤ). to_z w64 c.loop-v.sum-bits +ℤ z)
    (to_z-of_z {w = w64} (record { sfits = c.edge_with-sum.type_inv })
    ∙ c.edge_with-sum.ensures
    ∙ ap (weight (with_fact c.args.self.now.rows c.args.e) c.loop-v.at) (other_is c.args.vertices.now c.loop-v.v-index c.loop-v-test.true))

exact : (c : After-edge_with-sum) → let l = c.loop-v in
    SFits w64 (to_z w64 l.sum-bits +ℤ weight (with_fact c.args.self.now.rows c.args.e) l.at (get_or c.args.vertices.now (l.v-index + 1) 0))
exact c = let l = c.loop-v in
    let walk = c.args.vertices.now in
    let h = within walk l.v-index c.loop-v-test.true in
    part_exact most_vertices (with_fact c.args.self.now.rows c.args.e) walk c.requires.walk.2 c.requires.edge.2 (l.v-index + 1) l.at _ _ l.invariant (omega (arith, c.requires.walk)) (below_at most_vertices walk (l.v-index + 1) c.requires.walk.2 h)

pub overflow_add-sum : goal.overflow_add-sum
overflow_add-sum c = rw (added (goal.at.overflow_add-sum c).After-edge_with-sum) (exact (goal.at.overflow_add-sum c).After-edge_with-sum)

pub loop-v-preserved : goal.loop-v-preserved
loop-v-preserved c = let l = c.loop-v in
    let walk = c.args.vertices.now in
    let h = within walk l.v-index c.loop-v-test.true in
    rw (added (goal.at.loop-v-preserved c).After-edge_with-sum, to_z-of_z (exact (goal.at.loop-v-preserved c).After-edge_with-sum), other_is walk l.v-index c.loop-v-test.true)
    (part_next most_vertices (with_fact c.args.self.now.rows c.args.e) walk c.requires.walk.2 c.requires.edge.2 (l.v-index + 1) l.at _ l.invariant h)
