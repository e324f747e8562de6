use mathlib.Core.Path.{◌≡◌, refl, ap, ◌∙◌}
use Prim.Native.Nat.{ℕ, ◌+◌, ◌-◌, ◌*◌, ◌≤◌, ◌<◌}
use native.Mathlib.Omega.{arith}
use borrow.Author.Rules.{rules}
use lib.IntN.{ℤ, pos, ◌+ℤ◌}
use lib.ListN.{get_or}
use lib.Signed.{lt_z}
use mir.Syntax.{w64}
use mir.Val.{SFits, to_z, of_z}
use mir.Facts.{to_z-of_z}
use Rattle.std.specs.Prelude.{Some}
use Rattle.page_meaning.specs.Limits.{most_vertices}
use Rattle.page_walks.specs.Grid.{Grid, row, weight, far_n}
use Rattle.page_walks.specs.Sizes.{Bounded, Sized, wide}
use Rattle.page_walks.proofs.Rows.{read}
use Rattle.page_walks.proofs.Sums.{bounded_more, exact_wide}
use Rattle.sums.proofs.SumsBack.{back_within}
use Rattle.cycles.specs.Firsts.{FirstIs}
use Rattle.cycles.proofs.TracedLists.{next_some, next_small, traced_next, traced_last}
use Rattle.cycles.proofs.trace.Goals as goal
use Rattle.cycles.proofs.trace.Goals.{After-unwrap-next}

pub first_closing-requires-clause-on_within : goal.first_closing-requires-clause-on_within
first_closing-requires-clause-on_within c = let r = c.requires in
    back_within c.args.walks.now.grid.now.rows c.args.walks.now.n c.args.walks.now.summable _ (c.args.opening.count - 1 - c.loop-i.i) _ r.walk.0 (omega (arith, r.walk, c.args.walks.now.summable)) c.sums_back.ensures

pub unwrap-next-requires : goal.unwrap-next-requires
unwrap-next-requires c = let l = c.loop-i in
    next_some c.args.walks.now.grid.now.rows c.args.walks.now.n c.args.opening.start c.args.opening.count c.args.walks.now.summable c.requires.walk c.args.walks.now.grid.now.sized l.i c.loop-i-test.true _ c.sums_back.ensures l.vertices l.at (to_z w64 l.sum-bits) l.invariant.2 c.first_closing.result c.first_closing.ensures

-- the next vertex, and that the way to it is small
next : (c : After-unwrap-next) → FirstIs (λ u. lt_z ((to_z w64 c.loop-i.sum-bits +ℤ get_or (row c.args.walks.now.grid.now.rows c.loop-i.at) u (pos 0)) +ℤ get_or c.sums_back.new.row u (pos 0)) (pos 0)) c.args.walks.now.n (Some c.unwrap-next.result)
next c = rw c.unwrap-next.ensures at c.first_closing.ensures

small : (c : After-unwrap-next) → Bounded ((c.loop-i.i + 1) * far_n) (to_z w64 c.loop-i.sum-bits +ℤ weight c.args.walks.now.grid.now.rows c.loop-i.at c.unwrap-next.result)
small c = let l = c.loop-i in
    next_small c.args.walks.now.grid.now.rows c.args.walks.now.n c.args.opening.start c.args.opening.count c.args.walks.now.summable c.requires.walk c.args.walks.now.grid.now.sized l.i c.loop-i-test.true _ c.sums_back.ensures l.vertices l.at (to_z w64 l.sum-bits) l.invariant.2 c.unwrap-next.result (next c).1

-- the way so far, with the edge to it
added : (n at u : ℕ) (g : Grid) (sum : ℤ) → n ≤ most_vertices → Sized most_vertices g → at < n → u < n → SFits w64 (get_or (row g at) u (pos 0)) → sum +ℤ to_z w64 (of_z w64 (get_or (row g at) u (pos 0))) ≡ sum +ℤ weight g at u
added n at u g sum h z a b f = ap (λ (y : ℤ). sum +ℤ y) (to_z-of_z {w = w64} f ∙ read most_vertices g at u z (omega arith) (omega arith))

exact : (n count i : ℕ) (z : ℤ) → n ≤ most_vertices → count ≤ n → i < count → Bounded ((i + 1) * far_n) z → SFits w64 z
exact n count i z h k a b = exact_wide z (bounded_more ((i + 1) * far_n) wide z (omega arith) b)

pub overflow_add-sum : goal.overflow_add-sum
overflow_add-sum c = let l = c.loop-i in
    let r = c.requires in
    let p = (goal.at.overflow_add-sum c).After-unwrap-next in
    rw (added c.args.walks.now.n l.at c.unwrap-next.result c.args.walks.now.grid.now.rows (to_z w64 l.sum-bits) c.args.walks.now.summable.few c.args.walks.now.grid.now.sized l.invariant.2.here (next p).0 (search rules)) (exact c.args.walks.now.n c.args.opening.count l.i _ c.args.walks.now.summable.few r.walk.2 c.loop-i-test.true (small p))

pub loop-i-preserved : goal.loop-i-preserved
loop-i-preserved c = let l = c.loop-i in
    let r = c.requires in
    let p = (goal.at.loop-i-preserved c).After-unwrap-next in (
      search rules,
      omega (arith, c.loop-i-test.true),
      rw (added c.args.walks.now.n l.at c.unwrap-next.result c.args.walks.now.grid.now.rows (to_z w64 l.sum-bits) c.args.walks.now.summable.few c.args.walks.now.grid.now.sized l.invariant.2.here (next p).0 (search rules), to_z-of_z (exact c.args.walks.now.n c.args.opening.count l.i _ c.args.walks.now.summable.few r.walk.2 c.loop-i-test.true (small p))) (traced_next c.args.walks.now.grid.now.rows c.args.walks.now.n c.args.opening.start c.args.opening.count c.args.walks.now.summable r.walk c.args.walks.now.grid.now.sized l.i c.loop-i-test.true _ c.sums_back.ensures l.vertices l.at (to_z w64 l.sum-bits) l.invariant.2 c.unwrap-next.result (next p).1),
    )

pub returns : goal.returns
returns c = let l = c.loop-i in
    let all : l.i ≡ c.args.opening.count = omega arith in
    (refl, traced_last c.args.walks.now.grid.now.rows c.args.walks.now.n c.args.opening.start c.args.opening.count c.args.walks.now.summable c.requires.walk l.vertices l.at (to_z w64 l.sum-bits) (rw all at l.invariant.2))
