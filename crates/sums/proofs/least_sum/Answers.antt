use mathlib.Core.Path.{◌≡◌, sym, ap, ◌∙◌}
use mathlib.Core.List.{List}
use Prim.Native.Nat.{ℕ, ◌<◌}
use native.Mathlib.Omega.{arith}
use borrow.Author.Rules.{rules}
use lib.IntN.{ℤ, pos, ◌+ℤ◌}
use lib.ListN.{get_or}
use mir.Syntax.{w64}
use mir.Val.{SFits, to_z}
use mir.Facts.{to_z-of_z}
use Rattle.page_numbers.specs.Numbers.{min_z}
use Rattle.page_walks.specs.Search.{least}
use Rattle.page_walks.specs.Sizes.{wide, RowWithin}
use Rattle.page_walks.proofs.Sums.{exact_two, exact_wide}
use Rattle.page_walks.proofs.BestSums.{least_more}
use Rattle.sums.proofs.least_sum.Goals as goal

-- an edge to u and the way on from there
abbrev onward : List ℤ → List ℤ → ℕ → ℤ
onward edges on u = get_or edges u (pos 0) +ℤ get_or on u (pos 0)

-- an entry of either row is exact in 64 bits, and so is the sum of two
one_fits : (n u : ℕ) (l : List ℤ) → RowWithin wide n l → u < n → SFits w64 (get_or l u (pos 0))
one_fits n u l r h = exact_wide _ (r.entry u h)

both_fit : (n u : ℕ) (edges on : List ℤ) → RowWithin wide n edges → RowWithin wide n on → u < n → SFits w64 (onward edges on u)
both_fit n u edges on r s h = exact_two _ _ (r.entry u h) (s.entry u h)

pub loop-u-init : goal.loop-u-init
unfolding least
loop-u-init c = let a = c.args in
    let r = c.requires in
    (search rules, r.count.0, simp (to_z-of_z, one_fits a.n 0 a.edges.now r.edges_within r.count.0, one_fits a.n 0 a.on.now r.on_within r.count.0, both_fit a.n 0 a.edges.now a.on.now r.edges_within r.on_within r.count.0))

pub loop-u-preserved : goal.loop-u-preserved
loop-u-preserved c = let a = c.args in
    let r = c.requires in
    let l = c.loop-u in
    let h = c.loop-u-test.true in
    let new : c.lesser-sum.result ≡ min_z (to_z w64 l.sum-bits) (onward a.edges.now a.on.now l.u) = simp (to_z-of_z, one_fits a.n l.u a.edges.now r.edges_within h, one_fits a.n l.u a.on.now r.on_within h, both_fit a.n l.u a.edges.now a.on.now r.edges_within r.on_within h) at c.lesser-sum.ensures in (
      search rules,
      omega (arith, h),
      to_z-of_z {w = w64} (record { sfits = c.lesser-sum.type_inv }) ∙ new ∙ ap (λ (z : ℤ). min_z z (onward a.edges.now a.on.now l.u)) l.invariant.2 ∙ sym (least_more (onward a.edges.now a.on.now) l.u l.invariant.0),
    )
