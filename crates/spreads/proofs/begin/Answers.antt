use mathlib.Core.Path.{ap, ap₂, ◌∙◌}
use native.Mathlib.Omega.{arith}
use borrow.Author.Rules.{rules}
use Prim.Native.Nat.{◌<◌}
use mir.Syntax.{w64}
use mir.Val.{SFits}
use mir.Facts.{to_z-of_z}
use Rattle.page_meaning.specs.Limits.{most_vertices}
use Rattle.spreads.specs.Spread.{apart, spread}
use Rattle.spreads.proofs.RangeClosure.{row_sized, row_more}
use Rattle.spreads.proofs.begin.Goals as goal

pub loop-u-preserved : goal.loop-u-preserved
loop-u-preserved c = let l = c.loop-u in
    let hu = c.loop-u-test.true in
    let few = c.requires.few in
    let here : l.u < most_vertices = omega (arith, hu, few) in
    let long = c.spread_row.ensures.row_len in
    let low : SFits w64 c.span-low.result.lo = search rules in (
      omega (arith, hu),
      row_sized most_vertices l.rows l.u _ l.invariant.1 here long,
      row_more most_vertices l.rows l.u _ l.invariant.1 here long (spread c.args.vertices.now.ranges) c.args.vertices.now.count few l.invariant.2 (λ v hv. c.spread_row.ensures.apart v hv ∙ ap₂ (λ x y. apart x y l.u v) (c.highest-high.ensures v hv) (to_z-of_z {w = w64} low ∙ ap (λ g. g.lo) c.span-low.ensures)),
    )
