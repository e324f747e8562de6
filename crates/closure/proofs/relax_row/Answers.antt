use mathlib.Core.Path.{◌≡◌, refl, sym, ap, ◌∙◌}
use mathlib.Core.List.{List}
use Prim.Native.Nat.{ℕ}
use native.Mathlib.Omega.{arith}
use borrow.Author.Rules.{rules}
use lib.IntN.{ℤ, pos, ◌+ℤ◌}
use lib.ListN.{get_or, length-set}
use mir.Syntax.{w64}
use mir.Val.{SFits}
use mir.Facts.{to_z-of_z}
use Rattle.page_numbers.specs.Numbers.{min_z}
use Rattle.page_walks.specs.Sizes.{filled}
use Rattle.page_walks.proofs.Rows.{filled_more, filled_out}
use Rattle.page_walks.proofs.Sums.{exact_two, exact_wide}
use Rattle.closure.proofs.relax_row.Goals as goal

-- the lesser of the old entry and the way round
abbrev better : List ℤ → List ℤ → ℤ → ℕ → ℤ
better row on reach v = min_z (get_or row v (pos 0)) (reach +ℤ get_or on v (pos 0))

pub loop-v-init : goal.loop-v-init
unfolding filled
loop-v-init c = (search rules, refl, refl)

pub loop-v-preserved : goal.loop-v-preserved
loop-v-preserved c = let l = c.loop-v in
    let row = c.args.row.now in
    let on = c.args.on.now in
    let old : SFits w64 (get_or l.row l.v (pos 0)) = search rules in
    let way = c.requires.within.entry l.v c.loop-v-test.true in
    let there : get_or l.row l.v (pos 0) ≡ get_or row l.v (pos 0) = ap (λ h. get_or h l.v (pos 0)) l.invariant.2 ∙ filled_out _ l.v row l.v (pos 0) (omega arith) in
    let told : c.lesser.result ≡ min_z (get_or l.row l.v (pos 0)) (c.args.reach +ℤ get_or on l.v (pos 0)) = simp (to_z-of_z, c.ranges.reach, old, exact_wide _ way, exact_two c.args.reach _ c.requires.bounded way) at c.lesser.ensures in
    let new : c.lesser.result ≡ better row on c.args.reach l.v = told ∙ ap (λ (z : ℤ). min_z z (c.args.reach +ℤ get_or on l.v (pos 0))) there in (
      omega (arith, c.loop-v-test.true),
      length-set l.row l.v _ ∙ l.invariant.1,
      filled_more _ l.v row l.row _ l.invariant.2 (to_z-of_z {w = w64} (record { sfits = c.lesser.type_inv }) ∙ new ∙ ap (λ (z : ℤ). better row on z l.v) (sym (to_z-of_z c.ranges.reach))),
    )
