-- The fact of no decision: a missing edge's weight tightens nothing.
use mathlib.Core.Path.{◌≡◌, ap, ◌∙◌}
use mathlib.Core.List.{[]}
use mathlib.Core.Logic.{inl, inr}
use native.Mathlib.Omega.{arith}
use lib.IntN.{ℤ}
use lib.ListN.{set}
use lib.Signed.{◌≤ℤ◌}
use Rattle.page_numbers.specs.Numbers.{min_z}
use Rattle.page_numbers.proofs.Bridge.{ints, min_spec}
use Rattle.page_meaning.specs.Limits.{most_vertices}
use Rattle.page_walks.specs.Grid.{Grid, far, far_n, row, weight, tighten}
use Rattle.page_walks.specs.Sizes.{Sized, AllWithin}
use Rattle.page_walks.proofs.Rows.{set_own}

least_far : (w : ℤ) → w ≤ℤ far → min_z w far ≡ w
least_far w h = elim (min_spec w far).2 [ inl e ↦ e | inr e ↦ omega (ints, e, (min_spec w far).0) ]

pub no_fact : (g : Grid) → Sized most_vertices g → AllWithin far_n most_vertices g → tighten g 0 0 far ≡ g
unfolding tighten
no_fact g s w =
    let top : weight g 0 0 ≤ℤ far = omega (ints, (w.entry 0 0 (omega arith) (omega arith)).high) in
    ap (λ (z : ℤ). set g 0 (set (row g 0) 0 z)) (least_far (weight g 0 0) top)
    ∙ ap (set g 0) (set_own (row g 0) 0 far (omega (arith, s.columns 0 (omega arith))))
    ∙ set_own g 0 [] (omega (arith, s.rows))
