-- The weights that a check of a tree meets stay small: every sum of a closed walk is exact.
use Prim.Native.Nat.{ℕ}
use mathlib.Core.Bool.{Bool, true, false}
use native.Mathlib.Omega.{arith}
use lib.IntN.{ℤ, negsuc, neg_ℤ, ◌+ℤ◌}
use Rattle.page_numbers.proofs.Bridge.{+up, +dn, neg_up, neg_dn}
use Rattle.page_walks.specs.Grid.{Grid, far_n}
use Rattle.page_walks.specs.Sizes.{least_weight, Bounded, AllWithin}
use Rattle.page_walks.proofs.Grids.{tighten_keeps}
use Rattle.page_formulas.specs.Program.{Place}
use Rattle.page_sheets.specs.Facts.{taken, decide}

small_negation : (k : ℤ) → Bounded least_weight k → Bounded far_n (neg_ℤ k +ℤ negsuc 0)
small_negation k b =
    record { high = omega (arith, +up (neg_ℤ k) (negsuc 0), neg_up k, b.low); low = omega (arith, +dn (neg_ℤ k) (negsuc 0), neg_dn k, b.high) }

small_taken : (p : Place) (d : Bool) → Bounded least_weight p.most → Bounded far_n (taken p d).most
small_taken p true b = record { high = omega (arith, b.high); low = omega (arith, b.low) }
small_taken p false b = small_negation p.most b

pub decide_within : (N : ℕ) (g : Grid) (p : Place) (d : Bool) → AllWithin far_n N g → Bounded least_weight p.most → AllWithin far_n N (decide g p d)
decide_within N g p d w b = record { entry = λ u v hu hv. tighten_keeps (Bounded far_n) g (taken p d).right (taken p d).left (taken p d).most u v (w.entry u v hu hv) (λ e f. small_taken p d b) }
