-- The facts of the ranges, one vertex at a time.
use Prim.Native.Nat.{ℕ, zero, suc, ◌+◌, ◌-◌, ◌≤◌}
use mathlib.Core.Path.{◌≡◌, sym, ap, ◌∙◌}
use mathlib.Core.Option.{none, some}
use mathlib.Core.List.{List}
use native.Mathlib.Numerals.{add-one}
use native.Mathlib.Omega.{arith}
use native.Mathlib.Decide.{dec_lt}
use lib.ListN.{length, get_or, drop, drop_of_length-le}
use lib.Seq.{drop-cons}
use lib.IntN.{ℤ, neg_ℤ}
use Rattle.std.specs.Prelude.{Option, None}
use Rattle.std.proofs.lemmas.List.{get_or_past}
use Rattle.page_numbers.proofs.Bridge.{neg_up, neg_dn}
use Rattle.page_meaning.specs.Contents as M
use Rattle.page_meaning.specs.Limits.{most_vertices}
use Rattle.page_walks.specs.Grid.{Grid, far_n, blank}
use Rattle.page_walks.specs.Sizes.{least_weight, Bounded, AllWithin}
use Rattle.page_walks.proofs.Grids.{tighten_keeps, blank_far}
use Rattle.page_formulas.specs.Vertices.{Ranges}
use Rattle.page_sheets.specs.Facts.{confine, confine_all}
use Rattle.program.specs.Meanings.{entry_of}
use Rattle.program.specs.Compiled.{Spanned}
use Rattle.program.specs.declared.types.Range.{Range}

pub blank_within : (N : ℕ) → AllWithin far_n N (blank N)
blank_within N = record { entry = λ u v hu hv. rw (blank_far N u v) (record { high = omega arith; low = omega arith }) }

pub wider : (z : ℤ) → Bounded least_weight z → Bounded far_n z
wider z b = record { high = omega (arith, b.high); low = omega (arith, b.low) }

pub confine_within : (N : ℕ) (g : Grid) (v : ℕ) (r : M.Range) → AllWithin far_n N g → Bounded least_weight r.lo → Bounded least_weight r.hi → AllWithin far_n N (confine g v (some r))
confine_within N g v r w a b = record { entry = λ u t hu ht. tighten_keeps (Bounded far_n) _ v 0 (neg_ℤ r.lo) u t (tighten_keeps (Bounded far_n) g 0 v r.hi u t (w.entry u t hu ht) (λ e f. wider r.hi b)) (λ e f. record { high = omega (arith, neg_up r.lo, a.low); low = omega (arith, neg_dn r.lo, a.high) }) }

-- a vertex, and those after it; past the last there is nothing to do
vertex_on : (rs : Ranges) (g : Grid) (i : ℕ) → confine_all (confine g (suc i) (get_or rs i none)) (suc (suc i)) (drop (suc i) rs) ≡ confine_all g (suc i) (drop i rs)
unfolding confine_all
vertex_on rs g i = elim (dec_lt i (length rs)) [
  | yes h ↦ rw (drop-cons rs i none h)
  | no h ↦
      let a : length rs ≤ i = omega arith in
      let b : length rs ≤ suc i = omega arith in
      rw (get_or_past rs i none a, drop_of_length-le rs a, drop_of_length-le rs b)
]

module _ (rs : Ranges) (ranges : List (Option Range)) (s : Spanned rs ranges) (g : Grid) where
  -- the next vertex: it is there, or it is not
  pub start_on : (v : ℕ) (o : Option Range) → 1 ≤ v → get_or ranges v None ≡ o → confine_all (confine g v (entry_of o)) (v + 1) (drop (v + 1 - 1) rs) ≡ confine_all g v (drop (v - 1) rs)
  start_on zero o h e = absurd (omega arith)
  start_on (suc i) o h e =
      let a : suc i + 1 - 1 ≡ suc i = omega arith in
      let b : suc i - 1 ≡ i = omega arith in
      let f : entry_of o ≡ get_or rs i none = ap entry_of (sym e) ∙ s.covers.agree i in
      rw (a, b, add-one (suc i), f) (vertex_on rs g i)

  pub start_end : confine_all g most_vertices (drop (most_vertices - 1) rs) ≡ g
  unfolding confine_all
  start_end = let k : length rs ≤ most_vertices - 1 = omega (arith, s.few) in rw (drop_of_length-le rs k)
