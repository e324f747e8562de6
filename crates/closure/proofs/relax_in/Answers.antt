use mathlib.Core.Path.{◌≡◌, refl, sym, ap, ◌∙◌}
use mathlib.Core.Bool.{false}
use mathlib.Core.List.{[]}
use Prim.Native.Nat.{ℕ, ◌<◌}
use native.Mathlib.Omega.{arith}
use borrow.Author.Rules.{rules}
use lib.IntN.{ℤ, pos, ◌+ℤ◌}
use lib.ListN.{get_or}
use lib.Signed.{◌≤ℤ◌, lt_z}
use mir.Syntax.{w64}
use mir.Val.{SFits}
use mir.Facts.{to_z-of_z}
use Rattle.page_meaning.specs.Limits.{most_vertices}
use Rattle.page_walks.specs.Grid.{Grid, row, weight, far_n}
use Rattle.page_walks.specs.Sizes.{wide, Bounded, Sized, filled, tabled}
use Rattle.page_walks.specs.Nearness.{relax}
use Rattle.page_walks.proofs.Rows.{filled_more, filled_out, read, tabled_sized}
use Rattle.page_walks.proofs.Sums.{exact_wide, bounded_more}
use Rattle.page_walks.proofs.RelaxedRows.{new_row, reach_bounded, on_within, row_is, grid_stays}
use Rattle.page_numbers.proofs.Bridge.{ints}
use Rattle.page_numbers.proofs.Machine.{lt_false}
use Rattle.grid.specs.Edges.{Summable}
use Rattle.closure.proofs.relax_in.Goals as goal
use Rattle.closure.proofs.relax_in.Goals.{then-reach-rows, else-reach-rows}

-- row u of the grid g that is being written, still as it was
module _ (near g : Grid) (n b a u : ℕ) (k : ℤ) (sz : Sized most_vertices near) (s : Summable n near) (h : (b < n) × (a < n) × Bounded far_n k) (hu : u < n) (e : g ≡ filled (new_row near n b a k) u near) where
  same : row g u ≡ row near u
  same = ap (λ m. row m u) e ∙ filled_out _ u near u [] (omega arith)

  entry : (v : ℕ) → v < n → get_or (row g u) v (pos 0) ≡ weight near u v
  entry v hv = ap (λ w. get_or w v (pos 0)) same ∙ read most_vertices near u v sz (omega (arith, hu, s.few)) (omega (arith, hv, s.few))

  entry_fits : (v : ℕ) → v < n → SFits w64 (get_or (row g u) v (pos 0))
  entry_fits v hv = rw (entry v hv) (exact_wide (weight near u v) (bounded_more far_n wide (weight near u v) (omega arith) (s.within.entry u v hu hv)))

  -- the way to the new edge and along it
  bounded : Bounded wide (get_or (row g u) b (pos 0) +ℤ k)
  bounded = rw same (reach_bounded near n b a k sz (s.few, h.0, h.1) h.2 s.within u hu)

  -- what the edge doesn't lower at its end
  not_lowered : lt_z (get_or (row g u) b (pos 0) +ℤ k) (get_or (row g u) a (pos 0)) ≡ false → weight near u a ≤ℤ (weight near u b +ℤ k)
  not_lowered t = rw (sym (entry a h.1), sym (entry b h.0)) (omega (ints, lt_false (get_or (row g u) b (pos 0) +ℤ k) (get_or (row g u) a (pos 0)) t))

pub loop-u-init : goal.loop-u-init
unfolding filled
loop-u-init c = (search rules, refl)

pub overflow_add-reach : goal.overflow_add-reach
overflow_add-reach c = let l = c.loop-u in
    let e = c.args.e in
    let near = c.args.near.now in
    let k : SFits w64 e.weight = search rules in
    simp (to_z-of_z, k, entry_fits near.rows l.rows c.args.n e.from e.to l.u e.weight near.sized c.requires.summable c.requires.edge c.loop-u-test.true l.invariant.1 e.from c.requires.edge.0)
    (exact_wide _ (bounded near.rows l.rows c.args.n e.from e.to l.u e.weight near.sized c.requires.summable c.requires.edge c.loop-u-test.true l.invariant.1))

pub relax_row-requires-clause-bounded : goal.relax_row-requires-clause-bounded
relax_row-requires-clause-bounded c = let l = c.loop-u in
    let e = c.args.e in
    let near = c.args.near.now in
    let k : SFits w64 e.weight = search rules in
    let b = bounded near.rows l.rows c.args.n e.from e.to l.u e.weight near.sized c.requires.summable c.requires.edge c.loop-u-test.true l.invariant.1 in
    simp (to_z-of_z, k, entry_fits near.rows l.rows c.args.n e.from e.to l.u e.weight near.sized c.requires.summable c.requires.edge c.loop-u-test.true l.invariant.1 e.from c.requires.edge.0, exact_wide _ b) b

pub relax_row-requires-clause-within : goal.relax_row-requires-clause-within
relax_row-requires-clause-within c = let r = c.requires in
    let e = c.args.e in
    on_within c.args.near.now.rows c.args.n e.from e.to e.weight c.args.near.now.sized (r.summable.few, r.edge.0, r.edge.1) r.edge.2 r.summable.within

pub loop-u-preserved : goal.loop-u-preserved
loop-u-preserved c = let l = c.loop-u in
    let e = c.args.e in
    let near = c.args.near.now in
    let r = c.requires in
    let hu = c.loop-u-test.true in
    let k : SFits w64 e.weight = search rules in
    let x = entry_fits near.rows l.rows c.args.n e.from e.to l.u e.weight near.sized r.summable r.edge hu l.invariant.1 e.from r.edge.0 in
    let y = entry_fits near.rows l.rows c.args.n e.from e.to l.u e.weight near.sized r.summable r.edge hu l.invariant.1 e.to r.edge.1 in
    let z = exact_wide _ (bounded near.rows l.rows c.args.n e.from e.to l.u e.weight near.sized r.summable r.edge hu l.invariant.1) in
    let was = same near.rows l.rows c.args.n e.from e.to l.u e.weight near.sized r.summable r.edge hu l.invariant.1 in (
      omega (arith, hu),
      elim c.if-reach-rows.branch [
        | then-reach-rows w ↦
            let new : w.relax_row.new.row ≡ new_row near.rows c.args.n e.from e.to e.weight l.u =
            (rw was at (simp (to_z-of_z, k, x, z) at w.relax_row.ensures))
            ∙ row_is near.rows c.args.n e.from e.to e.weight near.sized (r.summable.few, r.edge.0, r.edge.1) r.edge.2 r.summable.within l.u hu in
            w.rows-is ∙ filled_more _ l.u near.rows l.rows _ l.invariant.1 new
        | else-reach-rows w ↦
            let t : lt_z (get_or (row l.rows l.u) e.from (pos 0) +ℤ e.weight) (get_or (row l.rows l.u) e.to (pos 0)) ≡ false = simp (to_z-of_z, k, x, y, z) at w.if-reach-rows.false in
            let low = not_lowered near.rows l.rows c.args.n e.from e.to l.u e.weight near.sized r.summable r.edge hu l.invariant.1 t in
            w.rows-is ∙ grid_stays near.rows c.args.n e.from e.to e.weight near.sized (r.summable.few, r.edge.0, r.edge.1) r.edge.2 r.summable.within r.triangle l.u hu low l.rows l.invariant.1
      ],
    )

all : (near g : Grid) (n b a u : ℕ) (k : ℤ) → u ≡ n → g ≡ filled (new_row near n b a k) u near → g ≡ tabled (relax (weight near) b a k) n near
unfolding tabled
all near g n b a u k h e = rw h at e

pub invariant_of-near : goal.invariant_of-near
invariant_of-near c = let l = c.loop-u in
    let e = c.args.e in
    let near = c.args.near.now in
    record { sized = rw (all near.rows l.rows c.args.n e.from e.to l.u e.weight (omega arith) l.invariant.1) (tabled_sized _ most_vertices c.args.n near.rows c.requires.summable.few near.sized) }

pub returns : goal.returns
returns c = let e = c.args.e in
    all c.args.near.now.rows c.loop-u.rows c.args.n e.from e.to c.loop-u.u e.weight (omega arith) c.loop-u.invariant.1
