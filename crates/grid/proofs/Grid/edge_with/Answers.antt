use Prim.Native.Nat.{ℕ, ◌<◌}
use mathlib.Core.Path.{◌≡◌, sym, ap₂, ◌∙◌}
use lib.IntN.{ℤ}
use borrow.Author.Rules.{rules}
use mir.Syntax.{w64}
use mir.Facts.{to_z-of_z}
use Rattle.page_numbers.specs.Numbers.{min_z}
use Rattle.page_meaning.specs.Limits.{most_vertices}
use Rattle.page_walks.specs.Grid.{Grid, weight, tighten}
use Rattle.page_walks.specs.Sizes.{Sized}
use Rattle.page_walks.proofs.Grids.{tighten_at, tighten_beside}
use Rattle.grid.proofs.Grid.edge_with.Goals as goal

added_at : (g : Grid) (u v from to : ℕ) (k : ℤ) → Sized most_vertices g → from < most_vertices → to < most_vertices → u ≡ from → v ≡ to → min_z (weight g u v) k ≡ weight (tighten g from to k) u v
added_at g u v from to k s hu hv e d = rw (e, d) (sym (tighten_at most_vertices g from to k s hu hv))

-- another edge than the one that is added
pub returns-then-u-e : goal.returns-then-u-e
returns-then-u-e c = let a = c.args in
    let e = c.edge-w in
    to_z-of_z {w = w64} (record { sfits = e.type_inv }) ∙ e.ensures ∙ sym (tighten_beside a.self.now.rows a.e.from a.e.to a.e.weight a.u a.v (λ x. c.if-u-e.true x.0))

pub returns-then-v-e : goal.returns-then-v-e
returns-then-v-e c = let a = c.args in
    let e = c.edge-w in
    to_z-of_z {w = w64} (record { sfits = e.type_inv }) ∙ e.ensures ∙ sym (tighten_beside a.self.now.rows a.e.from a.e.to a.e.weight a.u a.v (λ x. c.if-v-e.true x.1))

-- the one that is added
pub returns : goal.returns
returns c = let a = c.args in
    let e = c.edge-w in
    to_z-of_z {w = w64} (record { sfits = c.lesser.type_inv })
    ∙ c.lesser.ensures
    ∙ ap₂ min_z (to_z-of_z {w = w64} (record { sfits = e.type_inv }) ∙ e.ensures) (to_z-of_z {w = w64} (search rules))
    ∙ added_at a.self.now.rows a.u a.v a.e.from a.e.to a.e.weight a.self.now.sized c.requires.2 c.requires.3 c.if-u-e.false c.if-v-e.false
