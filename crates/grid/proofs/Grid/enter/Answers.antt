use mathlib.Core.Path.{ap, ◌∙◌}
use lib.IntN.{ℤ, pos}
use lib.ListN.{get_or, set}
use borrow.Author.Rules.{rules}
use mir.Syntax.{w64}
use mir.Val.{SFits}
use mir.Facts.{to_z-of_z}
use Rattle.page_numbers.specs.Numbers.{min_z}
use Rattle.page_meaning.specs.Limits.{most_vertices}
use Rattle.page_walks.specs.Grid.{row, tighten}
use Rattle.page_walks.proofs.Rows.{read}
use Rattle.grid.proofs.Grid.enter.Goals as goal

pub returns : goal.returns
unfolding tighten
returns c = let g = c.args.self.now.rows in
    let e = c.args.e in
    let old : SFits w64 (get_or (row g e.from) e.to (pos 0)) = search rules in
    let new : SFits w64 e.weight = search rules in
    ap (λ (z : ℤ). set g e.from (set (row g e.from) e.to z))
    (to_z-of_z {w = w64} (record { sfits = c.lesser-least.type_inv })
    ∙ (simp (to_z-of_z, new, old) at c.lesser-least.ensures)
    ∙ ap (λ (z : ℤ). min_z z e.weight) (read most_vertices g e.from e.to c.args.self.now.sized c.requires.0 c.requires.1))
