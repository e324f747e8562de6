-- What the facts of the ranges come to.
use Rattle.std.specs.Prelude.{◌≡◌, List, Option}
use Rattle.page_meaning.specs.Limits.{most_vertices}
use Rattle.page_walks.specs.Grid.{Grid, far_n}
use Rattle.page_walks.specs.Sizes.{AllWithin}
use Rattle.page_formulas.specs.Vertices.{Ranges}
use Rattle.page_sheets.specs.Facts.{start}
use Rattle.program.specs.Compiled.{Spanned}
use Rattle.program.specs.declared.types.Range.{Range}

-- the grid before any decision, whatever formula has these vertices
pub record Starts (ranges : List (Option Range)) (g : Grid) : Type 0 where
  pub meaning : (rs : Ranges) → Spanned rs ranges → g ≡ start most_vertices rs
  pub small : AllWithin far_n most_vertices g
