-- The facts of a grid, and one more.
use Rattle.page_walks.specs.Grid.{Grid, tighten}
use Rattle.grid.specs.declared.Edge.{Edge}

abbrev pub with_fact : Grid → Edge → Grid
with_fact g e = tighten g e.from e.to e.weight
