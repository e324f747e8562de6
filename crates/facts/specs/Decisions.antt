-- A decision as the edge that it adds: `with_fact g (fact_of p d)` is `decide g p d`.
use Rattle.std.specs.Prelude.{Bool}
use Rattle.page_formulas.specs.Program.{Place}
use Rattle.page_sheets.specs.Facts.{taken}
use Rattle.grid.specs.declared.Edge.{Edge}

abbrev pub fact_of : Place → Bool → Edge
fact_of p d = record { from = (taken p d).right; to = (taken p d).left; weight = (taken p d).most }
