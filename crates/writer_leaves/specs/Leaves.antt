-- Going down to a formula's first open leaf.
use Rattle.std.specs.Prelude.{ℕ, suc, ◌≤◌, ◌≡◌, ◌⊎◌, List, [], length, get_or, Option, None, Some, ℤ, pos, ◌+ℤ◌, ◌≤ℤ◌, ◌<ℤ◌}
use Rattle.page_walks.specs.Grid as page
use Rattle.page_walks.specs.Grid.{weight}
use Rattle.page_formulas.specs.Formulas as written
use Rattle.page_formulas.specs.Program.{Program, Values}
use Rattle.page_formulas.specs.Costs.{most_instructions}
use Rattle.page_formulas.specs.ProperFormulas.{Proper}
use Rattle.program.specs.Lent.{Lent}
use Rattle.program.specs.Compiled.{Compiled}
use Rattle.program.specs.declared.types.Formula.{Formula}
use Rattle.program.specs.declared.types.Instruction.{Instruction}
use Rattle.program.specs.declared.types.Place.{Place}
use Rattle.page_sheets.specs.Growth.{open_at, grow_tree}
use Rattle.page_sheets.specs.Sheet.{last_vertex}
use Rattle.goals.specs.Closures.{Tight}
use Rattle.goals.specs.Goals.{TrueUnder}
use Rattle.program_tree.specs.Nodes.{Tells}
use Rattle.program_tree.specs.declared.types.Tree.{Tree}
use Rattle.grid.specs.Edges.{Fact}
use Rattle.grid.specs.declared.Edge.{Edge}
use Rattle.grid.specs.declared.Grid.{Grid}
use Rattle.writer_trees.specs.Places.{Placing}
use Rattle.writer_trees.specs.Trees.{with, fast_at}

-- it was tried: the program is true at some values that meet the facts and this one; or at none, if it closes no negative cycle at all
abbrev pub Tries : Option Grid → Program → ℕ → page.Grid → Edge → Type 0
Tries (Some r) p last near e = (pos 0 ≤ℤ (weight near e.to e.from +ℤ e.weight)) × (r.rows ≡ with last near e) × ((y : Values) × TrueUnder p last r.rows y)
Tries None p last near e = ((weight near e.to e.from +ℤ e.weight) <ℤ pos 0) ⊎ ((y : Values) → ¬ TrueUnder p last (with last near e) y)

-- what it may be tried on
pub record Triable (t : Tree) (near : page.Grid) (e : Edge) : Type 0 where
  pub program : Program
  pub tells : Tells t program
  pub tight : Tight (suc t.last) near
  pub fact : Fact t.last e.from e.to e.weight

-- the tree is the formula's, lent part by part, and the first open leaf under these facts has these values
pub record Opening (ks : List Instruction) (ps : List Place) (t : Tree) (near : page.Grid) (F : written.Formula) (x : Values) : Type 0 where
  pub lent : Lent F.program ks ps
  pub tells : Tells t F.program
  pub facts : page.Grid
  pub opens : fast_at t.last F [] facts near ≡ open_at x

-- the code may go down there: some formula is open
pub record Descendable (ks : List Instruction) (ps : List Place) (t : Tree) (near : page.Grid) : Type 0 where
  pub short : length ks ≤ most_instructions
  pub placing : Placing t.last ps
  pub tight : Tight (suc t.last) near
  pub formula : written.Formula
  pub values : Values
  pub opening : Opening ks ps t near formula values

-- these values, at such vertices
abbrev pub Leaf : (ℕ → Type 0) → Values → List ℤ → Type 0
Leaf H x values = (v : ℕ) → H v → get_or values v (pos 0) ≡ x v

-- a compiled formula that is open
pub record FineOpen (f : Formula) : Type 0 where
  pub formula : written.Formula
  pub is : Compiled f formula
  pub proper : Proper formula
  pub values : Values
  pub opens : grow_tree last_vertex formula ≡ open_at values
