-- What the check of a tree comes to where some of the formula's places are decided.
use Rattle.std.specs.Prelude.{ℕ, ◌≤◌, Bool, List, length, drop}
use Rattle.page_meaning.specs.Limits.{most_vertices}
use Rattle.page_walks.specs.Grid.{Grid}
use Rattle.page_formulas.specs.Program.{places}
use Rattle.page_formulas.specs.Formulas as spec
use Rattle.page_sheets.specs.Tree.{Checked, check}
use Rattle.program.specs.declared.types.Formula.{Formula}
use Rattle.checker_nodes.specs.Nodes.{Checkable}
use Rattle.checker_trees.specs.declared.trees.Stage.{Stage}

-- the check where the first places are decided, as the truths say
unfoldable pub check_from : spec.Formula → List Bool → Grid → ℕ → List ℕ → Checked
check_from F truths g at bs = check most_vertices F (drop (length truths) (places F.program)) truths g at bs

-- a stage on the way down: no more is decided than there are places, and the last fact can be looked at beside the grid
pub record Reached (f : Formula) (g : Grid) (s : Stage) : Type 0 where
  pub few : length s.truths ≤ f.program.decisions
  pub checkable : Checkable g s.last
