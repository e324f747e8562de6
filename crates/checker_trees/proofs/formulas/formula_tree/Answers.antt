use Rattle.std.proofs.Common.{◌≡◌, ◌+◌, sym, subst, ◌∙◌, arith, add-zero}
use Rattle.page_meaning.specs.Limits.{most_vertices}
use Rattle.page_walks.specs.Grid.{far, far_n, tighten}
use Rattle.page_walks.specs.Sizes.{AllWithin}
use Rattle.program.proofs.Loans.{same_few}
use Rattle.program.proofs.Ranges.{small_spans, spanned_of}
use Rattle.checker_nodes.specs.Nodes.{Checkable}
use Rattle.checker_trees.proofs.NoFact.{no_fact}
use Rattle.checker_trees.proofs.NodeReading.{left_all}
use Rattle.checker_trees.proofs.formulas.formula_tree.Goals as goal
use Rattle.checker_trees.proofs.formulas.formula_tree.Goals.{After-first}

pub start-requires : goal.start-requires
start-requires c = let i = c.requires in
    small_spans _ i.formula.ranges i.is.vertices.covers i.proper.ranges_small

-- no decision yet: the grid of the ranges
same_grid : (c : After-first) → tighten c.start.result.rows 0 0 far ≡ c.start.result.rows
same_grid c = no_fact c.start.result.rows c.start.result.sized c.start.ensures.small

pub tree-requires : goal.tree-requires
tree-requires c =
    let root : Checkable c.start.result.rows (record { from = 0; to = 0; weight = far }) = record {
      small = subst (AllWithin far_n most_vertices) (sym (same_grid (goal.at.tree-requires c).After-first)) c.start.ensures.small;
      from_is = omega arith;
      to_is = omega arith;
    } in
    (c.requires, rw c.first.ensures (record { few = omega arith; checkable = root }))

pub returns : goal.returns
returns c = λ F base is.
    let f = c.args.f.now in
    let i = c.requires in
    let grid = c.start.ensures.meaning F.ranges (spanned_of f F is (same_few f i.formula F i.is is i.proper.vertices)) in
    simp add-zero at ((rw (c.first.ensures, same_grid (goal.at.returns c).After-first, grid) at (c.tree.ensures F base is)) ∙ left_all F (base + 0) _)
