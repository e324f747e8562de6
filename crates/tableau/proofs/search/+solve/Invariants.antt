use Rattle.std.proofs.Common.{◌+◌}
use Rattle.program_tree.specs.Nodes.{size_at}
use Rattle.goals.specs.Goals.{waiting, total}
use Rattle.tableau.proofs.search.+solve.Given as goal

-- an operand is smaller than the goal that is split
abbrev pub decreases-solve : goal.decreases-solve
decreases-solve l = size_at l.tree.now l.i + total l.tree.now (waiting l.state.now)
