use Rattle.program_tree.specs.Nodes.{size_at}
use Rattle.goals.proofs.demands.+demand_by.Given as goal

-- an operand is smaller than what it is an operand of
abbrev pub decreases-demand_by : goal.decreases-demand_by
decreases-demand_by g l = size_at (g.T.AsTree.tree l.tree.now) l.i
