-- A node and its branch, which call each other: by the places left, and which of the two it is.
use Rattle.std.proofs.Common.{◌+◌, ◌-◌, length}
use Rattle.checker_trees.proofs.trees.+branch_tree.Given as goal

abbrev pub decreases-branch : goal.decreases-branch
decreases-branch l = let left = l.f.now.program.decisions - length l.stage.now.truths in left + left

abbrev pub decreases-tree : goal.decreases-tree
decreases-tree l = let left = l.f.now.program.decisions - length l.stage.now.truths in left + left + 1
