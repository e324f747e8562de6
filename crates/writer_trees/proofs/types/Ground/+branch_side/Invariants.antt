-- A branch, its halves and the branches below them, which call each other: by the places left, and where as many are left, by which calls which.
use Rattle.std.proofs.Common.{◌+◌, ◌-◌, length}
use Rattle.writer_trees.proofs.types.Ground.+branch_side.Given as goal

abbrev pub decreases-branch : goal.decreases-branch
decreases-branch l = let left = length l.self.now.places.now - length l.truths.now in left + left + left

abbrev pub decreases-deeper : goal.decreases-deeper
decreases-deeper l = let left = length l.self.now.places.now - length l.truths.now in left + left + left + 1

abbrev pub decreases-side : goal.decreases-side
decreases-side l = let left = length l.self.now.places.now - length l.truths.now in left + left + left + 2
