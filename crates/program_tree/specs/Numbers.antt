-- A tree of rows of numbers, read as a tree of nodes.
use Rattle.std.specs.Prelude.{ℕ, zero, suc, map}
use Rattle.program.specs.declared.types.Instruction.{Instruction}
use Rattle.program.specs.declared.types.Instruction.TheVariants as does
use Rattle.program_tree.specs.declared.types.Node.{Node}
use Rattle.program_tree.specs.declared.types.Row.{Row}
use Rattle.program_tree.specs.declared.types.Rows.{Rows}
use Rattle.program_tree.specs.declared.types.Tree.{Tree}

-- what a number does: one above 5 what 5 does (`says_numbered` in proofs/Numbers: it says the same)
abbrev pub instruction_of : ℕ → Instruction
instruction_of zero = does.Place
instruction_of (suc zero) = does.And
instruction_of (suc (suc zero)) = does.Or
instruction_of (suc (suc (suc zero))) = does.Not
instruction_of (suc (suc (suc (suc zero)))) = does.True
instruction_of (suc (suc (suc (suc (suc k))))) = does.False

abbrev pub node_of : Row → Node
node_of r = record { instruction = instruction_of r.kind; size = r.size; place = record { left = r.left; right = r.right; most = r.most } }

abbrev pub tree_of : Rows → Tree
tree_of t = record { nodes = map node_of t.rows; count = t.count; last = t.last }
