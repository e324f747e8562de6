use Rattle.std.proofs.Common.{◌≡◌, length}
use Rattle.page_formulas.specs.Costs.{most_instructions}
use Rattle.page_formulas.specs.Postfix.{places_in}
use Rattle.program_tree.specs.Nodes.{kinds_in, Filled}
use Rattle.program_tree.proofs.types.Tree.fill.Given as goal

abbrev pub invariant-loop-i : goal.invariant-loop-i
invariant-loop-i l = (l.next ≡ places_in (kinds_in l.program) l.i) × (l.self.count ≡ l.fn.self.count) × (l.self.last ≡ l.fn.self.last) × Filled l.program l.self.nodes l.i × (length l.self.nodes ≡ most_instructions)
