-- FORMAT 7.1: the writer's rule at a node. 1 if the formula is false; else 2 if there is a negative cycle, the shortest and then least;
-- else open if the formula is true; else 3.
use Rattle.std.specs.Prelude.{ℕ, suc, Bool, true, false, List, [], ◌∷◌, ◌++◌}
use Rattle.std.proofs.Math.Option.{Option, none, some}
use Rattle.page_walks.specs.Grid.{Grid, weight}
use Rattle.page_walks.specs.Search.{search, dist}
use Rattle.page_formulas.specs.Program.{Values, Place, places}
use Rattle.page_formulas.specs.Knowledge.{Three, fails, passes, open?, known}
use Rattle.page_formulas.specs.Formulas.{Formula}
use Rattle.page_sheets.specs.Facts.{start, decide}
use Rattle.page_sheets.specs.Tree.{Tree, false_leaf, cycle, split}

-- a whole tree; or the first open leaf's values
pub data Growth : Type 0 where
  shut : Tree → Growth
  open_at : Values → Growth

-- both halves of a branch: the first open leaf, or a tree
abbrev pub join : Growth → Growth → Growth
join (open_at x) f = open_at x
join (shut t) (open_at x) = open_at x
join (shut t) (shut f) = shut (split t f)

-- the rule, from: what is known of the formula, the cycle found, the greatest solution, what node 3 comes to
abbrev pub at_node : Three → Option (List ℕ) → Values → Growth → Growth
at_node fails s x branch = shut false_leaf
at_node passes (some c) x branch = shut (cycle c)
at_node passes none x branch = open_at x
at_node open? (some c) x branch = shut (cycle c)
at_node open? none x branch = branch

-- n + 1 vertex numbers
module _ (n : ℕ) (F : Formula) where
  -- by the places that are left; with none left the formula is never undecided
  unfoldable pub grow : List Place → List Bool → Grid → Growth
  grow [] ds g = at_node (known F.program ds) (search (weight g) n) (dist (weight g) n) (open_at (dist (weight g) n))
  grow (p ∷ todo) ds g =
      let branch = join (grow todo (ds ++ true ∷ []) (decide g p true)) (grow todo (ds ++ false ∷ []) (decide g p false)) in
      at_node (known F.program ds) (search (weight g) n) (dist (weight g) n) branch

  abbrev pub grow_tree : Growth
  grow_tree = grow (places F.program) [] (start (suc n) F.ranges)
