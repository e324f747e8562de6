-- The writer's rule with the closure of the facts in the place of a search at each node: the search is made only where a cycle is known to be.
-- It comes to the same (`fast_formula`); the code follows this one.
use Rattle.std.specs.Prelude.{ℕ, Bool, true, false, cond, List, [], ◌∷◌, ◌++◌, pos, ◌+ℤ◌}
use Rattle.std.proofs.Math.Option.{Option, none, some}
use Rattle.std.specs.Int.Signed.{lt_z}
use Rattle.page_walks.specs.Grid.{Grid, weight}
use Rattle.page_walks.specs.Nearness.{Weights, relax}
use Rattle.page_walks.specs.Search.{search}
use Rattle.page_formulas.specs.Formulas.{Formula}
use Rattle.page_formulas.specs.Knowledge.{Three, fails, passes, open?, known}
use Rattle.page_formulas.specs.Program.{Values, Place}
use Rattle.page_sheets.specs.Facts.{taken, decide}
use Rattle.page_sheets.specs.Growth.{Growth, shut, open_at, join}
use Rattle.page_sheets.specs.Tree.{false_leaf, cycle}

-- does the fact a − b ≤ k close a negative cycle?
abbrev pub strained : Weights → Place → Bool
strained near q = lt_z (near q.left q.right +ℤ q.most) (pos 0)

-- the closure with one more fact
abbrev pub after : Weights → Place → Weights
after near q = relax near q.right q.left q.most

-- a node where there is no negative cycle, and one where there is
abbrev pub calm_node : Three → Values → Growth → Growth
calm_node fails x branch = shut false_leaf
calm_node passes x branch = open_at x
calm_node open? x branch = branch

-- where the search is known to find one
abbrev pub cycle_of : Option (List ℕ) → List ℕ
cycle_of none = []
cycle_of (some c) = c

abbrev pub strained_node : Three → Option (List ℕ) → Growth
strained_node fails o = shut false_leaf
strained_node passes o = shut (cycle (cycle_of o))
strained_node open? o = shut (cycle (cycle_of o))

module _ (n : ℕ) (F : Formula) where
  -- a half of a branch, given what it comes to where its fact closes no negative cycle
  abbrev pub half : Weights → Place → List Bool → Grid → Growth → Growth
  half near q ds g calm = let cut = strained_node (known F.program ds) (search (weight g) n) in cond (strained near q) cut calm

  -- by the places that are left, where no cycle is negative
  unfoldable pub fast : List Place → List Bool → Grid → Weights → Growth
  fast [] ds g near = calm_node (known F.program ds) (near 0) (open_at (near 0))
  fast (p ∷ todo) ds g near =
      let t = fast todo (ds ++ true ∷ []) (decide g p true) (after near (taken p true)) in
      let f = fast todo (ds ++ false ∷ []) (decide g p false) (after near (taken p false)) in
      let branch = join (half near (taken p true) (ds ++ true ∷ []) (decide g p true) t) (half near (taken p false) (ds ++ false ∷ []) (decide g p false) f) in
      calm_node (known F.program ds) (near 0) branch

  -- one half of the branch at place p
  abbrev pub side_of : Place → List Place → List Bool → Grid → Weights → Bool → Growth
  side_of p todo ds g near d = half near (taken p d) (ds ++ d ∷ []) (decide g p d) (fast todo (ds ++ d ∷ []) (decide g p d) (after near (taken p d)))
