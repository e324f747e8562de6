-- FORMAT 6.2 and 8.2: case trees, their bytes, and the check of a tree that is read.
use Rattle.std.specs.Prelude.{ℕ, zero, suc, Bool, true, false, cond, List, [], ◌∷◌, ◌++◌, length, leb, pos}
use Rattle.std.specs.Int.Signed.{lt_z}
use Rattle.page_numbers.specs.Outcome.{Outcome, good, refused}
use Rattle.page_walks.specs.Walk.{closed}
use Rattle.page_walks.specs.Grid.{Grid, weight}
use Rattle.page_formulas.specs.Program.{Place, places}
use Rattle.page_formulas.specs.Knowledge.{Three, fails, passes, open?, known}
use Rattle.page_formulas.specs.Vertices.{Ranges, present}
use Rattle.page_formulas.specs.Formulas.{Formula}
use Rattle.page_sheets.specs.Facts.{start, decide}

-- node 1, node 2 with its vertices, node 3 with the place taken as true, then as false
pub data Tree : Type 0 where
  false_leaf : Tree
  cycle : List ℕ → Tree
  split : Tree → Tree → Tree

-- FORMAT 6.2: a root's bytes, then those of its first and of its second half
unfoldable pub bytes_of : Tree → List ℕ
bytes_of false_leaf = 1 ∷ []
bytes_of (cycle c) = 2 ∷ length c ∷ c
bytes_of (split t f) = 3 ∷ bytes_of t ++ bytes_of f

-- the offset after what was read, and the bytes from there on; or a refusal
abbrev pub Checked : Type 0
Checked = Outcome (ℕ × List ℕ)

-- what follows is checked from where the last one ended, and only where nothing was refused
abbrev pub and_then : Checked → (ℕ → List ℕ → Checked) → Checked
and_then (good (o, r)) k = k o r
and_then (refused n o) k = refused n o

-- the vertices of a node 2, with what stands after them
abbrev pub Vertices : Type 0
Vertices = Outcome (List ℕ × ℕ × List ℕ)

abbrev pub more : ℕ → Vertices → Vertices
more v (good (c, o, r)) = good (v ∷ c, o, r)
more v (refused n o) = refused n o

-- so many of them, each one byte: 11 where it runs past the end, 14 for a vertex that the formula lacks (FORMAT 8.2)
unfoldable pub vertices : Ranges → ℕ → ℕ → List ℕ → Vertices
vertices rs zero at bs = good ([], at, bs)
vertices rs (suc n) at [] = refused 11 at
vertices rs (suc n) at (v ∷ bs) = let r = more v (vertices rs n (suc at) bs) in cond (present rs v) r (refused 14 at)

-- FORMAT 8.2: node 1 holds where the formula is false by what was decided; else 15 at the node byte
abbrev pub false_node : Three → ℕ → List ℕ → Checked
false_node fails at bs = good (suc at, bs)
false_node passes at bs = refused 15 at
false_node open? at bs = refused 15 at

-- FORMAT 8.2: node 2 holds where the closed walk has a sum below zero, tested after the last vertex
abbrev pub cycle_end : Grid → ℕ → Vertices → Checked
cycle_end g at (good (c, o, r)) = cond (lt_z (closed (weight g) c) (pos 0)) (good (o, r)) (refused 15 at)
cycle_end g at (refused n o) = refused n o

-- N: how many vertex numbers there are
module _ (N : ℕ) (F : Formula) where
  -- FORMAT 6.2: node 2 has a count and so many vertices
  abbrev pub cycle_node : Grid → ℕ → List ℕ → Checked
  cycle_node g at [] = refused 11 (suc at)
  cycle_node g at (zero ∷ bs) = refused 14 (suc at)
  cycle_node g at (suc n ∷ bs) = let r = cycle_end g at (vertices F.ranges (suc n) (suc (suc at)) bs) in cond (leb (suc n) N) r (refused 14 (suc at))

  -- a node at offset at, where ds were decided and g holds the facts; branch reads what follows the byte of a node 3
  abbrev pub node : List Bool → Grid → ℕ → List ℕ → (List ℕ → Checked) → Checked
  node ds g at [] branch = refused 11 at
  node ds g at (zero ∷ bs) branch = refused 14 at
  node ds g at (suc zero ∷ bs) branch = false_node (known F.program ds) at bs
  node ds g at (suc (suc zero) ∷ bs) branch = cycle_node g at bs
  node ds g at (suc (suc (suc zero)) ∷ bs) branch = branch bs
  node ds g at (suc (suc (suc (suc b))) ∷ bs) branch = refused 14 at

  -- FORMAT 6.2: node 3 takes the first place that isn't decided as true, then as false; FORMAT 8.2: 15 if there is none left
  unfoldable pub check : List Place → List Bool → Grid → ℕ → List ℕ → Checked
  check [] ds g at bs = node ds g at bs (λ rest. refused 15 at)
  check (p ∷ todo) ds g at bs =
      node ds g at bs (λ rest. and_then (check todo (ds ++ true ∷ []) (decide g p true) (suc at) rest) (λ o r. check todo (ds ++ false ∷ []) (decide g p false) o r))

  -- a formula's tree
  abbrev pub check_tree : ℕ → List ℕ → Checked
  check_tree at bs = check (places F.program) [] (start N F.ranges) at bs
