-- A program as a tree, in the code's nodes.
use Rattle.std.specs.Prelude.{ℕ, suc, ◌+◌, ◌-◌, ◌≤◌, ◌<◌, ◌≡◌, Bool, List, map, length, get_or, take}
use Rattle.page_meaning.specs.Limits.{most_vertices, most_decisions}
use Rattle.page_formulas.specs.Program as P
use Rattle.page_formulas.specs.Program.{Values, test, truth}
use Rattle.page_formulas.specs.Form.{Rises}
use Rattle.page_formulas.specs.Postfix.{says, size_by, size_of, places_in, value_at}
use Rattle.page_formulas.specs.Costs.{most_instructions}
use Rattle.page_sheets.specs.Facts.{taken}
use Rattle.grid.specs.Edges.{Fact}
use Rattle.program.specs.Meanings.{number_of, place_of, no_place}
use Rattle.program.specs.Lent.{place_at}
use Rattle.program.specs.declared.types.Program.{Program}
use Rattle.program.specs.declared.types.Instruction.TheVariants as does
use Rattle.program_tree.specs.declared.types.Node.{Node}
use Rattle.program_tree.specs.declared.types.Tree.{Tree}

-- past the end of the nodes
abbrev pub blank : Node
blank = record { instruction = does.Place; size = 0; place = no_place }

abbrev pub node : List Node → ℕ → Node
node nodes j = get_or nodes j blank

-- the size of every node
abbrev pub sizes : List Node → List ℕ
sizes nodes = map (λ r. r.size) nodes

-- where the first of two operands ends
abbrev pub first_in : List Node → ℕ → ℕ
first_in nodes j = j - 1 - (node nodes (j - 1)).size

-- a place between vertices up to the last, with a small constant: a fact where it is wanted true, and where false
pub record Placed (last : ℕ) (q : P.Place) : Type 0 where
  pub few : last < most_vertices
  pub facts : (d : Bool) → Fact last (taken q d).right (taken q d).left (taken q d).most

module _ (t : Tree) where
  abbrev pub kind_at : ℕ → ℕ
  kind_at j = number_of (node t.nodes j).instruction

  abbrev pub size_at : ℕ → ℕ
  size_at j = (node t.nodes j).size

  abbrev pub first_at : ℕ → ℕ
  first_at j = first_in t.nodes j

  abbrev pub place_in : ℕ → P.Place
  place_in j = place_of (node t.nodes j).place

  -- ---- how it is planted

  -- the size of an instruction of kind k that comes at i
  abbrev pub size_for : ℕ → ℕ → ℕ
  size_for k i = size_by k (size_at (first_at i)) (size_at (i - 1))

  -- what that is read from: its operands stand before it
  pub record Reading (k i : ℕ) : Type 0 where
    pub short : i < most_instructions
    pub one : 0 < k → k < 4 → 0 < i
    pub two : 0 < k → k < 3 → size_at (i - 1) < i
    pub small : size_for k i ≤ suc i

  -- ---- what it says

  -- its operands come before it and are smaller
  pub record Made (j : ℕ) : Type 0 where
    pub some : 0 < size_at j
    pub place : kind_at j ≡ 0 → Placed t.last (place_in j)
    pub one : kind_at j ≡ 3 → (0 < j) × (size_at (j - 1) < size_at j)
    pub two : 0 < kind_at j → kind_at j < 3 → (size_at (j - 1) < j) × (size_at (first_at j) + size_at (j - 1) < size_at j)

  pub record LaidRows : Type 0 where
    pub short : t.count ≤ most_instructions
    pub few : t.last < most_vertices
    pub made : (j : ℕ) → j < t.count → Made j

  -- v gives each instruction's truth
  pub record Describes (v : Values → ℕ → Bool) : Type 0 where
    pub told : (x : Values) (j : ℕ) → j < t.count → v x j ≡ says (kind_at j) (test x (place_in j)) (v x (first_at j)) (v x (j - 1))

-- a program's kinds, by the pages' numbers
abbrev pub kinds_in : Program → List ℕ
kinds_in p = map number_of p.instructions

-- the first so many instructions are a program's, and its places have room
pub record Plantable (p : Program) : Type 0 where
  pub short : p.length ≤ most_instructions
  pub long : p.length ≤ length (kinds_in p)
  pub formed : Rises 0 (take p.length (kinds_in p)) 1
  pub few : (j : ℕ) → j < p.length → get_or (kinds_in p) j 0 ≡ 0 → places_in (kinds_in p) j < most_decisions

-- the nodes of the first n instructions
pub record Filled (p : Program) (nodes : List Node) (n : ℕ) : Type 0 where
  pub kinds_are : (j : ℕ) → j < n → number_of (node nodes j).instruction ≡ get_or (kinds_in p) j 0
  pub sizes_are : (j : ℕ) → j < n → get_or (sizes nodes) j 0 ≡ size_of (kinds_in p) (sizes nodes) j
  pub places_are : (j : ℕ) → j < n → get_or (kinds_in p) j 0 ≡ 0 → place_of (node nodes j).place ≡ place_at p.places (places_in (kinds_in p) j)

-- all of its nodes
pub record Planted (p : Program) (last : ℕ) (t : Tree) : Type 0 where
  pub filled : Filled p t.nodes p.length
  pub count_is : t.count ≡ p.length
  pub last_is : t.last ≡ last

-- the tree is the program's
pub record Tells (t : Tree) (p : P.Program) : Type 0 where
  pub laid : LaidRows t
  pub some : 0 < t.count
  pub whole : size_at t (t.count - 1) ≤ most_instructions
  pub describes : Describes t (value_at p)
  pub truth_is : (x : Values) → truth x p ≡ value_at p x (t.count - 1)
