-- What the tableau is asked: parts of a formula that are wanted true or false, under the facts so far.
use Rattle.std.specs.Prelude.{ℕ, zero, suc, ◌+◌, ◌≤◌, ◌<◌, ◌≡◌, Bool, true, false, not, List, [], ◌∷◌, get_or, Option, Some, None, Result, Ok, Err, ℤ, pos}
use Rattle.page_meaning.specs.Limits.{most_vertices}
use Rattle.page_walks.specs.Grid.{Grid, weight}
use Rattle.page_walks.specs.Sizes.{Sized}
use Rattle.page_walks.specs.Walk.{Sat}
use Rattle.page_formulas.specs.Program.{Values, Program, truth}
use Rattle.page_formulas.specs.Vertices.{InRange}
use Rattle.page_formulas.specs.Formulas.{Formula}
use Rattle.page_formulas.specs.Costs.{most_instructions}
use Rattle.goals.specs.Closures.{Tight}
use Rattle.program_tree.specs.declared.types.Tree.{Tree}
use Rattle.program_tree.specs.Nodes.{kind_at, size_at, LaidRows, Describes}
use Rattle.goals.specs.declared.types.Contradiction.{Contradiction}
use Rattle.goals.specs.declared.types.Goal.{Goal}
use Rattle.goals.specs.declared.types.State.{State}

abbrev pub goal : ℕ → Bool → Goal
goal a d = record { at = a; want = d }

-- past the end of the goals
abbrev pub no_goal : Goal
no_goal = goal 0 false

-- the first h goals, the last first
unfoldable pub stack_of : List Goal → ℕ → List Goal
stack_of goals zero = []
stack_of goals (suc h) = get_or goals h no_goal ∷ stack_of goals h

-- those that wait
abbrev pub waiting : State → List Goal
waiting s = stack_of s.goals s.count

abbrev pub Each : (Goal → Type 0) → List Goal → Type 0
Each P [] = Unit {0}
Each P (g ∷ gs) = P g × Each P gs

-- each is as wanted
abbrev pub Granted : (ℕ → Bool) → List Goal → Type 0
Granted v = Each (λ g. v g.at ≡ g.want)

-- vertex v's of the values handed back
abbrev pub held : List ℤ → Values
held l v = get_or l v (pos 0)

-- whether there are such values, with the values where there are
abbrev pub Opens : Option (List ℤ) → (Values → Type 0) → Type 0
Opens (Some l) S = S (held l)
Opens None S = (x : Values) → ¬ S x

-- the same values answer both
abbrev pub Same : (Values → Type 0) → (Values → Type 0) → Type 0
Same S T = (x : Values) → (S x → T x) × (T x → S x)

-- values in range at which the formula is true
abbrev pub TrueAt : Formula → Values → Type 0
TrueAt F x = InRange F.ranges x × (truth x F.program ≡ true)

-- values that meet the facts, at which the program is true
pub record TrueUnder (p : Program) (last : ℕ) (near : Grid) (x : Values) : Type 0 where
  pub at_zero : x 0 ≡ pos 0
  pub sat : Sat (weight near) (suc last) x
  pub true_is : truth x p ≡ true

-- is one operand enough, by kind and wanted truth?
abbrev pub splitting : ℕ → Bool → Bool
splitting zero want = want
splitting (suc zero) want = not want
splitting (suc (suc k)) want = want

-- is a constant other than wanted?
abbrev pub unlike : ℕ → Bool → Bool
unlike zero want = want
unlike (suc zero) want = want
unlike (suc (suc zero)) want = want
unlike (suc (suc (suc zero))) want = want
unlike (suc (suc (suc (suc zero)))) want = not want
unlike (suc (suc (suc (suc (suc k))))) want = want

module _ (t : Tree) where
  -- how many instructions there are in them
  abbrev pub total : List Goal → ℕ
  total [] = 0
  total (g ∷ gs) = size_at t g.at + total gs

  -- each has two operands of which one is enough
  pub record Waits (g : Goal) : Type 0 where
    pub in_tree : g.at < t.count
    pub kind_low : 0 < kind_at t g.at
    pub kind_high : kind_at t g.at < 3
    pub splits : splitting (kind_at t g.at) g.want ≡ true

  abbrev pub Waiting : List Goal → Type 0
  Waiting = Each Waits

  -- values that meet the facts, at which each goal is as wanted
  pub record Solves (v : Values → ℕ → Bool) (near : Grid) (gs : List Goal) (x : Values) : Type 0 where
    pub at_zero : x 0 ≡ pos 0
    pub sat : Sat (weight near) (suc t.last) x
    pub met : Granted (v x) gs

  -- facts, and goals that wait
  pub record Standing (near : Grid) (gs : List Goal) : Type 0 where
    pub laid : LaidRows t
    pub table : Sized most_vertices near
    pub tight : Tight (suc t.last) near
    pub waiting : Waiting gs
    pub enough : total gs ≤ most_instructions

  -- from some goals to others, under more facts, with the same values
  pub record Leads (near : Grid) (gs : List Goal) (near' : Grid) (gs' : List Goal) : Type 0 where
    pub standing : Standing near' gs'
    pub less : total gs' ≤ total gs
    pub old : (x : Values) → Sat (weight near') (suc t.last) x → Sat (weight near) (suc t.last) x
    pub same : (v : Values → ℕ → Bool) → Describes t v → Same (Solves v near gs) (Solves v near' gs')

  -- the goals contradict the facts
  abbrev pub Shut : Grid → List Goal → Type 0
  Shut near gs = (v : Values → ℕ → Bool) → Describes t v → (x : Values) → ¬ Solves v near gs x

  -- they do; or they lead on
  abbrev pub Takes : Grid → List Goal → Result (Unit {0}) Contradiction → Grid → List Goal → Type 0
  Takes near gs (Err c) near' gs' = Shut near gs
  Takes near gs (Ok u) near' gs' = Leads near gs near' gs'

  -- they lead on, and where something moved there is less to do
  pub record Sifted (near : Grid) (gs : List Goal) (moved : Bool) (near' : Grid) (gs' : List Goal) : Type 0 where
    pub leads : Leads near gs near' gs'
    pub falls : moved ≡ true → total gs' < total gs

  abbrev pub Sifts : Grid → List Goal → Result Bool Contradiction → Grid → List Goal → Type 0
  Sifts near gs (Err c) near' gs' = Shut near gs
  Sifts near gs (Ok moved) near' gs' = Sifted near gs moved near' gs'

  -- the same of states: of gs, under the facts of one, the other is left
  abbrev pub Leaves : State → List Goal → Result (Unit {0}) Contradiction → State → Type 0
  Leaves s gs answer left = Takes s.near.rows gs answer left.near.rows (waiting left)

  abbrev pub LeavesLess : State → List Goal → Result Bool Contradiction → State → Type 0
  LeavesLess s gs moved left = Sifts s.near.rows gs moved left.near.rows (waiting left)

  -- instruction i can be asked for beside those that wait
  pub record Asks (s : State) (i : ℕ) : Type 0 where
    pub standing : Standing s.near.rows (waiting s)
    pub in_tree : i < t.count
    pub enough : size_at t i + total (waiting s) ≤ most_instructions
