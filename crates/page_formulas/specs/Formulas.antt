-- The trouble lists as programs over vertices (FORMAT 5).
use Rattle.std.specs.Prelude.{ℕ, zero, suc, ◌+◌, Bool, true, false, ◌||◌, cond, List, [], ◌∷◌, ◌++◌, map, length, take, drop, eqb, ℤ, pos}
use Rattle.std.proofs.Math.Option.{none, some}
use Rattle.page_meaning.specs.Condition.{Condition, at_most, at_least, unequal}
use Rattle.page_meaning.specs.Contents.{Question, Change, Mode, keep, become, shift, Range, Table, columns, look, first}
use Rattle.page_meaning.specs.Contents as M
use Rattle.page_meaning.specs.Claims.{Line, single, double, mode_at, kept, Reading, read_parts, formulas_by}
use Rattle.page_formulas.specs.Program.{Program, Term, Values, and_i, or_i, true_i, false_i}
use Rattle.page_formulas.specs.Compilation.{Sight, comparison, constant_term, plus}
use Rattle.page_formulas.specs.Parts.{joined, denied, condition_program}
use Rattle.page_formulas.specs.Vertices.{Ranges}

-- its vertices' ranges; whether it speaks of two rows; its program
pub record Formula : Type 0 where
  pub ranges : Ranges
  pub pairs : Bool
  pub program : Program

-- ---- which term stands for a column

abbrev pub vertex : ℕ → Term
vertex v = record { vertex = v; offset = pos 0 }

-- FORMAT 5.4: vertex 1 + i is column i of the first row
abbrev pub first_sight : Sight
first_sight i = vertex (suc i)

-- is column i among those?
unfoldable pub among : List ℕ → ℕ → Bool
among [] i = false
among (j ∷ js) i = eqb j i || among js i

-- FORMAT 5.4: 1 + n + i is column i of the second row if that column is hidden; a visible one is the first row's
abbrev pub second_sight : Question → Sight
second_sight q i = vertex (cond (among q.visible i) (suc i) (suc (length (columns q) + i)))

-- a new value, from the old row and the old value
abbrev pub new_term : Mode → Sight → Term → Term
new_term keep σ old = old
new_term (become k) σ old = constant_term k
new_term (shift j k) σ old = plus (σ j) k

-- F: the row after the modify
unfoldable pub after : Question → List Mode → Sight → Sight
after q ms σ i = new_term (mode_at q ms i) σ (σ i)

-- ---- what its vertices range over

-- every column of the first row has its vertex, of an insert too (FORMAT 5.4)
abbrev pub first_ranges : List Range → Ranges
first_ranges gs = map some gs

-- the second row's hidden columns, from column i on
unfoldable pub hidden_ranges : List ℕ → ℕ → List Range → Ranges
hidden_ranges vs i [] = []
hidden_ranges vs i (g ∷ gs) = cond (among vs i) none (some g) ∷ hidden_ranges vs (suc i) gs

abbrev pub one_row : Question → Program → Formula
one_row q p = record { ranges = first_ranges (columns q); pairs = false; program = p }

abbrev pub both_ranges : Question → Ranges
both_ranges q = first_ranges (columns q) ++ hidden_ranges q.visible 0 (columns q)

abbrev pub two_rows : Question → Program → Formula
two_rows q p = record { ranges = both_ranges q; pairs = true; program = p }

-- ---- parts

-- new value ≤ hi, new value ≥ lo (FORMAT 5.2), each joined to what stands before it
abbrev pub bounded : Term → Range → Program
bounded t g = comparison at_most t (constant_term g.hi) ++ (and_i ∷ (comparison at_least t (constant_term g.lo) ++ (and_i ∷ [])))

abbrev pub bounded_new : Mode → Sight → Range → Program
bounded_new keep σ g = []
bounded_new (become k) σ g = bounded (constant_term k) g
bounded_new (shift j k) σ g = bounded (plus (σ j) k) g

-- for each column whose mode isn't 0, in order
unfoldable pub bounded_all : Sight → Table → List Mode → Program
bounded_all σ [] ms = []
bounded_all σ (g ∷ gs) [] = []
bounded_all σ (g ∷ gs) (m ∷ ms) = bounded_new m σ g ++ bounded_all σ gs ms

-- for each visible column whose mode isn't 0, in order: the one value ≠ the other, joined to what stands before it
abbrev pub differs_new : Mode → Term → Term → Program
differs_new m a b = cond (kept m) [] (comparison unequal a b ++ (or_i ∷ []))

unfoldable pub differs_over : (ℕ → Mode) → Sight → Sight → List ℕ → Program
differs_over mode σ τ [] = []
differs_over mode σ τ (i ∷ is) = differs_new (mode i) (σ i) (τ i) ++ differs_over mode σ τ is

-- ---- the lists

module _ (q : Question) where
  -- the words of the table (FORMAT 5.2), as programs; the range tests alone begin with true, differ with false
  abbrev pub programs : Condition → List Mode → Reading Sight Program
  programs d ms = record { F = after q ms; C = λ σ. condition_program σ q.condition; D = λ σ. condition_program σ d; ranged = λ σ. true_i ∷ bounded_all σ q.changed ms; M = λ σ. condition_program σ d ++ bounded_all σ q.changed ms; differ = λ σ τ. false_i ∷ differs_over (mode_at q ms) σ τ q.visible; deny = denied; both = joined and_i; either = joined or_i }

  -- a line of the table
  abbrev pub formula : Condition → List Mode → Line → Formula
  formula d ms (single p ps) = one_row q (read_parts (programs d ms) (λ i. first_sight) p ps)
  formula d ms (double p ps) = two_rows q (read_parts (programs d ms) (λ i. cond i (second_sight q) first_sight) p ps)

  -- asked 1
  abbrev pub irrelevance : Change → List Formula
  irrelevance ch = formulas_by formula q ch true

  -- asked 2
  abbrev pub computability : Change → List Formula
  computability ch = formulas_by formula q ch false

  -- the formulas of the verdict asked for
  abbrev pub formulas : ℕ → List Formula
  formulas asked = cond (eqb asked 1) (irrelevance q.change) (computability q.change)

-- ---- rows and what stands for them

-- rows as what vertices stand for; a one-row formula has no second row, []
abbrev pub assign : M.Values → M.Values → Values
assign u w = look (pos 0 ∷ (u ++ w))

-- the first n values
unfoldable pub tabulate : ℕ → (ℕ → ℤ) → M.Values
tabulate zero f = []
tabulate (suc n) f = f 0 ∷ tabulate n (λ i. f (suc i))

-- and back: the rows that such values give
abbrev pub row_by : Question → Values → Sight → M.Values
row_by q ρ σ = tabulate (length (columns q)) (λ i. ρ (σ i).vertex)

abbrev pub row_of1 : Question → Values → M.Values
row_of1 q ρ = row_by q ρ first_sight

abbrev pub row_of2 : Question → Values → M.Values
row_of2 q ρ = row_by q ρ (second_sight q)

-- FORMAT 7.2: for an insert the changed table's values are the inserted row's
abbrev pub put_in : Question → M.Values → M.Values → M.Values
put_in q new u = take (first q) u ++ (new ++ drop (length q.changed) (drop (first q) u))

-- no formula: past the end of a list of them
abbrev pub no_formula : Formula
no_formula = record { ranges = []; pairs = false; program = [] }
