-- The trouble lists as tests of full rows: what the claims of the table mean (FORMAT 5.2).
use Rattle.std.specs.Prelude.{ℕ, ◌≡◌, Bool, true, false, not, ◌&&◌, ◌||◌, cond, List, [], ◌∷◌, ◌+ℤ◌, T}
use Rattle.page_meaning.specs.Condition.{Condition, Row, meets, holds, unequal}
use Rattle.page_meaning.specs.Contents.{Question, Change, Mode, keep, become, shift, Values, Table, look, columns, fits, in_range, new_value, part, Contents}
use Rattle.page_meaning.specs.Witness.{witness, empty}
use Rattle.page_meaning.specs.Claims.{Line, single, double, mode_at, kept, Reading, read_parts, formulas_by}

-- FORMAT 5.1: a test of one full row, or of two that have the same values in the visible columns
pub data Formula : Type 0 where
  one : (Row → Bool) → Formula
  two : (Row → Row → Bool) → Formula

-- P holds of every formula of a list
abbrev pub All : (Formula → Type 0) → List Formula → Type 0
All P [] = Unit {0}
All P (φ ∷ l) = P φ × All P l

-- ---- the modify on a full row

-- F of a full row: that row after the modify
unfoldable pub moved : Question → List Mode → Row → Row
moved q ms r i = new_value (mode_at q ms i) r (r i)

-- the new value of each column whose mode isn't 0 is in its range
unfoldable pub new_fits : Table → List Mode → Row → Bool
new_fits [] ms r = true
new_fits (g ∷ gs) [] r = new_fits gs [] r
new_fits (g ∷ gs) (keep ∷ ms) r = new_fits gs ms r
new_fits (g ∷ gs) (become k ∷ ms) r = in_range g k && new_fits gs ms r
new_fits (g ∷ gs) (shift j k ∷ ms) r = in_range g (r j +ℤ k) && new_fits gs ms r

-- a or over the visible columns whose mode isn't 0, in order, of: the one value ≠ the other
abbrev pub differ_over : (ℕ → Mode) → List ℕ → Row → Row → Bool
differ_over mode [] a b = false
differ_over mode (i ∷ is) a b = (not (kept (mode i)) && holds unequal (a i) (b i)) || differ_over mode is a b

-- ---- the lists

module _ (q : Question) where
  -- the words of the table (FORMAT 5.2), of rows
  abbrev pub tests : Condition → List Mode → Reading Row Bool
  tests d ms = record { F = moved q ms; C = meets q.condition; D = meets d; ranged = new_fits q.changed ms; M = λ r. meets d r && new_fits q.changed ms r; differ = differ_over (mode_at q ms) q.visible; deny = not; both = ◌&&◌; either = ◌||◌ }

  -- a line of the table; one about one row has no second
  abbrev pub formula : Condition → List Mode → Line → Formula
  formula d ms (single p ps) = one (λ r. read_parts (tests d ms) (λ i. r) p ps)
  formula d ms (double p ps) = two (λ r s. read_parts (tests d ms) (λ i. cond i s r) p ps)

  -- asked 1
  abbrev pub irrelevance : Change → List Formula
  irrelevance ch = formulas_by formula q ch true

  -- asked 2
  abbrev pub computability : Change → List Formula
  computability ch = formulas_by formula q ch false

  -- rows in range that meet a formula; two have the same visible part
  abbrev pub Met : Formula → Type 0
  Met (one f) = (u : Values) × T (fits (columns q) u) × T (f (look u))
  Met (two f) = (u : Values) × (w : Values) × T (fits (columns q) u) × T (fits (columns q) w) × (part q (look u) ≡ part q (look w)) × T (f (look u) (look w))

  -- FORMAT 5.1: every formula is false for all rows in range
  abbrev pub AllFail : List Formula → Type 0
  AllFail l = All (λ φ. ¬ Met φ) l

-- ---- what its rows show

-- the contents that rows which meet a formula stand for, and those that they are set against for asked 2
abbrev pub first_of : (q : Question) (ch : Change) (φ : Formula) → Met q φ → Contents
first_of q ch (one f) m = witness q ch m.0
first_of q ch (two f) m = witness q ch m.0

-- the second row's; all empty where the formula has one row only
abbrev pub second_of : (q : Question) (ch : Change) (φ : Formula) → Met q φ → Contents
second_of q ch (one f) m = empty q
second_of q ch (two f) m = witness q ch m.1
