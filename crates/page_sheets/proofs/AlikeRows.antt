-- Every formula of a question has its rows' vertices; so values that agree at them show the same rows.
use Prim.Native.Nat.{ℕ, suc, ◌<◌}
use mathlib.Core.Path.{◌≡◌, refl, sym}
use mathlib.Core.Bool.{Bool, true, false, cond, true≢false}
use mathlib.Core.List.{List, []}
use lib.Dec.{T, eqb}
use lib.ListN.{length, get_or}
use Rattle.page_meaning.specs.Condition.{Condition}
use Rattle.page_meaning.specs.Contents.{Change, insert, delete, modify, Mode, Question}
use Rattle.page_meaning.specs.Claims.{Line, single, double, formulas_by}
use Rattle.page_questions.specs.Guarantees.{Every}
use Rattle.page_formulas.specs.Formulas.{Formula, tabulate, second_sight, row_of1, row_of2, one_row, two_rows, formula, irrelevance, computability, formulas}
use Rattle.page_formulas.specs.Program.{Program}
use Rattle.page_formulas.specs.Program as P
use Rattle.page_formulas.specs.Vertices.{present}
use Rattle.page_formulas.proofs.Usability.{Contexts}
use Rattle.page_formulas.proofs.Readings.{every_formula}
use Rattle.page_formulas.proofs.RowVertices.{first_in_one, first_in_both, second_in_both}
use Rattle.page_sheets.specs.Rows.{width, second_row, Rowed}
use Rattle.page_sheets.proofs.Findings.{all_at}
use Rattle.page_sheets.proofs.Values.{tabulate_same}

module _ (q : Question) where
  one : (p : Program) → Rowed q (one_row q p)
  one p = record { firsts = λ c h. (first_in_one q c h).is; seconds = λ e. absurd (true≢false (sym e)) }

  two : (p : Program) → Rowed q (two_rows q p)
  two p = record { firsts = λ c h. (first_in_both q c h).is; seconds = λ e c h. (second_in_both q c h).is }

  line_rowed : (d : Condition) (ms : List Mode) (l : Line) → Rowed q (formula q d ms l)
  line_rowed d ms (single p ps) = one _
  line_rowed d ms (double p ps) = two _

  -- a line under any context
  anywhere : (ch : Change) → Contexts (λ d ms. Unit {0}) ch
  anywhere (insert new) = λ n i. tt
  anywhere (delete d) = tt
  anywhere (modify d ms) = tt

  pub all_rowed : (asked : ℕ) → Every (Rowed q) (formulas q asked)
  all_rowed asked = go (eqb asked 1)
    where
      all : (b : Bool) → Every (Rowed q) (formulas_by (formula q) q q.change b)
      all = every_formula (Rowed q) (formula q) (λ d ms. Unit {0}) (λ d ms u l f. line_rowed d ms l) q q.change (anywhere q.change)

      go : (b : Bool) → Every (Rowed q) (cond b (irrelevance q q.change) (computability q q.change))
      go true = all true
      go false = all false

  pub rows_there : (asked i : ℕ) (F : Formula) → i < length (formulas q asked) → Rowed q (get_or (formulas q asked) i F)
  rows_there asked i F h = all_at (Rowed q) (formulas q asked) (all_rowed asked) i F h

  pub rows_alike : (F : Formula) → Rowed q F → (x y : P.Values) → ((v : ℕ) → T (present F.ranges v) → x v ≡ y v) → (row_of1 q x ≡ row_of1 q y) × (second_row q F x ≡ second_row q F y)
  rows_alike F w x y h = (row (λ c. suc c) w.firsts, second F.pairs refl)
    where
      row : (v : ℕ → ℕ) → ((c : ℕ) → c < width q → T (present F.ranges (v c))) → tabulate (width q) (λ c. x (v c)) ≡ tabulate (width q) (λ c. y (v c))
      row v there = tabulate_same (width q) (λ c. x (v c)) (λ c. y (v c)) (λ c l. h (v c) (there c l))

      second : (b : Bool) → F.pairs ≡ b → cond b (row_of2 q x) [] ≡ cond b (row_of2 q y) []
      second false e = refl
      second true e = row (λ c. (second_sight q c).vertex) (w.seconds e)
