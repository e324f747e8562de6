-- The values of a no sheet, then what comes after them.
use Rattle.std.proofs.Common.{ℕ, ◌+◌, ◌≤◌, ◌≡◌, Bool, true, false, cond, List, Result, sym, ap, ap₂, ◌∙◌, arith}
use Rattle.page_meaning.specs.Contents.{Question}
use Rattle.page_formulas.specs.Formulas.{Formula}
use Rattle.page_sheets.specs.Rows.{fields, field_ok}
use Rattle.page_sheets.specs.Sheet.{check_fields, no_end, check_rows}
use Rattle.refusal.specs.declared.Refusal.{Refusal}
use Rattle.question.specs.Held.{question_of}
use Rattle.question.specs.declared.types.Question as declared
use Rattle.sights.specs.Sights.{Whole}
use Rattle.sights.proofs.Shapes.{columns_length}
use Rattle.checker_rows.specs.NoSheet.{after_fields, FieldsRead}

-- two rows at most
pub two_most : (pairs : Bool) (n : ℕ) → cond pairs (n + n) n ≤ n + n
two_most true n = omega arith
two_most false n = omega arith

-- so many values as the formula has fields
pub counted : (q : declared.Question) (pairs : Bool) (F : Formula) (n : ℕ) → Whole q → pairs ≡ F.pairs → n ≡ cond pairs (q.shape.total + q.shape.total) q.shape.total → n ≡ fields (question_of q) F
counted q pairs F n w is e = e ∙ ap₂ (λ b n. cond b (n + n) n) is (sym (columns_length q w))

pub rows_after : (q : Question) (i : ℕ) (F : Formula) (s : List ℕ) (count : ℕ) → count ≡ fields q F → (r : Result Unit Refusal) → FieldsRead (field_ok q i s) s count r → after_fields r (no_end q F s) ≡ check_rows q i F s
unfolding check_rows
rows_after q i F s count e r h = h.meaning (no_end q F s) ∙ ap (λ n. check_fields (field_ok q i s) s n 0 (no_end q F s)) e
