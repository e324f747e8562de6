-- Formula i of a question that was read is proper; compiled, it is that of a proper formula.
use Prim.Native.Nat.{ℕ, ◌<◌}
use lib.ListN.{length}
use Rattle.page_meaning.specs.Contents.{Question}
use Rattle.page_questions.specs.Guarantees.{Accepted}
use Rattle.page_formulas.specs.Formulas.{formulas, no_formula}
use Rattle.formula.specs.Formulas.{formula_at}
use Rattle.program.specs.Compiled.{Compiled, Fine}
use Rattle.program.specs.declared.types.Formula as compiled
use Rattle.page_formulas.specs.ProperFormulas.{Proper}
use Rattle.page_formulas.proofs.ProperFormulas.{formulas_proper}
use Rattle.page_sheets.proofs.Findings.{all_at}

pub proper_at : (q : Question) (ok : Accepted q) (asked i : ℕ) → i < length (formulas q asked) → Proper (formula_at (formulas q asked) i)
proper_at q ok asked i h = all_at Proper (formulas q asked) (formulas_proper q ok asked) i no_formula h

pub fine_at : (q : Question) (ok : Accepted q) (asked i : ℕ) → i < length (formulas q asked) → (f : compiled.Formula) → Compiled f (formula_at (formulas q asked) i) → Fine f
fine_at q ok asked i h f is = record { formula = formula_at (formulas q asked) i; is = is; proper = proper_at q ok asked i h }
