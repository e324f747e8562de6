-- What is asked by a number is what its `Asked` asks: the formulas, and what is found of them.
use Rattle.std.proofs.Common.{ℕ, ◌≡◌, cond, eqb, ap}
use Rattle.page_meaning.specs.Contents.{Question}
use Rattle.page_formulas.specs.Formulas.{irrelevance, computability, formulas}
use Rattle.page_sheets.specs.Sheet.{finding_under, finding_of}

module _ (q : Question) (a n : ℕ) (same : eqb a 1 ≡ eqb n 1) where
  pub formulas_alike : formulas q a ≡ formulas q n
  formulas_alike = ap (λ b. cond b (irrelevance q q.change) (computability q q.change)) same

  pub finding_alike : finding_of q a ≡ finding_of q n
  unfolding finding_under
  finding_alike = rw formulas_alike
