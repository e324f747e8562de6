use Rattle.page_meaning.specs.Contents.{Question}
use Rattle.formula_contexts.specs.Contexts.{Under}
use Rattle.formula_claims.proofs.Parts.{Written}
use Rattle.formula_claims.proofs.claims.line.Given as goal

abbrev pub invariant-loop-p : goal.invariant-loop-p
invariant-loop-p l = (Q : Question) → Under Q l.d → Written Q l.d l.l l.fn.into l.into l.p-index
