use native.Mathlib.Omega.{arith}
use Rattle.page_questions.specs.Reader.{condition_at}
use Rattle.page_questions.proofs.FieldLaws.{is_within}
use Rattle.fields.proofs.Chain.{after, at_fault}
use Rattle.tokens.proofs.condition.condition.Goals as goal

pub returns-in_err-count-clause-meaning : goal.returns-in_err-count-clause-meaning
unfolding condition_at
returns-in_err-count-clause-meaning c = at_fault _ c.from_residual.ensures.1 c.in_err-count.ensures

pub tokens-requires : goal.tokens-requires
tokens-requires c = omega (arith, (is_within _ 4 _ _ _ _ _ c.in_ok-count.ensures.meaning).1)

pub returns-clause-meaning : goal.returns-clause-meaning
unfolding condition_at
returns-clause-meaning c = after _ c.in_ok-count.ensures c.tokens.ensures.meaning
