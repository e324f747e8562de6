use mathlib.Core.Path.{refl}
use borrow.Author.Tests.{ne_eqb}
use borrow.Author.Rules.{rules}
use Rattle.tokens.proofs.TokenRun.{no_token, one_token, token_refused, none_there, some_there}
use Rattle.tokens.proofs.condition.tokens.Goals as goal
use Rattle.tokens.proofs.condition.tokens.Goals.{else-count-ne0-via-then-count-ne0+else-so_far-ne1, else-count-ne0-via-else-count-ne0}

pub loop-i-init : goal.loop-i-init
loop-i-init c = no_token (search rules)

pub loop-i-preserved : goal.loop-i-preserved
loop-i-preserved c = one_token c.loop-i.invariant c.loop-i-test.true c.requires c.with-so_far.ensures.compared c.with-so_far.ensures.height c.in_ok-kind.ensures

pub returns-in_err-kind-clause-meaning : goal.returns-in_err-kind-clause-meaning
returns-in_err-kind-clause-meaning c = token_refused c.loop-i.invariant c.loop-i-test.true c.from_residual.ensures.1 c.in_err-kind.ensures

pub returns-then-so_far-ne1-clause-meaning : goal.returns-then-so_far-ne1-clause-meaning
returns-then-so_far-ne1-clause-meaning c = some_there c.loop-i.invariant c.loop-i-test.false c.requires c.if-count-ne0.true
    (record { same = refl; meaning = rw c.at.ensures (simp (ne_eqb _ _ c.if-so_far-ne1.true)) })

pub returns-clause-meaning : goal.returns-clause-meaning
returns-clause-meaning c = elim c.else-count-ne0.branch [
  | else-count-ne0-via-then-count-ne0+else-so_far-ne1 w ↦ some_there c.loop-i.invariant c.loop-i-test.false c.requires w.if-count-ne0.true
      (record { same = refl; meaning = simp w.if-so_far-ne1.false })
  | else-count-ne0-via-else-count-ne0 w ↦ none_there c.loop-i.invariant c.loop-i-test.false w.if-count-ne0.false (record { same = refl; meaning = simp w.if-count-ne0.false })
]
