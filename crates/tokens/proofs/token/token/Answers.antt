use mathlib.Core.Path.{refl}
use borrow.Author.Rules.{rules}
use borrow.Author.Tests.{lt-ltb, le-ltb, ne_eqb}
use Rattle.tokens.specs.Tokens.{token_numbered}
use Rattle.tokens.proofs.Parts.{to_numbered, no_number}
use Rattle.tokens.proofs.token.token.Goals as goal

pub returns-in_err-byte : goal.returns-in_err-byte
returns-in_err-byte c = no_number _ _ _ _ c.from_residual.ensures.1 c.in_err-byte.ensures

pub returns-in-1 : goal.returns-in-1
unfolding token_numbered
returns-in-1 c = to_numbered _ _ _ _ c.in_ok-byte.ensures (simp (c.in-1.is, lt-ltb _ _ c.if-so_far-lt-COMPARISONS.true) c.comparison.ensures)

pub returns-in-1-2 : goal.returns-in-1-2
unfolding token_numbered
returns-in-1-2 c = to_numbered _ _ _ _ c.in_ok-byte.ensures (record { same = refl; meaning = rw c.at.ensures (simp (c.in-1.is, le-ltb _ _ c.if-so_far-lt-COMPARISONS.false)) })

pub returns-in-2 : goal.returns-in-2
unfolding token_numbered
returns-in-2 c = to_numbered _ _ _ _ c.in_ok-byte.ensures (record { same = refl; meaning = simp c.in-2.is (c.takes.ensures _) })

pub returns-in-3 : goal.returns-in-3
unfolding token_numbered
returns-in-3 c = to_numbered _ _ _ _ c.in_ok-byte.ensures (record { same = refl; meaning = simp c.in-3.is (c.takes-in-3.ensures _) })

pub returns-in_default : goal.returns-in_default
unfolding token_numbered
returns-in_default c = let t = c.in_ok-byte.field-0 in
    to_numbered _ _ _ _ c.in_ok-byte.ensures
    (record { same = refl; meaning = simp (ne_eqb t 1 (search rules), ne_eqb t 2 (search rules), ne_eqb t 3 (search rules)) (c.takes-in_default.ensures _) })
