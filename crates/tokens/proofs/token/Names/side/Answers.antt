use Rattle.std.specs.Prelude.{◌≢◌}
use mathlib.Core.Path.{◌∙◌, sym}
use lib.ListN.{get_or, get_or-eq_default}
use native.Mathlib.Omega.{arith}
use borrow.Author.Tests.{ltb-false}
use mir.Facts.{to_z-of_z}
use mir.Syntax.{w32}
use mir.Val.{SFits}
use borrow.Author.Rules.{rules}
use Rattle.fields.proofs.Chain.{at_fault, after, here}
use Rattle.tokens.proofs.Parts.{to_constant, to_column}
use Rattle.tokens.proofs.token.Names.side.Goals as goal
use Rattle.tokens.proofs.token.Names.side.Goals.{After-column, in_default-via-in-Some+in_default, in_default-via-in_default}

-- another byte stands there, or none
other : (c : After-column) → get_or c.args.from.now.bytes.now c.args.from.now.at 0 ≢ 255
other c = elim c.in_default.branch [
  | in_default-via-in-Some+in_default w ↦ let x = rw w.in_default.is at c.get.ensures.lookup in let h : w.in_default.field-0.now ≢ 255 = search rules in λ e. h (x.3.1 0 ∙ e)
  | in_default-via-in_default w ↦ let x = rw w.in_default.is at c.get.ensures.lookup in
      rw (get_or-eq_default c.args.from.now.bytes.now 0 (ltb-false _ _ (sym x.0))) (λ e. omega (arith, e))
]

pub returns-in_err-constant-in-Some-eq255 : goal.returns-in_err-constant-in-Some-eq255
returns-in_err-constant-in-Some-eq255 c = to_constant _ _ (sym (c.in-Some-eq255.ensures.lookup.3.1 0) ∙ c.in-Some-eq255.field-0-test)
    (at_fault _ c.from_residual.ensures.1 c.in_err-constant-in-Some-eq255.ensures)

pub returns-in_ok-constant-in-Some-eq255 : goal.returns-in_ok-constant-in-Some-eq255
returns-in_ok-constant-in-Some-eq255 c = let v : SFits w32 c.in_ok-constant-in-Some-eq255.field-0 = search rules in
    to_constant _ _ (sym (c.in-Some-eq255.ensures.lookup.3.1 0) ∙ c.in-Some-eq255.field-0-test)
    (after _ c.in_ok-constant-in-Some-eq255.ensures (here (simp (to_z-of_z, v))))

pub returns-in_err-column-in_default : goal.returns-in_err-column-in_default
returns-in_err-column-in_default c = to_column _ _ (other (goal.at.returns-in_err-column-in_default c).After-column) (at_fault _ c.from_residual-in_err-column-in_default.ensures.1 c.in_err-column-in_default.ensures)

pub returns-in_err-constant-in_default : goal.returns-in_err-constant-in_default
returns-in_err-constant-in_default c = to_column _ _ (other (goal.at.returns-in_err-constant-in_default c).After-column)
    (after _ c.in_ok-column-in_default.ensures (at_fault _ c.from_residual-in_err-constant-in_default.ensures.1 c.in_err-constant-in_default.ensures))

pub returns-in_ok-constant-in_default : goal.returns-in_ok-constant-in_default
returns-in_ok-constant-in_default c = let v : SFits w32 c.in_ok-constant-in_default.field-0 = search rules in
    to_column _ _ (other (goal.at.returns-in_ok-constant-in_default c).After-column)
    (after _ c.in_ok-column-in_default.ensures (after _ c.in_ok-constant-in_default.ensures (here (simp (to_z-of_z, v)))))
