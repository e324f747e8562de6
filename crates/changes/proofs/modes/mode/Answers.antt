use mathlib.Core.Path.{refl}
use mir.Facts.{to_z-of_z}
use mir.Syntax.{w32}
use mir.Val.{SFits}
use borrow.Author.Tests.{ne_eqb}
use borrow.Author.Rules.{rules}
use Rattle.page_questions.specs.Reader.{mode_at}
use Rattle.fields.proofs.Chain.{at_fault, after, here}
use Rattle.changes.proofs.modes.mode.Goals as goal

pub returns-in_err-byte : goal.returns-in_err-byte
unfolding mode_at
returns-in_err-byte c = at_fault _ c.from_residual.ensures.1 c.in_err-byte.ensures

pub returns-in_err-no_column-in-0 : goal.returns-in_err-no_column-in-0
unfolding mode_at
returns-in_err-no_column-in-0 c = after _ c.in_ok-byte.ensures (simp c.in-0.is (at_fault _ c.from_residual-in_err-no_column-in-0.ensures.1 c.in_err-no_column-in-0.ensures))

pub returns-in_err-number-in-0 : goal.returns-in_err-number-in-0
unfolding mode_at
returns-in_err-number-in-0 c = after _ c.in_ok-byte.ensures (simp c.in-0.is (after _ c.in_ok-no_column-in-0.ensures (at_fault _ c.from_residual-in_err-number-in-0.ensures.1 c.in_err-number-in-0.ensures)))

pub returns-in_ok-number-in-0 : goal.returns-in_ok-number-in-0
unfolding mode_at
returns-in_ok-number-in-0 c = after _ c.in_ok-byte.ensures (simp c.in-0.is (after _ c.in_ok-no_column-in-0.ensures (after _ c.in_ok-number-in-0.ensures (here refl))))

pub returns-in_err-no_column-in-1 : goal.returns-in_err-no_column-in-1
unfolding mode_at
returns-in_err-no_column-in-1 c = after _ c.in_ok-byte.ensures (simp c.in-1.is (at_fault _ c.from_residual-in_err-no_column-in-1.ensures.1 c.in_err-no_column-in-1.ensures))

pub returns-in_err-constant-in-1 : goal.returns-in_err-constant-in-1
unfolding mode_at
returns-in_err-constant-in-1 c = after _ c.in_ok-byte.ensures (simp c.in-1.is (after _ c.in_ok-no_column-in-1.ensures (at_fault _ c.from_residual-in_err-constant-in-1.ensures.1 c.in_err-constant-in-1.ensures)))

pub returns-in_ok-constant-in-1 : goal.returns-in_ok-constant-in-1
unfolding mode_at
returns-in_ok-constant-in-1 c = let v : SFits w32 c.in_ok-constant-in-1.field-0 = search rules in
    after _ c.in_ok-byte.ensures (simp c.in-1.is (after _ c.in_ok-no_column-in-1.ensures (after _ c.in_ok-constant-in-1.ensures (here (simp (to_z-of_z, v))))))

pub returns-in_err-column-in_default : goal.returns-in_err-column-in_default
unfolding mode_at
returns-in_err-column-in_default c = after _ c.in_ok-byte.ensures (simp (ne_eqb c.in_ok-byte.field-0 0 (search rules), ne_eqb c.in_ok-byte.field-0 1 (search rules))
    (at_fault _ c.from_residual-in_err-column-in_default.ensures.1 c.in_err-column-in_default.ensures))

pub returns-in_err-constant-in_default : goal.returns-in_err-constant-in_default
unfolding mode_at
returns-in_err-constant-in_default c = after _ c.in_ok-byte.ensures (simp (ne_eqb c.in_ok-byte.field-0 0 (search rules), ne_eqb c.in_ok-byte.field-0 1 (search rules))
    (after _ c.in_ok-column-in_default.ensures (at_fault _ c.from_residual-in_err-constant-in_default.ensures.1 c.in_err-constant-in_default.ensures)))

pub returns-in_ok-constant-in_default : goal.returns-in_ok-constant-in_default
unfolding mode_at
returns-in_ok-constant-in_default c = let v : SFits w32 c.in_ok-constant-in_default.field-0 = search rules in
    after _ c.in_ok-byte.ensures (simp (ne_eqb c.in_ok-byte.field-0 0 (search rules), ne_eqb c.in_ok-byte.field-0 1 (search rules))
    (after _ c.in_ok-column-in_default.ensures (after _ c.in_ok-constant-in_default.ensures (here (simp (to_z-of_z, v))))))
