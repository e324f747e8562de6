use Rattle.std.proofs.Common.{◌≡◌, Bool, false, refl, sym, ap, ◌∙◌}
use Rattle.truth.specs.Values.{three_of}
use Rattle.truth.specs.declared.truths.Truth.{Truth}
use Rattle.truth.specs.declared.truths.Truth.TheVariants.{Fails, Open, Passes}
use Rattle.checker_rows.proofs.Truths.{Settles, met_settles}
use Rattle.checker_rows.proofs.values.met.Goals as goal

-- what is known and doesn't pass fails
fails_else : (t : Truth) (b : Bool) → ¬ (t ≡ Passes) → Settles (three_of t) b → b ≡ false
fails_else Fails b f s = s
fails_else Open b f s = absurd s
fails_else Passes b f s = absurd (f refl)

pub returns-in-Passes : goal.returns-in-Passes
returns-in-Passes c = λ F x lent same.
    let a = c.args in
    sym (met_settles F a.instructions.now a.places.now lent x a.values.now same c.decisions-truths.result c.decisions-truths.ensures c.requires.1.few _ (sym (ap three_of c.in-Passes.is) ∙ c.known.ensures))

pub returns-in_default : goal.returns-in_default
returns-in_default c = λ F x lent same.
    let a = c.args in
    sym (fails_else _ _ c.in_default.not-Passes (met_settles F a.instructions.now a.places.now lent x a.values.now same c.decisions-truths.result c.decisions-truths.ensures c.requires.1.few _ c.known.ensures))
