use Rattle.std.proofs.Common.{[], ◌∷◌, ◌++◌, ap, ◌∙◌, arith}
use mathlib.Core.Path.{ap₂}
use mir.Syntax.{w32}
use mir.Val.{SFits}
use mir.Facts.{to_z-of_z}
use Rattle.page_meaning.specs.Condition.{at_most, at_least}
use Rattle.page_formulas.specs.Program.{and_i}
use Rattle.page_formulas.specs.Compilation.{comparison, constant_term}
use Rattle.program.specs.Meanings.{term_of}
use Rattle.program.proofs.Emission.{said, more}
use Rattle.pieces.proofs.ranges.bounded.Goals as goal

pub returns : goal.returns
returns c =
    let g = c.args.g in
    let lo : SFits w32 g.lo = record { sfits = omega arith } in
    let hi : SFits w32 g.hi = record { sfits = omega arith } in
    said
    (ap₂
    (λ h l. comparison at_most (term_of c.args.t) h ++ (and_i ∷ (comparison at_least (term_of c.args.t) l ++ (and_i ∷ []))))
    (c.constant.ensures.is ∙ ap constant_term (to_z-of_z hi))
    (c.constant-2.ensures.is ∙ ap constant_term (to_z-of_z lo)))
    (more (more (more c.at_most.ensures c.emit.ensures) c.at_most-2.ensures) c.emit-2.ensures)
