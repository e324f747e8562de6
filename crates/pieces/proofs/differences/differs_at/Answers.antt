use Rattle.std.proofs.Common.{◌≡◌, true, false, sym, ap, ◌∙◌, [], ◌∷◌, ◌++◌, rules}
use mathlib.Core.Path.{ap₂}
use Rattle.page_meaning.specs.Claims.{kept}
use Rattle.page_meaning.specs.Condition.{unequal}
use Rattle.page_formulas.specs.Program.{or_i}
use Rattle.page_formulas.specs.Compilation.{comparison}
use Rattle.sights.specs.Sights.{mode_in}
use Rattle.program.proofs.Emission.{said, more}
use Rattle.pieces.proofs.Pieces.{builds_none}
use Rattle.pieces.proofs.Contrasts.{at_hidden, at_kept, at_shown}
use Rattle.pieces.proofs.differences.differs_at.Goals as goal
use Rattle.pieces.proofs.differences.differs_at.Goals.{else-a-i-via-then-a-i+else-not-kept, else-a-i-via-else-a-i}

pub returns-then-not-kept : goal.returns-then-not-kept
returns-then-not-kept c = let a = c.args in
    let k : kept (mode_in a.a.now a.i) ≡ false = sym (ap kept c.mode.ensures.0) ∙ sym c.kept.ensures ∙ search rules in
    said
    (ap₂ (λ l r. comparison unequal l r ++ (or_i ∷ [])) c.term.ensures.is c.term-then-not-kept.ensures.is ∙ at_shown a.a.now a.b.now a.i c.if-a-i.true k)
    (more c.compare.ensures c.emit.ensures)

pub returns-else-a-i : goal.returns-else-a-i
returns-else-a-i c = let a = c.args in
    elim c.else-a-i.branch [
      | else-a-i-via-then-a-i+else-not-kept w ↦
          let k : kept (mode_in a.a.now a.i) ≡ true = sym (ap kept w.mode.ensures.0) ∙ sym w.kept.ensures ∙ search rules in
          rw (at_kept a.a.now a.b.now a.i w.if-a-i.true k) (builds_none 5 2 c.requires.0)
      | else-a-i-via-else-a-i w ↦ rw (at_hidden a.a.now a.b.now a.i w.if-a-i.false) (builds_none 5 2 c.requires.0)
    ]
