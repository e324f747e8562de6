use Rattle.std.proofs.Common.{◌≡◌, ◌+◌, true, false, sym, ap, ◌∙◌, rules}
use Rattle.page_meaning.specs.Claims.{kept}
use Rattle.question.specs.Held.{column_of}
use Rattle.page_formulas.specs.Formulas.{bounded}
use Rattle.sights.specs.Sights.{mode_in}
use Rattle.program.proofs.Emission.{said}
use Rattle.pieces.proofs.Pieces.{builds_none}
use Rattle.pieces.proofs.Tests.{test_none, test_is}
use Rattle.pieces.proofs.ranges.bounded_at.Goals as goal

pub returns-else-not-kept : goal.returns-else-not-kept
returns-else-not-kept c = let a = c.args in
    let k : kept (mode_in a.s.now (a.s.now.first + a.j)) ≡ true = sym (ap kept c.mode.ensures.0) ∙ sym c.kept.ensures ∙ search rules in
    rw (test_none a.s.now c.requires.1 c.requires.2 a.j (column_of a.g).range k) (builds_none 4 2 c.requires.0)

pub returns-then-not-kept : goal.returns-then-not-kept
returns-then-not-kept c = let a = c.args in
    let g = (column_of a.g).range in
    let k : kept (mode_in a.s.now (a.s.now.first + a.j)) ≡ false = sym (ap kept c.mode.ensures.0) ∙ sym c.kept.ensures ∙ search rules in
    said (ap (λ t. bounded t g) c.term.ensures.is ∙ test_is a.s.now c.requires.1 c.requires.2 a.j g k) c.bounded.ensures
