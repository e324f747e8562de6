use Rattle.question.proofs.Guaranteed.{accepted_of}
use Rattle.std.proofs.Common.{eqb, refl, sym, subst}
use Rattle.question.specs.Held.{version_of, question_of, asked_of}
use Rattle.page_formulas.specs.Costs.{Fits}
use Rattle.page_formulas.specs.Formulas as F
use Rattle.program.specs.Compiled.{Spans}
use Rattle.formula_contexts.specs.Contexts.{Buildable}
use Rattle.formula.proofs.Ranges.{ranges_same}
use Rattle.formula.proofs.NumberedFormulas.{Found, found, line_fits, written}
use Rattle.formula.proofs.Readiness.{buildable}
use Rattle.formula.proofs.formulas.outline.Goals as goal
use Rattle.formula.proofs.formulas.outline.Goals.{After-whole}

-- what is known of the question, and which formula it is
built : (c : After-whole) → Buildable c.args.q.now.change.verb c.args.q.now
built c = buildable c.args.q.now c.whole.ensures (accepted_of c.args.q.now)

which : (c : After-whole) → let a = c.args in Found a.q.now a.q.now.change.verb (eqb (asked_of a.asked) 1) a.i (F.formulas (question_of a.q.now) (asked_of a.asked))
which c = let a = c.args in found a.q.now (asked_of a.asked) a.i (built c) c.requires

pub line_at-entry-requires : goal.line_at-entry-requires
line_at-entry-requires c = (which (goal.at.line_at-entry-requires c).After-whole).line

pub of-requires : goal.of-requires
of-requires c = let s = (goal.at.of-requires c).After-whole in (built s, (which s).row)

pub line-requires : goal.line-requires
line-requires c = let a = c.args in
    let l = c.line_at-entry in
    let s = (goal.at.line-requires c).After-whole in (
      c.clear.ensures.0,
      c.clear.ensures.1,
      c.of.ensures.legible,
      record { is = refl; some = l.ensures.some },
      subst Fits (sym l.ensures.is) (line_fits (version_of a.q.now.version) a.q.now.change.verb (eqb (asked_of a.asked) 1) a.i (which s).line),
    )

pub returns : goal.returns
returns c = let a = c.args in
    let q = a.q.now in
    let Q = question_of q in
    let l = c.line_at-entry in
    let d = c.of in
    let s = (goal.at.returns c).After-whole in (
      written q _ l.result d.result q.change.verb (eqb (asked_of a.asked) 1) a.i (F.formulas Q (asked_of a.asked)) (which s) l.ensures d.ensures refl (c.line.ensures.0 Q d.ensures.under)
          (subst (Spans c.vertices-into.result) (ranges_same q s.whole.ensures l.result.pairs) c.vertices-into.ensures),
      c.line.ensures.1,
    )
