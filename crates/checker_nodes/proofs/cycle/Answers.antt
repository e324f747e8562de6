use Rattle.std.proofs.Common.{◌≡◌, ℕ, ◌+◌, ◌-◌, get_or, take, drop, sym, ◌∙◌, arith}
use Rattle.std.proofs.lemmas.Result.{err_from_is_err_and}
use Rattle.std.proofs.lemmas.List.{length-drop}
use lib.Seq.{length-take-le}
use Rattle.page_meaning.specs.Limits.{most_vertices}
use Rattle.page_walks.proofs.FewerVertices.{below_more}
use Rattle.page_sheets.proofs.Cycles.{cycle_lacking, cycle_shut, cycle_open}
use Rattle.grid.specs.Facts.{with_fact}
use Rattle.refusal.specs.Numbers.{number_of}
use Rattle.checker_nodes.proofs.cycle.Goals as goal

-- the slice of the vertices
short : (first count : ℕ) → first + count - first ≡ count
short first count = omega arith

pub returns-in_err-named : goal.returns-in_err-named
returns-in_err-named c = λ F base f.
    let a = c.args in
    let first = a.at + 1 + 1 in
    let r = c.in_err-named.field-0.0 in
    let p = err_from_is_err_and c.from_residual.result c.from_residual.ensures.1 in
    let n = c.in_err-named.ensures in
    let e : base + (first + (r.place - first)) ≡ base + r.place = omega (arith, n.past.0) in
    let d : base + first + (r.place - first) ≡ base + r.place = omega (arith, n.past.0) in
    rw (p.1, p.2, ← e) (cycle_lacking most_vertices F (with_fact a.g.now.rows a.last) a.part.now a.at base c.if-part-from.false c.if-count-eq0.false c.if-count-gt-LONGEST.false (number_of r.fault) (r.place - first) (rw d (n.meaning F.ranges base f)))

pub below_zero-requires-clause-walk : goal.below_zero-requires-clause-walk
below_zero-requires-clause-walk c =
    let p = c.args.part.now in
    let first = c.args.at + 1 + 1 in
    let count = get_or p (c.args.at + 1) 0 in
    let n = c.in_ok-named.ensures.inside in
    let long = length-take-le count (drop first p) (omega (arith, n.0, length-drop first p)) in
    rw (short first count) (omega (arith, long), omega (arith, long), below_more _ _ (take count (drop first p)) c.requires.few.0 n.1)

pub returns-then-below_zero : goal.returns-then-below_zero
returns-then-below_zero c = λ F base f.
    let a = c.args in
    cycle_shut most_vertices F (with_fact a.g.now.rows a.last) a.part.now a.at base c.if-part-from.false c.if-count-eq0.false c.if-count-gt-LONGEST.false (c.in_ok-named.ensures.meaning F.ranges base f) (sym (rw (short (a.at + 1 + 1) (get_or a.part.now (a.at + 1) 0)) at c.below_zero.ensures) ∙ c.if-below_zero.true)

pub returns : goal.returns
returns c = λ F base f.
    let a = c.args in
    rw c.at-2.ensures (cycle_open most_vertices F (with_fact a.g.now.rows a.last) a.part.now a.at base c.if-part-from.false c.if-count-eq0.false c.if-count-gt-LONGEST.false (c.in_ok-named.ensures.meaning F.ranges base f) (sym (rw (short (a.at + 1 + 1) (get_or a.part.now (a.at + 1) 0)) at c.below_zero.ensures) ∙ c.if-below_zero.false))
