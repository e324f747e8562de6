use Rattle.std.proofs.Common.{◌≡◌, [], map, drop, sym, ap, ◌∙◌, arith}
use Rattle.page_formulas.specs.Kinds.{run_kinds}
use Rattle.page_formulas.specs.Knowledge.{and3, or3, not3, top3}
use Rattle.truth.proofs.Runs.{run_on, run_out, high_step, high_later, two_short, one_short, later_drop}
use Rattle.truth.proofs.truths.run.Goals as goal
use Rattle.truth.proofs.truths.run.Goals.{then-kind-eq0, else-kind-eq0+then-kind-ge4, else-kind-eq0+else-kind-ge4+then-kind-eq3, else-kind-eq0+else-kind-ge4+else-kind-eq3+then-kind-eq1, else-kind-eq0+else-kind-ge4+else-kind-eq3+else-kind-eq1}

pub loop-i-preserved : goal.loop-i-preserved
loop-i-preserved g c =
    let l = c.loop-i in
    let ts = map g.T.Decision.passes c.args.truths.now in
    let ds = drop l.place ts in
    let run = run_on g.I.Step.number c.args.instructions.now l.i-index ds l.stack (run_kinds ts (map g.I.Step.number c.args.instructions.now) []) l.invariant.same c.i-item.result c.loop-i-test.true c.i-item.is in
    let k = c.kind-kind.result in
    let is = c.kind-kind.ensures in
    elim c.if-kind-eq0.branch [
      | then-kind-eq0 w ↦ rw (w.stack-is, w.push.ensures, w.place-is) (record { short = omega arith; passed = omega arith; same = rw (w.decided.ensures, ← later_drop ts l.place) (run 0 (omega (arith, w.if-kind-eq0.true, is))) })
      | else-kind-eq0+then-kind-ge4 w ↦ rw (w.stack-is, w.push-then-kind-ge4.ensures, w.place-is) (record { short = omega arith; passed = omega arith; same = rw w.constant.ensures (rw (high_step k w.if-kind-ge4.true ds l.stack, high_later k w.if-kind-ge4.true ds) at (run k is)) })
      | else-kind-eq0+else-kind-ge4+then-kind-eq3 w ↦ rw (w.stack-is, w.not.ensures, w.place-is) (record { short = omega (arith, one_short not3 l.stack); passed = omega arith; same = run 3 (omega (arith, w.if-kind-eq3.true, is)) })
      | else-kind-eq0+else-kind-ge4+else-kind-eq3+then-kind-eq1 w ↦ rw (w.stack-is, w.and.ensures, w.place-is) (record { short = omega (arith, two_short and3 l.stack); passed = omega arith; same = run 1 (omega (arith, w.if-kind-eq1.true, is)) })
      | else-kind-eq0+else-kind-ge4+else-kind-eq3+else-kind-eq1 w ↦ rw (w.stack-is, w.or.ensures, w.place-is) (record { short = omega (arith, two_short or3 l.stack); passed = omega arith; same = run 2 (omega (arith, w.if-kind-eq0.false, w.if-kind-ge4.false, w.if-kind-eq3.false, w.if-kind-eq1.false, is)) })
    ]

pub returns : goal.returns
returns g c =
    let l = c.loop-i in
    let xs = c.args.instructions.now in
    let ts = map g.T.Decision.passes c.args.truths.now in
    c.top.ensures ∙ ap top3 (run_out g.I.Step.number xs l.i-index (drop l.place ts) l.stack (run_kinds ts (map g.I.Step.number xs) []) l.invariant.same c.loop-i-test.false)
