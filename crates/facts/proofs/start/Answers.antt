use mathlib.Core.Path.{◌≡◌, refl, sym, ◌∙◌}
use native.Mathlib.Omega.{arith}
use borrow.Author.Rules.{rules}
use Rattle.page_meaning.specs.Limits.{most_vertices}
use Rattle.program.specs.Meanings.{range_of}
use Rattle.facts.proofs.RangeFacts.{blank_within, confine_within, wider, start_on, start_end}
use Rattle.facts.proofs.start.Goals as goal
use Rattle.facts.proofs.start.Goals.{in-Some, in_default}

pub loop-v-init : goal.loop-v-init
loop-v-init c = rw c.blank-g.ensures (search rules, search rules, blank_within most_vertices, λ rs s. refl)

pub confine-requires : goal.confine-requires
confine-requires c = (omega (arith, c.loop-v-test.true), wider _ (c.requires.low c.loop-v.v c.loop-v.invariant.0 c.in-Some.r c.in-Some.is))

pub loop-v-preserved : goal.loop-v-preserved
loop-v-preserved c = let l = c.loop-v in
    let t = c.loop-v-test.true in
    elim c.match-vertices-v.branch [
      | in-Some w ↦
          let r = w.in-Some.r in
          rw (w.g-is, w.confine.ensures) (
            omega arith,
            omega (arith, t),
            confine_within most_vertices l.g.rows l.v (range_of r) l.invariant.2 (c.requires.low l.v l.invariant.0 r w.in-Some.is) (c.requires.high l.v l.invariant.0 r w.in-Some.is),
            λ rs s. start_on rs c.args.vertices.now.ranges s l.g.rows l.v _ l.invariant.0 w.in-Some.is ∙ l.invariant.3 rs s,
          )
      | in_default w ↦ rw w.g-is (
        omega arith,
        omega (arith, t),
        l.invariant.2,
        λ rs s. start_on rs c.args.vertices.now.ranges s l.g.rows l.v _ l.invariant.0 w.in_default.is ∙ l.invariant.3 rs s,
      )
    ]

pub returns : goal.returns
returns c = let l = c.loop-v in
    let all : l.v ≡ most_vertices = omega arith in
    record { meaning = λ rs s. sym (start_end rs c.args.vertices.now.ranges s l.g.rows) ∙ (rw all at (l.invariant.3 rs s)); small = l.invariant.2 }
