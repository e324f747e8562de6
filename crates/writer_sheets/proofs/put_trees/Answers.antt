use borrow.Author.Rules.{rules}
use native.Mathlib.Omega.{arith}
use Prim.Native.Nat.{◌<◌}
use mathlib.Core.Path.{refl, ◌∙◌}
use lib.ListN.{length}
use Rattle.question.specs.Held.{question_of, asked_of}
use Rattle.page_formulas.specs.Formulas.{formulas}
use Rattle.room.specs.Room.{begun, stopped}
use Rattle.room.proofs.PutBytes.{stopped_is}
use Rattle.writer_sheets.proofs.Trees.{sown_start, sown_more, sown_over, sown_end}
use Rattle.writer_sheets.proofs.put_trees.Goals as goal
use Rattle.writer_sheets.proofs.put_trees.Goals.{In-loop-i}

-- the next is one of them
there : (c : In-loop-i) → c.loop-i.i < length (formulas (question_of c.args.q.now) (asked_of c.args.asked))
there c = omega (arith, c.loop-i-test.true, c.formula_count-i-end.ensures)

pub loop-i-init : goal.loop-i-init
loop-i-init c = record { same_reference = refl; sown = sown_start _ _ _ }

pub put_tree-requires : goal.put_tree-requires
put_tree-requires c = there (goal.at.put_tree-requires c).In-loop-i

pub loop-i-preserved : goal.loop-i-preserved
loop-i-preserved c = let l = c.loop-i in
    let all = c.requires in
    let i = there (goal.at.loop-i-preserved c).In-loop-i in record {
      same_reference = search rules;
      sown = sown_more _ _ _ l.i (begun l.sink) l.invariant.sown all.0 all.1 i _ c.in_ok-put_tree.ensures.grows;
    }

-- Every tree is shut, so a byte that found no room ends the work.
pub returns-in_err-put_tree-clause-filled : goal.returns-in_err-put_tree-clause-filled
returns-in_err-put_tree-clause-filled c = λ ts all.
    let l = c.loop-i in
    let i = there (goal.at.returns-in_err-put_tree-clause-filled c).In-loop-i in
    let next = sown_more _ _ _ l.i (begun l.sink) l.invariant.sown ts all i (stopped c.put_tree.new.sink) c.in_err-put_tree.ensures.grows in
    stopped_is c.put_tree.new.sink c.from_residual.result c.from_residual.ensures.0 ∙ sown_over _ _ _ _ _ next ts all refl

pub returns-clause-filled : goal.returns-clause-filled
returns-clause-filled c = λ ts all.
    let l = c.loop-i in
    sown_end _ _ _ l.i (begun l.sink) l.invariant.sown ts all (omega (arith, c.loop-i-test.false, l.auto.i-end, c.formula_count-i-end.ensures))
