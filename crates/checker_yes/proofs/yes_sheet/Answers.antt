use Rattle.question.proofs.Guaranteed.{accepted_of}
use Rattle.std.proofs.Common.{ℕ, ◌≡◌, ◌+◌, ◌-◌, ◌≤◌, ◌<◌, List, length, take, drop, length-drop, refl, sym, ap, subst, ◌∙◌, arith}
use Rattle.page_numbers.specs.Outcome.{good, refused}
use Rattle.page_meaning.specs.Limits.{most_vertices}
use Rattle.page_formulas.specs.Formulas.{Formula}
use Rattle.page_sheets.specs.Tree.{Checked, check_tree}
use Rattle.page_sheets.proofs.Cycles.{to_the_end}
use Rattle.page_formulas.specs.Formulas.{formulas}
use Rattle.page_sheets.specs.Sheet.{check_yes}
use Rattle.question.specs.Held.{question_of, asked_of}
use Rattle.refusal.specs.Numbers.{number_of}
use Rattle.formula.specs.Formulas.{formula_at}
use Rattle.formula.proofs.AskedAlike.{formulas_alike}
use Rattle.formula.proofs.ProperFormulas.{fine_at}
use Rattle.checker_yes.proofs.TreeRun.{ends_inside, refused_inside, tree_good, tree_bad, trees_left, trees_done}
use Rattle.checker_yes.proofs.yes_sheet.Goals as goal
use Rattle.checker_yes.proofs.yes_sheet.Goals.{After-from-asked, In-loop-i, In-Ok}

pub loop-i-init : goal.loop-i-init
unfolding check_yes
loop-i-init c = (c.requires, refl)

-- the formulas of what is asked are those of its number
as_asked : (c : After-from-asked) → let a = c.args in check_yes most_vertices (formulas (question_of a.q.now) (asked_of c.from-asked.result)) a.sheet.now ≡ check_yes most_vertices (formulas (question_of a.q.now) a.asked) a.sheet.now
as_asked c = let a = c.args in ap (λ Fs. check_yes most_vertices Fs a.sheet.now) (formulas_alike (question_of a.q.now) (asked_of c.from-asked.result) a.asked c.from-asked.ensures)

-- there is such a formula
numbered : (c : In-loop-i) → c.loop-i.i < length (formulas (question_of c.args.q.now) (asked_of c.from-asked.result))
numbered c = omega (arith, c.loop-i-test.true, c.formula_count-i-end.ensures)

pub formula_tree-requires : goal.formula_tree-requires
formula_tree-requires c = fine_at (question_of c.args.q.now) (accepted_of c.args.q.now) (asked_of c.from-asked.result) c.loop-i.i (numbered (goal.at.formula_tree-requires c).In-loop-i) _ c.outline.ensures.0

-- what a tree comes to in the part that is lent, it comes to there in the sheet
told : (F : Formula) (s : List ℕ) (at : ℕ) (x : List ℕ → Checked) → x (take (length s - at) (drop at s)) ≡ check_tree most_vertices F at (take (length s - at) (drop at s)) → x (drop at s) ≡ check_tree most_vertices F at (drop at s)
told F s at x h = subst (λ part. x part ≡ check_tree most_vertices F at part) (to_the_end s at) h

-- the tree ends within the sheet
ends : (c : In-Ok) → c.loop-i.at + c.in-Ok.length ≤ length c.args.sheet.now
ends c = let F = formula_at (formulas (question_of c.args.q.now) (asked_of c.from-asked.result)) c.loop-i.i in
    let a = c.args in
    let l = c.loop-i in
    omega (arith, ends_inside F l.at _ c.in-Ok.length (told F a.sheet.now l.at (λ part. good (l.at + c.in-Ok.length, drop c.in-Ok.length part)) (c.in-Ok.ensures F l.at c.outline.ensures.0)), length-drop l.at a.sheet.now, l.invariant.0)

pub overflow_add-at : goal.overflow_add-at
overflow_add-at c = omega (arith, ends (goal.at.overflow_add-at c).In-Ok)

pub overflow_add-at-in-Err : goal.overflow_add-at-in-Err
overflow_add-at-in-Err c = let F = formula_at (formulas (question_of c.args.q.now) (asked_of c.from-asked.result)) c.loop-i.i in
    let a = c.args in
    let l = c.loop-i in
    let r = c.in-Err.r in
    omega (arith, refused_inside F l.at _ r.place (number_of r.fault) (told F a.sheet.now l.at (λ part. refused (number_of r.fault) (l.at + r.place)) (c.in-Err.ensures F l.at c.outline.ensures.0)), length-drop l.at a.sheet.now, l.invariant.0)

pub returns-in-Err : goal.returns-in-Err
returns-in-Err c = let a = c.args in
    let Fs = formulas (question_of a.q.now) (asked_of c.from-asked.result) in
    let l = c.loop-i in
    let r = c.in-Err.r in
    let F = formula_at Fs l.i in
    rw c.at.ensures (sym (tree_bad Fs a.sheet.now l.i l.at (numbered (goal.at.returns-in-Err c).In-loop-i) (number_of r.fault) r.place (told F a.sheet.now l.at (λ part. refused (number_of r.fault) (l.at + r.place)) (c.in-Err.ensures F l.at c.outline.ensures.0))) ∙ l.invariant.1 ∙ as_asked (goal.at.returns-in-Err c).After-from-asked)

pub loop-i-preserved : goal.loop-i-preserved
loop-i-preserved c = let a = c.args in
    let Fs = formulas (question_of a.q.now) (asked_of c.from-asked.result) in
    let l = c.loop-i in
    let F = formula_at Fs l.i in
    (ends (goal.at.loop-i-preserved c).In-Ok, sym (tree_good Fs a.sheet.now l.i l.at c.in-Ok.length (numbered (goal.at.loop-i-preserved c).In-loop-i) (told F a.sheet.now l.at (λ part. good (l.at + c.in-Ok.length, drop c.in-Ok.length part)) (c.in-Ok.ensures F l.at c.outline.ensures.0))) ∙ l.invariant.1)

pub returns-then-at-sheet : goal.returns-then-at-sheet
returns-then-at-sheet c = let a = c.args in
    rw c.at-then-at-sheet.ensures (sym (trees_left (formulas (question_of a.q.now) (asked_of c.from-asked.result)) a.sheet.now c.loop-i.i c.loop-i.at (omega (arith, c.loop-i-test.false, c.formula_count-i-end.ensures)) c.if-at-sheet.true) ∙ c.loop-i.invariant.1 ∙ as_asked (goal.at.returns-then-at-sheet c).After-from-asked)

pub returns : goal.returns
returns c = let a = c.args in
    sym (trees_done (formulas (question_of a.q.now) (asked_of c.from-asked.result)) a.sheet.now c.loop-i.i c.loop-i.at (omega (arith, c.loop-i-test.false, c.formula_count-i-end.ensures)) c.if-at-sheet.false) ∙ c.loop-i.invariant.1 ∙ as_asked (goal.at.returns c).After-from-asked
