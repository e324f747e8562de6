use Rattle.std.proofs.Common.{◌≡◌, ℕ, ◌+◌, true, false, List, [], ◌∷◌, Err, length, refl, ap, ◌∙◌, length-append, arith}
use Rattle.std.proofs.lemmas.Result.{err_from_is_err_and}
use Rattle.grid.specs.Facts.{with_fact}
use Rattle.program.proofs.Ranges.{shows_of}
use Rattle.page_numbers.specs.Outcome.{refused}
use Rattle.refusal.specs.Numbers.{number_of}
use Rattle.refusal.specs.declared.Fault.{Fault}
use Rattle.refusal.specs.declared.Fault.TheVariants.{SheetShort, SheetFalse, SheetCode}
use Rattle.refusal.specs.declared.Refusal.{Refusal}
use Rattle.checker_nodes.specs.Nodes.{outcome_of}
use Rattle.checker_trees.specs.declared.trees.Stage.{Stage}
use Rattle.checker_trees.proofs.NodeReading.{left_end, left_false, left_cycle, left_other, left_none, left_both, left_bad}
use Rattle.checker_trees.proofs.Halves.{half_reached, half_says}
use Rattle.checker_trees.proofs.trees.+branch_tree.Goals as goal

-- the two halves, as they are handed down
pub branch-tree-requires : goal.branch-tree-requires
branch-tree-requires t c = let a = c.args in
    let q = c.requires in
    let ready = half_reached a.f.now q.reached.0 a.g.now.rows a.stage.now q.reached.1 q.node.0 _ c.tighten-facts.ensures true (a.stage.now.at + 1) c.decide.result (rw c.count.ensures at c.decide.ensures) in
    let more = ap (λ (s : Stage). length s.truths) c.decide.ensures ∙ length-append a.stage.now.truths (true ∷ []) in
    (omega (arith, c.decreases, more, q.node.0), (q.reached.0, ready))

pub branch-tree-requires-2 : goal.branch-tree-requires-2
branch-tree-requires-2 t c = let a = c.args in
    let q = c.requires in
    let ready = half_reached a.f.now q.reached.0 a.g.now.rows a.stage.now q.reached.1 q.node.0 _ c.tighten-facts.ensures false c.in_ok-middle.middle c.decide-2.result (rw c.count.ensures at c.decide-2.ensures) in
    let more = ap (λ (s : Stage). length s.truths) c.decide-2.ensures ∙ length-append a.stage.now.truths (false ∷ []) in
    (omega (arith, c.decreases, more, q.node.0), (q.reached.0, ready))

pub branch-returns-in_err-middle : goal.branch-returns-in_err-middle
branch-returns-in_err-middle t c = λ F base is. let a = c.args in
    let s = a.stage.now in
    let r = c.in_err-middle.field-0.0 in
    let p = err_from_is_err_and c.from_residual.result c.from_residual.ensures.1 in
    let q = c.requires in
    let first = half_says a.f.now q.reached.0 a.g.now.rows s q.reached.1 q.node.0 _ c.tighten-facts.ensures true (s.at + 1) c.decide.result (rw c.count.ensures at c.decide.ensures) a.part.now F base _ is (c.in_err-middle.ensures F base is) in
    rw (p.1, p.2) (left_bad F s.truths (with_fact a.g.now.rows s.last) a.part.now s.at base q.node.1 q.node.2 (omega (arith, q.node.0, is.program.decided)) (number_of r.fault) (base + r.place) first)

pub branch-returns : goal.branch-returns
branch-returns t c = λ F base is. let a = c.args in
    let s = a.stage.now in
    let q = c.requires in
    let first = half_says a.f.now q.reached.0 a.g.now.rows s q.reached.1 q.node.0 _ c.tighten-facts.ensures true (s.at + 1) c.decide.result (rw c.count.ensures at c.decide.ensures) a.part.now F base _ is (c.in_ok-middle.ensures F base is) in
    let second = half_says a.f.now q.reached.0 a.g.now.rows s q.reached.1 q.node.0 _ c.tighten-facts.ensures false c.in_ok-middle.middle c.decide-2.result (rw c.count.ensures at c.decide-2.ensures) a.part.now F base _ is (c.tree-2.ensures F base is) in
    left_both F s.truths (with_fact a.g.now.rows s.last) a.part.now s.at base q.node.1 q.node.2 (omega (arith, q.node.0, is.program.decided)) c.in_ok-middle.middle (outcome_of base a.part.now c.tree-2.result) first second

-- what a refusal says
says : (base : ℕ) (part : List ℕ) (r : Refusal) (x : Fault) (p : ℕ) → r ≡ record { fault = x; place = p } → outcome_of base part (Err r) ≡ refused (number_of x) (base + p)
says base part r x p e = rw e refl

pub tree-returns-then-part-at : goal.tree-returns-then-part-at
tree-returns-then-part-at t c = λ F base is. let a = c.args in let s = a.stage.now in
    says base a.part.now c.at.result SheetShort s.at c.at.ensures ∙ left_end F s.truths (with_fact a.g.now.rows s.last) a.part.now s.at base c.if-part-at.true

pub tree-returns-in-1 : goal.tree-returns-in-1
tree-returns-in-1 t c = λ F base is. let a = c.args in let s = a.stage.now in
    c.false_leaf.ensures base a.part.now
    ∙ rw (c.instructions.ensures, c.so_far.ensures, is.program.instructions) (left_false F s.truths (with_fact a.g.now.rows s.last) a.part.now s.at base c.if-part-at.false c.in-1.is)

pub tree-returns-in-2 : goal.tree-returns-in-2
tree-returns-in-2 t c = λ F base is. let a = c.args in let s = a.stage.now in
    c.cycle.ensures F base (shows_of a.f.now F is) ∙ left_cycle F s.truths (with_fact a.g.now.rows s.last) a.part.now s.at base c.if-part-at.false c.in-2.is

pub tree-returns-in-3-2 : goal.tree-returns-in-3-2
tree-returns-in-3-2 t c = λ F base is. let a = c.args in let s = a.stage.now in
    says base a.part.now c.at-in-3-2.result SheetFalse s.at c.at-in-3-2.ensures ∙ left_none F s.truths (with_fact a.g.now.rows s.last) a.part.now s.at base c.if-part-at.false c.in-3.is (omega (arith, c.if-count-f.false, c.count.ensures, is.program.decided))

pub tree-returns-in_default : goal.tree-returns-in_default
tree-returns-in_default t c = λ F base is. let a = c.args in let s = a.stage.now in
    says base a.part.now c.at-in_default.result SheetCode s.at c.at-in_default.ensures ∙ left_other F s.truths (with_fact a.g.now.rows s.last) a.part.now s.at base c.if-part-at.false (omega arith) (omega arith) (omega arith)
