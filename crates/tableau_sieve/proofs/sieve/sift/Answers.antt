use Rattle.std.proofs.Common.{◌-◌, ◌<◌, ◌∷◌, refl, subst, arith, get_or, true, inl, inr}
use Rattle.std.proofs.lemmas.Result.{err_from_is_err_and}
use Rattle.page_formulas.specs.Costs.{most_instructions}
use Rattle.goals.specs.Goals.{no_goal, stack_of, waiting}
use Rattle.goals.proofs.Stacks.{stack_top, stack_none, height}
use Rattle.tableau_sieve.proofs.SiftedGoals.{Sifting, sifting_start, sifting_asks, sifting_shut, sifting_more, sifting_end, sees_on}
use Rattle.tableau_sieve.proofs.sieve.sift.Goals as goal
use Rattle.tableau_sieve.proofs.sieve.sift.Goals.{In-loop-k}

-- the next goal is taken from those that are left
next : (c : In-loop-k) → let s = c.args.state.now in let l = c.loop-k in Sifting c.args.tree.now s.near.rows (waiting s) l.state.near.rows (get_or s.goals (l.k - 1) no_goal ∷ stack_of s.goals (l.k - 1)) (waiting l.state) l.moved
next c = let s = c.args.state.now in let l = c.loop-k in
    subst (λ gs. Sifting c.args.tree.now s.near.rows (waiting s) l.state.near.rows gs (waiting l.state) l.moved) (stack_top s.goals l.k c.loop-k-test.true) l.invariant

below : (c : In-loop-k) → c.loop-k.k - 1 < most_instructions
below c = let s = c.args.state.now in let r = c.requires.0 in
    omega (arith, c.loop-k-test.true, c.loop-k.auto.k, height c.args.tree.now r.laid s.goals s.count r.waiting, r.enough)

pub loop-k-init : goal.loop-k-init
loop-k-init c = let s = c.args.state.now in
    rw (stack_none s.goals 0 refl) (sifting_start c.args.tree.now s.near.rows (waiting s) c.requires.0)

pub offset_bounds-goals-k : goal.offset_bounds-goals-k
offset_bounds-goals-k c = omega (arith, below (goal.at.offset_bounds-goals-k c).In-loop-k)

pub bounds-goals-k : goal.bounds-goals-k
bounds-goals-k c = below (goal.at.bounds-goals-k c).In-loop-k

pub sift_one-requires : goal.sift_one-requires
sift_one-requires c = let s = c.args.state.now in let l = c.loop-k in let n = next (goal.at.sift_one-requires c).In-loop-k in
    (sifting_asks c.args.tree.now s.near.rows (waiting s) c.requires.0 l.state.near.rows _ _ _ l.moved n, sees_on c.args.tree.now s.near.rows l.state.near.rows c.args.seen.now c.args.tree.now.count n.old c.requires.1)

pub returns-in_err-sift_one : goal.returns-in_err-sift_one
returns-in_err-sift_one c = let s = c.args.state.now in let l = c.loop-k in
    let p = err_from_is_err_and c.from_residual.result c.from_residual.ensures.1 in
    rw p.1 (sifting_shut c.args.tree.now s.near.rows (waiting s) c.requires.0 l.state.near.rows _ _ _ l.moved (next (goal.at.returns-in_err-sift_one c).In-loop-k) c.in_err-sift_one.ensures)

pub loop-k-preserved-then-branch : goal.loop-k-preserved-then-branch
loop-k-preserved-then-branch c = let s = c.args.state.now in let l = c.loop-k in let n = c.sift_one.new.state in
    sifting_more c.args.tree.now s.near.rows (waiting s) c.requires.0 l.state.near.rows _ _ _ l.moved (next (goal.at.loop-k-preserved-then-branch c).In-loop-k) c.in_ok-sift_one.field-0 n.near.rows (waiting n) c.in_ok-sift_one.ensures true (λ e. inl c.if-branch.true)

pub loop-k-preserved : goal.loop-k-preserved
loop-k-preserved c = let s = c.args.state.now in let l = c.loop-k in let n = c.sift_one.new.state in
    sifting_more c.args.tree.now s.near.rows (waiting s) c.requires.0 l.state.near.rows _ _ _ l.moved (next (goal.at.loop-k-preserved c).In-loop-k) c.in_ok-sift_one.field-0 n.near.rows (waiting n) c.in_ok-sift_one.ensures l.moved (λ e. inr e)

pub returns : goal.returns
returns c = let s = c.args.state.now in let l = c.loop-k in
    sifting_end c.args.tree.now s.near.rows (waiting s) l.state.near.rows (waiting l.state) l.moved (subst (λ gs. Sifting c.args.tree.now s.near.rows (waiting s) l.state.near.rows gs (waiting l.state) l.moved) (stack_none s.goals l.k (omega (arith, c.loop-k-test.false))) l.invariant)
