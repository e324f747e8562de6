use Rattle.std.proofs.Common.{◌-◌, ◌≡◌, ◌∷◌, sym, subst, arith, get_or}
use Rattle.std.proofs.lemmas.Result.{err_from_is_err_and}
use Rattle.truth.specs.Values.{three_of}
use Rattle.truth.specs.declared.truths.Truth.TheVariants.{Fails}
use Rattle.goals.specs.Goals.{goal, waiting, Leads, Shut}
use Rattle.goals.proofs.Stacks.{height}
use Rattle.tableau_sieve.specs.declared.types.Stand.{Stand}
use Rattle.tableau_sieve.specs.declared.types.Stand.TheVariants.{Done, Dead, First, Second}
use Rattle.tableau_sieve.specs.Stands.{stand_of}
use Rattle.tableau_sieve.proofs.SiftedGoals.{known, known_at, sift_done, sift_dead, sift_first, sift_first_shut, sift_second, sift_second_shut}
use Rattle.tableau_sieve.proofs.sieve.sift_one.Goals as goal
use Rattle.tableau_sieve.proofs.sieve.sift_one.Goals.{After-first_of-first}

-- what is known of the goal's operands
stands : (c : After-first_of-first) → let a = c.args in (d : Stand) → d ≡ stand_of a.g.want (three_of (get_or a.seen.now c.first_of-first.result Fails)) (three_of (get_or a.seen.now (a.g.at - 1) Fails)) → known a.tree.now a.state.now.near.rows a.g (waiting a.state.now) c.requires.0 a.seen.now c.requires.1 ≡ d
stands c d e = let a = c.args in
    sym (known_at a.tree.now a.state.now.near.rows a.g (waiting a.state.now) c.requires.0 a.seen.now c.requires.1 c.first_of-first.result d c.first_of-first.ensures e)

pub push-requires : goal.push-requires
push-requires c = let a = c.args in let s = c.requires.0 in
    omega (arith, height a.tree.now s.laid a.state.now.goals a.state.now.count s.waiting.1, s.enough, (s.laid.made a.g.at s.waiting.0.in_tree).some)

pub returns-in-Done : goal.returns-in-Done
returns-in-Done c = let a = c.args in
    sift_done a.tree.now a.state.now.near.rows a.g (waiting a.state.now) c.requires.0 a.seen.now c.requires.1 (stands (goal.at.returns-in-Done c).After-first_of-first Done c.in-Done.ensures)

pub returns-in-Dead : goal.returns-in-Dead
returns-in-Dead c = let a = c.args in
    sift_dead a.tree.now a.state.now.near.rows a.g (waiting a.state.now) c.requires.0 a.seen.now c.requires.1 (stands (goal.at.returns-in-Dead c).After-first_of-first Dead c.in-Dead.ensures)

pub returns-in_ok-demand-in-First : goal.returns-in_ok-demand-in-First
returns-in_ok-demand-in-First c = let a = c.args in let s = a.state.now in let n = c.demand.new.state in
    sift_first a.tree.now s.near.rows a.g (waiting s) c.requires.0 a.seen.now c.requires.1 (stands (goal.at.returns-in_ok-demand-in-First c).After-first_of-first First c.in-First.ensures) n.near.rows (waiting n) (subst (λ j. Leads a.tree.now s.near.rows (goal j a.g.want ∷ waiting s) n.near.rows (waiting n)) c.first_of-first.ensures c.in_ok-demand-in-First.ensures)

pub returns-in_err-demand-in-First : goal.returns-in_err-demand-in-First
returns-in_err-demand-in-First c = let a = c.args in let s = a.state.now in let n = c.demand.new.state in
    let p = err_from_is_err_and c.from_residual.result c.from_residual.ensures.1 in
    rw p.1 (sift_first_shut a.tree.now s.near.rows a.g (waiting s) c.requires.0 a.seen.now c.requires.1 (stands (goal.at.returns-in_err-demand-in-First c).After-first_of-first First c.in-First.ensures) n.near.rows (waiting n) p.0 (subst (λ j. Shut a.tree.now s.near.rows (goal j a.g.want ∷ waiting s)) c.first_of-first.ensures c.in_err-demand-in-First.ensures))

pub returns-in_ok-demand-in-Second : goal.returns-in_ok-demand-in-Second
returns-in_ok-demand-in-Second c = let a = c.args in let s = a.state.now in let n = c.demand-in-Second.new.state in
    sift_second a.tree.now s.near.rows a.g (waiting s) c.requires.0 a.seen.now c.requires.1 (stands (goal.at.returns-in_ok-demand-in-Second c).After-first_of-first Second c.in-Second.ensures) n.near.rows (waiting n) c.in_ok-demand-in-Second.ensures

pub returns-in_err-demand-in-Second : goal.returns-in_err-demand-in-Second
returns-in_err-demand-in-Second c = let a = c.args in let s = a.state.now in let n = c.demand-in-Second.new.state in
    let p = err_from_is_err_and c.from_residual-in_err-demand-in-Second.result c.from_residual-in_err-demand-in-Second.ensures.1 in
    rw p.1 (sift_second_shut a.tree.now s.near.rows a.g (waiting s) c.requires.0 a.seen.now c.requires.1 (stands (goal.at.returns-in_err-demand-in-Second c).After-first_of-first Second c.in-Second.ensures) n.near.rows (waiting n) p.0 c.in_err-demand-in-Second.ensures)
