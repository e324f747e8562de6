use Rattle.std.proofs.Common.{ℕ, ◌∷◌, arith, List, Ok}
use Rattle.std.proofs.lemmas.Result.{err_from_is_err_and}
use Rattle.std.specs.Result.{result_ok}
use Rattle.page_walks.specs.Grid.{Grid}
use Rattle.program_tree.specs.declared.types.Tree.{Tree}
use Rattle.goals.specs.declared.types.Goal.{Goal}
use Rattle.goals.specs.declared.types.State.{State}
use Rattle.goals.specs.Goals.{waiting, total, Asks, Leads, Opens, Solves}
use Rattle.goals.specs.Goals as goals
use Rattle.goals.proofs.Stacks.{stack_none}
use Rattle.goals.proofs.AskedInstructions.{takes_then, smaller}
use Rattle.tableau_choice.specs.Choices.{Operands, Out}
use Rattle.tableau.proofs.Choices.{in_tree, picked}
use Rattle.tableau.proofs.Splits.{ended, parts, rest, one_open, denied_none, denied_on}
use Rattle.tableau.proofs.search.+solve.Goals as goal

-- what needed no choice led on, and then a goal was taken out
split : (t : Tree) (near : Grid) (G : List Goal) (s : State) → Leads t near G s.near.rows (waiting s) → (g : Goal) (left : State) → Out s g left → Leads t near G left.near.rows (g ∷ waiting left)
split t near G s w g left o = takes_then t near G s.near.rows (waiting s) w (Ok tt) left.near.rows (g ∷ waiting left) (picked t s g left w.standing o)

-- its first operand can be asked for in its place
asks : (t : Tree) (near : Grid) (G : List Goal) (s : State) (g : Goal) → Leads t near G s.near.rows (g ∷ waiting s) → (a b : ℕ) → Operands t g.at a b → Asks t s a
asks t near G s g w a b o = let p = parts t near G s.near.rows g (waiting s) w a b o in record { standing = rest t near G s.near.rows g (waiting s) w a b o; in_tree = p.0; enough = omega (arith, p.2, w.standing.enough) }

pub take-requires : goal.take-requires
take-requires t c = in_tree c.args.tree.now c.advance.new.state c.in_ok-advance.ensures.standing

pub returns-in_default : goal.returns-in_default
returns-in_default t c = let T = c.args.tree.now in let s = c.args.state.now in let G = goals.goal c.args.i c.args.want ∷ waiting s in let n = c.advance.new.state in let e = c.in_default.ensures in
    rw e.1 (ended T s.near.rows G n.near.rows (waiting n) c.in_ok-advance.ensures (stack_none n.goals n.count e.0))

pub halves-h-requires : goal.halves-h-requires
halves-h-requires t c = let T = c.args.tree.now in let s = c.args.state.now in let G = goals.goal c.args.i c.args.want ∷ waiting s in let g = c.in-Some.g in
    let w = split T s.near.rows G c.advance.new.state c.in_ok-advance.ensures g c.take.new.state c.in-Some.ensures in
    (omega (arith, w.standing.waiting.0.in_tree, w.standing.laid.short), (smaller T w.standing.laid g w.standing.waiting.0).0)

pub solve-requires : goal.solve-requires
solve-requires t c =
    let T = c.args.tree.now in let s = c.args.state.now in let G = goals.goal c.args.i c.args.want ∷ waiting s in let g = c.in-Some.g in let n = c.take.new.state in let h = c.halves-h.result in let o = c.halves-h.ensures in let w = split T s.near.rows G c.advance.new.state c.in_ok-advance.ensures g n c.in-Some.ensures in
    let p = parts T s.near.rows G n.near.rows g (waiting n) w h.one h.other o in
    (omega (arith, c.decreases, w.less, p.2), asks T s.near.rows G n g w h.one h.other o)

pub returns-in-Ok : goal.returns-in-Ok
returns-in-Ok t c =
    let T = c.args.tree.now in let s = c.args.state.now in let G = goals.goal c.args.i c.args.want ∷ waiting s in let g = c.in-Some.g in let n = c.take.new.state in let h = c.halves-h.result in let o = c.halves-h.ensures in let w = split T s.near.rows G c.advance.new.state c.in_ok-advance.ensures g n c.in-Some.ensures in
    λ v d. one_open T s.near.rows G n.near.rows g (waiting n) w h.one h.other o v d c.in-Ok.values (c.in-Ok.ensures v d)

pub demand-requires : goal.demand-requires
demand-requires t c =
    let T = c.args.tree.now in let s = c.args.state.now in let G = goals.goal c.args.i c.args.want ∷ waiting s in let g = c.in-Some.g in let n = c.take.new.state in let h = c.halves-h.result in let o = c.halves-h.ensures in let w = split T s.near.rows G c.advance.new.state c.in_ok-advance.ensures g n c.in-Some.ensures in
    let q = parts T s.near.rows G n.near.rows g (waiting n) w h.one h.other o in
    record { standing = rest T s.near.rows G n.near.rows g (waiting n) w h.one h.other o; in_tree = q.0; enough = omega (arith, q.2, w.standing.enough) }

pub returns-in_err-demand : goal.returns-in_err-demand
returns-in_err-demand t c =
    let T = c.args.tree.now in let s = c.args.state.now in let G = goals.goal c.args.i c.args.want ∷ waiting s in let g = c.in-Some.g in let n = c.take.new.state in let h = c.halves-h.result in let o = c.halves-h.ensures in let w = split T s.near.rows G c.advance.new.state c.in_ok-advance.ensures g n c.in-Some.ensures in
    let p = err_from_is_err_and c.from_residual-in_err-demand.result c.from_residual-in_err-demand.ensures.1 in
    rw p.1 (λ v d. denied_none T s.near.rows G n.near.rows g (waiting n) w h.one h.other o v d (c.in_default-solve.ensures v d) (c.in_err-demand.ensures v d))

pub solve-requires-2 : goal.solve-requires-2
solve-requires-2 t c =
    let T = c.args.tree.now in let s = c.args.state.now in let G = goals.goal c.args.i c.args.want ∷ waiting s in let g = c.in-Some.g in let n = c.take.new.state in let h = c.halves-h.result in let o = c.halves-h.ensures in let w = split T s.near.rows G c.advance.new.state c.in_ok-advance.ensures g n c.in-Some.ensures in
    let p = parts T s.near.rows G n.near.rows g (waiting n) w h.one h.other o in
    let u = c.in_ok-demand.ensures in
    (omega (arith, c.decreases, w.less, p.2, u.less), record { standing = u.standing; in_tree = p.1; enough = omega (arith, p.2, u.less, w.standing.enough) })

pub returns : goal.returns
returns t c =
    let T = c.args.tree.now in let s = c.args.state.now in let G = goals.goal c.args.i c.args.want ∷ waiting s in let g = c.in-Some.g in let n = c.take.new.state in let h = c.halves-h.result in let o = c.halves-h.ensures in let w = split T s.near.rows G c.advance.new.state c.in_ok-advance.ensures g n c.in-Some.ensures in
    let m = c.demand.new.state in
    λ v d. denied_on T s.near.rows G n.near.rows g (waiting n) w h.one h.other o v d (c.in_default-solve.ensures v d) m.near.rows (waiting m) c.in_ok-demand.ensures (result_ok c.solve-2.result) (c.solve-2.ensures v d)
