use Rattle.std.proofs.Common.{◌<◌, ◌≤◌, ◌≡◌, ◌∷◌, ◌∙◌, sym, ap, subst, arith, ℕ, suc, rules, Bool, Result}
use Rattle.std.proofs.lemmas.Result.{err_from_is_err_and}
use Rattle.page_formulas.specs.Costs.{most_instructions}
use Rattle.page_walks.specs.Grid.{Grid}
use Rattle.page_formulas.specs.Program.{Place}
use Rattle.grid.specs.declared.Edge.{Edge}
use Rattle.program_tree.specs.Nodes.{kind_at, place_in}
use Rattle.program.specs.Meanings.{number_of}
use Rattle.facts.specs.Decisions.{fact_of}
use Rattle.goals.specs.declared.types.Contradiction.{Contradiction}
use Rattle.goals.specs.declared.types.State.{State}
use Rattle.goals.specs.Closures.{Enters}
use Rattle.goals.specs.Goals.{goal, splitting, unlike, waiting, Asks, Leads, Shut, Takes}
use Rattle.program_tree.specs.declared.types.Tree.{Tree}
use Rattle.goals.proofs.Stacks.{height}
use Rattle.goals.proofs.AskedInstructions.{demand_place, constant_shut, constant_met, demand_not, first_shut, demand_both}
use Rattle.goals.proofs.demands.+demand_by.Goals as goal

-- a place, whose edge was tried
tried : (t : Tree) (s : State) (i : ℕ) (want : Bool) → Asks t s i → kind_at t i ≡ 0 → (last : ℕ) → last ≡ t.last → (q : Place) → q ≡ place_in t i → (e : Edge) → e ≡ fact_of q want → (answer : Result (Unit {0}) Contradiction) (near : Grid) → Enters (suc last) s.near.rows e answer near → Takes t s.near.rows (goal i want ∷ waiting s) answer near (waiting s)
tried t s i want r k last l q p e is answer near n =
    demand_place t s.near.rows (waiting s) i want r.standing r.in_tree k answer near (subst (λ e. Enters (suc t.last) s.near.rows e answer near) (is ∙ ap (λ q. fact_of q want) p) (subst (λ m. Enters (suc m) s.near.rows e answer near) l n))

-- there is room for one goal more
room : (t : Tree) (s : State) (i : ℕ) → Asks t s i → s.count < most_instructions
room t s i r = omega (arith, r.enough, (r.standing.laid.made i r.in_tree).some, height t r.standing.laid s.goals s.count r.standing.waiting)

pub push-requires : goal.push-requires
push-requires g t c = room (g.T.AsTree.tree c.args.tree.now) c.args.state.now c.args.i c.requires

pub returns-in-Place : goal.returns-in-Place
returns-in-Place g t c = let a = c.args in
    tried (g.T.AsTree.tree a.tree.now) a.state.now a.i a.want c.requires (ap number_of (sym c.instruction-instruction.ensures ∙ c.in-Place.is)) c.last.result c.last.ensures _ c.place.ensures c.added.result c.added.ensures c.enter.result c.enter.new.near.rows c.enter.ensures

pub returns-then-fails : goal.returns-then-fails
returns-then-fails g t c = let a = c.args in let r = c.requires in let s = a.state.now in let b = g.T.AsTree.tree a.tree.now in let k : 4 ≤ kind_at b a.i = search rules in
    constant_shut b s.near.rows (waiting s) a.i a.want r.standing r.in_tree k (ap (λ d. unlike (number_of d) a.want) (sym c.instruction-instruction.ensures) ∙ sym c.fails.ensures ∙ c.if-fails.true)

pub returns-else-fails : goal.returns-else-fails
returns-else-fails g t c = let a = c.args in let r = c.requires in let s = a.state.now in let b = g.T.AsTree.tree a.tree.now in let k : 4 ≤ kind_at b a.i = search rules in
    constant_met b s.near.rows (waiting s) a.i a.want r.standing r.in_tree k (ap (λ d. unlike (number_of d) a.want) (sym c.instruction-instruction.ensures) ∙ sym c.fails.ensures ∙ c.if-fails.false)

pub returns-in-Not : goal.returns-in-Not
returns-in-Not g t c = let a = c.args in let r = c.requires in let s = a.state.now in
    demand_not (g.T.AsTree.tree a.tree.now) s.near.rows (waiting s) a.i a.want r.standing r.in_tree (ap number_of (sym c.instruction-instruction.ensures ∙ c.in-Not.is)) c.demand_by.result _ _ c.demand_by.ensures

pub returns-in_err-demand_by-in-And : goal.returns-in_err-demand_by-in-And
returns-in_err-demand_by-in-And g t c = let a = c.args in let r = c.requires in let s = a.state.now in let b = g.T.AsTree.tree a.tree.now in
    let l : 0 < kind_at b a.i = search rules in let m : kind_at b a.i < 3 = search rules in
    let p = err_from_is_err_and c.from_residual.result c.from_residual.ensures.1 in
    rw p.1 (first_shut b s.near.rows (waiting s) a.i a.want r.standing r.in_tree l m (ap (λ d. splitting (number_of d) a.want) (sym c.instruction-instruction.ensures) ∙ sym c.splits.ensures ∙ c.if-splits.false) (subst (λ j. Shut b s.near.rows (goal j a.want ∷ waiting s)) c.first.ensures c.in_err-demand_by-in-And.ensures))

pub returns-in_ok-demand_by-in-And : goal.returns-in_ok-demand_by-in-And
returns-in_ok-demand_by-in-And g t c = let a = c.args in let r = c.requires in let s = a.state.now in let b = g.T.AsTree.tree a.tree.now in let n = c.demand_by-in-And.new.state in
    let l : 0 < kind_at b a.i = search rules in let m : kind_at b a.i < 3 = search rules in
    demand_both b s.near.rows (waiting s) a.i a.want r.standing r.in_tree l m (ap (λ d. splitting (number_of d) a.want) (sym c.instruction-instruction.ensures) ∙ sym c.splits.ensures ∙ c.if-splits.false) n.near.rows (waiting n) (subst (λ j. Leads b s.near.rows (goal j a.want ∷ waiting s) n.near.rows (waiting n)) c.first.ensures c.in_ok-demand_by-in-And.ensures) c.demand_by-in-And-2.result _ _ c.demand_by-in-And-2.ensures
