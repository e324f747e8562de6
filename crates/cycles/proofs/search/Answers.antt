use mathlib.Core.Path.{sym, ap, ◌∙◌}
use mathlib.Core.Option.{some}
use Prim.Native.Nat.{◌-◌}
use native.Mathlib.Omega.{arith}
use Rattle.page_walks.specs.Grid.{weight}
use Rattle.cycles.proofs.Openings.{Closes, none_found, one_found}
use Rattle.cycles.proofs.search.Goals as goal
use Rattle.cycles.proofs.search.Goals.{In_ok-opening}

pub returns-in_err-opening : goal.returns-in_err-opening
returns-in_err-opening c = rw c.from_residual.ensures (sym (none_found (weight c.args.g.now.rows) (c.args.n - 1) c.in_err-opening.ensures), tt)

-- a walk was found
closes : (c : In_ok-opening) → let o = c.in_ok-opening.opening in Closes (weight c.args.g.now.rows) (c.args.n - 1) o.count o.start
closes c = one_found (weight c.args.g.now.rows) (c.args.n - 1) _ _ c.in_ok-opening.ensures

pub trace-requires-clause-walk : goal.trace-requires-clause-walk
trace-requires-clause-walk c = let f = closes (goal.at.trace-requires-clause-walk c).In_ok-opening in
    (omega (arith, c.requires, f.here), f.more, omega (arith, c.requires, f.few))

pub trace-requires-clause-negative : goal.trace-requires-clause-negative
trace-requires-clause-negative c = (closes (goal.at.trace-requires-clause-negative c).In_ok-opening).negative

pub returns : goal.returns
returns c = let f = closes (goal.at.returns c).In_ok-opening in
    (ap some (rw c.trace.ensures.0 c.trace.ensures.1) ∙ sym f.answer, omega (arith, c.requires, f.few, c.trace.ensures.0))
