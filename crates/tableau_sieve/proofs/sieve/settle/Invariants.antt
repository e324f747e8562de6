use Rattle.std.proofs.Common.{suc}
use Rattle.std.specs.Prelude.{cond}
use Rattle.goals.specs.Goals.{waiting, total, Leads}
use Rattle.tableau_sieve.proofs.sieve.settle.Given as goal

abbrev pub invariant-loop-moved : goal.invariant-loop-moved
invariant-loop-moved l = Leads l.tree l.initial.state.near.rows (waiting l.initial.state) l.state.near.rows (waiting l.state)

abbrev pub decreases-loop-moved : goal.decreases-loop-moved
decreases-loop-moved l = cond l.moved (suc (total l.tree (waiting l.state))) 0
