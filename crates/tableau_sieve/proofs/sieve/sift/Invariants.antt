use Rattle.goals.specs.Goals.{stack_of, waiting}
use Rattle.tableau_sieve.proofs.SiftedGoals.{Sifting}
use Rattle.tableau_sieve.proofs.sieve.sift.Given as goal

abbrev pub invariant-loop-k : goal.invariant-loop-k
invariant-loop-k l = Sifting l.tree l.fn.state.near.rows (waiting l.fn.state) l.state.near.rows (stack_of l.goals l.k) (waiting l.state) l.moved
