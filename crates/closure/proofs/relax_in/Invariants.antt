use mathlib.Core.Path.{◌≡◌}
use Prim.Native.Nat.{◌-◌, ◌≤◌}
use Rattle.page_walks.specs.Sizes.{filled}
use Rattle.page_walks.proofs.RelaxedRows.{new_row}
use Rattle.closure.proofs.relax_in.Given as goal

-- up to u each row is the relaxed one
abbrev pub invariant-loop-u : goal.invariant-loop-u
invariant-loop-u l = (l.u ≤ l.n) × (l.rows ≡ filled (new_row l.initial.rows l.n l.e.from l.e.to l.e.weight) l.u l.initial.rows)

abbrev pub decreases-loop-u : goal.decreases-loop-u
decreases-loop-u l = l.n - l.u
