use Rattle.std.proofs.Common.{ℕ, ◌≡◌, length, get_or, pos}
use Rattle.page_meaning.specs.Limits.{most_vertices}
use Rattle.checker_rows.specs.NoSheet.{seen}
use Rattle.checker_rows.proofs.values.values.Given as goal

abbrev pub invariant-loop-j : goal.invariant-loop-j
invariant-loop-j l = record { long : length l.x ≡ most_vertices; read : (v : ℕ) → get_or l.x v (pos 0) ≡ seen l.sheet l.j v }
