use Rattle.std.proofs.Common.{ℕ, ◌≡◌, ◌<◌, length, get_or, false}
use Rattle.page_meaning.specs.Limits.{most_decisions}
use Rattle.checker_rows.specs.NoSheet.{test_at}
use Rattle.checker_rows.proofs.values.decisions.Given as goal

abbrev pub invariant-loop-i : goal.invariant-loop-i
invariant-loop-i l = record { long : length l.truths ≡ most_decisions; each : (k : ℕ) → k < l.i → get_or l.truths k false ≡ test_at l.values l.places k }
