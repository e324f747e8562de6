use Rattle.std.proofs.Common.{◌≡◌, ◌≤◌, map, drop, length, []}
use Rattle.page_formulas.specs.Kinds.{run_kinds}
use Rattle.truth.proofs.truths.run.Given as goal

-- what the rest makes of the stack is what the whole makes of the empty one
abbrev pub invariant-loop-i : goal.invariant-loop-i
invariant-loop-i g l = record {
  short : length l.stack ≤ l.i-index;
  passed : l.place ≤ l.i-index;
  same : run_kinds (drop l.place (map g.T.Decision.passes l.truths)) (map g.I.Step.number (drop l.i-index l.instructions)) l.stack ≡ run_kinds (map g.T.Decision.passes l.truths) (map g.I.Step.number l.instructions) [];
}
