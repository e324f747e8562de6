use Prim.Native.Nat.{◌-◌, ◌≤◌}
use mathlib.Core.Path.{◌≡◌}
use lib.ListN.{drop}
use Rattle.page_meaning.specs.Limits.{most_vertices}
use Rattle.page_walks.specs.Grid.{far_n}
use Rattle.page_walks.specs.Sizes.{AllWithin}
use Rattle.page_formulas.specs.Vertices.{Ranges}
use Rattle.page_sheets.specs.Facts.{confine_all, start}
use Rattle.program.specs.Compiled.{Spanned}
use Rattle.facts.proofs.start.Given as goal

abbrev pub invariant-loop-v : goal.invariant-loop-v
invariant-loop-v l = (1 ≤ l.v) × (l.v ≤ most_vertices) × AllWithin far_n most_vertices l.g.rows × ((rs : Ranges) → Spanned rs l.vertices.ranges → confine_all l.g.rows l.v (drop (l.v - 1) rs) ≡ start most_vertices rs)

abbrev pub decreases-loop-v : goal.decreases-loop-v
decreases-loop-v l = most_vertices - l.v
