use mathlib.Core.Path.{◌≡◌, sym, ap, ◌∙◌}
use Prim.Native.Nat.{suc, ◌-◌, ◌<◌}
use borrow.Author.Rules.{rules}
use native.Mathlib.Omega.{arith}
use mir.Syntax.{w64}
use mir.Facts.{to_z-of_z}
use Rattle.page_meaning.specs.Limits.{most_vertices}
use Rattle.page_walks.specs.Grid.{weight, far_n}
use Rattle.page_walks.specs.Search.{best}
use Rattle.page_walks.proofs.Rows.{read}
use Rattle.page_walks.proofs.BestSums.{row_within, least_edges, best_next}
use Rattle.sums.proofs.SumsBack.{back_within}
use Rattle.sums.proofs.Walks.closing_sum.Goals as goal

pub returns-then-edges-eq0 : goal.returns-then-edges-eq0
unfolding best
returns-then-edges-eq0 c = let g = c.args.self.now.grid.now in
    let m : c.args.s < most_vertices = omega (arith, c.requires, c.args.self.now.summable) in
    (to_z-of_z {w = w64} (search rules) ∙ read most_vertices g.rows c.args.s c.args.s g.sized m m ∙ ap (λ k. best (weight g.rows) (c.args.self.now.n - 1) k c.args.s c.args.s) (sym c.if-edges-eq0.true), (search rules))

pub least_sum-requires-clause-edges_within : goal.least_sum-requires-clause-edges_within
least_sum-requires-clause-edges_within c = let w = c.args.self.now in
    row_within far_n w.n w.grid.now.rows w.grid.now.sized w.summable.few w.summable.within (omega arith) _ c.requires.0

pub least_sum-requires-clause-on_within : goal.least_sum-requires-clause-on_within
least_sum-requires-clause-on_within c = let w = c.args.self.now in
    back_within w.grid.now.rows w.n w.summable c.args.s (c.args.edges - 1) _ c.requires.0 (omega (arith, c.requires, w.summable)) c.sums_back.ensures

pub returns : goal.returns
returns c = let a = c.args in
    let w = a.self.now in
    let s = w.summable in
    let h = c.if-edges-eq0.false in
    let some : suc (a.edges - 1) ≡ a.edges = omega arith in
    (to_z-of_z {w = w64} (record { sfits = c.least_sum.type_inv }) ∙ c.least_sum.ensures ∙ least_edges w.n w.grid.now.rows _ w.grid.now.sized (s.some, s.few) a.s c.requires.0 ∙ best_next w.grid.now.rows w.n s.some s.within (a.edges - 1) a.s a.s _ c.sums_back.ensures.sum_is ∙ ap (λ k. best (weight w.grid.now.rows) (w.n - 1) k a.s a.s) some, c.sums_back.ensures.long)
