use Rattle.std.proofs.Common.{refl}
use Rattle.std.specs.Result.{result_ok}
use Rattle.page_formulas.specs.Postfix.{value_at}
use Rattle.tableau.proofs.Roots.{root_asks, root_opens}
use Rattle.tableau.proofs.openings.open.Goals as goal

pub solve-requires : goal.solve-requires
solve-requires c = let s = c.args.state.now in let q = c.requires.0 in
    root_asks c.args.tree.now q.0 q.1 s.near.rows s.near.sized c.requires.1 s refl c.requires.2

pub returns : goal.returns
returns c = let s = c.args.state.now in
    λ p tells. rw c.ok.ensures.value (root_opens c.args.tree.now p tells s.near.rows s refl c.requires.2 (result_ok c.solve.result) (c.solve.ensures (value_at p) tells.describes))
