use native.Mathlib.Numerals.{add-one}
use native.Mathlib.Omega.{arith}
use Prim.Native.Nat.{suc}
use mathlib.Core.Path.{refl, sym, ◌∙◌}
use Rattle.goals.specs.Goals.{held}
use Rattle.goals.proofs.Tightening.{tight_within, from_zero}
use Rattle.writer_trees.proofs.Growths.{tight_next, with_is}
use Rattle.writer_leaves.proofs.opens_with.Goals as goal

pub relax_in-requires-clause-summable : goal.relax_in-requires-clause-summable
relax_in-requires-clause-summable c = let a = c.args in record { some = omega arith; few = omega (arith, c.requires.tells.laid.few); within = simp add-one (tight_within (suc a.tree.now.last) a.near.now.rows c.requires.tight) }

pub opens_under-requires : goal.opens_under-requires
opens_under-requires c = let q = c.requires in
    let last = c.args.tree.now.last in
    let near = c.args.near.now in
    ((q.program, q.tells), tight_next last q.tells.laid.few near.rows near.sized q.tight c.args.e q.fact (sym c.contradicts.ensures ∙ c.if-contradicts.false) _ (with_is last near.rows c.args.e _ c.relax_in.ensures))

pub returns : goal.returns
returns c = λ p tells.
    (from_zero _ _ refl (sym c.contradicts.ensures ∙ c.if-contradicts.false), with_is c.args.tree.now.last c.args.near.now.rows c.args.e _ c.relax_in.ensures, (held c.in_ok-opens_under.field-0, c.in_ok-opens_under.ensures p tells))
