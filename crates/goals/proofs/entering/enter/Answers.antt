use Rattle.std.proofs.Common.{◌≡◌, sym, subst, refl, suc, add-one, arith, ◌∙◌}
use Rattle.page_walks.specs.Grid.{weight, far_n}
use Rattle.page_walks.specs.Sizes.{AllWithin, tabled}
use Rattle.page_walks.specs.Nearness.{relax}
use Rattle.goals.proofs.Tightening.{closer_tabled, tight_within, from_zero}
use Rattle.goals.proofs.entering.enter.Goals as goal

pub relax_in-requires-clause-summable : goal.relax_in-requires-clause-summable
relax_in-requires-clause-summable c = record {
  some = omega arith;
  few = omega (arith, c.requires.few);
  within = subst (λ n. AllWithin far_n n c.args.near.now.rows) (sym (add-one c.args.last)) (tight_within (suc c.args.last) c.args.near.now.rows c.requires.tight);
}

pub returns : goal.returns
returns c = let near = c.args.near.now in let e = c.args.e in let r = c.requires in
    let done : c.relax_in.new.near.rows ≡ tabled (relax (weight near.rows) e.from e.to e.weight) (suc c.args.last) near.rows = rw add-one at c.relax_in.ensures in
    closer_tabled (suc c.args.last) near.rows r.tight (omega (arith, r.few)) near.sized e r.fact.from_is r.fact.to_is _ done (from_zero _ _ refl (sym c.contradicts.ensures ∙ c.if-contradicts.false))
