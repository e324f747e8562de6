use Rattle.std.proofs.Common.{◌≡◌, rules, ◌-◌, true, sym, ◌∙◌, subst, arith}
use Rattle.sights.specs.Sights.{Has, ModeReads}
use Rattle.sights.proofs.Sightings.{mode_from, mode_reads}
use Rattle.sights.proofs.types.Sight.mode.Goals as goal

pub returns : goal.returns
returns c = let s = c.args.self.now in
    let j = c.args.i - s.first in
    let e : s.moved ≡ true = search rules in (
      c.at.ensures ∙ sym (mode_from s c.args.i e j (omega arith)),
      subst (ModeReads (Has s)) (sym c.at.ensures) (mode_reads s c.args.i e j c.requires),
    )
