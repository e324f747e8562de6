use Rattle.std.proofs.Common.{rules, Bool, false, refl, sym, ◌∙◌, arith}
use Rattle.sights.specs.Sights.{no_column}
use Rattle.formula_contexts.proofs.Mapped.{mapped, map_same}
use Rattle.formula_contexts.proofs.contexts.flags.Goals as goal

pub returns : goal.returns
returns c = sym (map_same c.map.result) ∙ mapped _ (λ (b : Bool). b) (λ c. c.visible) no_column false refl (omega arith) c.map.ensures.items (λ i p y q l k. search rules)
