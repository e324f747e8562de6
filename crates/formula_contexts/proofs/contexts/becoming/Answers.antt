use Rattle.std.proofs.Common.{rules, pos, refl, arith}
use Rattle.page_meaning.specs.Contents.{become}
use Rattle.question.specs.Held.{setting_of}
use Rattle.question.specs.declared.types.Mode.TheVariants.{Become}
use Rattle.formula_contexts.proofs.Mapped.{mapped}
use Rattle.formula_contexts.proofs.contexts.becoming.Goals as goal

pub returns : goal.returns
returns c = record { long = c.map.ensures.items.long; modes = mapped _ setting_of become (pos 0) (record { mode = Become (pos 0) }) refl (omega arith) c.map.ensures.items (λ i p y q l k. search rules) }
