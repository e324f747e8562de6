use borrow.Author.Rules.{rules}
use Prim.Native.Nat.{ℕ}
use mathlib.Core.Path.{◌≡◌, ap, ◌∙◌}
use mathlib.Core.Bool.{Bool}
use mathlib.Core.List.{List, map}
use native.Mathlib.Omega.{arith}
use lib.ListN.{length, take}
use lib.Seq.{take_all}
use Rattle.page_formulas.specs.Kinds.{known_kinds}
use Rattle.page_formulas.specs.Knowledge.{Three}
use Rattle.program.specs.Meanings.{number_of}
use Rattle.program.specs.declared.types.Instruction.{Instruction}
use Rattle.writer_trees.proofs.NodeHalves.{known_lent}
use Rattle.writer_trees.proofs.types.Ground.known.Goals as goal

-- as many as were decided are all
whole : (ds es : List Bool) (n : ℕ) → es ≡ ds → n ≡ length ds → take n es ≡ ds
whole ds es n e m = rw e (take_all n ds (omega (arith, m)))

ruleset parts = (rules, whole)

-- The truths that the code hands on aren't named, so that others are refused for what they are; a part of them that is the whole isn't.
by_truths : (ks : List Instruction) (ds es : List Bool) (k : Three) → k ≡ known_kinds (map number_of ks) es → es ≡ ds → k ≡ known_kinds (map number_of ks) ds
by_truths ks ds es k h e = h ∙ ap (known_kinds (map number_of ks)) e

pub returns-clause-numbers : goal.returns-clause-numbers
returns-clause-numbers c = by_truths c.args.self.now.instructions.now c.args.truths.now _ _ c.known.ensures (search parts)

pub returns-clause-lent : goal.returns-clause-lent
returns-clause-lent c = λ F lent. let x = c.args.self.now in
    returns-clause-numbers c ∙ known_lent F x.instructions.now x.places.now lent c.args.truths.now
