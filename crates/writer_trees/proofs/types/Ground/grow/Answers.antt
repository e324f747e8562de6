use mathlib.Core.Path.{sym, ap, ◌∙◌}
use native.Mathlib.Omega.{arith}
use Rattle.truth.specs.Values.{three_of}
use Rattle.writer_trees.proofs.Growths.{grows_leaf, grows_open}
use Rattle.writer_trees.proofs.NodeHalves.{grown_false, grown_true, grown_end}
use Rattle.writer_trees.proofs.types.Ground.grow.Goals as goal

pub returns-in-Fails-clause-grows : goal.returns-in-Fails-clause-grows
returns-in-Fails-clause-grows c = λ F lent. grows_leaf _ (grown_false F c.args.self.now lent c.args.truths.now (sym (c.known.ensures.lent F lent) ∙ ap three_of c.in-Fails.is)) _ _ c.put.ensures.filled

pub returns-in-Passes-clause-grows : goal.returns-in-Passes-clause-grows
returns-in-Passes-clause-grows c = λ F lent. grows_open _ _ (grown_true F c.args.self.now lent c.args.truths.now (sym (c.known.ensures.lent F lent) ∙ ap three_of c.in-Passes.is)) _ _

pub returns-then-count-self-clause-grows : goal.returns-then-count-self-clause-grows
returns-then-count-self-clause-grows c = λ F lent. grows_open _ _ (grown_end F c.args.self.now lent c.args.truths.now (sym (c.known.ensures.lent F lent) ∙ ap three_of c.in-Open.is) (omega (arith, c.if-count-self.true, c.count.ensures))) _ _
