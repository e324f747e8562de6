use Rattle.std.proofs.Common.{rules}
use Rattle.question.proofs.Guaranteed.{held_of}
use Rattle.sights.proofs.terms.whole.Goals as goal

pub returns : goal.returns
returns c = record { held = held_of c.args.q.now; long = search rules }
