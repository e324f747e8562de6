use Rattle.std.proofs.Common.{◌<◌, refl, rules, length}
use Rattle.goals.proofs.Stacks.{put}
use Rattle.goals.proofs.types.State.push.Goals as goal

pub returns : goal.returns
returns c = let s = c.args.self.now in let room : s.count < length s.goals = search rules in (refl, put s.goals c.args.g s.count room)
