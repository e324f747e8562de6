use Rattle.std.proofs.Common.{◌∷◌, length, ap, ◌∙◌, add-one, arith}
use Rattle.truth.specs.Values.{three_of}
use Rattle.truth.proofs.Cells.{put, values_long}
use Rattle.truth.proofs.stack.Stack.push.Goals as goal

pub returns : goal.returns
returns c = let s = c.self.inside in
    rw add-one (ap (λ st. three_of c.args.value ∷ st) (put s.cells s.top s.height (omega (arith, values_long s.cells s.top s.height, ap length c.self.view_is)) ∙ c.self.view_is))
