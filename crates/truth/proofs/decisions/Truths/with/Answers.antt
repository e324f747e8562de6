use borrow.Author.Rules.{rules}
use Rattle.std.proofs.Common.{◌<◌, ◌≡◌, length, ap, arith}
use Rattle.page_meaning.specs.Limits.{most_decisions}
use Rattle.truth.proofs.Spares.{count_next, padded_next}
use Rattle.truth.proofs.decisions.Truths.with.Goals as goal

pub invariant_of-result : goal.invariant_of-result
invariant_of-result c = let t = c.self.inside in
    let h = c.self.invariant in
    let few : t.count < most_decisions = omega (arith, c.requires, h.2, ap length c.self.view_is) in
    let long : length t.cells ≡ most_decisions = search rules in
    (omega (arith, few), padded_next t.cells t.count few long h.1 _, count_next t.cells t.count few long h.1 _)
