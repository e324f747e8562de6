use Rattle.std.proofs.Common.{◌≡◌, ◌==◌, ◌∙◌, sym, cond, nat_lt, Some, None, ℕ, ◌<◌, ◌≤◌, length, arith, rules, tests}
use Rattle.std.specs.List.{position_or_len}
use Rattle.std.proofs.lemmas.Iterator.{YieldsList-from_slice}
use Rattle.std.proofs.lemmas.Iterator.Search.{position_from_yields_List}
use Rattle.std.proofs.lemmas.List.Sums.{prefix_len-le-length}
use Rattle.std.proofs.lemmas.List.{length-take-le}
use Rattle.cases.proofs.cut.Goals.{After-position}
use Rattle.cases.proofs.cut.Goals as goal

-- The search is over the whole text.
found : (c : After-position) → c.position.result ≡ cond (nat_lt (position_or_len (λ b. b == c.args.mark) c.args.text.now) (length c.args.text.now)) (Some (position_or_len (λ b. b == c.args.mark) c.args.text.now)) None
found c = position_from_yields_List (λ b. b == c.args.mark) _ _ c.position.result c.position.ensures.ran (YieldsList-from_slice _ c.iter.ensures.rest) (λ x b q k. search (rules, tests))

there : (p n stop : ℕ) → p ≤ n → cond (nat_lt p n) (Some p) None ≡ Some stop → (stop ≡ p) × (stop < n)
there p n stop h e = grind arith

all : (stop n : ℕ) → stop ≤ n → cond (nat_lt stop n) (Some stop) None ≡ None → n ≡ stop
all stop n h e = grind arith

pub returns-in-Some-clause-stop : goal.returns-in-Some-clause-stop
returns-in-Some-clause-stop c =
    let t = there (position_or_len (λ b. b == c.args.mark) c.args.text.now) (length c.args.text.now) c.in-Some.stop (prefix_len-le-length _ _) (sym (found (goal.at.returns-in-Some-clause-stop c).After-position) ∙ c.in-Some.is) in
    length-take-le c.in-Some.stop c.args.text.now (omega (arith, t.1)) ∙ t.0

pub returns-in-None-clause-stop : goal.returns-in-None-clause-stop
returns-in-None-clause-stop c =
    all _ _ (prefix_len-le-length _ _) (sym (found (goal.at.returns-in-None-clause-stop c).After-position) ∙ c.in-None.is)
