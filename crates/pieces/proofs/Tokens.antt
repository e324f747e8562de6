-- The tokens of a condition, one after another.
use Rattle.std.proofs.Common.{◌≡◌, ℕ, zero, suc, ◌+◌, ◌*◌, ◌≤◌, ◌<◌, List, [], ◌∷◌, ◌++◌, length, get_or, drop, pos, refl, ap, ◌∙◌, arith}
use Rattle.std.proofs.Math.ListN.{length-map, get_or-map, drop_of_length-le}
use mathlib.Core.List.{foldl}
use Rattle.page_meaning.specs.Condition.{compare, both, either, negate}
use Rattle.page_meaning.specs.Condition as M
use Rattle.page_meaning.specs.WellFormed.{TokenUses, Uses}
use Rattle.page_questions.specs.Reader.{counted}
use Rattle.question.specs.Held.{token_of}
use Rattle.question.specs.declared.types.Token.{Token}
use Rattle.question.specs.declared.types.Kind.TheVariants.{Compare}
use Rattle.question.specs.declared.types.Op.TheVariants.{Less}
use Rattle.question.specs.declared.types.Side.TheVariants.{Constant}
use Rattle.page_formulas.specs.Compilation.{token, compile}
use Rattle.page_formulas.specs.Compilation as C
use Rattle.page_formulas.specs.Parts.{condition_program}
use Rattle.page_formulas.specs.Costs.{condition_cost}
use Rattle.program.specs.Built.{Room, Builds}
use Rattle.sights.specs.Sights.{sight_of, Has}
use Rattle.pieces.specs.Pieces.{Partway, cost, pairs, costs, pairs_of, tokens_of, Compilable}
use Rattle.program.specs.declared.types.Program.{Program}
use Rattle.sights.specs.declared.types.Sight.{Sight}
use Rattle.pieces.proofs.Pieces.{begin, next, piece_room, piece, finish}

costs_most : (c : M.Condition) (n : ℕ) → costs c + 3 * n ≤ length c + 3 * foldl counted n c
unfolding costs
costs_most [] n = omega arith
costs_most (compare op i s ∷ c) n = omega (arith, costs_most c (n + 1))
costs_most (both ∷ c) n = omega (arith, costs_most c n)
costs_most (either ∷ c) n = omega (arith, costs_most c n)
costs_most (negate ∷ c) n = omega (arith, costs_most c n)

pairs_most : (c : M.Condition) (n : ℕ) → pairs_of c + 2 * n ≤ 2 * foldl counted n c
unfolding pairs_of
pairs_most [] n = omega arith
pairs_most (compare op i s ∷ c) n = omega (arith, pairs_most c (n + 1))
pairs_most (both ∷ c) n = omega (arith, pairs_most c n)
pairs_most (either ∷ c) n = omega (arith, pairs_most c n)
pairs_most (negate ∷ c) n = omega (arith, pairs_most c n)

uses_drop : (P : ℕ → Type 0) (i : ℕ) (c : M.Condition) → Uses P c → Uses P (drop i c)
uses_drop P zero c u = u
uses_drop P (suc i) [] u = u
uses_drop P (suc i) (t ∷ c) u = uses_drop P i c u.1

compiled : (σ : C.Sight) (c : M.Condition) → 0 < length c → compile σ c ≡ condition_program σ c
compiled σ [] h = absurd (omega arith)
compiled σ (t ∷ c) h = refl

-- the machine's token past the end of an array
abbrev pub no_token : Token
no_token = record { kind = Compare Less 0 (Constant (pos 0)) }

abbrev pub token_at : List Token → ℕ → M.Token
token_at ts i = token_of (get_or ts i no_token)

-- the tokens before i are emitted
abbrev pub Tokens : Sight → List Token → Program → Program → ℕ → Type 0
Tokens s ts p now i =
    let c = tokens_of ts in
    Partway condition_cost.instructions condition_cost.places p now (costs (drop i c)) (pairs_of (drop i c)) (compile (sight_of s) (drop i c)) (compile (sight_of s) c)

module _ (s : Sight) (ts : List Token) (r : Compilable (Has s) ts) where
  tokens_length : length (tokens_of ts) ≡ length ts
  tokens_length = length-map ts token_of

  next_token : (i : ℕ) → i < length ts → drop i (tokens_of ts) ≡ token_at ts i ∷ drop (i + 1) (tokens_of ts)
  next_token i h =
      next (tokens_of ts) i (token_of no_token) (omega (arith, tokens_length))
      ∙ ap (λ t. t ∷ drop (i + 1) (tokens_of ts)) (get_or-map token_of ts i no_token)

  pub tokens_begin : {k l : ℕ} (p : Program) → Room p k l → Tokens s ts p p 0
  tokens_begin p room =
      begin condition_cost.instructions condition_cost.places _ _ p _ room (omega (arith, costs_most (tokens_of ts) 0, tokens_length, r.few, r.few_comparisons)) (omega (arith, pairs_most (tokens_of ts) 0, r.few_comparisons))

  module _ (i : ℕ) (h : i < length ts) where
    pub token_uses : TokenUses (Has s) (token_at ts i)
    token_uses = let u = rw (next_token i h) at (uses_drop (Has s) i (tokens_of ts) r.uses) in u.0

    more_costs : costs (drop i (tokens_of ts)) ≡ cost (token_at ts i) + costs (drop (i + 1) (tokens_of ts))
    unfolding costs
    more_costs = ap costs (next_token i h)

    more_pairs : pairs_of (drop i (tokens_of ts)) ≡ pairs (token_at ts i) + pairs_of (drop (i + 1) (tokens_of ts))
    unfolding pairs_of
    more_pairs = ap pairs_of (next_token i h)

    more_tokens : compile (sight_of s) (drop i (tokens_of ts)) ≡ token (sight_of s) (token_at ts i) ++ compile (sight_of s) (drop (i + 1) (tokens_of ts))
    unfolding compile
    more_tokens = ap (compile (sight_of s)) (next_token i h)

    module _ {p now : Program} (w : Tokens s ts p now i) where
      pub token_room : Room p condition_cost.instructions condition_cost.places → Room now (cost (token_at ts i)) (pairs (token_at ts i))
      token_room = piece_room w (cost (token_at ts i)) (pairs (token_at ts i)) (omega (arith, more_costs)) (omega (arith, more_pairs))

      pub token_more : {next : Program} → Builds now next (cost (token_at ts i)) (pairs (token_at ts i)) (token (sight_of s) (token_at ts i)) → Tokens s ts p next (i + 1)
      token_more b = piece w _ _ _ more_tokens (omega (arith, more_costs)) (omega (arith, more_pairs)) b

  pub tokens_end : (p now : Program) (i : ℕ) → length ts ≤ i → 0 < length ts → Tokens s ts p now i → Builds p now condition_cost.instructions condition_cost.places (condition_program (sight_of s) (tokens_of ts))
  unfolding compile
  tokens_end p now i h g w =
      rw (compiled (sight_of s) (tokens_of ts) (omega (arith, tokens_length))) at
      (finish w (ap (compile (sight_of s)) (drop_of_length-le (tokens_of ts) {i = i} (omega (arith, tokens_length)))))
