-- Tokens and conditions as the code reads them, part by part.
use Rattle.std.specs.Prelude.{ℕ, cond, List, ltb, leb, eqb}
use Rattle.page_numbers.specs.Outcome.{Outcome, refused}
use Rattle.page_meaning.specs.Condition as C
use Rattle.page_questions.specs.Reader.{At, found, and_then, byte, up_to, right_at, constant_at, side_of, comparison_at}
use Rattle.page_meaning.specs.Limits.{most_comparisons}

-- a comparison's right side: its column, or none, and its constant
unfoldable pub side_at : List ℕ → ℕ → ℕ → ℕ → Outcome (At C.Side)
side_at s low high p =
    and_then (right_at s low high p) λ r p.
    and_then (constant_at s p) λ k p.
    found (side_of r k) p

-- a token that takes so many values, of those that stand
abbrev pub needs_at : C.Token → ℕ → ℕ → ℕ → ℕ → Outcome (At C.Token)
needs_at t wants height p q = cond (leb wants height) (found t q) (refused 6 p)

-- the token of number t at p, with its byte before q
unfoldable pub token_numbered : List ℕ → ℕ → ℕ → ℕ → ℕ → ℕ → ℕ → ℕ → Outcome (At C.Token)
token_numbered s low high compared height t p q =
    cond (eqb t 1) (cond (ltb compared most_comparisons) (comparison_at s low high q) (refused 4 p))
    (cond (eqb t 2) (needs_at C.both 2 height p q)
    (cond (eqb t 3) (needs_at C.either 2 height p q)
    (needs_at C.negate 1 height p q)))

-- a token, after so many comparisons and with so many values
unfoldable pub token_with : List ℕ → ℕ → ℕ → ℕ → ℕ → ℕ → Outcome (At C.Token)
token_with s low high compared height p = and_then (byte s 6 1 (up_to 4) p) λ t q. token_numbered s low high compared height t p q
