-- The loop over tokens: the numbers that it keeps are those of the tokens so far.
use mathlib.Core.Path.{◌≡◌, refl, sym, ap, ◌∙◌}
use mathlib.Core.Bool.{Bool, true, false, cond, ◌&&◌}
use mathlib.Core.List.{List, [], ◌∷◌, map, foldl-append}
use Prim.Native.Nat.{ℕ, ◌+◌, ◌≤◌, ◌<◌}
use native.Mathlib.Omega.{arith}
use lib.Dec.{ltb, leb, eqb}
use lib.Seq.{length-take-le}
use lib.ListN.{length, length-map, take, set, get_or}
use Rattle.page_numbers.specs.Outcome.{Outcome, refused}
use Rattle.page_meaning.specs.Condition as C
use Rattle.page_meaning.specs.Limits.{most_tokens}
use Rattle.page_questions.specs.Reader.{At, found, and_then, many, byte, token_at, finish, comparisons, height, counted, after}
use Rattle.question.specs.Held.{token_of, kind_of}
use Rattle.tokens.specs.Tokens.{token_with, token_numbered}
use Rattle.question.specs.declared.types.Token.{Token}
use Rattle.page_questions.proofs.Counts.{counted_le, after_le, finish_some}
use Rattle.page_questions.proofs.Loops.{more}
use Rattle.std.specs.Prelude.{◌≢◌, Result, Ok, Err}
use Rattle.std.specs.Result.{IsErrAnd}
use Rattle.refusal.specs.declared.Refusal.{Refusal}
use Rattle.fields.specs.Steps.{Steps}
use Rattle.fields.specs.declared.cursor.Cursor.{Cursor}
use Rattle.fields.proofs.Run.{Run, none_read, one_read, one_refused, all_read}
use Rattle.fields.proofs.Chain as chain
use Rattle.question.specs.declared.types.Kind.{Kind}
use Rattle.tokens.specs.declared.token.SoFar.{SoFar}

-- the offset after a byte that was found is the next one
pub next_byte : {B : Type 0} (s : List ℕ) (n low high p : ℕ) (f : ℕ → ℕ → Outcome B) → and_then (byte s n low high p) f ≡ and_then (byte s n low high p) (λ x q. f x (p + 1))
unfolding byte
next_byte {B} s n low high p f = go (ltb p (length s)) (leb low (get_or s p 0) && ltb (get_or s p 0) high)
  where
    given : Bool → Bool → Outcome (At ℕ)
    given a b = cond a (cond b (found (get_or s p 0) (p + 1)) (refused n p)) (refused 1 p)

    go : (a b : Bool) → and_then (given a b) f ≡ and_then (given a b) (λ x q. f x (p + 1))
    go true true = refl
    go true false = refl
    go false b = refl

-- a token depends on the tokens before it by two numbers only
pub with_counts : (s : List ℕ) (low high : ℕ) (ts : C.Condition) (p : ℕ) → token_with s low high (comparisons ts) (height ts) p ≡ token_at s low high ts p
unfolding token_with token_at token_numbered
with_counts s low high ts p = next_byte s 6 1 5 p (λ t q. token_numbered s low high (comparisons ts) (height ts) t p q)

-- i tokens were read, of n
pub record TokenRun (low high n : ℕ) (start now : Cursor) (tokens : List Token) (so_far : SoFar) (i : ℕ) : Type 0 where
  pub run : Run (λ s ts q. token_at s low high ts q) token_of most_tokens n start now tokens i
  pub counts : so_far.compared ≡ comparisons (map token_of (take i tokens))
  pub stands : so_far.height ≡ height (map token_of (take i tokens))
  pub few : so_far.compared ≤ i
  pub bounded : so_far.height ≤ i

pub no_token : {low high n : ℕ} {start : Cursor} {tokens : List Token} → length tokens ≡ most_tokens
    → TokenRun low high n start start tokens (record { compared = 0; height = 0 }) 0
no_token h = record { run = none_read h; counts = refl; stands = refl; few = omega arith; bounded = omega arith }

module _ {low high n : ℕ} {start now : Cursor} {tokens : List Token} {so_far : SoFar} {i : ℕ} (run : TokenRun low high n start now tokens so_far i) where
  -- what the code's token is
  pub this_token : {A : Type 0} {f : A → C.Token} {r : Result A Refusal} {new : Cursor}
      → Steps f (λ s p. token_with s low high so_far.compared so_far.height p) now r new
      → Steps f (λ s p. token_at s low high (map token_of (take i tokens)) p) now r new
  this_token t = record { same = t.same; meaning = simp (run.counts, run.stands, with_counts) at t.meaning }

  pub one_token : {kind : Kind} {new : Cursor} {next : SoFar} → i < n → n ≤ most_tokens
      → next.compared ≡ counted so_far.compared (kind_of kind) → next.height ≡ after so_far.height (kind_of kind)
      → Steps kind_of (λ s p. token_with s low high so_far.compared so_far.height p) now (Ok kind) new
      → TokenRun low high n start new (set tokens i (record { kind = kind })) next (i + 1)
  one_token {kind = kind} l fit c h t =
      let inside : i < length tokens = omega (arith, run.run.going.sized) in
      let k : Token = record { kind = kind } in
      let ts = map token_of (take i tokens) in
      let u = this_token t in
      record {
        run = one_read run.run l fit (record { same = u.same; meaning = u.meaning });
        counts =
            c ∙ ap (λ m. counted m (token_of k)) run.counts
            ∙ sym (foldl-append counted 0 ts (token_of k ∷ []))
            ∙ ap comparisons (sym (more token_of tokens i k inside));
        stands =
            h ∙ ap (λ h. after h (token_of k)) run.stands
            ∙ sym (foldl-append after 0 ts (token_of k ∷ []))
            ∙ ap height (sym (more token_of tokens i k inside));
        few = omega (arith, run.few, c, counted_le so_far.compared (token_of k));
        bounded = omega (arith, run.bounded, h, after_le so_far.height (token_of k));
      }

  pub token_refused : {A : Type 0} {g : A → C.Condition} {e : Refusal} {r : Result A Refusal} {new : Cursor} → i < n → IsErrAnd r (λ d. d ≡ e)
      → Steps kind_of (λ s p. token_with s low high so_far.compared so_far.height p) now (Err e) new
      → Steps g (λ s p. and_then (many (token_at s low high) n [] p) finish) start r new
  token_refused {e = e} {r = r} {new = new} l h t =
      let u = this_token t in
      let whole : Steps (λ (ts : C.Condition). ts) (λ s p. many (token_at s low high) n [] p) start (Err e) new
      = one_refused run.run {r = Err e} l refl (record { same = u.same; meaning = u.meaning }) in
      chain.at_fault (λ s. finish) h whole

  -- all were read
  module _ {A : Type 0} {g : A → C.Condition} {r : Result A Refusal} (l : n ≤ i) where
    ended : Steps g (λ s q. finish (map token_of (take n tokens)) q) now r now → Steps g (λ s p. and_then (many (token_at s low high) n [] p) finish) start r now
    ended t = chain.after (λ s. finish) (all_read run.run l) t

    pub none_there : n ≡ 0 → Steps g (λ s q. found [] q) now r now → Steps g (λ s p. and_then (many (token_at s low high) n [] p) finish) start r now
    none_there e t = ended (rw e t)

    pub some_there : n ≤ most_tokens → n ≢ 0 → Steps g (λ s q. cond (eqb so_far.height 1) (found (map token_of (take n tokens)) q) (refused 6 q)) now r now
        → Steps g (λ s p. and_then (many (token_at s low high) n [] p) finish) start r now
    some_there fit some t =
        let e : i ≡ n = omega (arith, run.run.going.within) in
        let long : 0 < length (map token_of (take n tokens)) = simp (length-map, length-take-le n tokens (omega (arith, run.run.going.sized))) (omega (arith, some)) in
        let tall : so_far.height ≡ height (map token_of (take n tokens)) = run.stands ∙ ap (λ k. height (map token_of (take k tokens))) e in
        ended (record { same = t.same; meaning = rw (finish_some (map token_of (take n tokens)) now.at long, ← tall) t.meaning })
