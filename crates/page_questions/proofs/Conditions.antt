-- What a condition guarantees that was read.
use mathlib.Core.Path.{◌≡◌, refl, sym, ap, subst, ◌∙◌}
use mathlib.Core.Bool.{Bool, true, false, cond}
use mathlib.Core.List.{List, [], ◌∷◌, ◌++◌, foldl-append, append_assoc, append-nil}
use Prim.Native.Nat.{ℕ, zero, suc, ◌+◌, ◌≤◌, ◌<◌}
use native.Mathlib.Omega.{arith}
use native.Mathlib.Numerals.{add-one}
use borrow.Author.Tests.{ltb-true, leb-true, eqb-true}
use lib.Dec.{T, ltb, leb, eqb}
use lib.ListN.{length, get_or}
use lib.IntN.{ℤ, neg_ℤ}
use Rattle.page_meaning.specs.Limits.{most_tokens, most_comparisons}
use Rattle.page_meaning.specs.Condition.{Condition, Token, compare, both, either, negate, constant, column}
use Rattle.page_meaning.specs.WellFormed.{SideUses, TokenUses, Uses}
use Rattle.page_questions.specs.Reader.{At, many, byte, up_to, largest, none, constant_at, right_at, side_of, comparison_at, token_at, needs, after, counted, height, comparisons, finish, finished, condition_at}
use Rattle.page_questions.specs.Guarantees.{Every, ConstantOk, SideOk, TokenOk, leaves_one, Shaped, ConditionOk}
use Rattle.page_questions.proofs.Counts.{counted_le}
use Rattle.page_questions.proofs.Invariants.{Holds, Finds, holds_so, Between, Inside, then_holds, cond_holds, byte_holds, int_holds, many_holds}

pub every_snoc : {A : Type 0} (P : A → Type 0) (l : List A) (a : A) → Every P l → P a → Every P (l ++ (a ∷ []))
every_snoc P [] a h x = (x, tt)
every_snoc P (b ∷ l) a h x = (h.0, every_snoc P l a h.1 x)

pub every_map : {A : Type 0} (P Q : A → Type 0) → ((a : A) → P a → Q a) → (l : List A) → Every P l → Every Q l
every_map P Q f [] h = tt
every_map P Q f (a ∷ l) h = (f a h.0, every_map P Q f l h.1)

pub constant_holds : (s : List ℕ) (p : ℕ) → Finds ConstantOk (constant_at s p)
constant_holds s p =
    holds_so (λ a. Inside (neg_ℤ largest) largest a.value) (λ a. ConstantOk a.value) (λ a h. record { low = h.0; high = h.1 })
    (constant_at s p) (int_holds s 5 (neg_ℤ largest) largest p)

-- ---- operands: what stands after a token that has its operands

abbrev wants : Token → ℕ
wants (compare o i k) = 0
wants both = 2
wants either = 2
wants negate = 1

stands : (t : Token) (h : ℕ) (rest : Condition) → wants t ≤ h → leaves_one h (t ∷ rest) ≡ leaves_one (after h t) rest
unfolding leaves_one
stands (compare o i k) zero rest l = refl
stands (compare o i k) (suc zero) rest l = refl
stands (compare o i k) (suc (suc h)) rest l = ap (λ n. leaves_one n rest) (sym (add-one (suc (suc h))))
stands both zero rest l = absurd (omega arith)
stands both (suc zero) rest l = absurd (omega arith)
stands both (suc (suc h)) rest l = ap (λ n. leaves_one n rest) (omega arith)
stands either zero rest l = absurd (omega arith)
stands either (suc zero) rest l = absurd (omega arith)
stands either (suc (suc h)) rest l = ap (λ n. leaves_one n rest) (omega arith)
stands negate zero rest l = absurd (omega arith)
stands negate (suc h) rest l = refl

-- ---- the columns named are from low on and below high

module _ (s : List ℕ) (low high : ℕ) where
  abbrev TokenFits : Token → Type 0
  TokenFits t = TokenOk t × TokenUses (Between low high) t

  -- what holds after some tokens
  record Built (ts : Condition) : Type 0 where
    fitting : Every TokenFits ts
    few : comparisons ts ≤ most_comparisons
    operands : (rest : Condition) → leaves_one 0 (ts ++ rest) ≡ leaves_one (height ts) rest

  nothing : Built []
  nothing = record { fitting = tt; few = omega arith; operands = λ rest. refl }

  grown : (ts : Condition) (t : Token) → Built ts → TokenFits t → counted (comparisons ts) t ≤ most_comparisons → wants t ≤ height ts → Built (ts ++ (t ∷ []))
  grown ts t b fit few l =
      record {
        fitting = every_snoc TokenFits ts t b.fitting fit;
        few = subst (λ n. n ≤ most_comparisons) (sym (foldl-append counted 0 ts (t ∷ []))) few;
        operands = λ rest.
            ap (leaves_one 0) (append_assoc ts (t ∷ []) rest)
            ∙ b.operands (t ∷ rest)
            ∙ stands t (height ts) rest l
            ∙ ap (λ n. leaves_one n rest) (sym (foldl-append after 0 ts (t ∷ [])));
      }

  -- a right column that is none makes a constant side
  abbrev RightOk : ℕ → Type 0
  RightOk r = (k : ℤ) → SideUses (Between low high) (side_of r k)

  right_holds : (p : ℕ) → Finds RightOk (right_at s low high p)
  right_holds p =
      cond_holds (λ a. RightOk a.value) (eqb (get_or s p 0) none) _ _
      (λ t k. tt)
      (λ t. holds_so {A = At ℕ} (λ a. Between low high a.value) (λ a. RightOk a.value) (λ a h k. go k a.value h (eqb a.value none)) (byte s 7 low high p) (byte_holds s 7 low high p))
    where
      go : (k : ℤ) (r : ℕ) → Between low high r → (b : Bool) → SideUses (Between low high) (cond b (constant k) (column r k))
      go k r h true = tt
      go k r h false = h

  side_ok : (r : ℕ) (k : ℤ) → ConstantOk k → SideOk (side_of r k)
  side_ok r k h = go (eqb r none)
    where
      go : (b : Bool) → SideOk (cond b (constant k) (column r k))
      go true = h
      go false = h

  abbrev Comparison : Token → Type 0
  Comparison t = (wants t ≡ 0) × TokenFits t

  comparison_holds : (p : ℕ) → Finds Comparison (comparison_at s low high p)
  unfolding comparison_at
  comparison_holds p =
      then_holds (Between 1 (up_to 6)) (λ a. Comparison a.value) (byte s 6 1 (up_to 6) p) _ (byte_holds s 6 1 (up_to 6) p) λ o p h.
      then_holds (Between low high) (λ a. Comparison a.value) (byte s 7 low high p) _ (byte_holds s 7 low high p) λ i p left.
      then_holds RightOk (λ a. Comparison a.value) (right_at s low high p) _ (right_holds p) λ r p right.
      then_holds ConstantOk (λ a. Comparison a.value) (constant_at s p) _ (constant_holds s p) λ k p small.
      (refl, (side_ok r k small, (left, right k)))

  module _ (ts : Condition) (b : Built ts) (p : ℕ) where
    abbrev Next : At Token → Type 0
    Next a = Built (ts ++ (a.value ∷ []))

    compared : comparisons ts < most_comparisons → Holds Next (comparison_at s low high (p + 1))
    compared l =
        holds_so {A = At Token} (λ a. Comparison a.value) Next
        (λ a c. grown ts a.value b c.1 (omega (arith, counted_le (comparisons ts) a.value)) (omega (arith, c.0)))
        (comparison_at s low high (p + 1)) (comparison_holds (p + 1))

    needs_holds : (t : Token) → TokenFits t → counted (comparisons ts) t ≤ most_comparisons → Holds Next (needs ts (wants t) t p)
    needs_holds t fit few =
        cond_holds Next (leb (wants t) (height ts)) _ _ (λ e. grown ts t b fit few (leb-true (wants t) (height ts) e)) (λ e. tt)

    token_holds : Holds Next (token_at s low high ts p)
    unfolding token_at
    token_holds =
        then_holds (Between 1 (up_to 4)) Next (byte s 6 1 (up_to 4) p) _ (byte_holds s 6 1 (up_to 4) p) λ t q h.
        cond_holds Next (eqb t 1) _ _
        (λ e. cond_holds Next (ltb (comparisons ts) most_comparisons) _ _ (λ f. compared (ltb-true (comparisons ts) most_comparisons f)) (λ f. tt))
        (λ e. cond_holds Next (eqb t 2) _ _ (λ f. needs_holds both (tt, tt) b.few)
        (λ e. cond_holds Next (eqb t 3) _ _ (λ f. needs_holds either (tt, tt) b.few)
        (λ e. needs_holds negate (tt, tt) b.few)))

  -- what a whole condition guarantees
  pub record Sound (c : Condition) : Type 0 where
    pub ok : ConditionOk c
    pub uses : Uses (Between low high) c

  uses_every : (c : Condition) → Every TokenFits c → Uses (Between low high) c
  uses_every [] h = tt
  uses_every (t ∷ c) h = (h.0.1, uses_every c h.1)

  shaped : (c : Condition) → finished c ≡ true → Built c → Shaped c
  unfolding leaves_one
  shaped [] e b = tt
  shaped (t ∷ ts) e b =
      let c : Condition = t ∷ ts in
      let one : height c ≡ 1 = eqb-true (height c) 1 e in
      let all : leaves_one 0 c ≡ leaves_one (height c) [] = ap (leaves_one 0) (sym (append-nil c)) ∙ b.operands [] in
      subst T (sym (all ∙ ap (λ n. leaves_one n []) one)) tt

  pub condition_holds : (p : ℕ) → Finds Sound (condition_at s low high p)
  unfolding condition_at
  condition_holds p =
      then_holds (Between 0 (up_to most_tokens)) (λ a. Sound a.value) (byte s 4 0 (up_to most_tokens) p) _ (byte_holds s 4 0 (up_to most_tokens) p) λ n p few.
      then_holds (λ ts. Built ts × (length ts ≡ n)) (λ a. Sound a.value) (many (token_at s low high) n [] p) finish
      (many_holds (token_at s low high) Built n (λ ts p l b. token_holds ts b p) n [] p (omega arith) nothing) λ ts p h.
      cond_holds (λ a. Sound a.value) (finished ts) _ _ (λ e. whole ts n e few.1 h.0 h.1) (λ e. tt)
    where
      whole : (ts : Condition) (n : ℕ) → finished ts ≡ true → n < up_to most_tokens → Built ts → length ts ≡ n → Sound ts
      whole ts n e few b l =
          record {
            ok = record {
              shaped = shaped ts e b;
              few_tokens = omega arith;
              few_comparisons = b.few;
              constants = every_map TokenFits TokenOk (λ t h. h.0) ts b.fitting;
            };
            uses = uses_every ts b.fitting;
          }
