-- Each piece of the reader gives the first fault of its fields.
use mathlib.Core.Path.{◌≡◌, refl, sym, ap, ◌∙◌}
use mathlib.Core.Bool.{Bool, true, false, cond, ◌&&◌, ◌||◌, true≢false}
use mathlib.Core.List.{List, [], ◌∷◌}
use Prim.Native.Nat.{ℕ, suc, ◌+◌, ◌-◌}
use native.Mathlib.Omega.{arith}
use borrow.Author.Tests.{ltb-true, leb-true, leb-false, eqb-true, eqb-false}
use lib.Dec.{ltb, leb, eqb}
use lib.ListN.{length, get_or, get_or-eq_default}
use Rattle.page_numbers.specs.Outcome.{Outcome, refused}
use Rattle.page_numbers.specs.Bytes.{int32}
use Rattle.page_meaning.specs.Limits.{most_columns, most_tokens, most_comparisons}
use Rattle.page_meaning.specs.Condition.{Token, both, either, negate, Condition}
use Rattle.page_meaning.specs.Contents.{Range, Values}
use Rattle.page_questions.specs.Layout.{Column, total}
use Rattle.page_questions.specs.Reader as R
use Rattle.page_questions.specs.Reader.{At, found, and_then, byte, int, up_to, none, height, comparisons, needs}
use Rattle.page_questions.specs.Fields.{Field, token_count, token, op, constant, column, right_column, seventh, operands, lo, hi, visible, finish, sizes, laid, runs, width_fields, column_fields, comparison_fields, token_fields, condition_fields, value_fields}
use Rattle.page_questions.specs.Faults.{as_said, within}
use Rattle.page_questions.proofs.StepFaults.{judge, at, Agrees, agrees_then, agrees_many, field_then, test_first, byte_is}

module _ (s : List ℕ) where
  pub width_agrees : (ws : List ℕ) (p : ℕ) → Agrees s p (width_fields s ws p) (R.width_at most_columns s ws p)
  unfolding judge sizes as_said
  width_agrees ws p = byte_is s 4 1 (up_to (most_columns - total ws)) p

  pub value_agrees : (gs : List Range) (vs : Values) (p : ℕ) → Agrees s p (value_fields s gs vs p) (R.value_at s gs vs p)
  unfolding judge sizes as_said int
  value_agrees gs vs p = refl

  pub column_agrees : (p : ℕ) → Agrees s p (column_fields s p) (R.column_at s p)
  unfolding judge sizes as_said int R.column_at
  column_agrees p =
      let c : Column = (column_fields s p).value in
      field_then s p lo (hi (int32 s p) ∷ visible ∷ []) (int32 s p) (at c (p + 4 + 4 + 1)) _ _ refl
      (field_then s (p + 4) (hi (int32 s p)) (visible ∷ []) (int32 s (p + 4)) (at c (p + 4 + 4 + 1)) _ _ refl
      (field_then s (p + 4 + 4) visible [] (get_or s (p + 4 + 4) 0) (at c (p + 4 + 4 + 1)) _ _ (byte_is s 4 0 (up_to 1) (p + 4 + 4)) refl))
      ∙ ap (λ n. judge s p (lo ∷ hi (int32 s p) ∷ visible ∷ []) (at c n)) (omega arith)

  -- ---- conditions

  -- a byte that isn't 0 is there
  there : (p b : ℕ) → get_or s p 0 ≡ suc b → leb (p + 1) (length s) ≡ true
  there p b e = go (leb (p + 1) (length s)) refl
    where
      go : (t : Bool) → leb (p + 1) (length s) ≡ t → leb (p + 1) (length s) ≡ true
      go true f = f
      go false f = absurd (omega (arith, e, get_or-eq_default s 0 {n = p} (omega (arith, leb-false (p + 1) (length s) f))))

  module _ (low high : ℕ) where
    right_agrees : (p : ℕ) → R.right_at s low high p ≡ judge s p (right_column low high ∷ []) (at (get_or s p 0) (p + 1))
    unfolding judge as_said
    right_agrees p = go (eqb (get_or s p 0) none) refl
      where
        rest : Bool → Outcome (At ℕ)
        rest t = cond (leb (p + 1) (length s)) (cond (t || within low high (get_or s p 0)) (found (get_or s p 0) (p + 1)) (refused 7 p)) (refused 1 p)

        go : (t : Bool) → eqb (get_or s p 0) none ≡ t → cond t (found none (p + 1)) (byte s 7 low high p) ≡ rest t
        go true e =
            let b : get_or s p 0 ≡ none = eqb-true (get_or s p 0) none e in
            ap (λ n. found n (p + 1)) (sym b) ∙ ap (λ t. cond t (found (get_or s p 0) (p + 1)) (refused 1 p)) (sym (there p 254 b))
        go false e = byte_is s 7 low high p

    -- the fields of a comparison that follow its token byte
    comparison_agrees : (ts : Condition) (p : ℕ)
        → R.comparison_at s low high (p + 1) ≡ judge s (p + 1) (op ∷ column low high ∷ right_column low high ∷ constant ∷ []) (at (comparison_fields s low high ts p).value (p + 1 + 1 + 1 + 1 + 4))
    unfolding judge as_said int R.comparison_at
    comparison_agrees ts p =
        let t : At Token = at (comparison_fields s low high ts p).value (p + 1 + 1 + 1 + 1 + 4) in
        field_then s (p + 1) op (column low high ∷ right_column low high ∷ constant ∷ []) (get_or s (p + 1) 0) t _ _ (byte_is s 6 1 (up_to 6) (p + 1))
        (field_then s (p + 1 + 1) (column low high) (right_column low high ∷ constant ∷ []) (get_or s (p + 1 + 1) 0) t _ _ (byte_is s 7 low high (p + 1 + 1))
        (field_then s (p + 1 + 1 + 1) (right_column low high) (constant ∷ []) (get_or s (p + 1 + 1 + 1) 0) t _ _ (right_agrees (p + 1 + 1 + 1))
        (field_then s (p + 1 + 1 + 1 + 1) constant [] (int32 s (p + 1 + 1 + 1 + 1)) t _ _ refl refl)))

    module _ (ts : Condition) (p : ℕ) where
      abbrev b : ℕ
      b = get_or s p 0

      -- a known token
      module _ (k : ℕ) (e : b ≡ suc k) (known : within 1 (up_to 4) (suc k) ≡ true) where
        is_known : within 1 (up_to 4) b ≡ true
        is_known = ap (within 1 (up_to 4)) e ∙ known

        known_token : R.token_at s low high ts p ≡ R.token_of s low high ts p (suc k)
        unfolding R.token_at
        known_token =
            ap (λ o. and_then o (λ t q. R.token_of s low high ts p t)) (byte_is s 6 1 (up_to 4) p)
            ∙ ap (λ w. and_then (cond w (cond (within 1 (up_to 4) b) (found b (p + 1)) (refused 6 p)) (refused 1 p)) (λ t q. R.token_of s low high ts p t)) (there p k e)
            ∙ ap (λ w. and_then (cond w (found b (p + 1)) (refused 6 p)) (λ t q. R.token_of s low high ts p t)) is_known
            ∙ ap (λ t. R.token_of s low high ts p t) e

        known_field : {A : Type 0} (gs : List Field) (a : A) → judge s (p + 1) gs a ≡ judge s p (token ∷ gs) a
        unfolding judge as_said
        known_field gs a =
            ap (λ w. cond w (judge s (p + 1) gs a) (refused 6 p)) (sym is_known)
            ∙ ap (λ w. cond w (cond (within 1 (up_to 4) b) (judge s (p + 1) gs a) (refused 6 p)) (refused 1 p)) (sym (there p k e))

        -- a token that takes m values
        operand_agrees : (t : Token) (m : ℕ) → R.token_of s low high ts p (suc k) ≡ needs ts m t p → Agrees s p (laid (operands m (height ts) ∷ token ∷ []) t) (R.token_at s low high ts p)
        unfolding judge sizes as_said
        operand_agrees t m h =
            known_token ∙ h
            ∙ ap (λ o. cond (leb m (height ts)) o (refused 6 p)) (known_field [] (at t (p + 1)))
            ∙ sym (test_first s p (operands m (height ts)) (token ∷ []) (at t (p + 1)) refl)

      compare_agrees : b ≡ 1 → Agrees s p (comparison_fields s low high ts p) (R.token_at s low high ts p)
      unfolding sizes as_said
      compare_agrees e =
          let fs : List Field = op ∷ column low high ∷ right_column low high ∷ constant ∷ [] in
          let t : Token = (comparison_fields s low high ts p).value in
          known_token 0 e refl
          ∙ ap (λ o. cond (ltb (comparisons ts) most_comparisons) o (refused 4 p)) (comparison_agrees ts p ∙ known_field 0 e refl fs (at t (p + 1 + 1 + 1 + 1 + 4)))
          ∙ sym (test_first s p (seventh (comparisons ts)) (token ∷ fs) (at t (p + 1 + 1 + 1 + 1 + 4)) refl)
          ∙ ap (λ n. judge s p (seventh (comparisons ts) ∷ token ∷ fs) (at t n)) (omega arith)

      unknown_agrees : within 1 (up_to 4) b ≡ false → Agrees s p (laid (token ∷ []) negate) (R.token_at s low high ts p)
      unfolding judge sizes as_said R.token_at
      unknown_agrees e =
          ap (λ o. and_then o (λ t q. R.token_of s low high ts p t)) (byte_is s 6 1 (up_to 4) p)
          ∙ go (leb (p + 1) (length s)) (within 1 (up_to 4) b) e
        where
          go : (w t : Bool) → t ≡ false
              → and_then (cond w (cond t (found b (p + 1)) (refused 6 p)) (refused 1 p)) (λ t q. R.token_of s low high ts p t) ≡ cond w (cond t (found negate (p + 1)) (refused 6 p)) (refused 1 p)
          go true true f = absurd (true≢false f)
          go true false f = refl
          go false t f = refl

      none_of : eqb b 1 ≡ false → eqb b 2 ≡ false → eqb b 3 ≡ false → eqb b 4 ≡ false → within 1 (up_to 4) b ≡ false
      none_of e f g h = go (leb 1 b) (ltb b 5) refl refl
        where
          go : (t u : Bool) → leb 1 b ≡ t → ltb b 5 ≡ u → (t && u) ≡ false
          go true true x y =
              absurd (omega (arith, leb-true 1 b x, ltb-true b 5 y, eqb-false b 1 e, eqb-false b 2 f, eqb-false b 3 g, eqb-false b 4 h))
          go true false x y = refl
          go false u x y = refl

      token_agrees : Agrees s p (token_fields s low high ts p) (R.token_at s low high ts p)
      token_agrees = go (eqb b 1) (eqb b 2) (eqb b 3) (eqb b 4) refl refl refl refl
        where
          go : (t u v w : Bool) → eqb b 1 ≡ t → eqb b 2 ≡ u → eqb b 3 ≡ v → eqb b 4 ≡ w
              → Agrees s p (cond t (comparison_fields s low high ts p)
              (cond u (laid (operands 2 (height ts) ∷ token ∷ []) both)
              (cond v (laid (operands 2 (height ts) ∷ token ∷ []) either)
              (cond w (laid (operands 1 (height ts) ∷ token ∷ []) negate)
              (laid (token ∷ []) negate))))) (R.token_at s low high ts p)
          go true u v w e f g h = compare_agrees (eqb-true b 1 e)
          go false true v w e f g h = operand_agrees 1 (eqb-true b 2 f) refl both 2 refl
          go false false true w e f g h = operand_agrees 2 (eqb-true b 3 g) refl either 2 refl
          go false false false true e f g h = operand_agrees 3 (eqb-true b 4 h) refl negate 1 refl
          go false false false false e f g h = unknown_agrees (none_of e f g h)

    pub condition_agrees : (p : ℕ) → Agrees s p (condition_fields s low high p) (R.condition_at s low high p)
    unfolding condition_fields R.condition_at judge sizes as_said
    condition_agrees p =
        agrees_then s p (laid (token_count ∷ []) (get_or s p 0)) _ (byte_is s 4 0 (up_to most_tokens) p) _ _
        (agrees_then s (p + 1) (runs (token_fields s low high) (get_or s p 0) [] (p + 1)) _
        (agrees_many s (R.token_at s low high) (token_fields s low high) token_agrees (get_or s p 0) [] (p + 1)) R.finish (λ ts p. laid (finish ts ∷ []) ts)
        (finish_agrees (runs (token_fields s low high) (get_or s p 0) [] (p + 1)).value _))
      where
        finish_agrees : (ts : Condition) (p : ℕ) → Agrees s p (laid (finish ts ∷ []) ts) (R.finish ts p)
        finish_agrees ts p = ap (λ n. cond (R.finished ts) (found ts n) (refused 6 p)) (omega arith)
