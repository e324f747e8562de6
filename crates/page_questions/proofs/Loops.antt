-- Loops over fields of one sort: what is left to read, after those that the array holds, gives the whole answer.
use mathlib.Core.Path.{◌≡◌, sym, ap, ◌∙◌}
use mathlib.Core.List.{List, [], ◌∷◌, ◌++◌, map, map-append}
use Prim.Native.Nat.{ℕ, zero, suc, ◌+◌, ◌-◌, ◌≤◌, ◌<◌}
use native.Mathlib.Omega.{arith}
use native.Mathlib.Numerals.{add-one}
use lib.ListN.{length, take, set, length-set}
use lib.Seq.{take-suc-set}
use Rattle.page_numbers.specs.Outcome.{Outcome, refused}
use Rattle.page_questions.specs.Reader.{At, found, and_then, many}

-- i of n elements stand in the array xs of the given size, each meaning what g says, and the next one starts at q
pub record Going {A B : Type 0} (f : List B → ℕ → Outcome (At B)) (g : A → B) (size n : ℕ) (whole : Outcome (At (List B))) (xs : List A) (i q : ℕ) : Type 0 where
  pub within : i ≤ n
  pub sized : length xs ≡ size
  pub rest : many f (n - i) (map g (take i xs)) q ≡ whole

-- one element more
pub more : {A B : Type 0} (g : A → B) (xs : List A) (i : ℕ) (a : A) → i < length xs → map g (take (i + 1) (set xs i a)) ≡ map g (take i xs) ++ (g a ∷ [])
more g xs i a h = rw (add-one, take-suc-set xs i a h) (map-append g (take i xs) (a ∷ []))

-- before the first element
pub going_start : {A B : Type 0} (f : List B → ℕ → Outcome (At B)) (g : A → B) (size n : ℕ) (xs : List A) (p : ℕ) → length xs ≡ size → Going f g size n (many f n [] p) xs 0 p
going_start f g size n xs p e =
    let z : n - 0 ≡ n = omega arith in
    record { within = omega arith; sized = e; rest = ap (λ k. many f k [] p) z }

module _ {A B : Type 0} (f : List B → ℕ → Outcome (At B)) (g : A → B) (size n : ℕ) (whole : Outcome (At (List B))) (xs : List A) (i q : ℕ) where
  module _ (h : Going f g size n whole xs i q) (l : i < n) where
    -- what is left starts with this field
    pub opened : and_then (f (map g (take i xs)) q) (λ b p. many f (n - (i + 1)) (map g (take i xs) ++ (b ∷ [])) p) ≡ whole
    unfolding many
    opened =
        let e : n - i ≡ suc (n - (i + 1)) = omega arith in
        ap (λ k. many f k (map g (take i xs)) q) (sym e) ∙ h.rest

    -- it was found
    pub going_on : (a : A) (next : ℕ) → n ≤ size → found (g a) next ≡ f (map g (take i xs)) q → Going f g size n whole (set xs i a) (i + 1) next
    going_on a next fit e =
        let inside : i < length xs = omega (arith, h.sized) in
        record {
          within = omega arith;
          sized = length-set xs i a ∙ h.sized;
          rest =
              ap (λ bs. many f (n - (i + 1)) bs next) (more g xs i a inside)
              ∙ ap (λ o. and_then o (λ b p. many f (n - (i + 1)) (map g (take i xs) ++ (b ∷ [])) p)) e
              ∙ opened;
        }

    -- it was refused
    pub going_bad : (m r : ℕ) → refused m r ≡ f (map g (take i xs)) q → refused m r ≡ whole
    going_bad m r e = ap (λ o. and_then o (λ b p. many f (n - (i + 1)) (map g (take i xs) ++ (b ∷ [])) p)) e ∙ opened

  -- all were found
  pub going_end : Going f g size n whole xs i q → n ≤ i → found (map g (take n xs)) q ≡ whole
  unfolding many
  going_end h l =
      let e : i ≡ n = omega (arith, h.within) in
      let z : n - i ≡ zero = omega arith in
      ap (λ k. found (map g (take k xs)) q) (sym e) ∙ ap (λ k. many f k (map g (take i xs)) q) (sym z) ∙ h.rest
