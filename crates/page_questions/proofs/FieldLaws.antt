-- What a field gives: too short, wrong, or right. These laws serve every field.
use mathlib.Core.Path.{◌≡◌, refl}
use mathlib.Core.Bool.{Bool, true, false, cond, ◌&&◌}
use mathlib.Core.List.{List}
use Prim.Native.Nat.{ℕ, ◌+◌, ◌≤◌, ◌<◌}
use borrow.Author.Tests.{lt-ltb, le-ltb, le-leb, lt-leb, ltb-true, leb-true}
use lib.Dec.{ltb, leb}
use lib.ListN.{get_or, length}
use lib.IntN.{ℤ}
use lib.Signed.{le_z, lt_z}
use native.Mathlib.Omega.{arith}
use Rattle.page_numbers.specs.Outcome.{refused}
use Rattle.page_numbers.proofs.Machine.{machine}
use Rattle.page_numbers.specs.Bytes.{int32}
use Rattle.page_questions.proofs.Steps.{same_found, not_both}
use Rattle.page_questions.specs.Reader.{found, byte, int}

module _ (s : List ℕ) (n low high p : ℕ) where
  pub short : length s ≤ p → refused 1 p ≡ byte s n low high p
  unfolding byte
  short h = simp (le-ltb p (length s) h)

  pub below : p < length s → get_or s p 0 < low → refused n p ≡ byte s n low high p
  unfolding byte
  below h l = simp (lt-ltb p (length s) h, lt-leb low (get_or s p 0) l)

  pub above : p < length s → low ≤ get_or s p 0 → high ≤ get_or s p 0 → refused n p ≡ byte s n low high p
  unfolding byte
  above h l g = simp (lt-ltb p (length s) h, le-leb low (get_or s p 0) l, le-ltb (get_or s p 0) high g)

  pub within : p < length s → low ≤ get_or s p 0 → get_or s p 0 < high → found (get_or s p 0) (p + 1) ≡ byte s n low high p
  unfolding byte
  within h l g = simp (lt-ltb p (length s) h, le-leb low (get_or s p 0) l, lt-ltb (get_or s p 0) high g)

  -- a byte that was found is as asked, and stands there
  pub is_within : (x q : ℕ) → found x q ≡ byte s n low high p → (low ≤ x) × (x < high) × (p < length s) × (q ≡ p + 1)
  unfolding byte
  is_within x q = go (ltb p (length s)) (leb low (get_or s p 0)) (ltb (get_or s p 0) high) refl refl refl
    where
      go : (a b c : Bool) → ltb p (length s) ≡ a → leb low (get_or s p 0) ≡ b → ltb (get_or s p 0) high ≡ c
          → found x q ≡ cond a (cond (b && c) (found (get_or s p 0) (p + 1)) (refused n p)) (refused 1 p)
          → (low ≤ x) × (x < high) × (p < length s) × (q ≡ p + 1)
      go true true true f g h e =
          let same = same_found e in
          (omega (arith, leb-true low (get_or s p 0) g, same.0), omega (arith, ltb-true (get_or s p 0) high h, same.0), ltb-true p (length s) f, same.1)
      go true true false f g h e = absurd (not_both e)
      go true false c f g h e = absurd (not_both e)
      go false b c f g h e = absurd (not_both e)

module _ (s : List ℕ) (n : ℕ) (lo hi : ℤ) (p : ℕ) where
  pub int_short : length s < p + 4 → refused 1 p ≡ int s n lo hi p
  unfolding int
  int_short h = simp (lt-leb (p + 4) (length s) h)

  -- v is the number that stands there
  module _ (v : ℤ) (whole : p + 4 ≤ length s) (e : v ≡ int32 s p) where
    pub int_low : lt_z v lo ≡ true → refused n p ≡ int s n lo hi p
    unfolding int
    int_low l =
        let g : le_z lo v ≡ false = omega (arith, machine) in
        simp (le-leb (p + 4) (length s) whole, ← e, g)

    pub int_high : lt_z v lo ≡ false → lt_z hi v ≡ true → refused n p ≡ int s n lo hi p
    unfolding int
    int_high l h =
        let g : le_z lo v ≡ true = omega (arith, machine) in
        let k : le_z v hi ≡ false = omega (arith, machine) in
        simp (le-leb (p + 4) (length s) whole, ← e, g, k)

    pub int_right : lt_z v lo ≡ false → lt_z hi v ≡ false → found v (p + 4) ≡ int s n lo hi p
    unfolding int
    int_right l h =
        let g : le_z lo v ≡ true = omega (arith, machine) in
        let k : le_z v hi ≡ true = omega (arith, machine) in
        simp (le-leb (p + 4) (length s) whole, ← e, g, k)
