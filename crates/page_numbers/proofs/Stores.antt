-- Four stores in a row, and that what was written is read back.
use mathlib.Core.Path.{◌≡◌, ap, ◌∙◌, subst}
use mathlib.Core.List.{List, [], ◌∷◌, ◌++◌}
use Prim.Native.Nat.{ℕ, ◌+◌, ◌*◌, ◌/◌, ◌%◌, ◌^◌, ◌≤◌, ◌<◌}
use native.Mathlib.Nat.{add-zero, div-div-eq-div-mul, mod-eq_of_lt}
use native.Mathlib.Numerals.{add-one, add-two, add-three}
use native.Mathlib.Omega.{arith}
use lib.Dec.{lit<}
use lib.IntN.{ℤ}
use lib.ListN.{length, get_or, take, drop, set, length-append, get_or-append}
use lib.Seq.{sets-eq, get_or-append-add, length-take-le}
use mir.Syntax.{w32}
use mir.Val.{SFits, to_z, of_z}
use mir.Facts.{to_z-of_z, Fits-of_z}
use Rattle.page_numbers.specs.Bytes.{le32, int32, bytes4, put32}

pub four_stores : (s : List ℕ) (p a b c d : ℕ) → p + 4 ≤ length s → set (set (set (set s p a) (p + 1) b) (p + 2) c) (p + 3) d ≡ take p s ++ (a ∷ b ∷ c ∷ d ∷ []) ++ drop (p + 4) s
four_stores s p a b c d h = simp (add-one, add-two, add-three) (sets-eq (a ∷ b ∷ c ∷ d ∷ []) s p h)

-- an element of what was put in the middle
in_middle : (P X R : List ℕ) (p k : ℕ) → length P ≡ p → k < length X → get_or (P ++ X ++ R) (p + k) 0 ≡ get_or X k 0
in_middle P X R p k e h =
    get_or-append (P ++ X) R 0 (p + k) (omega (arith, length-append P X))
    ∙ subst (λ (n : ℕ). get_or (P ++ X) (n + k) 0 ≡ get_or X k 0) e (get_or-append-add P X k 0)

four_read : (n : ℕ) → n < 2 ^ 32 → n % 256 + 256 * (n / 256 % 256) + 65536 * (n / 65536 % 256) + 16777216 * (n / 16777216 % 256) ≡ n
four_read n h =
    let top : n / 16777216 < 256 = omega arith in
    omega
    (arith, div-div-eq-div-mul n 256 256, div-div-eq-div-mul n 65536 256, mod-eq_of_lt top)

pub read_put : (s : List ℕ) (p : ℕ) (z : ℤ) → p ≤ length s → SFits w32 z → int32 (put32 s p z) p ≡ z
unfolding int32 put32 le32 bytes4
read_put s p z h f =
    let n = of_z w32 z in
    let P = take p s in
    let X = n % 256 ∷ n / 256 % 256 ∷ n / 65536 % 256 ∷ n / 16777216 % 256 ∷ [] in
    let R = drop (p + 4) s in
    let e = length-take-le p s h in
    let same : le32 (P ++ X ++ R) p ≡ n =
    cc (
      in_middle P X R p 0 e (lit< tt),
      add-zero p,
      in_middle P X R p 1 e (lit< tt),
      in_middle P X R p 2 e (lit< tt),
      in_middle P X R p 3 e (lit< tt),
      four_read n (Fits-of_z f).fits,
    ) in
    ap (to_z w32) same ∙ to_z-of_z f
