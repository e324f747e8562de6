-- The mark and the version.
use Rattle.std.specs.Prelude.{ℕ, zero, suc, ◌≤◌, ◌≡◌, true, false, ◌&&◌, List, [], ◌∷◌, eqb, length}
use Rattle.std.specs.List.{starts_with}
use Rattle.std.proofs.lemmas.Bool.Decides.{nat_tests}
use mathlib.Core.Path.{refl}
use native.Mathlib.Omega.{arith}
use borrow.Author.Tests.{le-leb, le-ltb}
use Rattle.page_questions.specs.Reader.{marked, versioned}

turned : (a b c : ℕ) → (eqb 86 a && (eqb 85 b && (eqb 81 c && true))) ≡ (eqb a 86 && eqb b 85 && eqb c 81)
turned a b c = grind (arith, nat_tests)

pub mark_is : (s : List ℕ) → 3 ≤ length s → starts_with eqb s (86 ∷ 85 ∷ 81 ∷ []) ≡ marked s
mark_is [] h = absurd (omega arith)
mark_is (a ∷ []) h = absurd (omega arith)
mark_is (a ∷ b ∷ []) h = absurd (omega arith)
mark_is (a ∷ b ∷ c ∷ s) h = turned a b c

pub version_unknown : (n : ℕ) → (n ≡ 1 → ⊥) → (n ≡ 2 → ⊥) → versioned n ≡ false
version_unknown zero h k = refl
version_unknown (suc zero) h k = absurd (h refl)
version_unknown (suc (suc zero)) h k = absurd (k refl)
version_unknown (suc (suc (suc n))) h k = rw (le-leb 1 (suc (suc (suc n))) (omega arith), le-ltb (suc (suc (suc n))) 3 (omega arith)) refl
