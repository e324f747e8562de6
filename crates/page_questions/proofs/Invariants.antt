-- What holds of everything that is read: one law for each way in which readers are put together.
use mathlib.Core.Path.{◌≡◌, refl, sym, subst}
use mathlib.Core.Bool.{Bool, true, false, cond, ◌&&◌, false≢true}
use mathlib.Core.List.{List, [], ◌∷◌, ◌++◌}
use Prim.Native.Nat.{ℕ, zero, suc, ◌+◌, ◌≤◌, ◌<◌}
use native.Mathlib.Omega.{arith}
use borrow.Author.Tests.{ltb-true, leb-true}
use lib.Dec.{T, ltb, leb}
use lib.ListN.{length, get_or, length-append}
use lib.IntN.{ℤ}
use lib.Signed.{le_z, ◌≤ℤ◌, le_z_yes}
use Rattle.page_numbers.specs.Outcome.{Outcome, good, refused}
use Rattle.page_numbers.specs.Bytes.{int32}
use Rattle.page_questions.specs.Reader.{At, and_then, many, byte, int}

-- P of what was read, if it was
abbrev pub Holds : {A : Type 0} → (A → Type 0) → Outcome A → Type 0
Holds P (good a) = P a
Holds P (refused n p) = Unit {0}

-- P of what some fields hold
abbrev pub Finds : {A : Type 0} → (A → Type 0) → Outcome (At A) → Type 0
Finds P o = Holds (λ a. P a.value) o

pub then_holds : {A B : Type 0} (P : A → Type 0) (Q : B → Type 0) (o : Outcome (At A)) (f : A → ℕ → Outcome B)
    → Finds P o → ((a : A) (p : ℕ) → P a → Holds Q (f a p)) → Holds Q (and_then o f)
then_holds P Q (good a) f h k = k a.value a.next h
then_holds P Q (refused n p) f h k = tt

pub holds_so : {A : Type 0} (P Q : A → Type 0) → ((a : A) → P a → Q a) → (o : Outcome A) → Holds P o → Holds Q o
holds_so P Q f (good a) h = f a h
holds_so P Q f (refused n p) h = tt

-- a test, and what it shows where it passes
pub cond_holds : {A : Type 0} (P : A → Type 0) (b : Bool) (x y : Outcome A) → (b ≡ true → Holds P x) → (b ≡ false → Holds P y) → Holds P (cond b x y)
cond_holds P true x y f g = f refl
cond_holds P false x y f g = g refl

pub both_true : (a b : Bool) → (a && b) ≡ true → (a ≡ true) × (b ≡ true)
both_true true b e = (refl, e)
both_true false b e = absurd (false≢true e)

-- a byte is from low on and below high
abbrev pub Between : ℕ → ℕ → ℕ → Type 0
Between low high x = (low ≤ x) × (x < high)

pub byte_holds : (s : List ℕ) (n low high p : ℕ) → Finds (Between low high) (byte s n low high p)
unfolding byte
byte_holds s n low high p =
    cond_holds (λ a. Between low high a.value) (ltb p (length s)) _ _
    (λ t. cond_holds (λ a. Between low high a.value) (leb low (get_or s p 0) && ltb (get_or s p 0) high) _ _
    (λ t. let h = both_true _ _ t in (leb-true low (get_or s p 0) h.0, ltb-true (get_or s p 0) high h.1))
    (λ t. tt))
    (λ t. tt)

-- a number is lo to hi
abbrev pub Inside : ℤ → ℤ → ℤ → Type 0
Inside lo hi k = (lo ≤ℤ k) × (k ≤ℤ hi)

passed : {b : Bool} → b ≡ true → T b
passed e = subst T (sym e) tt

pub int_holds : (s : List ℕ) (n : ℕ) (lo hi : ℤ) (p : ℕ) → Finds (Inside lo hi) (int s n lo hi p)
unfolding int
int_holds s n lo hi p =
    cond_holds (λ a. Inside lo hi a.value) (leb (p + 4) (length s)) _ _
    (λ t. cond_holds (λ a. Inside lo hi a.value) (le_z lo (int32 s p) && le_z (int32 s p) hi) _ _
    (λ t. let h = both_true (le_z lo (int32 s p)) (le_z (int32 s p) hi) t in (le_z_yes (passed h.0), le_z_yes (passed h.1)))
    (λ t. tt))
    (λ t. tt)

-- k fields more, of n in all: what holds of those before a field and of the field itself holds after it
module _ {A : Type 0} (f : List A → ℕ → Outcome (At A)) (P : List A → Type 0) (n : ℕ)
    (each : (done : List A) (p : ℕ) → length done < n → P done → Finds (λ a. P (done ++ (a ∷ []))) (f done p)) where
  pub many_holds : (k : ℕ) (done : List A) (p : ℕ) → length done + k ≡ n → P done → Finds (λ l. P l × (length l ≡ n)) (many f k done p)
  unfolding many
  many_holds zero done p e h = (h, omega arith)
  many_holds (suc k) done p e h =
      then_holds (λ a. P (done ++ (a ∷ []))) (λ l. P l.value × (length l.value ≡ n)) (f done p) _ (each done p (omega arith) h)
      (λ a q g. many_holds k (done ++ (a ∷ [])) q (simp length-append (omega arith)) g)
