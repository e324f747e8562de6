-- Two inputs that agree as far as a question can go: their fields and their conditions are read alike, each within its bytes.
use mathlib.Core.Path.{◌≡◌, refl, ap₂, subst, ◌∙◌}
use mathlib.Core.Bool.{Bool, true, false, cond, ◌&&◌}
use mathlib.Core.List.{List, [], ◌∷◌, ◌++◌, foldl-append}
use Prim.Native.Nat.{ℕ, zero, suc, ◌+◌, ◌-◌, ◌*◌, ◌≤◌, ◌<◌}
use native.Mathlib.Omega.{arith}
use borrow.Author.Tests.{ltb-true, leb-true}
use lib.Dec.{ltb, leb, eqb}
use lib.ListN.{length, get_or, take}
use lib.IntN.{ℤ, neg_ℤ}
use lib.Signed.{le_z}
use Rattle.page_numbers.specs.Outcome.{Outcome, good, refused}
use Rattle.page_numbers.specs.Bytes.{le32, int32}
use Rattle.page_meaning.specs.Limits.{most_tokens, most_comparisons}
use Rattle.page_meaning.specs.Condition.{Condition, Token, both, either, negate}
use Rattle.page_questions.specs.Layout.{total, width_of}
use Rattle.page_questions.specs.Lengths.{longest_condition, longest}
use Rattle.page_questions.specs.Reader.{At, found, and_then, many, byte, int, up_to, none, farthest, largest, constant_at, column_at, right_at, comparison_at, needs, counted, comparisons, height, token_at, finish, finished, condition_at}
use Rattle.page_questions.specs.Guarantees.{Every}
use Rattle.page_questions.proofs.Invariants.{Holds, holds_so, cond_holds, Between}

-- ---- two readings that come to the same, and what holds of it

abbrev pub Twin : {A : Type 0} → (A → Type 0) → Outcome A → Outcome A → Type 0
Twin P o o' = (o ≡ o') × Holds P o

pub twin_then : {A B : Type 0} (P : At A → Type 0) (Q : B → Type 0) (o o' : Outcome (At A)) (f f' : A → ℕ → Outcome B)
    → Twin P o o' → ((a : At A) → P a → Twin Q (f a.value a.next) (f' a.value a.next)) → Twin Q (and_then o f) (and_then o' f')
twin_then P Q o o' f f' t k = subst (λ x. Twin Q (and_then o f) (and_then x f')) t.0 (go o t.1)
  where
    go : (o : Outcome (At _)) → Holds P o → Twin Q (and_then o f) (and_then o f')
    go (good a) h = k a h
    go (refused n p) h = (refl, tt)

pub twin_cond : {A : Type 0} (P : A → Type 0) (b : Bool) (x x' y y' : Outcome A) → (b ≡ true → Twin P x x') → (b ≡ false → Twin P y y') → Twin P (cond b x y) (cond b x' y')
twin_cond P true x x' y y' f g = f refl
twin_cond P false x x' y y' f g = g refl

pub twin_so : {A : Type 0} (P Q : A → Type 0) (o o' : Outcome A) → ((a : A) → P a → Q a) → Twin P o o' → Twin Q o o'
twin_so P Q o o' f t = (t.0, holds_so P Q f o t.1)

-- fields of one sort: what holds with k of them left
module _ {A : Type 0} (f f' : List A → ℕ → Outcome (At A)) (I : ℕ → List A → ℕ → Type 0)
    (each : (k : ℕ) (done : List A) (p : ℕ) → I (suc k) done p → Twin (λ a. I k (done ++ (a.value ∷ [])) a.next) (f done p) (f' done p)) where
  pub twin_many : (k : ℕ) (done : List A) (p : ℕ) → I k done p → Twin (λ a. I 0 a.value a.next) (many f k done p) (many f' k done p)
  unfolding many
  twin_many zero done p h = (refl, h)
  twin_many (suc k) done p h =
      twin_then (λ a. I k (done ++ (a.value ∷ [])) a.next) _ (f done p) (f' done p) _ _ (each k done p h) λ a g. twin_many k (done ++ (a.value ∷ [])) a.next g

-- ---- sums

-- k times so many bytes
unfoldable pub times : ℕ → ℕ → ℕ
times zero c = 0
times (suc k) c = c + times k c

pub short_take : {A : Type 0} (n : ℕ) (l : List A) → length (take n l) ≤ n
short_take zero l = omega arith
short_take (suc n) [] = omega arith
short_take (suc n) (a ∷ l) = omega (arith, short_take n l)

pub some_each : (ws : List ℕ) → Every (λ w. 1 ≤ w) ws → length ws ≤ total ws
unfolding total
some_each [] h = omega arith
some_each (w ∷ ws) h = omega (arith, h.0, some_each ws h.1)

-- a table and one column for each other
pub width_beside : (ws : List ℕ) (i : ℕ) → Every (λ w. 1 ≤ w) ws → width_of ws i + length ws ≤ total ws + 1
unfolding total
width_beside [] i h = omega arith
width_beside (w ∷ ws) zero h = omega (arith, some_each ws h.1)
width_beside (w ∷ ws) (suc i) h = omega (arith, h.0, width_beside ws i h.1)

-- ---- inputs that agree on so many bytes as a question can have, and one more

pub record Same (s t : List ℕ) : Type 0 where
  pub entry : (p : ℕ) → p ≤ longest → get_or s p 0 ≡ get_or t p 0
  pub more : (p : ℕ) → p ≤ longest → ltb p (length s) ≡ ltb p (length t)
  pub whole : (p : ℕ) → p ≤ suc longest → leb p (length s) ≡ leb p (length t)

module _ (s t : List ℕ) (same : Same s t) where
  pub byte_twin : (n low high p : ℕ) → p ≤ longest → Twin (λ a. Between low high a.value × (a.next ≡ p + 1)) (byte s n low high p) (byte t n low high p)
  unfolding byte
  byte_twin n low high p l = (
    ap₂ (λ b v. cond b (cond (leb low v && ltb v high) (found v (p + 1)) (refused n p)) (refused 1 p)) (same.more p l) (same.entry p l),
    cond_holds (λ a. Between low high a.value × (a.next ≡ p + 1)) (ltb p (length s)) _ _
        (λ e. cond_holds (λ a. Between low high a.value × (a.next ≡ p + 1)) (leb low (get_or s p 0) && ltb (get_or s p 0) high) _ _ (λ d. (inside d, refl)) (λ d. tt))
        (λ e. tt),
  )
    where
      inside : (leb low (get_or s p 0) && ltb (get_or s p 0) high) ≡ true → Between low high (get_or s p 0)
      inside d = go (leb low (get_or s p 0)) refl d
        where
          go : (b : Bool) → leb low (get_or s p 0) ≡ b → (b && ltb (get_or s p 0) high) ≡ true → Between low high (get_or s p 0)
          go true e d = (leb-true low (get_or s p 0) e, ltb-true (get_or s p 0) high d)
          go false e d = absurd (let z : ◌≡◌ {A = ℕ} 0 1 = cc in omega arith)

  int_same : (p : ℕ) → p + 4 ≤ suc longest → int32 s p ≡ int32 t p
  unfolding int32 le32
  int_same p l = rw (same.entry p (omega arith), same.entry (p + 1) (omega arith), same.entry (p + 2) (omega arith), same.entry (p + 3) (omega arith)) refl

  pub int_twin : (n : ℕ) (lo hi : ℤ) (p : ℕ) → p + 4 ≤ suc longest → Twin (λ a. a.next ≡ p + 4) (int s n lo hi p) (int t n lo hi p)
  unfolding int
  int_twin n lo hi p l = (
    ap₂ (λ b v. cond b (cond (le_z lo v && le_z v hi) (found v (p + 4)) (refused n p)) (refused 1 p)) (same.whole (p + 4) l) (int_same p l),
    cond_holds (λ a. a.next ≡ p + 4) (leb (p + 4) (length s)) _ _
        (λ e. cond_holds (λ a. a.next ≡ p + 4) (le_z lo (int32 s p) && le_z (int32 s p) hi) _ _ (λ d. refl) (λ d. tt))
        (λ e. tt),
  )

  pub column_twin : (p : ℕ) → p + 9 ≤ suc longest → Twin (λ a. a.next ≡ p + 9) (column_at s p) (column_at t p)
  unfolding column_at
  column_twin p l =
      twin_then (λ a. a.next ≡ p + 4) _ (int s 5 (neg_ℤ farthest) farthest p) (int t 5 (neg_ℤ farthest) farthest p) _ _ (int_twin 5 (neg_ℤ farthest) farthest p (omega arith)) λ lo d.
      twin_then (λ a. a.next ≡ p + 8) _ (int s 5 lo.value farthest lo.next) (int t 5 lo.value farthest lo.next) _ _
      (twin_so (λ a. a.next ≡ lo.next + 4) (λ a. a.next ≡ p + 8) _ _ (λ a e. omega arith) (int_twin 5 lo.value farthest lo.next (omega arith))) λ hi e.
      twin_then (λ a. a.next ≡ p + 9) _ (byte s 4 0 (up_to 1) hi.next) (byte t 4 0 (up_to 1) hi.next) _ _
      (twin_so (λ a. Between 0 (up_to 1) a.value × (a.next ≡ hi.next + 1)) (λ a. a.next ≡ p + 9) _ _ (λ a f. omega (arith, f.1)) (byte_twin 4 0 (up_to 1) hi.next (omega arith))) λ v f.
      (refl, f)

  -- ---- conditions

  module _ (low high : ℕ) where
    right_twin : (p : ℕ) → p ≤ longest → Twin (λ a. a.next ≡ p + 1) (right_at s low high p) (right_at t low high p)
    right_twin p l =
        subst (λ v. Twin (λ a. a.next ≡ p + 1) (right_at s low high p) (cond (eqb v none) (found none (p + 1)) (byte t 7 low high p))) (same.entry p l)
        (twin_cond (λ a. a.next ≡ p + 1) (eqb (get_or s p 0) none) _ _ _ _ (λ e. (refl, refl)) (λ e. twin_so (λ a. Between low high a.value × (a.next ≡ p + 1)) (λ a. a.next ≡ p + 1) _ _ (λ a f. f.1) (byte_twin 7 low high p l)))

    -- a comparison, seven bytes after its token
    abbrev Compared : ℕ → At Token → Type 0
    Compared p a = (a.next ≡ p + 7) × ((n : ℕ) → counted n a.value ≡ n + 1)

    comparison_twin : (p : ℕ) → p + 7 ≤ suc longest → Twin (Compared p) (comparison_at s low high p) (comparison_at t low high p)
    unfolding comparison_at
    comparison_twin p l =
        twin_then (λ a. Between 1 (up_to 6) a.value × (a.next ≡ p + 1)) _ (byte s 6 1 (up_to 6) p) (byte t 6 1 (up_to 6) p) _ _ (byte_twin 6 1 (up_to 6) p (omega arith)) λ o d.
        twin_then (λ a. Between low high a.value × (a.next ≡ o.next + 1)) _ (byte s 7 low high o.next) (byte t 7 low high o.next) _ _ (byte_twin 7 low high o.next (omega (arith, d.1))) λ i e.
        twin_then (λ a. a.next ≡ i.next + 1) _ (right_at s low high i.next) (right_at t low high i.next) _ _ (right_twin i.next (omega (arith, d.1, e.1))) λ r f.
        twin_then (λ a. a.next ≡ r.next + 4) _ (constant_at s r.next) (constant_at t r.next) _ _ (int_twin 5 (neg_ℤ largest) largest r.next (omega (arith, d.1, e.1))) λ k g.
        (refl, (omega (arith, d.1, e.1), λ n. refl))

    -- what the comparisons that are left may take
    abbrev slack : Condition → ℕ
    slack ts = 7 * (most_comparisons - comparisons ts)

    abbrev Tokened : Condition → ℕ → At Token → Type 0
    Tokened ts p a = (comparisons (ts ++ (a.value ∷ [])) ≤ most_comparisons) × (a.next + slack (ts ++ (a.value ∷ [])) ≤ p + 1 + slack ts)

    one_more : (ts : Condition) (x : Token) → comparisons (ts ++ (x ∷ [])) ≡ counted (comparisons ts) x
    one_more ts x = foldl-append counted 0 ts (x ∷ [])

    module _ (ts : Condition) (p : ℕ) (few : comparisons ts ≤ most_comparisons) (l : p + 1 + slack ts ≤ suc longest) where
      needs_twin : (n : ℕ) (x : Token) → counted (comparisons ts) x ≡ comparisons ts → Twin (Tokened ts p) (needs ts n x p) (needs ts n x p)
      needs_twin n x e = (refl, cond_holds (Tokened ts p) (leb n (height ts)) _ _ (λ d. let o = one_more ts x ∙ e in (omega (arith, o), rw o (omega arith))) (λ d. tt))

      token_twin : Twin (Tokened ts p) (token_at s low high ts p) (token_at t low high ts p)
      unfolding token_at
      token_twin =
          twin_then (λ a. Between 1 (up_to 4) a.value × (a.next ≡ p + 1)) _ (byte s 6 1 (up_to 4) p) (byte t 6 1 (up_to 4) p) _ _ (byte_twin 6 1 (up_to 4) p (omega arith)) λ x d.
          twin_cond (Tokened ts p) (eqb x.value 1) _ _ _ _
          (λ e. twin_cond (Tokened ts p) (ltb (comparisons ts) most_comparisons) _ _ _ _ (λ f. compared (ltb-true (comparisons ts) most_comparisons f)) (λ f. (refl, tt)))
          (λ e. twin_cond (Tokened ts p) (eqb x.value 2) _ _ _ _ (λ f. needs_twin 2 both refl)
          (λ e. twin_cond (Tokened ts p) (eqb x.value 3) _ _ _ _ (λ f. needs_twin 2 either refl) (λ f. needs_twin 1 negate refl)))
        where
          compared : comparisons ts < most_comparisons → Twin (Tokened ts p) (comparison_at s low high (p + 1)) (comparison_at t low high (p + 1))
          compared f = twin_so (Compared (p + 1)) (Tokened ts p) _ _ (λ a g. let o = one_more ts a.value ∙ g.1 (comparisons ts) in (omega (arith, o), rw o (omega (arith, g.0)))) (comparison_twin (p + 1) (omega arith))

    pub condition_twin : (p : ℕ) → p + longest_condition ≤ suc longest → Twin (λ a. a.next ≤ p + longest_condition) (condition_at s low high p) (condition_at t low high p)
    unfolding condition_at
    condition_twin p l =
        twin_then (λ a. Between 0 (up_to most_tokens) a.value × (a.next ≡ p + 1)) _ (byte s 4 0 (up_to most_tokens) p) (byte t 4 0 (up_to most_tokens) p) _ _ (byte_twin 4 0 (up_to most_tokens) p (omega arith)) λ n d.
        twin_then (λ a. Left 0 a.value a.next) _ (many (token_at s low high) n.value [] n.next) (many (token_at t low high) n.value [] n.next) finish finish
        (twin_many (token_at s low high) (token_at t low high) Left
        (λ k ts q h. twin_so (Tokened ts q) (λ a. Left k (ts ++ (a.value ∷ [])) a.next) _ _ (λ a g. (g.0, omega (arith, g.1, h.1))) (token_twin ts q h.0 (omega (arith, h.1))))
        n.value [] n.next (omega arith, omega (arith, d.1, d.0.1))) λ ts h.
        (refl, cond_holds (λ a. a.next ≤ p + longest_condition) (finished ts.value) _ _ (λ e. omega (arith, h.1)) (λ e. tt))
      where
        Left : ℕ → Condition → ℕ → Type 0
        Left k ts q = (comparisons ts ≤ most_comparisons) × (q + k + slack ts ≤ p + longest_condition)
