-- A question that was read under some limits is read as the same question where the limits are higher.
use Prim.Native.Nat.{ℕ, zero, suc, ◌+◌, ◌-◌, ◌≤◌}
use mathlib.Core.Path.{◌≡◌, refl, ap, ◌∙◌}
use mathlib.Core.Bool.{Bool, true, false, cond, ◌&&◌}
use mathlib.Core.List.{List, [], ◌∷◌, ◌++◌}
use native.Mathlib.Omega.{arith}
use borrow.Author.Tests.{ltb-true, lt-ltb}
use lib.Dec.{leb, ltb}
use lib.ListN.{length, get_or}
use Rattle.page_numbers.specs.Outcome.{Outcome, good, refused}
use Rattle.page_meaning.specs.Limits.{Limits}
use Rattle.page_meaning.specs.Contents.{Question}
use Rattle.page_questions.specs.Guarantees.{NoLower}
use Rattle.page_questions.specs.Layout.{total}
use Rattle.page_questions.specs.Reader.{At, found, and_then, many, byte, up_to, width_at, from_widths, from_changed, from_kind, from_tables, from_version, marked, version_in, versioned, read_under}

-- ---- what is found by the first reading is found by the second

abbrev Kept : {A : Type 0} → Outcome A → Outcome A → Type 0
Kept {A} o o' = (a : A) → o ≡ good a → o' ≡ good a

-- a refusal is no value
nothing : {A : Type 0} {n p : ℕ} {a : A} → refused n p ≡ good a → ⊥
nothing e = let z : ◌≡◌ {A = ℕ} 0 1 = cc in omega arith

kept_then : {A B : Type 0} (o o' : Outcome (At A)) (f f' : A → ℕ → Outcome B) → Kept o o' → ((a : A) (p : ℕ) → Kept (f a p) (f' a p)) → Kept (and_then o f) (and_then o' f')
kept_then o o' f f' h k = go o h
  where
    go : (x : Outcome (At _)) → Kept x o' → Kept (and_then x f) (and_then o' f')
    go (good a) h b e = ap (λ x. and_then x f') (h a refl) ∙ k a.value a.next b e
    go (refused n p) h b e = absurd (nothing e)

kept_cond : {A : Type 0} (t : Bool) (x x' y : Outcome A) → Kept x x' → Kept (cond t x y) (cond t x' y)
kept_cond true x x' y h = h
kept_cond false x x' y h = λ a e. e

kept_many : {A : Type 0} (f f' : List A → ℕ → Outcome (At A)) → ((done : List A) (p : ℕ) → Kept (f done p) (f' done p)) → (k : ℕ) (done : List A) (p : ℕ) → Kept (many f k done p) (many f' k done p)
unfolding many
kept_many f f' h zero done p = λ a e. e
kept_many f f' h (suc k) done p = kept_then (f done p) (f' done p) _ _ (h done p) (λ a q. kept_many f f' h k (done ++ (a ∷ [])) q)

-- a byte below some limit is below a higher one
kept_byte : (s : List ℕ) (n low high high' p : ℕ) → high ≤ high' → Kept (byte s n low high p) (byte s n low high' p)
unfolding byte
kept_byte s n low high high' p h =
    kept_cond (ltb p (length s)) _ _ (refused 1 p) (within (leb low v) (ltb v high) (ltb v high') (λ e. lt-ltb v high' (omega (arith, ltb-true v high e))))
  where
    v : ℕ
    v = get_or s p 0

    within : (b c d : Bool) → (c ≡ true → d ≡ true) → Kept (cond (b && c) (found v (p + 1)) (refused n p)) (cond (b && d) (found v (p + 1)) (refused n p))
    within false c d f a e = e
    within true false d f a e = absurd (nothing e)
    within true true d f a e = ap (λ t. cond t (found v (p + 1)) (refused n p)) (f refl) ∙ e

-- ---- the fields, from the table count on

module _ (l m : Limits) (more : NoLower l m) (s : List ℕ) where
  widths_kept : (tables kind changed p : ℕ) → Kept (from_widths l s tables kind changed p) (from_widths m s tables kind changed p)
  unfolding from_widths
  widths_kept tables kind changed p =
      kept_then (many (width_at l.columns s) tables [] p) (many (width_at m.columns s) tables [] p) _ _
      (kept_many (width_at l.columns s) (width_at m.columns s) (λ ws p. kept_byte s 4 1 (up_to (l.columns - total ws)) (up_to (m.columns - total ws)) p (omega (arith, more.columns))) tables [] p)
      λ ws p a e. e

  tables_kept : (p : ℕ) → Kept (from_tables l s p) (from_tables m s p)
  unfolding from_tables from_kind from_changed
  tables_kept p =
      kept_then (byte s 4 1 (up_to l.tables) p) (byte s 4 1 (up_to m.tables) p) _ _ (kept_byte s 4 1 (up_to l.tables) (up_to m.tables) p (omega (arith, more.tables))) λ tables p.
      kept_then (byte s 4 1 (up_to 3) p) (byte s 4 1 (up_to 3) p) _ _ (λ a e. e) λ kind p.
      kept_then (byte s 4 0 tables p) (byte s 4 0 tables p) _ _ (λ a e. e) λ changed p.
      widths_kept tables kind changed p

  pub read_kept : (q : Question) → read_under l s ≡ good q → read_under m s ≡ good q
  unfolding read_under from_version
  read_kept =
      kept_cond (leb 3 (length s)) _ _ (refused 1 0) (kept_cond (marked s) _ _ (refused 2 0)
      (kept_cond (leb 5 (length s)) _ _ (refused 1 3) (kept_cond (versioned (version_in s)) _ _ (refused 3 3) (tables_kept 5))))
