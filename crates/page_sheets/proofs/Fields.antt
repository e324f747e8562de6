-- A field passes exactly where its bytes are there and its value is as said; so does a row of values.
use Prim.Native.Nat.{ℕ, zero, suc, ◌+◌, ◌-◌, ◌≤◌, ◌<◌}
use mathlib.Core.Path.{◌≡◌, refl, ◌∙◌}
use mathlib.Core.Bool.{Bool, true, false, cond}
use mathlib.Core.List.{List}
use native.Mathlib.Omega.{arith}
use native.Mathlib.Decide.{ℕ_discrete}
use lib.ListN.{length}
use lib.Dec.{T, leb, ltb, ltb→lt, le→leb, leb→le, lt→ltb}
use lib.IntN.{ℤ}
use Rattle.page_numbers.specs.Outcome.{good, refused}
use Rattle.page_meaning.specs.Contents.{Question}
use Rattle.page_formulas.specs.Knowledge.{next}
use Rattle.page_sheets.specs.Rows.{value_at, width, field_at, first_ok, second_ok, field_ok}
use Rattle.page_sheets.specs.Sheet.{Answer, Verdict, field, check_fields}
use Rattle.page_sheets.proofs.Fit.{to_true, to_false}

says_not : {v : Verdict} {n o : ℕ} {A : Type 0} → refused n o ≡ good v → A
says_not e = let z : ◌≡◌ {A = ℕ} 0 1 = cc in absurd (omega arith)

pub field_says : (s : List ℕ) (at w : ℕ) (ok : Bool) (number : ℕ) (next : Answer) (v : Verdict) → field s at w ok number next ≡ good v → (at + w ≤ length s) × T ok × (next ≡ good v)
field_says s at w ok number next v e = go (leb (at + w) (length s)) ok (λ t. leb→le (at + w) (length s) t) e
  where
    go : (b c : Bool) → (T b → at + w ≤ length s) → cond b (cond c next (refused number at)) (refused 11 at) ≡ good v → (at + w ≤ length s) × T c × (next ≡ good v)
    go true true f e = (f tt, tt, e)
    go true false f e = says_not e
    go false c f e = says_not e

pub field_passes : (s : List ℕ) (at w : ℕ) (ok : Bool) (number : ℕ) (next : Answer) → at + w ≤ length s → T ok → field s at w ok number next ≡ next
field_passes s at w ok number next h t = rw (to_true (leb (at + w) (length s)) (le→leb (at + w) (length s) h), to_true ok t)

-- the values in fields j .. j + k − 1 are there and as said
abbrev pub FieldsOk : (ℕ → ℤ → Bool) → List ℕ → ℕ → ℕ → Type 0
FieldsOk ok s k j = (c : ℕ) → j ≤ c → c < j + k → (field_at c + 4 ≤ length s) × T (ok c (value_at s c))

pub fields_say : (ok : ℕ → ℤ → Bool) (s : List ℕ) (k j : ℕ) (next : Answer) (v : Verdict) → check_fields ok s k j next ≡ good v → FieldsOk ok s k j × (next ≡ good v)
unfolding check_fields
fields_say ok s zero j next v e = (λ c l h. absurd (omega arith), e)
fields_say ok s (suc k) j next v e =
    let f = field_says s (field_at j) 4 (ok j (value_at s j)) 15 (check_fields ok s k (suc j) next) v e in
    let r = fields_say ok s k (suc j) next v f.2 in
    (λ c l h. go f.0 f.1 r.0 c l h (ℕ_discrete c j), r.1)
  where
    go : field_at j + 4 ≤ length s → T (ok j (value_at s j)) → FieldsOk ok s k (suc j) → (c : ℕ) → j ≤ c → c < j + suc k → Dec (c ≡ j) → (field_at c + 4 ≤ length s) × T (ok c (value_at s c))
    go f t r c l h (yes e) = rw e (f, t)
    go f t r c l h (no e) = r c (omega arith) (omega arith)

pub fields_pass : (ok : ℕ → ℤ → Bool) (s : List ℕ) (k j : ℕ) (next : Answer) → FieldsOk ok s k j → check_fields ok s k j next ≡ next
unfolding check_fields
fields_pass ok s zero j next f = refl
fields_pass ok s (suc k) j next f =
    let here = f j (omega arith) (omega arith) in
    field_passes s (field_at j) 4 (ok j (value_at s j)) 15 (check_fields ok s k (suc j) next) here.0 here.1
    ∙ fields_pass ok s k (suc j) next (λ c l h. f c (omega arith) (omega arith))

-- ---- field j is column j of the first row, or column j − n of the second
module _ (q : Question) (i : ℕ) (s : List ℕ) where
  pub field_first : (c : ℕ) (z : ℤ) → c < width q → field_ok q i s c z ≡ first_ok q i c z
  field_first c z h = rw (to_true (ltb c (width q)) (lt→ltb c (width q) h))

  pub field_second : (c : ℕ) (z : ℤ) → field_ok q i s (width q + c) z ≡ second_ok q s c z
  field_second c z =
      let f : ltb (width q + c) (width q) ≡ false = to_false (ltb (width q + c) (width q)) (λ t. omega (arith, ltb→lt (width q + c) (width q) t)) in
      let e : width q + c - width q ≡ c = omega arith in
      rw (f, e)
