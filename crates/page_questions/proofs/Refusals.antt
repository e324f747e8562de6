-- FORMAT 4.3: the reader refuses a byte string with the number and the place of its first fault, and with no other; without a
-- fault it gives the question that the fields make.
use mathlib.Core.Path.{◌≡◌, refl, sym, ap, subst, ◌∙◌}
use mathlib.Core.Logic.{◌↔◌, inl, inr}
use mathlib.Core.Bool.{Bool, true, false, cond, true≢false}
use mathlib.Core.List.{List, [], ◌∷◌, ◌++◌}
use Prim.Native.Nat.{ℕ, zero, suc, ◌+◌, ◌*◌, ◌≤◌, ◌<◌}
use native.Mathlib.Omega.{arith}
use borrow.Author.Tests.{leb-true, ltb-true, leb-false, le-leb, lt-leb}
use lib.Dec.{leb, ltb}
use lib.ListN.{length, get_or}
use Rattle.page_numbers.specs.Outcome.{good, refused}
use Rattle.page_meaning.specs.Contents.{Question}
use Rattle.page_questions.specs.Layout.{version_by, question_from}
use Rattle.page_questions.specs.Reader.{up_to, version_in, read_of}
use Rattle.page_questions.specs.Fields.{Field, mark, version, table_count, change_kind, changed_table, column_count, lo, visible, hi, some_visible, token_count, token, op, constant, seventh, operands, column, right_column, finish, row_count, inserted, mode, no_column, zero_constant, end, size, sizes, followed, question_fields, fields_of, question_in}
use Rattle.page_questions.specs.Guarantees.{version_number}
use Rattle.page_questions.specs.Faults.{as_said, number_of, AllSaid, Fault, Reached, FirstFault}
use Rattle.page_questions.proofs.Invariants.{both_true}
use Rattle.page_questions.proofs.StepFaults.{whole, judge}
use Rattle.page_questions.proofs.QuestionFaults.{reads_fields}

-- ---- a field's bytes are there, where the field starts within the bytes

module _ (s : List ℕ) (p : ℕ) (start : p ≤ length s) where
  whole_true : (n : ℕ) → whole s p n ≡ true → p + n ≤ length s
  whole_true zero e = omega arith
  whole_true (suc n) e = leb-true (p + suc n) (length s) e

  whole_false : (n : ℕ) → whole s p n ≡ false → length s < p + n
  whole_false zero e = absurd (true≢false e)
  whole_false (suc n) e = leb-false (p + suc n) (length s) e

  true_whole : (n : ℕ) → p + n ≤ length s → whole s p n ≡ true
  true_whole zero h = refl
  true_whole (suc n) h = le-leb (p + suc n) (length s) h

  false_whole : (n : ℕ) → length s < p + n → whole s p n ≡ false
  false_whole zero h = absurd (omega arith)
  false_whole (suc n) h = lt-leb (p + suc n) (length s) h

-- ---- the first fault among some fields

-- the fields fs from p on have their first fault n at r
record FaultIn (s : List ℕ) (p : ℕ) (fs : List Field) (n r : ℕ) : Type 0 where
  before : List Field
  field : Field
  after : List Field
  order : fs ≡ before ++ (field ∷ after)
  sound : AllSaid s p before
  start : r ≡ p + sizes before
  fault : Fault s field r n

module _ {A : Type 0} (s : List ℕ) where
  fault_found : (fs : List Field) (a : A) (p n r : ℕ) → p ≤ length s → judge s p fs a ≡ refused n r → FaultIn s p fs n r
  unfolding judge sizes
  fault_found [] a p n r l e = absurd (let z : ◌≡◌ {A = ℕ} 0 1 = cc in omega arith)
  fault_found (f ∷ fs) a p n r l e =
      go (whole s p (size f)) (as_said s f p) refl refl e (λ h. fault_found fs a (p + size f) n r h)
    where
      here : p ≡ r → Fault s f r n → FaultIn s p (f ∷ fs) n r
      here same x = record { before = []; field = f; after = fs; order = refl; sound = tt; start = omega arith; fault = x }

      later : p + size f ≤ length s → as_said s f p ≡ true → FaultIn s (p + size f) fs n r → FaultIn s p (f ∷ fs) n r
      later h t x =
          record {
            before = f ∷ x.before;
            field = x.field;
            after = x.after;
            order = ap (λ l. f ∷ l) x.order;
            sound = (h, t, x.sound);
            start = omega (arith, x.start);
            fault = x.fault;
          }

      go : (w t : Bool) → whole s p (size f) ≡ w → as_said s f p ≡ t
          → cond w (cond t (judge s (p + size f) fs a) (refused (number_of f) p)) (refused 1 p) ≡ refused n r
          → (p + size f ≤ length s → judge s (p + size f) fs a ≡ refused n r → FaultIn s (p + size f) fs n r)
          → FaultIn s p (f ∷ fs) n r
      go true true u v e rec = later (whole_true s p l (size f) u) v (rec (whole_true s p l (size f) u) e)
      go true false u v e rec =
          let same : p ≡ r = cc in
          let number : number_of f ≡ n = cc in
          here same (subst (λ q. Fault s f q n) same (inr (whole_true s p l (size f) u, v, sym number)))
      go false t u v e rec =
          let same : p ≡ r = cc in
          let number : 1 ≡ n = cc in
          here same (subst (λ q. Fault s f q n) same (inl (whole_false s p l (size f) u, sym number)))

  fault_judged : (before : List Field) (f : Field) (after : List Field) (a : A) (p n r : ℕ) → p ≤ length s → AllSaid s p before → r ≡ p + sizes before
      → Fault s f r n → judge s p (before ++ (f ∷ after)) a ≡ refused n r
  unfolding judge sizes
  fault_judged [] f after a p n r l h e x =
      let same : p ≡ r = omega arith in
      elim (subst (λ q. Fault s f q n) (sym same) x) [
        | inl y ↦ ap (λ w. cond w (cond (as_said s f p) (judge s (p + size f) after a) (refused (number_of f) p)) (refused 1 p)) (false_whole s p l (size f) y.0)
            ∙ ap (λ m. refused m p) (sym y.1) ∙ ap (refused n) same
        | inr y ↦ ap (λ w. cond w (cond (as_said s f p) (judge s (p + size f) after a) (refused (number_of f) p)) (refused 1 p)) (true_whole s p l (size f) y.0)
            ∙ ap (λ t. cond t (judge s (p + size f) after a) (refused (number_of f) p)) y.1
            ∙ ap (λ m. refused m p) (sym y.2) ∙ ap (refused n) same
      ]
  fault_judged (g ∷ gs) f after a p n r l h e x =
      ap (λ w. cond w (cond (as_said s g p) (judge s (p + size g) (gs ++ (f ∷ after)) a) (refused (number_of g) p)) (refused 1 p)) (true_whole s p l (size g) h.0)
      ∙ ap (λ t. cond t (judge s (p + size g) (gs ++ (f ∷ after)) a) (refused (number_of g) p)) h.1
      ∙ fault_judged gs f after a (p + size g) n r h.0 h.2 (omega arith) x

  said_judged : (fs : List Field) (a : A) (p : ℕ) → p ≤ length s → AllSaid s p fs → judge s p fs a ≡ good a
  unfolding judge
  said_judged [] a p l h = refl
  said_judged (f ∷ fs) a p l h =
      ap (λ w. cond w (cond (as_said s f p) (judge s (p + size f) fs a) (refused (number_of f) p)) (refused 1 p)) (true_whole s p l (size f) h.0)
      ∙ ap (λ t. cond t (judge s (p + size f) fs a) (refused (number_of f) p)) h.1
      ∙ said_judged fs a (p + size f) h.0 h.2

  judged_said : (fs : List Field) (a b : A) (p : ℕ) → p ≤ length s → judge s p fs a ≡ good b → AllSaid s p fs × (a ≡ b)
  unfolding judge
  judged_said [] a b p l e = (tt, cc)
  judged_said (f ∷ fs) a b p l e = go (whole s p (size f)) (as_said s f p) refl refl e (λ h. judged_said fs a b (p + size f) h)
    where
      go : (w t : Bool) → whole s p (size f) ≡ w → as_said s f p ≡ t
          → cond w (cond t (judge s (p + size f) fs a) (refused (number_of f) p)) (refused 1 p) ≡ good b
          → (p + size f ≤ length s → judge s (p + size f) fs a ≡ good b → AllSaid s (p + size f) fs × (a ≡ b))
          → AllSaid s p (f ∷ fs) × (a ≡ b)
      go true true u v e rec =
          let h = whole_true s p l (size f) u in
          let x = rec h e in
          ((h, v, x.0), x.1)
      go true false u v e rec = absurd (let z : ◌≡◌ {A = ℕ} 0 1 = cc in omega arith)
      go false t u v e rec = absurd (let z : ◌≡◌ {A = ℕ} 0 1 = cc in omega arith)

-- fields that are as said end within the bytes
said_fits : (s : List ℕ) (fs : List Field) (p : ℕ) → p ≤ length s → AllSaid s p fs → p + sizes fs ≤ length s
unfolding sizes
said_fits s [] p l h = omega arith
said_fits s (f ∷ fs) p l h = omega (arith, said_fits s fs (p + size f) h.0 h.2)

numbered : (f : Field) → (2 ≤ number_of f) × (number_of f ≤ 9)
numbered mark = (omega arith, omega arith)
numbered version = (omega arith, omega arith)
numbered table_count = (omega arith, omega arith)
numbered change_kind = (omega arith, omega arith)
numbered (changed_table n) = (omega arith, omega arith)
numbered (column_count n) = (omega arith, omega arith)
numbered lo = (omega arith, omega arith)
numbered visible = (omega arith, omega arith)
numbered (hi k) = (omega arith, omega arith)
numbered (some_visible is) = (omega arith, omega arith)
numbered token_count = (omega arith, omega arith)
numbered token = (omega arith, omega arith)
numbered op = (omega arith, omega arith)
numbered constant = (omega arith, omega arith)
numbered (seventh n) = (omega arith, omega arith)
numbered (operands m n) = (omega arith, omega arith)
numbered (column low high) = (omega arith, omega arith)
numbered (right_column low high) = (omega arith, omega arith)
numbered (finish ts) = (omega arith, omega arith)
numbered row_count = (omega arith, omega arith)
numbered (inserted g) = (omega arith, omega arith)
numbered mode = (omega arith, omega arith)
numbered no_column = (omega arith, omega arith)
numbered zero_constant = (omega arith, omega arith)
numbered end = (omega arith, omega arith)

-- ---- the theorems

-- FORMAT 4.3: each number, at each place, exactly when
pub refused_first : (s : List ℕ) (n p : ℕ) → (read_of s ≡ refused n p) ↔ FirstFault s n p
refused_first s n p = (forth, back)
  where
    forth : read_of s ≡ refused n p → FirstFault s n p
    forth e =
        let x = fault_found s (fields_of s) (question_in s) 0 n p (omega arith) (sym (reads_fields s) ∙ e) in
        (x.field, record { before = x.before; after = x.after; order = x.order; sound = x.sound; start = omega (arith, x.start) }, x.fault)

    back : FirstFault s n p → read_of s ≡ refused n p
    back h =
        let x = h.1 in
        reads_fields s
        ∙ ap (λ fs. judge s 0 fs (question_in s)) x.order
        ∙ fault_judged s x.before h.0 x.after (question_in s) 0 n p (omega arith) x.sound (omega (arith, x.start)) h.2

-- a question exactly when no field is at fault: the one that the fields make
pub taken : (s : List ℕ) (q : Question) → (read_of s ≡ good q) ↔ (AllSaid s 0 (fields_of s) × (question_in s ≡ q))
taken s q = (forth, back)
  where
    forth : read_of s ≡ good q → AllSaid s 0 (fields_of s) × (question_in s ≡ q)
    forth e = judged_said s (fields_of s) (question_in s) q 0 (omega arith) (sym (reads_fields s) ∙ e)

    back : AllSaid s 0 (fields_of s) × (question_in s ≡ q) → read_of s ≡ good q
    back h = reads_fields s ∙ said_judged s (fields_of s) (question_in s) 0 (omega arith) h.0 ∙ ap good h.1

-- FORMAT 3.2: a question is of the version that its bytes name
pub version_told : (s : List ℕ) (q : Question) → read_of s ≡ good q → version_in s ≡ version_number q.version
unfolding question_fields question_from followed as_said
version_told s q e =
    let h = (taken s q).0 e in
    let two = both_true (leb 1 (version_in s)) (ltb (version_in s) (up_to 2)) h.0.2.1 in
    subst (λ q. version_in s ≡ version_number q.version) h.1 (told (get_or s 3 0) (get_or s 4 0) (leb-true 1 (version_in s) two.0) (ltb-true (version_in s) (up_to 2) two.1))
  where
    told : (a b : ℕ) → 1 ≤ a + 256 * b → a + 256 * b < 3 → a + 256 * b ≡ version_number (version_by a)
    told zero b l h = absurd (omega arith)
    told (suc zero) b l h = omega arith
    told (suc (suc zero)) b l h = omega arith
    told (suc (suc (suc a))) b l h = absurd (omega arith)

-- FORMAT 4.3, 1: a field that goes past the end
pub refused_short : (s : List ℕ) (p : ℕ) → (read_of s ≡ refused 1 p) ↔ ((f : Field) × Reached s f p × (length s < p + size f))
refused_short s p = (forth, back)
  where
    forth : read_of s ≡ refused 1 p → (f : Field) × Reached s f p × (length s < p + size f)
    forth e =
        let x = (refused_first s 1 p).0 e in
        (x.0, x.1, elim x.2 [ inl y ↦ y.0 | inr y ↦ absurd (omega (arith, numbered x.0, y.2)) ])

    back : (f : Field) × Reached s f p × (length s < p + size f) → read_of s ≡ refused 1 p
    back x = (refused_first s 1 p).1 (x.0, x.1, inl (x.2, refl))

-- FORMAT 4.3, the other rows: a field is there and isn't as said, and n is its number
pub refused_value : (s : List ℕ) (n p : ℕ) → 2 ≤ n
    → (read_of s ≡ refused n p) ↔ ((f : Field) × Reached s f p × (p + size f ≤ length s) × (as_said s f p ≡ false) × (n ≡ number_of f))
refused_value s n p l = (forth, back)
  where
    forth : read_of s ≡ refused n p → (f : Field) × Reached s f p × (p + size f ≤ length s) × (as_said s f p ≡ false) × (n ≡ number_of f)
    forth e =
        let x = (refused_first s n p).0 e in
        elim x.2 [ inl y ↦ absurd (omega (arith, y.1)) | inr y ↦ (x.0, x.1, y.0, y.1, y.2) ]

    back : (f : Field) × Reached s f p × (p + size f ≤ length s) × (as_said s f p ≡ false) × (n ≡ number_of f) → read_of s ≡ refused n p
    back x = (refused_first s n p).1 (x.0, x.1, inr (x.2, x.3, x.4))

-- no other number is given, and no place past the end
pub refused_bounds : (s : List ℕ) (n p : ℕ) → read_of s ≡ refused n p → (1 ≤ n) × (n ≤ 9) × (p ≤ length s)
refused_bounds s n p e =
    let x = (refused_first s n p).0 e in
    let fits = said_fits s x.1.before 0 (omega arith) x.1.sound in
    elim x.2 [
      | inl y ↦ (omega (arith, y.1), omega (arith, y.1), omega (arith, fits, x.1.start))
      | inr y ↦ (omega (arith, numbered x.0, y.2), omega (arith, numbered x.0, y.2), omega (arith, fits, x.1.start))
    ]
