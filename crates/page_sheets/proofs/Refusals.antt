-- Each number that says no is given exactly when its cause is there.
use Prim.Native.Nat.{ℕ, suc, ◌<◌}
use mathlib.Core.Path.{◌≡◌, refl, sym, ap, ◌∙◌}
use mathlib.Core.Logic.{◌⊎◌, inl, inr, ◌↔◌, ◌≢◌}
use mathlib.Core.Bool.{Bool, true, false, ◌||◌, cond}
use mathlib.Core.List.{List}
use native.Mathlib.Omega.{arith}
use borrow.Author.Tests.{eqb-true, eqb-false, leb-true, leb-false}
use lib.ListN.{length, take}
use lib.Dec.{eqb, leb}
use Rattle.page_meaning.specs.Limits.{limits}
use Rattle.page_numbers.specs.Outcome.{good, refused}
use Rattle.page_meaning.specs.Contents.{Question}
use Rattle.page_questions.specs.Lengths.{longest}
use Rattle.page_questions.specs.Reader.{Read, read_of}
use Rattle.page_questions.proofs.Lengths.{first_bytes_tell}
use Rattle.page_questions.proofs.Refusals.{refused_bounds}
use Rattle.page_sheets.specs.Answers.{asked_of, judge, verdict_under, check_for, check_under, Written, Done, write_for, write_under}
use Rattle.page_sheets.specs.Demands.{Askable}
use Rattle.page_sheets.specs.Faults.{AllSaid, sheet_fields, verdict_in}
use Rattle.page_sheets.specs.Refusals.{NotAskable, TwentyExactly, TooLongExactly, ReadExactly, SheetExactly, PassExactly, FirstBytesAnswer}
use Rattle.page_sheets.specs.Sheet.{Answer, verdict_for, finding_of, sheet_of, check_sheet}
use Rattle.page_sheets.proofs.Faults.{number_in, place_in, says_apart, sheet_refused, sheet_taken}
use Rattle.page_sheets.proofs.Numbers.{sheet_own}

-- ---- what is asked

pub asked_cases : (a : ℕ) (s : List ℕ) → (Askable a × (asked_of a s ≡ read_of s)) ⊎ ((¬ Askable a) × (asked_of a s ≡ refused 20 0))
asked_cases a s = go (eqb a 1) (eqb a 2) refl refl
  where
    go : (b c : Bool) → eqb a 1 ≡ b → eqb a 2 ≡ c → (Askable a × (cond (b || c) (read_of s) (refused 20 0) ≡ read_of s)) ⊎ ((¬ Askable a) × (cond (b || c) (read_of s) (refused 20 0) ≡ refused 20 0))
    go true c d e = inl (inl (eqb-true a 1 d), refl)
    go false true d e = inl (inr (eqb-true a 2 e), refl)
    go false false d e = inr ((λ h. elim h [ inl x ↦ eqb-false a 1 d x | inr x ↦ eqb-false a 2 e x ]), refl)

-- ---- the number of a writer's answer, 100 where there is none, and its place

abbrev number_of : Written → ℕ
number_of (good (v, n)) = 100
number_of (refused n p) = n

abbrev place_of : Written → ℕ
place_of (good (v, n)) = 0
place_of (refused n p) = p

-- ---- a routine that hands the reader's refusals on

module _ {A : Type 0} (refuse : ℕ → ℕ → A) (number place : A → ℕ) (is_number : (n p : ℕ) → number (refuse n p) ≡ n) (is_place : (n p : ℕ) → place (refuse n p) ≡ p)
    (f : Read → A) (hands_on : (n p : ℕ) → f (refused n p) ≡ refuse n p) (own : (q : Question) → (10 < number (f (good q))) × (number (f (good q)) ≢ 20)) (a : ℕ) (s : List ℕ) where
  same_number : (n p m o : ℕ) → refuse n p ≡ refuse m o → (n ≡ m) × (p ≡ o)
  same_number n p m o e = (sym (is_number n p) ∙ ap number e ∙ is_number m o, sym (is_place n p) ∙ ap place e ∙ is_place m o)

  -- the reader gives none above 9
  read_small : (n p : ℕ) (r : Read) → read_of s ≡ r → f r ≡ refuse n p → (read_of s ≡ refused n p) ⊎ ((q : Question) × (read_of s ≡ good q) × (number (f (good q)) ≡ n))
  read_small n p (good q) d e = inr (q, d, ap number e ∙ is_number n p)
  read_small n p (refused m o) d e = let same = same_number m o n p (sym (hands_on m o) ∙ e) in inl (d ∙ ap (λ k. refused k o) same.0 ∙ ap (refused n) same.1)

  twenty : (p : ℕ) → (f (asked_of a s) ≡ refuse 20 p) ↔ NotAskable a p
  twenty p = (forth, back)
    where
      forth : f (asked_of a s) ≡ refuse 20 p → NotAskable a p
      forth e = elim (asked_cases a s) [
        | inl x ↦ absurd (elim (read_small 20 p (read_of s) refl (ap f (sym x.1) ∙ e)) [
          | inl d ↦ omega (arith, (refused_bounds s 20 p d).1)
          | inr y ↦ (own y.0).1 y.2
        ])
        | inr x ↦ (sym (same_number 20 0 20 p (sym (hands_on 20 0) ∙ ap f (sym x.1) ∙ e)).1, x.0)
      ]

      back : NotAskable a p → f (asked_of a s) ≡ refuse 20 p
      back h = elim (asked_cases a s) [
        | inl x ↦ absurd (h.1 x.0)
        | inr x ↦ ap f x.1 ∙ hands_on 20 0 ∙ ap (refuse 20) (sym h.0)
      ]

  read_first : (n p : ℕ) → n < 10 → (f (asked_of a s) ≡ refuse n p) ↔ (Askable a × (read_of s ≡ refused n p))
  read_first n p l = (forth, back)
    where
      forth : f (asked_of a s) ≡ refuse n p → Askable a × (read_of s ≡ refused n p)
      forth e = elim (asked_cases a s) [
        | inl x ↦ (x.0, elim (read_small n p (read_of s) refl (ap f (sym x.1) ∙ e)) [ inl d ↦ d | inr y ↦ absurd (omega (arith, (own y.0).0, y.2)) ])
        | inr x ↦ absurd (omega (arith, (same_number 20 0 n p (sym (hands_on 20 0) ∙ ap f (sym x.1) ∙ e)).0))
      ]

      back : Askable a × (read_of s ≡ refused n p) → f (asked_of a s) ≡ refuse n p
      back h = elim (asked_cases a s) [
        | inl x ↦ ap f (x.1 ∙ h.1) ∙ hands_on n p
        | inr x ↦ absurd (x.0 h.0)
      ]

  -- a number of the routine's own
  good_first : (n p : ℕ) → 10 < n → n ≢ 20 → (f (asked_of a s) ≡ refuse n p) ↔ (Askable a × ((q : Question) × (read_of s ≡ good q) × (f (good q) ≡ refuse n p)))
  good_first n p l k = (forth, back)
    where
      forth : f (asked_of a s) ≡ refuse n p → Askable a × ((q : Question) × (read_of s ≡ good q) × (f (good q) ≡ refuse n p))
      forth e = elim (asked_cases a s) [
        | inl x ↦ (
          x.0,
          elim (read_small n p (read_of s) refl (ap f (sym x.1) ∙ e)) [
            | inl d ↦ absurd (omega (arith, (refused_bounds s n p d).1))
            | inr y ↦ (y.0, y.1, ap f (sym (x.1 ∙ y.1)) ∙ e)
          ],
        )
        | inr x ↦ absurd (k (sym (same_number 20 0 n p (sym (hands_on 20 0) ∙ ap f (sym x.1) ∙ e)).0))
      ]

      back : Askable a × ((q : Question) × (read_of s ≡ good q) × (f (good q) ≡ refuse n p)) → f (asked_of a s) ≡ refuse n p
      back h = elim (asked_cases a s) [
        | inl x ↦ ap f (x.1 ∙ h.1.1) ∙ h.1.2
        | inr x ↦ absurd (x.0 h.0)
      ]

-- ---- of a good question's answers, each number is above 10 and not 20

apart : (n : ℕ) → 20 < n → (10 < n) × (n ≢ 20)
apart n l = (omega arith, λ e. omega arith)

verdict_own : (a : ℕ) (q : Question) → (10 < number_in (judge limits a (good q))) × (number_in (judge limits a (good q)) ≢ 20)
verdict_own a q = apart 100 (omega arith)

check_own : (a : ℕ) (sheet : List ℕ) (q : Question) → (10 < number_in (check_for limits a sheet (good q))) × (number_in (check_for limits a sheet (good q)) ≢ 20)
check_own a sheet q = go (check_sheet q a sheet) refl
  where
    go : (x : Answer) → check_sheet q a sheet ≡ x → (10 < number_in x) × (number_in x ≢ 20)
    go (good v) e = apart 100 (omega arith)
    go (refused n p) e = let o = sheet_own q a sheet n p e in (omega (arith, o.0), λ d. omega (arith, o.1))

write_own : (a : ℕ) (room : List ℕ) (q : Question) → (10 < number_of (write_for limits a room (good q)).answer) × (number_of (write_for limits a room (good q)).answer ≢ 20)
write_own a room q = go (leb (length (sheet_of q a)) (length room)) _ _ (apart 100 (omega arith)) (apart 21 (omega arith))
  where
    go : (b : Bool) (x y : Done) → (10 < number_of x.answer) × (number_of x.answer ≢ 20) → (10 < number_of y.answer) × (number_of y.answer ≢ 20) → (10 < number_of (cond b x y).answer) × (number_of (cond b x y).answer ≢ 20)
    go true x y h k = h
    go false x y h k = k

-- ---- the theorems

pub twenty_exactly : TwentyExactly
unfolding verdict_under write_under check_under
twenty_exactly a s p = (
  twenty refused number_in place_in (λ n p. refl) (λ n p. refl) (judge limits a) (λ n p. refl) (verdict_own a) a s p,
  (λ room. twenty refused number_of place_of (λ n p. refl) (λ n p. refl) (λ r. (write_for limits a room r).answer) (λ n p. refl) (write_own a room) a s p),
  (λ sheet. twenty refused number_in place_in (λ n p. refl) (λ n p. refl) (check_for limits a sheet) (λ n p. refl) (check_own a sheet) a s p),
)

pub read_exactly : ReadExactly
unfolding verdict_under write_under check_under
read_exactly a s n p l = (
  read_first refused number_in place_in (λ n p. refl) (λ n p. refl) (judge limits a) (λ n p. refl) (verdict_own a) a s n p l,
  (λ room. read_first refused number_of place_of (λ n p. refl) (λ n p. refl) (λ r. (write_for limits a room r).answer) (λ n p. refl) (write_own a room) a s n p l),
  (λ sheet. read_first refused number_in place_in (λ n p. refl) (λ n p. refl) (check_for limits a sheet) (λ n p. refl) (check_own a sheet) a s n p l),
)

pub sheet_exactly : SheetExactly
unfolding check_under
sheet_exactly a s sheet n p l h =
    let x = good_first refused number_in place_in (λ n p. refl) (λ n p. refl) (check_for limits a sheet) (λ n p. refl) (check_own a sheet) a s n p l (λ e. omega arith) in (
      (λ e. let y = x.0 e in (y.0, (y.1.0, y.1.1, (sheet_refused y.1.0 a sheet n p).0 y.1.2))),
      (λ y. x.1 (y.0, (y.1.0, y.1.1, (sheet_refused y.1.0 a sheet n p).1 y.1.2))),
    )

pub pass_exactly : PassExactly
unfolding check_under
pass_exactly a s sheet v = (forth, back)
  where
    forth : check_for limits a sheet (asked_of a s) ≡ good v → Askable a × ((q : Question) × (read_of s ≡ good q) × AllSaid sheet (sheet_fields sheet q a) × (verdict_in sheet ≡ v))
    forth e = elim (asked_cases a s) [
      | inl x ↦ (x.0, go (read_of s) refl (ap (check_for limits a sheet) (sym x.1) ∙ e))
      | inr x ↦ absurd (let z : ◌≡◌ {A = ℕ} 20 100 = ap number_in (ap (check_for limits a sheet) (sym x.1) ∙ e) in omega (arith, z))
    ]
      where
        go : (r : Read) → read_of s ≡ r → check_for limits a sheet r ≡ good v → (q : Question) × (read_of s ≡ good q) × AllSaid sheet (sheet_fields sheet q a) × (verdict_in sheet ≡ v)
        go (good q) d e = let y = (sheet_taken q a sheet v).0 e in (q, d, y.0, y.1)
        go (refused n p) d e = absurd (says_apart v n p (sym e))

    back : Askable a × ((q : Question) × (read_of s ≡ good q) × AllSaid sheet (sheet_fields sheet q a) × (verdict_in sheet ≡ v)) → check_for limits a sheet (asked_of a s) ≡ good v
    back h = elim (asked_cases a s) [
      | inl x ↦ ap (check_for limits a sheet) (x.1 ∙ h.1.1) ∙ (sheet_taken h.1.0 a sheet v).1 (h.1.2, h.1.3)
      | inr x ↦ absurd (x.0 h.0)
    ]

-- 21 is the only number of a sheet that isn't written though the question is good
placed_long : (q : Question) (a : ℕ) (room : List ℕ) (p : ℕ) → ((write_for limits a room (good q)).answer ≡ refused 21 p) ↔ ((length room < length (sheet_of q a)) × (p ≡ 0))
placed_long q a room p = go (leb (length (sheet_of q a)) (length room)) refl _ _ refl refl
  where
    go : (b : Bool) → leb (length (sheet_of q a)) (length room) ≡ b → (x y : Done) → x.answer ≡ good (verdict_for (finding_of q a), length (sheet_of q a)) → y.answer ≡ refused 21 0
        → ((cond b x y).answer ≡ refused 21 p) ↔ ((length room < length (sheet_of q a)) × (p ≡ 0))
    go true l x y d k = ((λ e. absurd (let z : ◌≡◌ {A = ℕ} 100 21 = ap number_of (sym d ∙ e) in omega (arith, z))), (λ h. absurd (omega (arith, h.0, leb-true (length (sheet_of q a)) (length room) l))))
    go false l x y d k = ((λ e. (leb-false (length (sheet_of q a)) (length room) l, sym (ap place_of (sym k ∙ e)))), (λ h. k ∙ ap (refused 21) (sym h.1)))

pub too_long_exactly : TooLongExactly
unfolding write_under
too_long_exactly a s room p =
    let x = good_first refused number_of place_of (λ n p. refl) (λ n p. refl) (λ r. (write_for limits a room r).answer) (λ n p. refl) (write_own a room) a s 21 p (omega arith) (λ e. omega arith) in (
      (λ e. let y = x.0 e in let l = (placed_long y.1.0 a room p).0 y.1.2 in (y.0, (y.1.0, y.1.1, l.0, l.1))),
      (λ h. x.1 (h.0, (h.1.0, h.1.1, (placed_long h.1.0 a room p).1 (h.1.2, h.1.3)))),
    )

pub first_bytes_answer : FirstBytesAnswer
unfolding verdict_under write_under check_under
first_bytes_answer a s l =
    let e : asked_of a s ≡ asked_of a (take (suc longest) s) = ap (λ r. cond (eqb a 1 || eqb a 2) r (refused 20 0)) (first_bytes_tell s l) in
    (ap (judge limits a) e, (λ room. ap (write_for limits a room) e), (λ sheet. ap (check_for limits a sheet) e))
