-- Fields of one sort, one after another into an array: the laws of the loops that read them.
use Rattle.std.specs.Prelude.{ℕ, List, [], ◌≡◌, ◌+◌, ◌≤◌, ◌<◌, ◌++◌, Result, Ok, Err, map, take, length}
use Rattle.std.specs.Result.{IsErrAnd}
use Rattle.std.proofs.lemmas.Result.{err_from_is_err_and}
use Rattle.std.proofs.lemmas.List.{take-append-le}
use native.Mathlib.Omega.{arith}
use mathlib.Core.Path.{refl}
use lib.ListN.{set}
use Rattle.page_numbers.specs.Outcome.{Outcome}
use Rattle.page_questions.specs.Reader.{At, many}
use Rattle.page_questions.proofs.Loops.{Going, going_start, going_on, going_bad, going_end}
use Rattle.refusal.specs.declared.Refusal.{Refusal}
use Rattle.fields.specs.Steps.{Steps}
use Rattle.fields.specs.declared.cursor.Cursor.{Cursor}

-- i of n fields stand in the array xs of the given size, each meaning what g says; o reads one, with those before it in hand
pub record Run {A B : Type 0} (o : List ℕ → List B → ℕ → Outcome (At B)) (g : A → B) (size n : ℕ) (start now : Cursor) (xs : List A) (i : ℕ) : Type 0 where
  pub same : now.bytes.now ≡ start.bytes.now
  pub going : Going (o start.bytes.now) g size n (many (o start.bytes.now) n [] start.at) xs i now.at

module _ {A B : Type 0} {o : List ℕ → List B → ℕ → Outcome (At B)} {g : A → B} {size n : ℕ} where
  pub none_read : {start : Cursor} {xs : List A} → length xs ≡ size → Run o g size n start start xs 0
  none_read h = record { same = refl; going = going_start _ _ _ _ _ _ h }

  module _ {start mid new : Cursor} {xs : List A} {i : ℕ} (run : Run o g size n start mid xs i) where
    -- one more
    pub one_read : {a : A} → i < n → n ≤ size → Steps g (λ s q. o s (map g (take i xs)) q) mid (Ok a) new → Run o g size n start new (set xs i a) (i + 1)
    one_read l fit s = record { same = rw (s.same, run.same) refl; going = going_on _ _ _ _ _ _ _ _ run.going l _ _ fit (rw run.same at s.meaning) }

    -- one was refused
    pub one_refused : {C : Type 0} {f : C → List B} {e : Refusal} {r : Result C Refusal} → i < n → IsErrAnd r (λ d. d ≡ e)
        → Steps g (λ s q. o s (map g (take i xs)) q) mid (Err e) new → Steps f (λ s q. many (o s) n [] q) start r new
    one_refused {r = r} l h s =
        let p = err_from_is_err_and r h in
        rw (p.1, p.2) (record { same = rw (s.same, run.same) refl; meaning = going_bad _ _ _ _ _ _ _ _ run.going l _ _ (rw run.same at s.meaning) })

  pub all_read : {start now : Cursor} {xs : List A} {i : ℕ} → Run o g size n start now xs i → n ≤ i → Steps (λ xs. map g (take n xs)) (λ s q. many (o s) n [] q) start (Ok xs) now
  all_read run l = record { same = run.same; meaning = going_end _ _ _ _ _ _ _ _ run.going l }

-- the same where the fields stand at an array's front
pub front_read : {A B : Type 0} {o : List ℕ → List B → ℕ → Outcome (At B)} {g : A → B} {n : ℕ} {start now : Cursor} {xs : List A} {i : ℕ} (ys : List A) → Run o g n n start now xs i → n ≤ i
    → Steps (λ xs. map g (take n xs)) (λ s q. many (o s) n [] q) start (Ok (xs ++ ys)) now
front_read {n = n} {xs = xs} ys run l =
    let s = all_read run l in
    let fit : n ≤ length xs = omega (arith, run.going.sized) in
    record { same = s.same; meaning = rw (take-append-le n xs ys fit) s.meaning }
