-- What a change guarantees that was read.
use mathlib.Core.Path.{◌≡◌, refl, sym, ap, subst, ◌∙◌}
use mathlib.Core.Logic.{inl, inr}
use mathlib.Core.Bool.{Bool, true, false, ◌&&◌}
use mathlib.Core.List.{List, [], ◌∷◌, ◌++◌}
use Prim.Native.Nat.{ℕ, suc, ◌+◌, ◌≤◌, ◌<◌}
use native.Mathlib.Omega.{arith}
use native.Mathlib.Numerals.{add-one}
use lib.Dec.{T, eqb}
use lib.ListN.{length, get_or, take, length-append}
use lib.Seq.{take-suc, take-length}
use lib.IntN.{ℤ, pos}
use lib.Signed.{le_z}
use Rattle.page_meaning.specs.Limits.{most_rows}
use Rattle.page_meaning.specs.Contents.{Range, Values, Mode, keep, become, shift, Change, insert, delete, modify, fits, in_range, TableFits}
use Rattle.page_meaning.specs.WellFormed.{Uses, Reads}
use Rattle.page_questions.specs.Reader.{At, many, byte, int, up_to, none, constant_at, condition_at, value_at, row_at, insert_at, delete_at, no_column_at, mode_at, modify_at, change_at}
use Rattle.page_questions.specs.Guarantees.{Every, ConstantOk, ConditionOk, ModeOk}
use Rattle.page_questions.proofs.Invariants.{Holds, Finds, holds_so, Between, Inside, then_holds, cond_holds, byte_holds, int_holds, many_holds}
use Rattle.page_questions.proofs.Conditions.{every_snoc, constant_holds, Sound, condition_holds}

-- ---- inserted rows; gs are the changed table's ranges

and_true : (a b : Bool) → T a → T b → T (a && b)
and_true true b x y = y
and_true false b x y = absurd x

fits_snoc : (gs : List Range) (vs : Values) (g : Range) (v : ℤ) → T (fits gs vs) → T (in_range g v) → T (fits (gs ++ (g ∷ [])) (vs ++ (v ∷ [])))
fits_snoc [] [] g v h i = and_true (in_range g v) true i tt
fits_snoc [] (w ∷ vs) g v h i = absurd h
fits_snoc (f ∷ gs) [] g v h i = absurd h
fits_snoc (f ∷ gs) (w ∷ vs) g v h i = go (in_range f w) h (λ x. fits_snoc gs vs g v x i)
  where
    go : (a : Bool) → T (a && fits gs vs) → (T (fits gs vs) → T (fits (gs ++ (g ∷ [])) (vs ++ (v ∷ [])))) → T (a && fits (gs ++ (g ∷ [])) (vs ++ (v ∷ [])))
    go true x f = f x
    go false x f = absurd x

module _ (s : List ℕ) (gs : List Range) where
  -- the values so far are those of the first columns
  abbrev Begun : Values → Type 0
  Begun vs = T (fits (take (length vs) gs) vs)

  value_holds : (vs : Values) (p : ℕ) → length vs < length gs → Begun vs → Finds (λ v. Begun (vs ++ (v ∷ []))) (value_at s gs vs p)
  unfolding in_range
  value_holds vs p l h =
      let g : Range = get_or gs (length vs) (record { lo = pos 0; hi = pos 0 }) in
      holds_so {A = At ℤ} (λ a. Inside g.lo g.hi a.value) (λ a. Begun (vs ++ (a.value ∷ []))) (λ a i. next g refl a.value i) (value_at s gs vs p)
      (int_holds s 5 g.lo g.hi p)
    where
      next : (g : Range) → g ≡ get_or gs (length vs) (record { lo = pos 0; hi = pos 0 }) → (v : ℤ) → Inside g.lo g.hi v → Begun (vs ++ (v ∷ []))
      next g e v i =
          let one : length (vs ++ (v ∷ [])) ≡ suc (length vs) = simp length-append (add-one (length vs)) in
          let cut : take (length (vs ++ (v ∷ []))) gs ≡ take (length vs) gs ++ (g ∷ []) =
          ap (λ n. take n gs) one ∙ take-suc gs (length vs) (record { lo = pos 0; hi = pos 0 }) l ∙ ap (λ g. take (length vs) gs ++ (g ∷ [])) (sym e) in
          subst (λ l. T (fits l (vs ++ (v ∷ [])))) (sym cut) (fits_snoc (take (length vs) gs) vs g v h (and_true (le_z v g.hi) (le_z g.lo v) i.1.le i.0.le))

  row_holds : (p : ℕ) → Finds (λ r. T (fits gs r)) (row_at s gs p)
  unfolding row_at
  row_holds p =
      holds_so {A = At Values} (λ a. Begun a.value × (length a.value ≡ length gs)) (λ a. T (fits gs a.value))
      (λ a h. subst (λ l. T (fits l a.value)) (ap (λ n. take n gs) h.1 ∙ take-length gs) h.0)
      (many (value_at s gs) (length gs) [] p)
      (many_holds (value_at s gs) Begun (length gs) value_holds (length gs) [] p (omega arith) tt)

  members : (rows : List Values) → Every (λ r. T (fits gs r)) rows → TableFits gs rows
  members [] h r m = absurd m
  members (a ∷ rows) h r m = elim m [ inl e ↦ subst (λ r. T (fits gs r)) (sym e) h.0 | inr m ↦ members rows h.1 r m ]

-- ---- changes; low is the number of the changed table's first column

reads_snoc : (P : ℕ → Type 0) (ms : List Mode) (m : Mode) → Reads P ms → Reads P (m ∷ []) → Reads P (ms ++ (m ∷ []))
reads_snoc P [] m h x = x
reads_snoc P (keep ∷ ms) m h x = reads_snoc P ms m h x
reads_snoc P (become k ∷ ms) m h x = reads_snoc P ms m h x
reads_snoc P (shift j k ∷ ms) m h x = (h.0, reads_snoc P ms m h.1 x)

module _ (s : List ℕ) (low : ℕ) (gs : List Range) where
  -- a column of the change that isn't the changed table's (FORMAT 4.3, 7)
  abbrev Own : ℕ → Type 0
  Own i = Between low (low + length gs) i

  -- what a change guarantees that was read
  abbrev pub ChangeFits : Change → Type 0
  ChangeFits (insert rows) = (length rows ≤ most_rows) × TableFits gs rows
  ChangeFits (delete d) = ConditionOk d × Uses Own d
  ChangeFits (modify d ms) = ConditionOk d × Every ModeOk ms × Uses Own d × Reads Own ms × (length ms ≡ length gs)

  abbrev Fitting : At Change → Type 0
  Fitting a = ChangeFits a.value

  insert_holds : (p : ℕ) → Holds Fitting (insert_at s gs p)
  unfolding insert_at
  insert_holds p =
      then_holds (Between 0 (up_to most_rows)) Fitting (byte s 4 0 (up_to most_rows) p) _ (byte_holds s 4 0 (up_to most_rows) p) λ n p few.
      then_holds (λ rs. Every (λ r. T (fits gs r)) rs × (length rs ≡ n)) Fitting (many (λ rs p. row_at s gs p) n [] p) _ (rows n p) λ rs p h.
      (omega (arith, few.1, h.1), members s gs rs h.0)
    where
      rows : (n p : ℕ) → Finds (λ rs. Every (λ r. T (fits gs r)) rs × (length rs ≡ n)) (many (λ rs p. row_at s gs p) n [] p)
      rows n p = many_holds (λ rs p. row_at s gs p) (Every (λ r. T (fits gs r))) n
          (λ rs p l h. holds_so {A = At Values} (λ a. T (fits gs a.value)) (λ a. Every (λ r. T (fits gs r)) (rs ++ (a.value ∷ [])))
          (λ a f. every_snoc (λ r. T (fits gs r)) rs a.value h f) (row_at s gs p) (row_holds s gs p)) n [] p (omega arith) tt

  delete_holds : (p : ℕ) → Holds Fitting (delete_at s low (low + length gs) p)
  unfolding delete_at
  delete_holds p =
      then_holds (Sound s low (low + length gs)) Fitting (condition_at s low (low + length gs) p) _ (condition_holds s low (low + length gs) p) λ d p h.
      (h.ok, h.uses)

  abbrev ModeFits : Mode → Type 0
  ModeFits m = ModeOk m × Reads Own (m ∷ [])

  abbrev Moded : At Mode → Type 0
  Moded a = ModeFits a.value

  mode_holds : (p : ℕ) → Holds Moded (mode_at s low (low + length gs) p)
  unfolding mode_at
  mode_holds p =
      then_holds (Between 0 (up_to 2)) Moded (byte s 4 0 (up_to 2) p) _ (byte_holds s 4 0 (up_to 2) p) λ m p h.
      cond_holds Moded (eqb m 0) _ _
      (λ e. then_holds (Between none (up_to none)) Moded (no_column_at s p) _ (byte_holds s 4 none (up_to none) p) λ j p h.
      then_holds (Inside (pos 0) (pos 0)) Moded (int s 4 (pos 0) (pos 0) p) _ (int_holds s 4 (pos 0) (pos 0) p) λ k p h. (tt, tt))
      (λ e. cond_holds Moded (eqb m 1) _ _
      (λ e. then_holds (Between none (up_to none)) Moded (no_column_at s p) _ (byte_holds s 4 none (up_to none) p) λ j p h.
      then_holds ConstantOk Moded (constant_at s p) _ (constant_holds s p) λ k p h. (h, tt))
      (λ e. then_holds Own Moded (byte s 7 low (low + length gs) p) _ (byte_holds s 7 low (low + length gs) p) λ j p own.
      then_holds ConstantOk Moded (constant_at s p) _ (constant_holds s p) λ k p h. (h, (own, tt))))

  abbrev Modes : List Mode → Type 0
  Modes ms = Every ModeOk ms × Reads Own ms

  modify_holds : (p : ℕ) → Holds Fitting (modify_at s low (length gs) p)
  unfolding modify_at
  modify_holds p =
      then_holds (Sound s low (low + length gs)) Fitting (condition_at s low (low + length gs) p) _ (condition_holds s low (low + length gs) p) λ d p c.
      then_holds (λ ms. Modes ms × (length ms ≡ length gs)) Fitting (many (λ ms p. mode_at s low (low + length gs) p) (length gs) [] p) _ (modes p) λ ms p h.
      (c.ok, h.0.0, c.uses, h.0.1, h.1)
    where
      modes : (p : ℕ) → Finds (λ ms. Modes ms × (length ms ≡ length gs)) (many (λ ms p. mode_at s low (low + length gs) p) (length gs) [] p)
      modes p = many_holds (λ ms p. mode_at s low (low + length gs) p) Modes (length gs)
          (λ ms p l h. holds_so {A = At Mode} Moded (λ a. Modes (ms ++ (a.value ∷ [])))
          (λ a f. (every_snoc ModeOk ms a.value h.0 f.0, reads_snoc Own ms a.value h.1 f.1))
          (mode_at s low (low + length gs) p) (mode_holds p)) (length gs) [] p (omega arith) (tt, tt)

  pub change_holds : (kind p : ℕ) → Finds ChangeFits (change_at s kind low gs p)
  change_holds kind p =
      cond_holds Fitting (eqb kind 1) _ _ (λ e. insert_holds p)
      (λ e. cond_holds Fitting (eqb kind 2) _ _ (λ e. delete_holds p) (λ e. modify_holds p))
