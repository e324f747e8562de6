-- All formulas: a written yes passes and what passes is right; a written no holds.
-- the formula fails on all values in range
use Prim.Native.Nat.{ℕ, zero, suc, ◌+◌, ◌<◌}
use mathlib.Core.Path.{◌≡◌, refl, sym, ap, ◌∙◌}
use mathlib.Core.Bool.{true, false, true≢false}
use mathlib.Core.List.{List, [], ◌∷◌, ◌++◌, append_assoc, append-nil}
use native.Mathlib.Omega.{arith}
use lib.ListN.{length, get_or, length-append}
use Rattle.page_numbers.specs.Outcome.{good, refused}
use Rattle.page_formulas.specs.Formulas.{Formula}
use Rattle.page_formulas.specs.Program.{Values, truth}
use Rattle.page_formulas.specs.Vertices.{InRange}
use Rattle.page_questions.specs.Guarantees.{Every}
use Rattle.page_sheets.specs.Demands.{GreatestLeaf}
use Rattle.page_sheets.specs.Growth.{Growth, shut, open_at, grow_tree}
use Rattle.page_sheets.specs.Tree.{Checked, and_then, Tree, bytes_of, check_tree}
use Rattle.page_sheets.specs.Trees.{check_trees, Finding, all_shut, first_open, before, write_trees, bytes_all}
use Rattle.page_sheets.proofs.Fit.{Fit}
use Rattle.page_sheets.proofs.GreatestValues.{open_greatest}
use Rattle.page_sheets.proofs.Growth.{shut_passes, open_holds, shut_fails}
use Rattle.page_sheets.proofs.Soundness.{sound}

abbrev pub Fails : Formula → Type 0
Fails F = (ρ : Values) → InRange F.ranges ρ → truth ρ F.program ≡ false

-- ---- what passes: every formula fails
abbrev AllFail : List Formula → Checked → Type 0
AllFail Fs (good (o, r)) = Every Fails Fs
AllFail Fs (refused m o) = Unit {0}

trees_sound : (N : ℕ) (Fs : List Formula) → Every (Fit N) Fs → (at : ℕ) (bs : List ℕ) → AllFail Fs (check_trees N Fs at bs)
unfolding check_trees
trees_sound N [] a at bs = tt
trees_sound N (F ∷ Fs) a at bs = go (check_tree N F at bs) refl (λ o r. trees_sound N Fs a.1 o r)
  where
    both : (x : Checked) → Fails F → AllFail Fs x → AllFail (F ∷ Fs) x
    both (good (o, r)) h k = (h, k)
    both (refused m o) h k = tt

    go : (x : Checked) → check_tree N F at bs ≡ x → ((o : ℕ) (r : List ℕ) → AllFail Fs (check_trees N Fs o r)) → AllFail (F ∷ Fs) (and_then x (λ o r. check_trees N Fs o r))
    go (good (o, r)) e k = both (check_trees N Fs o r) (sound N F a.0.ranges_small at bs o r e) (k o r)
    go (refused m o) e k = tt

-- a no: formula i is G, those before it fail, and it holds under the values
abbrev pub Opens : List Formula → ℕ → Formula → Values → Type 0
Opens [] i G x = ⊥
Opens (F ∷ Fs) zero G x = (F ≡ G) × InRange G.ranges x × (truth x G.program ≡ true)
Opens (F ∷ Fs) (suc i) G x = Fails F × Opens Fs i G x

-- ---- what is written: trees that pass, or values that the first open formula holds under
abbrev Found : ℕ → List Formula → Finding → Type 0
Found n Fs (all_shut ts) = (at : ℕ) (rest : List ℕ) → check_trees (suc n) Fs at (bytes_all ts ++ rest) ≡ good (at + length (bytes_all ts), rest)
Found n Fs (first_open i G x) = Opens Fs i G x

trees_found : (n : ℕ) (Fs : List Formula) → Every (Fit (suc n)) Fs → Found n Fs (write_trees n Fs)
unfolding check_trees write_trees bytes_all
trees_found n [] a = λ at rest. ap (λ o. good (o, rest)) (omega arith)
trees_found n (F ∷ Fs) a = go (grow_tree n F) refl (write_trees n Fs) (trees_found n Fs a.1)
  where
    go : (r : Growth) → grow_tree n F ≡ r → (v : Finding) → Found n Fs v → Found n (F ∷ Fs) (before F r v)
    go (open_at x) e v h = let o = open_holds n F a.0 x e in (refl, o.0, o.1)
    go (shut t) e (first_open i G x) h = (shut_fails n F a.0 t e, h)
    go (shut t) e (all_shut ts) h = λ at rest.
        ap (λ bs. and_then (check_tree (suc n) F at bs) (λ o r. check_trees (suc n) Fs o r)) (append_assoc (bytes_of t) (bytes_all ts) rest)
        ∙ ap (λ x. and_then x (λ o r. check_trees (suc n) Fs o r)) (shut_passes n F a.0 t e at (bytes_all ts ++ rest))
        ∙ h (at + length (bytes_of t)) rest
        ∙ ap (λ o. good (o, rest)) (omega (arith, length-append (bytes_of t) (bytes_all ts)))

-- a written yes passes
pub yes_found : (n : ℕ) (Fs : List Formula) → Every (Fit (suc n)) Fs → (ts : List Tree) → write_trees n Fs ≡ all_shut ts → (at : ℕ) → check_trees (suc n) Fs at (bytes_all ts) ≡ good (at + length (bytes_all ts), [])
yes_found n Fs a ts e at = ap (λ bs. check_trees (suc n) Fs at bs) (sym (append-nil (bytes_all ts))) ∙ (rw e at (trees_found n Fs a)) at []

-- what passes is right
pub yes_sound : (N : ℕ) (Fs : List Formula) → Every (Fit N) Fs → (at : ℕ) (bs : List ℕ) (o : ℕ) (r : List ℕ) → check_trees N Fs at bs ≡ good (o, r) → Every Fails Fs
yes_sound N Fs a at bs o r e = rw e at (trees_sound N Fs a at bs)

-- a written no, and then no yes passes
pub no_found : (n : ℕ) (Fs : List Formula) → Every (Fit (suc n)) Fs → (i : ℕ) (G : Formula) (x : Values) → write_trees n Fs ≡ first_open i G x → Opens Fs i G x
no_found n Fs a i G x e = rw e at (trees_found n Fs a)

-- the formula's number, and that it holds
pub opens_at : (Fs : List Formula) (i : ℕ) (G : Formula) (x : Values) → Opens Fs i G x → (F : Formula) → (i < length Fs) × (get_or Fs i F ≡ G) × InRange G.ranges x × (truth x G.program ≡ true)
opens_at [] i G x h F = absurd h
opens_at (E ∷ Fs) zero G x h F = (omega arith, h.0, h.1, h.2)
opens_at (E ∷ Fs) (suc i) G x h F = let r = opens_at Fs i G x h.1 F in (omega (arith, r.0), r.1, r.2, r.3)

pub all_at : (P : Formula → Type 0) (Fs : List Formula) → Every P Fs → (i : ℕ) (F : Formula) → i < length Fs → P (get_or Fs i F)
all_at P [] a i F h = absurd (omega arith)
all_at P (E ∷ Fs) a zero F h = a.0
all_at P (E ∷ Fs) a (suc i) F h = all_at P Fs a.1 i F (omega arith)

-- the values of a written no are the greatest at a leaf of its formula
pub found_greatest : (n : ℕ) (Fs : List Formula) → Every (Fit (suc n)) Fs → (i : ℕ) (G : Formula) (x : Values) → write_trees n Fs ≡ first_open i G x → GreatestLeaf G x
unfolding write_trees
found_greatest n [] a i G x e = absurd (let z : ◌≡◌ {A = ℕ} 0 1 = cc in omega arith)
found_greatest n (F ∷ Fs) a i G x e = go (grow_tree n F) refl (write_trees n Fs) (λ j H y k. found_greatest n Fs a.1 j H y k) e
  where
    go : (r : Growth) → grow_tree n F ≡ r → (v : Finding) → ((j : ℕ) (H : Formula) (y : Values) → v ≡ first_open j H y → GreatestLeaf H y) → before F r v ≡ first_open i G x → GreatestLeaf G x
    go (open_at y) d v k e = let same : F ≡ G = cc in let alike : y ≡ x = cc in rw (← same, ← alike) (open_greatest n F a.0 y d)
    go (shut t) d (all_shut ts) k e = absurd (let z : ◌≡◌ {A = ℕ} 0 1 = cc in omega arith)
    go (shut t) d (first_open j H y) k e = let same : H ≡ G = cc in let alike : y ≡ x = cc in rw (← same, ← alike) (k j H y refl)

-- some formula that holds on values in range, and then not all fail
pub not_all : (Fs : List Formula) (i : ℕ) (F : Formula) (x : Values) → i < length Fs → InRange (get_or Fs i F).ranges x → truth x (get_or Fs i F).program ≡ true → ¬ Every Fails Fs
not_all Fs i F x h r t a = true≢false (sym t ∙ all_at Fails Fs a i F h x r)
