-- A tree that passes shows that its formula fails on all values in range.
-- what a tree that passes shows
use Prim.Native.Nat.{ℕ, zero, suc}
use mathlib.Core.Path.{◌≡◌, refl, sym, ◌∙◌}
use mathlib.Core.Bool.{Bool, true, false, cond}
use mathlib.Core.List.{List, [], ◌∷◌, ◌++◌, append_assoc}
use native.Mathlib.Omega.{arith}
use lib.ListN.{length, length-append}
use lib.Dec.{T, leb}
use lib.IntN.{pos}
use lib.Signed.{◌<ℤ◌, lt_z, lt_z_yes}
use Rattle.page_numbers.specs.Outcome.{good, refused}
use Rattle.page_walks.specs.Grid.{Grid, weight}
use Rattle.page_walks.specs.Walk.{closed}
use Rattle.page_formulas.specs.Formulas.{Formula}
use Rattle.page_formulas.specs.Knowledge.{Three, fails, passes, open?, known}
use Rattle.page_formulas.specs.Program.{Values, test, Place, truth, places}
use Rattle.page_formulas.specs.Vertices.{InRange, Ranges, present}
use Rattle.page_formulas.specs.Truths.{Agrees, Says}
use Rattle.page_formulas.proofs.Truths.{known_says}
use Rattle.page_formulas.specs.ProperFormulas.{SmallRange}
use Rattle.page_questions.specs.Guarantees.{Every}
use Rattle.page_sheets.specs.Facts.{start, decide}
use Rattle.page_sheets.specs.Tree.{more, Checked, and_then, Vertices, vertices, false_node, cycle_end, node, check, check_tree}
use Rattle.page_sheets.proofs.MetFacts.{Meets, meets_start, meets_decide, meets_closed}

abbrev pub IfPassed : Type 0 → Checked → Type 0
IfPassed A (good (o, r)) = A
IfPassed A (refused n o) = Unit {0}

shows_any : (A : Type 0) → A → (x : Checked) → IfPassed A x
shows_any A a (good (o, r)) = a
shows_any A a (refused n o) = tt

shows_first : (A : Type 0) (x : Checked) (k : ℕ → List ℕ → Checked) → IfPassed A x → IfPassed A (and_then x k)
shows_first A (good (o, r)) k a = shows_any A a (k o r)
shows_first A (refused n o) k a = tt

shows_then : (A : Type 0) (x : Checked) (k : ℕ → List ℕ → Checked) → ((o : ℕ) (r : List ℕ) → IfPassed A (k o r)) → IfPassed A (and_then x k)
shows_then A (good (o, r)) k h = h o r
shows_then A (refused n o) k h = tt

pub agrees_snoc : (ρ : Values) (done : List Place) (p : Place) (todo : List Place) (ds : List Bool) (d : Bool) → length done ≡ length ds → Agrees ρ (done ++ p ∷ todo) ds → test ρ p ≡ d → Agrees ρ (done ++ p ∷ todo) (ds ++ d ∷ [])
agrees_snoc ρ [] p [] [] d l a e = (e, tt)
agrees_snoc ρ [] p (q ∷ todo) [] d l a e = (e, tt)
agrees_snoc ρ [] p todo (b ∷ ds) d l a e = absurd (omega arith)
agrees_snoc ρ (q ∷ done) p todo [] d l a e = absurd (omega arith)
agrees_snoc ρ (q ∷ done) p todo (b ∷ ds) d l a e = (a.0, agrees_snoc ρ done p todo ds d (omega arith) a.1 e)

pub snoc_lengths : (done : List Place) (p : Place) (ds : List Bool) (d : Bool) → length done ≡ length ds → length (done ++ p ∷ []) ≡ length (ds ++ d ∷ [])
snoc_lengths done p ds d l = simp length-append (omega arith)

abbrev GotPresent : Ranges → Vertices → Type 0
GotPresent rs (good (c, o, r)) = Every (λ v. T (present rs v)) c
GotPresent rs (refused n o) = Unit {0}

got_present : (rs : Ranges) (n at : ℕ) (bs : List ℕ) → GotPresent rs (vertices rs n at bs)
unfolding vertices
got_present rs zero at bs = tt
got_present rs (suc n) at [] = tt
got_present rs (suc n) at (v ∷ bs) = go (present rs v) (λ t. t) (vertices rs n (suc at) bs) (got_present rs n (suc at) bs)
  where
    go : (b : Bool) → (T b → T (present rs v)) → (r : Vertices) → GotPresent rs r → GotPresent rs (cond b (more v r) (refused 14 at))
    go true f (good (c, o, r)) h = (f tt, h)
    go true f (refused n o) h = tt
    go false f r h = tt

module _ (N : ℕ) (F : Formula) (ρ : Values) where
  abbrev False : Type 0
  False = truth ρ F.program ≡ false

  false_sound : (t : Three) (at : ℕ) (bs : List ℕ) → Says t (truth ρ F.program) → IfPassed False (false_node t at bs)
  false_sound fails at bs h = h
  false_sound passes at bs h = tt
  false_sound open? at bs h = tt

  cycle_sound : (g : Grid) (at : ℕ) → Meets F.ranges g ρ → (r : Vertices) → GotPresent F.ranges r → IfPassed False (cycle_end g at r)
  cycle_sound g at m (good (c, o, r)) a = go (lt_z (closed (weight g) c) (pos 0)) (λ t. lt_z_yes t)
    where
      go : (b : Bool) → (T b → closed (weight g) c <ℤ pos 0) → IfPassed False (cond b (good (o, r)) (refused 15 at))
      go true f = absurd (meets_closed F.ranges g ρ m c a (f tt))
      go false f = tt
  cycle_sound g at m (refused n o) a = tt

  node_sound : (ds : List Bool) (g : Grid) (at : ℕ) (bs : List ℕ) (branch : List ℕ → Checked) → Meets F.ranges g ρ → Agrees ρ (places F.program) ds → ((rest : List ℕ) → IfPassed False (branch rest)) → IfPassed False (node N F ds g at bs branch)
  node_sound ds g at [] branch m a k = tt
  node_sound ds g at (zero ∷ bs) branch m a k = tt
  node_sound ds g at (suc zero ∷ bs) branch m a k = false_sound (known F.program ds) at bs (known_says ρ F.program ds a)
  node_sound ds g at (suc (suc zero) ∷ []) branch m a k = tt
  node_sound ds g at (suc (suc zero) ∷ (zero ∷ bs)) branch m a k = tt
  node_sound ds g at (suc (suc zero) ∷ (suc n ∷ bs)) branch m a k = go (leb (suc n) N)
    where
      r : Vertices
      r = vertices F.ranges (suc n) (suc (suc at)) bs

      go : (b : Bool) → IfPassed False (cond b (cycle_end g at r) (refused 14 (suc at)))
      go true = cycle_sound g at m r (got_present F.ranges (suc n) (suc (suc at)) bs)
      go false = tt
  node_sound ds g at (suc (suc (suc zero)) ∷ bs) branch m a k = k bs
  node_sound ds g at (suc (suc (suc (suc b))) ∷ bs) branch m a k = tt

  check_sound : (todo done : List Place) (ds : List Bool) (g : Grid) (at : ℕ) (bs : List ℕ) → places F.program ≡ done ++ todo → length done ≡ length ds → Meets F.ranges g ρ → Agrees ρ (places F.program) ds → IfPassed False (check N F todo ds g at bs)
  unfolding check
  check_sound [] done ds g at bs e l m a = node_sound ds g at bs (λ rest. refused 15 at) m a (λ rest. tt)
  check_sound (p ∷ todo) done ds g at bs e l m a =
      node_sound ds g at bs _ m a (λ rest. halves rest (test ρ p) refl (λ d h o r. check_sound todo (done ++ p ∷ []) (ds ++ d ∷ []) (decide g p d) o r (e ∙ sym (append_assoc done (p ∷ []) todo)) (snoc_lengths done p ds d l) (meets_decide F.ranges g ρ p d m h) (agrees_next d h)))
    where
      agrees_next : (d : Bool) → test ρ p ≡ d → Agrees ρ (places F.program) (ds ++ d ∷ [])
      agrees_next d h = rw e (agrees_snoc ρ done p todo ds d l (rw e at a) h)

      first : List ℕ → Checked
      first rest = check N F todo (ds ++ true ∷ []) (decide g p true) (suc at) rest

      second : ℕ → List ℕ → Checked
      second o r = check N F todo (ds ++ false ∷ []) (decide g p false) o r

      halves : (rest : List ℕ) (d : Bool) → test ρ p ≡ d → ((d : Bool) → test ρ p ≡ d → (o : ℕ) (r : List ℕ) → IfPassed False (check N F todo (ds ++ d ∷ []) (decide g p d) o r)) → IfPassed False (and_then (first rest) second)
      halves rest true h ih = shows_first False (first rest) second (ih true h (suc at) rest)
      halves rest false h ih = shows_then False (first rest) second (ih false h)

-- a tree that passes shows that the formula fails on all values in range
pub sound : (N : ℕ) (F : Formula) → Every SmallRange F.ranges → (at : ℕ) (bs : List ℕ) (o : ℕ) (r : List ℕ) → check_tree N F at bs ≡ good (o, r) → (ρ : Values) → InRange F.ranges ρ → truth ρ F.program ≡ false
sound N F small at bs o r e ρ h = rw e at (check_sound N F ρ (places F.program) [] [] (start N F.ranges) at bs refl refl (meets_start N F.ranges ρ h small) (none (places F.program)))
  where
    none : (ps : List Place) → Agrees ρ ps []
    none [] = tt
    none (p ∷ ps) = tt
