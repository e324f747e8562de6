-- The checker and the writer over a list of formulas, by a position as code keeps it.
use Prim.Native.Nat.{ℕ, zero, suc, ◌+◌, ◌≤◌, ◌<◌}
use mathlib.Core.Path.{◌≡◌, refl, sym, ap, ◌∙◌, subst}
use mathlib.Core.List.{List, [], ◌∷◌, ◌++◌, append_assoc, append-nil}
use native.Mathlib.Omega.{arith}
use lib.ListN.{length, get_or, drop, drop_of_length-le}
use lib.Seq.{drop-cons}
use Rattle.page_numbers.specs.Outcome.{good}
use Rattle.page_meaning.specs.Contents.{Values}
use Rattle.page_formulas.specs.Formulas.{Formula}
use Rattle.page_sheets.specs.Growth.{Growth, shut, open_at, grow_tree}
use Rattle.page_sheets.specs.Tree.{and_then, Tree, bytes_of, check_tree}
use Rattle.page_sheets.specs.Trees.{check_trees, Finding, all_shut, first_open, before, write_trees, bytes_all}
use Rattle.page_formulas.specs.Program as P

-- ---- formulas from position i on
module _ (N : ℕ) (Fs : List Formula) (i : ℕ) where
  pub trees_next : i < length Fs → (F : Formula) (at : ℕ) (bs : List ℕ) → check_trees N (drop i Fs) at bs ≡ and_then (check_tree N (get_or Fs i F) at bs) (λ o r. check_trees N (drop (suc i) Fs) o r)
  unfolding check_trees
  trees_next h F at bs = rw (drop-cons Fs i F h)

  pub trees_end : length Fs ≤ i → (at : ℕ) (bs : List ℕ) → check_trees N (drop i Fs) at bs ≡ good (at, bs)
  unfolding check_trees
  trees_end h at bs = rw (drop_of_length-le Fs h)

-- all shut, or one open
shut_open : {ts : List Tree} {i : ℕ} {F : Formula} {x : P.Values} → all_shut ts ≡ first_open i F x → ⊥
shut_open {ts} {i} {F} {x} e = subst AllShut e tt
  where
    AllShut : Finding → Type 0
    AllShut (all_shut us) = Unit {0}
    AllShut (first_open j G y) = ⊥

-- the formulas before position i are shut with these trees
abbrev pub ShutBefore : ℕ → List Formula → ℕ → List Tree → Type 0
ShutBefore n Fs zero [] = Unit {0}
ShutBefore n Fs zero (t ∷ ts) = ⊥
ShutBefore n [] (suc i) ts = ⊥
ShutBefore n (F ∷ Fs) (suc i) [] = ⊥
ShutBefore n (F ∷ Fs) (suc i) (t ∷ ts) = (grow_tree n F ≡ shut t) × ShutBefore n Fs i ts

-- what is found from position i on, after those trees
abbrev pub precede : List Tree → Finding → Finding
precede ts (all_shut us) = all_shut (ts ++ us)
precede ts (first_open i F x) = first_open (length ts + i) F x

module _ (n : ℕ) where
  pub found_before : (Fs : List Formula) (i : ℕ) (ts : List Tree) → ShutBefore n Fs i ts → write_trees n Fs ≡ precede ts (write_trees n (drop i Fs))
  unfolding write_trees
  found_before Fs zero [] h = go (write_trees n Fs)
    where
      go : (f : Finding) → f ≡ precede [] f
      go (all_shut us) = refl
      go (first_open i F x) = ap (λ j. first_open j F x) (omega arith)
  found_before Fs zero (t ∷ ts) h = absurd h
  found_before [] (suc i) ts h = absurd h
  found_before (F ∷ Fs) (suc i) [] h = absurd h
  found_before (F ∷ Fs) (suc i) (t ∷ ts) h = rw (h.0, found_before Fs i ts h.1) (go (write_trees n (drop i Fs)))
    where
      go : (f : Finding) → before F (shut t) (precede ts f) ≡ precede (t ∷ ts) f
      go (all_shut us) = refl
      go (first_open j G x) = ap (λ k. first_open k G x) (omega arith)

  -- one formula more is shut
  pub shut_more : (Fs : List Formula) (i : ℕ) (ts : List Tree) (F : Formula) (t : Tree) → ShutBefore n Fs i ts → i < length Fs → grow_tree n (get_or Fs i F) ≡ shut t → ShutBefore n Fs (suc i) (ts ++ t ∷ [])
  shut_more [] i ts F t h l e = absurd (omega arith)
  shut_more (G ∷ Fs) zero [] F t h l e = (e, tt)
  shut_more (G ∷ Fs) zero (u ∷ ts) F t h l e = absurd h
  shut_more (G ∷ Fs) (suc i) [] F t h l e = absurd h
  shut_more (G ∷ Fs) (suc i) (u ∷ ts) F t h l e = (h.0, shut_more Fs i ts F t h.1 (omega arith) e)

  shut_count : (Fs : List Formula) (i : ℕ) (ts : List Tree) → ShutBefore n Fs i ts → length ts ≡ i
  shut_count Fs zero [] h = refl
  shut_count Fs zero (t ∷ ts) h = absurd h
  shut_count [] (suc i) ts h = absurd h
  shut_count (F ∷ Fs) (suc i) [] h = absurd h
  shut_count (F ∷ Fs) (suc i) (t ∷ ts) h = ap suc (shut_count Fs i ts h.1)

  -- the first open formula; and all shut
  pub found_open : (Fs : List Formula) (i : ℕ) (ts : List Tree) (F : Formula) (x : P.Values) → ShutBefore n Fs i ts → i < length Fs → grow_tree n (get_or Fs i F) ≡ open_at x → write_trees n Fs ≡ first_open i (get_or Fs i F) x
  unfolding write_trees
  found_open Fs i ts F x h l e = found_before Fs i ts h ∙ rw (drop-cons Fs i F l, e) (ap (λ j. first_open j (get_or Fs i F) x) (omega (arith, shut_count Fs i ts h)))

  pub found_shut : (Fs : List Formula) (ts : List Tree) → ShutBefore n Fs (length Fs) ts → write_trees n Fs ≡ all_shut ts
  unfolding write_trees
  found_shut Fs ts h = let l : length Fs ≤ length Fs = omega arith in found_before Fs (length Fs) ts h ∙ rw (drop_of_length-le Fs l) (ap all_shut (append-nil ts))

  -- ---- the other way round: what was found, of each formula

  pub open_there : (Fs : List Formula) (i : ℕ) (F : Formula) (x : P.Values) → write_trees n Fs ≡ first_open i F x → (G : Formula) → (i < length Fs) × (get_or Fs i G ≡ F) × (grow_tree n F ≡ open_at x)
  unfolding write_trees
  open_there [] i F x e G = absurd (shut_open e)
  open_there (E ∷ Fs) i F x e G = go (grow_tree n E) refl (write_trees n Fs) refl e (λ j H y d. open_there Fs j H y d G)
    where
      Found : Type 0
      Found = (i < suc (length Fs)) × (get_or (E ∷ Fs) i G ≡ F) × (grow_tree n F ≡ open_at x)

      here : (j : ℕ) (H : Formula) (y : P.Values) → first_open j H y ≡ first_open i F x → (j < suc (length Fs)) × (get_or (E ∷ Fs) j G ≡ H) × (grow_tree n H ≡ open_at y) → Found
      here j H y d r = let a : j ≡ i = cc in let b : H ≡ F = cc in let c : y ≡ x = cc in rw (← a, ← b, ← c) r

      go : (r : Growth) → grow_tree n E ≡ r → (v : Finding) → write_trees n Fs ≡ v → before E r v ≡ first_open i F x → ((j : ℕ) (H : Formula) (y : P.Values) → write_trees n Fs ≡ first_open j H y → (j < length Fs) × (get_or Fs j G ≡ H) × (grow_tree n H ≡ open_at y)) → Found
      go (open_at y) g v f d ih = here 0 E y d (omega arith, refl, g)
      go (shut t) g (all_shut ts) f d ih = absurd (shut_open d)
      go (shut t) g (first_open j H y) f d ih = let r = ih j H y f in here (suc j) H y d (omega (arith, r.0), r.1, r.2)

  pub shut_there : (Fs : List Formula) (ts : List Tree) → write_trees n Fs ≡ all_shut ts → (i : ℕ) (G : Formula) → i < length Fs → (t : Tree) × (grow_tree n (get_or Fs i G) ≡ shut t)
  unfolding write_trees
  shut_there [] ts e i G h = absurd (omega arith)
  shut_there (E ∷ Fs) ts e i G h = go (grow_tree n E) refl (write_trees n Fs) refl e i h (λ us d j l. shut_there Fs us d j G l)
    where
      go : (r : Growth) → grow_tree n E ≡ r → (v : Finding) → write_trees n Fs ≡ v → before E r v ≡ all_shut ts → (i : ℕ) → i < suc (length Fs) → ((us : List Tree) → write_trees n Fs ≡ all_shut us → (j : ℕ) → j < length Fs → (t : Tree) × (grow_tree n (get_or Fs j G) ≡ shut t)) → (t : Tree) × (grow_tree n (get_or (E ∷ Fs) i G) ≡ shut t)
      go (open_at y) g v f d i l ih = absurd (shut_open (sym d))
      go (shut t) g (first_open j H y) f d i l ih = absurd (shut_open (sym d))
      go (shut t) g (all_shut us) f d zero l ih = (t, g)
      go (shut t) g (all_shut us) f d (suc i) l ih = ih us f i (omega arith)

  -- the trees before position i are the first of all
  pub first_trees : (Fs : List Formula) (ts : List Tree) → write_trees n Fs ≡ all_shut ts → (i : ℕ) (us : List Tree) → ShutBefore n Fs i us → (vs : List Tree) × (ts ≡ us ++ vs)
  first_trees Fs ts e i us h = go (write_trees n (drop i Fs)) (sym e ∙ found_before Fs i us h)
    where
      go : (v : Finding) → all_shut ts ≡ precede us v → (vs : List Tree) × (ts ≡ us ++ vs)
      go (all_shut vs) d = (vs, cc)
      go (first_open j G x) d = absurd (shut_open d)

pub bytes_append : (ts us : List Tree) → bytes_all (ts ++ us) ≡ bytes_all ts ++ bytes_all us
unfolding bytes_all
bytes_append [] us = refl
bytes_append (t ∷ ts) us = ap (λ l. bytes_of t ++ l) (bytes_append ts us) ∙ sym (append_assoc (bytes_of t) (bytes_all ts) (bytes_all us))

pub bytes_more : (ts : List Tree) (t : Tree) → bytes_all (ts ++ t ∷ []) ≡ bytes_all ts ++ bytes_of t
unfolding bytes_all
bytes_more ts t = bytes_append ts (t ∷ []) ∙ ap (λ l. bytes_all ts ++ l) (append-nil (bytes_of t))
