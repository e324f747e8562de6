-- No: contents with one row a table have one full row, so what one or two rows show decides.
use native.Mathlib.Omega.{arith}
use Prim.Native.Nat.{◌≤◌}
use mathlib.Core.Path.{◌≡◌, refl, ap₂, ◌∙◌, subst}
use mathlib.Core.Logic.Iff
use mathlib.Core.Logic.{◌↔◌, inl, inr}
use mathlib.Core.List.{List, [], ◌∷◌, ◌++◌}
use lib.ListN.{length}
use lib.Dec.{T}
use Rattle.page_meaning.specs.Condition.{Row}
use Rattle.page_meaning.specs.Contents.{Question, Change, insert, delete, modify, Values, ◌∈◌, each, added, after_by, look, Contents, Valid, row, Shows, Listed, Same}
use Rattle.page_meaning.specs.WellFormed.{ChangeOk}
use Rattle.page_meaning.specs.Trouble.{Formula, All, Met, AllFail, irrelevance, computability, first_of, second_of}
use Rattle.page_meaning.proofs.Words.{C}
use Rattle.page_meaning.specs.Witness.{cut, contents_of, here_of, witness, empty, Small}
use Rattle.page_meaning.proofs.Tables.{cut_values, cut_fits, alone_fit, alone_joined, alone_only, alone_small, none_fit, none_small, only}
use Rattle.page_meaning.proofs.Fates.{Then}
use Rattle.page_meaning.proofs.RowsAfter.{fate_of, Among, listed_after}
use Rattle.page_meaning.proofs.QuietRows.{InRange, Quiet, Settled}

-- ---- the witnesses are valid contents with at most one row a table

contents_valid : (q : Question) (u : Values) → InRange q u → (rows : List Values) → ((r : Values) → r ∈ rows → r ≡ (cut q u).here) → Valid q (contents_of q rows (cut q u))
contents_valid q u h rows f = let k = cut_fits q u h in
    record { front = alone_fit q.front (cut q u).before k.before; changed = λ r i. rw (f r i) k.here; back = alone_fit q.back (cut q u).after k.after }

pub witness_valid : (q : Question) (ch : Change) (u : Values) → InRange q u → Valid q (witness q ch u)
witness_valid q ch u h = contents_valid q u h (here_of ch (cut q u).here) (go ch)
  where
    go : (ch : Change) (r : Values) → r ∈ here_of ch (cut q u).here → r ≡ (cut q u).here
    go (insert new) r i = absurd i
    go (delete d) r i = only i
    go (modify d ms) r i = only i

pub witness_small : (q : Question) (ch : Change) (u : Values) → Small (witness q ch u)
witness_small q ch u = record { front = alone_small q.front (cut q u).before; changed = go ch; back = alone_small q.back (cut q u).after }
  where
    go : (ch : Change) → length (here_of ch (cut q u).here) ≤ 1
    go (insert new) = omega arith
    go (delete d) = omega arith
    go (modify d ms) = omega arith

pub empty_valid : (q : Question) → Valid q (empty q)
empty_valid q = record { front = none_fit q.front; changed = λ r i. absurd i; back = none_fit q.back }

pub empty_small : (q : Question) → Small (empty q)
empty_small q = record { front = none_small q.front; changed = omega arith; back = none_small q.back }

-- ---- one row a table: one full row

abbrev one_row : Question → Values → Contents
one_row q u = contents_of q ((cut q u).here ∷ []) (cut q u)

one_valid : (q : Question) (u : Values) → InRange q u → Valid q (one_row q u)
one_valid q u h = contents_valid q u h ((cut q u).here ∷ []) (λ r i. only i)

single : (q : Question) (u : Values) → InRange q u → (P : Row → Type 0) → Among (one_row q u) (λ x. P (row x)) ↔ P (look u)
single q u h P = (there, back)
  where
    there : Among (one_row q u) (λ x. P (row x)) → P (look u)
    there t = let k = cut_fits q u h in let x = t.0 in let w = t.1 in
        subst (λ l. P (look l)) (ap₂ (λ a b. a ++ b) (alone_only q.front (cut q u).before k.before x.before w.before) (ap₂ (λ a b. a ++ b) (only w.here) (alone_only q.back (cut q u).after k.after x.after w.after)) ∙ cut_values q u) t.2

    back : P (look u) → Among (one_row q u) (λ x. P (row x))
    back p = let k = cut_fits q u h in
        (cut q u, record { before = alone_joined q.front (cut q u).before k.before; here = inl refl; after = alone_joined q.back (cut q u).after k.after }, rw cut_values p)

-- ---- contents that break a verdict

abbrev pub Breaks1 : Question → Change → Contents → Type 0
Breaks1 q ch c = ¬ Same (Listed q c) (Listed q (after_by q ch c))

abbrev pub Breaks2 : Question → Change → Contents → Contents → Type 0
Breaks2 q ch c d = Same (Listed q c) (Listed q d) × ¬ Same (Listed q (after_by q ch c)) (Listed q (after_by q ch d))

-- ---- what is shown of each kind of change: yes from formulas that fail, no from rows that meet one

abbrev pub Broken1 : Question → Change → Formula → Type 0
Broken1 q ch φ = (m : Met q φ) → Breaks1 q ch (first_of q ch φ m)

abbrev pub Broken2 : Question → Change → Formula → Type 0
Broken2 q ch φ = (m : Met q φ) → Breaks2 q ch (first_of q ch φ m) (second_of q ch φ m)

pub record Exact (q : Question) (ch : Change) : Type 0 where
  pub quiet : AllFail q (irrelevance q ch) → Quiet q ch
  pub settled : AllFail q (computability q ch) → Settled q ch
  pub broken1 : All (Broken1 q ch) (irrelevance q ch)
  pub broken2 : All (Broken2 q ch) (computability q ch)

-- ---- a change that adds no row

module _ (q : Question) (ch : Change) (ok : ChangeOk q ch) (bare : (r : Values) → ¬ (r ∈ added ch)) where
  module _ (u : Values) (h : InRange q u) where
    shown : Same (Listed q (one_row q u)) (Shows q (look u))
    shown v = single q u h (λ r. Shows q r v)

    shown_after : Same (Listed q (after_by q ch (one_row q u))) (Then q (fate_of q ch) (look u))
    shown_after v = Iff.trans (listed_after q ch ok (one_row q u) (one_valid q u h) v) (Iff.trans (λ t. elim t [ inl a ↦ a | inr f ↦ absurd (bare f.0.here f.1.here) ], λ a. inl a) (single q u h (λ r. Then q (fate_of q ch) r v)))

    pub breaks1 : ¬ Same (Shows q (look u)) (Then q (fate_of q ch) (look u)) → Breaks1 q ch (one_row q u)
    breaks1 f same = f (λ v. Iff.trans (Iff.symm (shown v)) (Iff.trans (same v) (shown_after v)))

    -- against contents with no row
    pub breaks2_empty : ¬ T (C q (look u)) → (v : Values) → Then q (fate_of q ch) (look u) v → Breaks2 q ch (one_row q u) (empty q)
    unfolding each
    breaks2_empty f v t = (λ w. (λ s. absurd (f ((shown w).0 s).0), λ s. absurd s.1.here), λ same. let s = (same v).0 ((shown_after v).1 t) in bare s.0.here s.1.here)

  pub breaks2 : (u w : Values) → InRange q u → InRange q w → Same (Shows q (look u)) (Shows q (look w)) → ¬ Same (Then q (fate_of q ch) (look u)) (Then q (fate_of q ch) (look w)) → Breaks2 q ch (one_row q u) (one_row q w)
  breaks2 u w h i same f =
      (λ v. Iff.trans (shown u h v) (Iff.trans (same v) (Iff.symm (shown w i v))), λ s. f (λ v. Iff.trans (Iff.symm (shown_after u h v)) (Iff.trans (s v) (shown_after w i v))))
