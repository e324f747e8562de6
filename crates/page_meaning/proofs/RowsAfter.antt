-- The full rows after a change, in terms of those before: one lemma for the three kinds.
use mathlib.Core.Path.{◌≡◌, refl, ap₂, subst}
use mathlib.Core.Logic.{◌↔◌, ◌⊎◌, inl, inr}
use mathlib.Core.Bool.{Bool, true, false, not, ◌&&◌, cond}
use mathlib.Core.List.{List, [], ◌∷◌}
use lib.Dec.{T, T_not}
use Rattle.page_meaning.specs.Condition.{Condition, Row, meets}
use Rattle.page_meaning.specs.Contents.{Version, version1, version2, Question, Change, insert, delete, modify, Mode, Values, ◌∈◌, each, fits, new_row, place, unmoved, left, added, after_by, Contents, Valid, Full, row, Within, Shows, Listed, Same}
use Rattle.page_meaning.specs.WellFormed.{ChangeOk}
use Rattle.page_meaning.specs.Trouble.{moved, new_fits}
use Rattle.page_meaning.proofs.Words.{moves, leaves}
use Rattle.page_meaning.proofs.Truth.{and_l}
use Rattle.page_meaning.proofs.MovedRows.{Wide, with, selected_same, fits_same, row_same}
use Rattle.page_meaning.proofs.Tables.{in_left, in_right, in_cases, each_from, each_in, only, within_wide}
use Rattle.page_meaning.proofs.Fates.{Fate, Then}

-- a row that moves leaves its place
pub moved_leaves : (q : Question) (d : Condition) (ms : List Mode) (v : Version) (r : Row) → T (moves q d ms r) → T (leaves q d ms v r)
moved_leaves q d ms version1 r m = m
moved_leaves q d ms version2 r m = and_l (meets d r) (new_fits q.changed ms r) m

abbrev pub modify_fate : Version → Question → Condition → List Mode → Fate
modify_fate v q d ms = record { stays = λ r. not (leaves q d ms v r); moves = moves q d ms; after = moved q ms; apart = λ r s m. T_not (leaves q d ms v r) s (moved_leaves q d ms v r m) }

abbrev pub fate_of : Question → Change → Fate
fate_of q (insert new) = record { stays = λ r. true; moves = λ r. false; after = λ r. r; apart = λ r s m. m }
fate_of q (delete d) = record { stays = λ r. not (meets d r); moves = λ r. false; after = λ r. r; apart = λ r s m. m }
fate_of q (modify d ms) = modify_fate q.version q d ms

-- ---- what is left of one row

-- does a row leave its place: is it chosen, are its new values in range
abbrev gone : Version → Bool → Bool → Bool
gone version1 b g = b && g
gone version2 b g = b

module _ (P : Values → Type 0) where
  abbrev Some : List Values → Type 0
  Some l = (s : Values) × (s ∈ l) × P s

  some_one : (r : Values) → Some (r ∷ []) → P r
  some_one r t = subst P (only t.1) t.2

  -- it stays where its second fate is ruled out
  stayed : (old new : Values) → Some (old ∷ []) ↔ ((T true × P old) ⊎ (T false × P new))
  stayed old new = (λ t. inl (tt, some_one old t), λ t. elim t [ inl k ↦ (old, inl refl, k.1) | inr k ↦ absurd k.0 ])

  -- it moves, or it goes
  moved_on : (old new : Values) → Some (new ∷ []) ↔ ((T false × P old) ⊎ (T true × P new))
  moved_on old new = (λ t. inr (tt, some_one new t), λ t. elim t [ inl k ↦ absurd k.0 | inr k ↦ (new, inl refl, k.1) ])

  removed : (old new : Values) → Some [] ↔ ((T false × P old) ⊎ (T false × P new))
  removed old new = (λ t. absurd t.1, λ t. elim t [ inl k ↦ absurd k.0 | inr k ↦ absurd k.0 ])

  deleted : (b : Bool) (old : Values) → Some (cond b [] (old ∷ [])) ↔ ((T (not b) × P old) ⊎ (T false × P old))
  deleted true old = removed old old
  deleted false old = stayed old old

  modified : (v : Version) (b g : Bool) (old new : Values) → Some (cond b (cond g (new ∷ []) (unmoved v old)) (old ∷ [])) ↔ ((T (not (gone v b g)) × P old) ⊎ (T (b && g) × P new))
  modified version1 true true old new = moved_on old new
  modified version1 true false old new = stayed old new
  modified version1 false g old new = stayed old new
  modified version2 true true old new = moved_on old new
  modified version2 true false old new = removed old new
  modified version2 false g old new = stayed old new

-- M of a full row is the test of its row of the changed table
moves_same : (q : Question) (d : Condition) (ms : List Mode) → ChangeOk q (modify d ms) → (x : Full) → Wide q x → meets d (place q x.here) && fits q.changed (new_row q ms x.here) ≡ moves q d ms (row x)
moves_same q d ms ok x w = ap₂ ◌&&◌ (selected_same q x w d ok.0) (fits_same q x w ms ok.1)

leaves_same : (version : Version) (q : Question) (d : Condition) (ms : List Mode) → ChangeOk q (modify d ms) → (x : Full) → Wide q x → gone version (meets d (place q x.here)) (fits q.changed (new_row q ms x.here)) ≡ leaves q d ms version (row x)
leaves_same version1 q d ms ok x w = moves_same q d ms ok x w
leaves_same version2 q d ms ok x w = selected_same q x w d ok.0

left_exactly : (q : Question) (ch : Change) → ChangeOk q ch → (x : Full) → Wide q x → (v : Values)
    → ((s : Values) × (s ∈ left q ch x.here) × Shows q (row (with x s)) v) ↔ Then q (fate_of q ch) (row x) v
left_exactly q (insert new) ok x w v = stayed (λ s. Shows q (row (with x s)) v) x.here x.here
left_exactly q (delete d) ok x w v = rw (← selected_same q x w d ok) (deleted (λ s. Shows q (row (with x s)) v) (meets d (place q x.here)) x.here)
left_exactly q (modify d ms) ok x w v =
    rw (← leaves_same q.version q d ms ok x w, ← moves_same q d ms ok x w, ← row_same q x w ms ok.1 ok.2)
    (modified (λ s. Shows q (row (with x s)) v) q.version (meets d (place q x.here)) (fits q.changed (new_row q ms x.here)) x.here (new_row q ms x.here))

-- ---- the list after the change

-- the added rows in place of the changed table's
abbrev pub adding : Change → Contents → Contents
adding ch c = record { front = c.front; changed = added ch; back = c.back }

-- P holds of some full row
abbrev pub Among : Contents → (Full → Type 0) → Type 0
Among c P = (x : Full) × Within c x × P x

pub listed_after : (q : Question) (ch : Change) → ChangeOk q ch → (c : Contents) → Valid q c
    → Same (Listed q (after_by q ch c)) (λ v. Among c (λ x. Then q (fate_of q ch) (row x) v) ⊎ Listed q (adding ch c) v)
listed_after q ch ok c o v = (λ t. there t (in_cases t.0.here (each (left q ch) c.changed) (added ch) t.1.here), back)
  where
    there : (t : Listed q (after_by q ch c) v) → (t.0.here ∈ each (left q ch) c.changed) ⊎ (t.0.here ∈ added ch) → Among c (λ x. Then q (fate_of q ch) (row x) v) ⊎ Listed q (adding ch c) v
    there t (inl h) = let r = each_from (left q ch) c.changed t.0.here h in
        let x = with t.0 r.0 in
        let w : Within c x = record { before = t.1.before; here = r.1; after = t.1.after } in
        inl (x, w, (left_exactly q ch ok x (within_wide q c o x w) v).0 (t.0.here, r.2, t.2))
    there t (inr h) = inr (t.0, record { before = t.1.before; here = h; after = t.1.after }, t.2)

    back : Among c (λ x. Then q (fate_of q ch) (row x) v) ⊎ Listed q (adding ch c) v → Listed q (after_by q ch c) v
    back (inl t) = let s = (left_exactly q ch ok t.0 (within_wide q c o t.0 t.1) v).1 t.2 in
        (with t.0 s.0, record { before = t.1.before; here = in_left s.0 (each (left q ch) c.changed) (added ch) (each_in (left q ch) c.changed t.0.here s.0 t.1.here s.1); after = t.1.after }, s.2)
    back (inr t) = (t.0, record { before = t.1.before; here = in_right t.0.here (each (left q ch) c.changed) (added ch) t.1.here; after = t.1.after }, t.2)
