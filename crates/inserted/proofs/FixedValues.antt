-- The inserted value that a column must have, as the declared change holds it.
use Prim.Native.Nat.{ℕ, zero, suc, ◌+◌, ◌-◌, ◌≤◌, ◌<◌}
use mathlib.Core.Path.{◌≡◌, refl, sym, ap, ◌∙◌}
use mathlib.Core.Logic.{◌⊎◌, inl, inr}
use mathlib.Core.Option.{Option, none, some}
use mathlib.Core.List.{List, [], ◌∷◌, ◌++◌, map}
use native.Mathlib.Omega.{arith}
use lib.ListN.{length, get_or, take, replicate, length-replicate, get_or-replicate, length-take, length-map, get_or-append, get_or-eq_default}
use lib.Seq.{get_or-take, get_or-append-add, length-take-le}
use lib.IntN.{ℤ, pos}
use Rattle.page_meaning.specs.Contents.{Values}
use Rattle.question.specs.Held.{row_of, question_of, question_with, change_by, ShapeHeld}
use Rattle.page_questions.specs.Layout.{question_from}
use Rattle.question.specs.declared.types.Change.{Change}
use Rattle.question.specs.declared.types.Column.{Column}
use Rattle.question.specs.declared.types.Condition.{Condition}
use Rattle.question.specs.declared.types.Question.{Question}
use Rattle.question.specs.declared.types.Row.{Row}
use Rattle.question.specs.declared.types.Shape.{Shape}
use Rattle.question.specs.declared.types.Verb.TheVariants.{Insert, Delete, Modify}
use Rattle.question.specs.declared.types.Version.{Version}
use Rattle.sights.specs.Sights.{Whole}
use Rattle.sights.proofs.Shapes.{first_with}
use Rattle.page_sheets.specs.Rows.{inserted_row, fixed}

-- ---- an inserted row, set beside the columns before it

abbrev nothing : Option ℤ
nothing = none

module _ (n : ℕ) (l : List (Option ℤ)) (c : ℕ) where
  pads_before : c < n → get_or (replicate n none ++ l) c none ≡ none
  pads_before h = get_or-append (replicate n none) l none c (omega (arith, length-replicate n nothing)) ∙ get_or-replicate n c none none h

  pads_after : n ≤ c → get_or (replicate n none ++ l) c none ≡ get_or l (c - n) none
  pads_after h = let e : c ≡ length (replicate n nothing) + (c - n) = omega (arith, length-replicate n nothing) in ap (λ k. get_or (replicate n none ++ l) k none) e ∙ get_or-append-add (replicate n none) l (c - n) none

-- a value of a list, where there is one
get_d_some : (l : Values) (j : ℕ) → j < length l → get_or (map some l) j none ≡ some (get_or l j (pos 0))
get_d_some [] j h = absurd (omega arith)
get_d_some (x ∷ l) zero h = refl
get_d_some (x ∷ l) (suc j) h = get_d_some l j (omega arith)

module _ (first width c : ℕ) (vs : Values) where
  abbrev Found : Option ℤ
  Found = get_or (replicate first none ++ map some (take width vs)) c none

  pub row_before : c < first → none ≡ Found
  row_before h = sym (pads_before first (map some (take width vs)) c h)

  short : length (map some (take width vs)) ≤ width
  short = omega (arith, length-map (take width vs) some, length-take width vs)

  pub row_past : first ≤ c → width ≤ c - first → none ≡ Found
  row_past h w = sym (pads_after first (map some (take width vs)) c h ∙ get_or-eq_default (map some (take width vs)) none (omega (arith, short)))

  pub row_has : first ≤ c → c - first < width → width ≤ length vs → some (get_or vs (c - first) (pos 0)) ≡ Found
  row_has h w l = sym (pads_after first (map some (take width vs)) c h ∙ get_d_some (take width vs) (c - first) (omega (arith, length-take-le width vs l)) ∙ ap some (get_or-take width vs (c - first) (pos 0) w))

-- one of the rows that count
pub row_of_lem : (width count i : ℕ) (rows : List Row) (d : Row) → i < count → count ≤ length rows → row_of width (get_or rows i d) ≡ get_or (map (row_of width) (take count rows)) i []
row_of_lem width count i rows d h l = sym (go (take count rows) i (omega (arith, length-take-le count rows l)) ∙ ap (row_of width) (get_or-take count rows i d h))
  where
    go : (rs : List Row) (i : ℕ) → i < length rs → get_or (map (row_of width) rs) i [] ≡ row_of width (get_or rs i d)
    go [] i b = absurd (omega arith)
    go (r ∷ rs) zero b = refl
    go (r ∷ rs) (suc i) b = go rs i (omega arith)

module _ (v : Version) (h : Shape) (cs : List Column) (d : Condition) (ch : Change) (held : ShapeHeld h) (l : h.total ≤ length cs) (i c : ℕ) where
  abbrev inserted : List Values
  inserted = map (row_of h.width) (take ch.count ch.rows)

  -- what the question fixes, by its verb
  fixed_of : fixed (question_with v h cs d ch) i c ≡ get_or (replicate h.first none ++ map some (inserted_row (change_by ch.verb h.width ch) i)) c none
  unfolding fixed question_from
  fixed_of = ap (λ n. get_or (replicate n none ++ map some (inserted_row (change_by ch.verb h.width ch) i)) c none) (first_with v h cs d ch held l)

  pub fixed_insert : ch.verb ≡ Insert → fixed (question_with v h cs d ch) i c ≡ get_or (replicate h.first none ++ map some (get_or inserted i [])) c none
  fixed_insert e = fixed_of ∙ rw e

  nothing_fixed : (first : ℕ) → get_or (replicate first nothing ++ []) c none ≡ none
  nothing_fixed first = go first c
    where
      go : (n k : ℕ) → get_or (replicate n nothing ++ []) k none ≡ none
      go zero k = refl
      go (suc n) zero = refl
      go (suc n) (suc k) = go n k

  pub fixed_none : ch.verb ≡ Insert → ch.count ≤ i → none ≡ fixed (question_with v h cs d ch) i c
  fixed_none e k = sym (fixed_insert e ∙ ap (λ l. get_or (replicate h.first none ++ map some l) c none) (get_or-eq_default inserted [] (omega (arith, length-map (take ch.count ch.rows) (row_of h.width), length-take ch.count ch.rows))) ∙ nothing_fixed h.first)

  -- a delete and a modification fix none
  pub fixed_other : (ch.verb ≡ Delete) ⊎ (ch.verb ≡ Modify) → none ≡ fixed (question_with v h cs d ch) i c
  fixed_other (inl e) = sym (fixed_of ∙ rw e (nothing_fixed h.first))
  fixed_other (inr e) = sym (fixed_of ∙ rw e (nothing_fixed h.first))

-- ---- a question's

pub fixed_in : (q : Question) → Whole q → (i c : ℕ) (r : Option ℤ) → ((v : Version) (cs : List Column) (d : Condition) → q.shape.total ≤ length cs → r ≡ fixed (question_with v q.shape cs d q.change) i c) → r ≡ fixed (question_of q) i c
unfolding question_of
fixed_in q w i c r f = f q.version q.columns q.condition (omega (arith, w.long, w.held.shape.few_columns))
