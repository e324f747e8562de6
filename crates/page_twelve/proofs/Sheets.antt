-- The writer's sheet, worked out with tables.
use Prim.Native.Nat.{ℕ, suc}
use mathlib.Core.Path.{◌≡◌, refl, ap, ap₂, ◌∙◌}
use mathlib.Core.List.{List, [], ◌∷◌, ◌++◌}
use Rattle.page_meaning.specs.Contents.{Question}
use Rattle.page_formulas.specs.Formulas.{Formula, formulas, row_of1}
use Rattle.page_formulas.specs.Program.{Values}
use Rattle.page_formulas.specs.ProperFormulas.{Proper}
use Rattle.page_formulas.proofs.ProperFormulas.{formulas_proper}
use Rattle.page_questions.specs.Guarantees.{Every, Accepted}
use Rattle.page_sheets.specs.Growth.{Growth, shut, open_at, grow_tree}
use Rattle.page_sheets.specs.Rows.{put_row, second_row, bytes_of_row, no_bytes, Rowed}
use Rattle.page_sheets.specs.Sheet.{last_vertex, header, say_no, sheet_for, finding_under, sheet_under, sheet_of}
use Rattle.page_sheets.specs.Trees.{Finding, all_shut, first_open, before, write_trees}
use Rattle.page_sheets.proofs.AlikeRows.{all_rowed, rows_alike}
use Rattle.page_sheets.proofs.FastRule.{Here, Same}
use Rattle.page_sheets.proofs.Fit.{fit}
use Rattle.page_twelve.proofs.Tables.{table_tree, tree_tabled}

unfoldable pub table_trees : List Formula → Finding
table_trees [] = all_shut []
table_trees (F ∷ Fs) = let rest = table_trees Fs in before F (table_tree last_vertex F) rest

unfoldable pub table_sheet : Question → ℕ → List ℕ
table_sheet q a = sheet_for q a (table_trees (formulas q a))

module _ (q : Question) where
  abbrev Shown : Formula → Values → Values → Type 0
  Shown F x y = (row_of1 q x ≡ row_of1 q y) × (second_row q F x ≡ second_row q F y)

  -- ---- the same trees, or the same rows

  abbrev Alike : Finding → Finding → Type 0
  Alike (all_shut ts) (all_shut ts') = ts ≡ ts'
  Alike (all_shut ts) (first_open i F x) = ⊥
  Alike (first_open i F x) (all_shut ts) = ⊥
  Alike (first_open i F x) (first_open j G y) = (i ≡ j) × (F ≡ G) × Shown F x y

  before_alike : (F : Formula) → Rowed q F → (r r' : Growth) (f f' : Finding) → Same (Here F.ranges) r r' → Alike f f' → Alike (before F r f) (before F r' f')
  before_alike F a (open_at x) (open_at y) f f' s h = (refl, refl, rows_alike q F a x y s)
  before_alike F a (open_at x) (shut t) f f' s h = absurd s
  before_alike F a (shut t) (open_at y) f f' s h = absurd s
  before_alike F a (shut t) (shut u) (all_shut ts) (all_shut us) s h = ap₂ (λ x l. x ∷ l) s h
  before_alike F a (shut t) (shut u) (all_shut ts) (first_open j G y) s h = absurd h
  before_alike F a (shut t) (shut u) (first_open i G x) (all_shut us) s h = absurd h
  before_alike F a (shut t) (shut u) (first_open i G x) (first_open j H y) s h = (ap suc h.0, h.1, h.2)

  trees_alike : (Fs : List Formula) → Every (Rowed q) Fs → Every Proper Fs → Alike (write_trees last_vertex Fs) (table_trees Fs)
  unfolding write_trees table_trees
  trees_alike [] g a = refl
  trees_alike (F ∷ Fs) g a = before_alike F g.0 (grow_tree last_vertex F) (table_tree last_vertex F) (write_trees last_vertex Fs) (table_trees Fs) (tree_tabled last_vertex F (fit F a.0) a.0.ranges_some) (trees_alike Fs g.1 a.1)

  -- ---- so the same bytes

  sheet_alike : (a : ℕ) (f f' : Finding) → Alike f f' → sheet_for q a f ≡ sheet_for q a f'
  sheet_alike a (all_shut ts) (all_shut us) h = ap (λ l. sheet_for q a (all_shut l)) h
  sheet_alike a (all_shut ts) (first_open j G y) h = absurd h
  sheet_alike a (first_open i F x) (all_shut us) h = absurd h
  sheet_alike a (first_open i F x) (first_open j G y) h =
      ap₂ (λ u w. header a say_no ++ (i ∷ bytes_of_row (put_row q q.change i u ++ w))) h.2.0 h.2.1
      ∙ ap₂ (λ k H. header a say_no ++ no_bytes q k H y) h.0 h.1

  pub sheet_tabled : (a : ℕ) → Accepted q → sheet_of q a ≡ table_sheet q a
  unfolding sheet_under finding_under table_sheet
  sheet_tabled a ok = sheet_alike a (write_trees last_vertex (formulas q a)) (table_trees (formulas q a)) (trees_alike (formulas q a) (all_rowed q a) (formulas_proper q ok a))
