-- The twelve: each sheet is worked out, and is the table's.
use Prim.Native.Nat.{ℕ}
use mathlib.Core.Path.{◌≡◌, refl, ap₂, ◌∙◌}
use mathlib.Core.Bool.{Bool, true, false, ◌&&◌}
use mathlib.Core.List.{List, [], ◌∷◌}
use lib.Dec.{T, eqb, eqb→eq}
use Rattle.page_numbers.specs.Outcome.{good, refused}
use Rattle.page_numbers.specs.Bytes.{int32, le32, bytes4}
use Rattle.page_numbers.specs.Numbers.{min_z}
use Rattle.page_meaning.proofs.Truth.{and_l, and_r}
use Rattle.page_walks.specs.Grid.{tighten, blank}
use Rattle.page_walks.specs.Nearness.{relax}
use Rattle.page_walks.specs.Search as S
use Rattle.page_formulas.specs.Compilation.{compile}
use Rattle.page_formulas.specs.Formulas.{among, after, hidden_ranges, bounded_all, differs_over, tabulate}
use Rattle.page_formulas.specs.Knowledge.{run3}
use Rattle.page_formulas.specs.Program.{places}
use Rattle.page_questions.specs.Layout.{total, tables_of, visible_from, question_from}
use Rattle.page_questions.specs.Reader.{Read, many, byte, int, column_at, comparison_at, token_at, condition_at, row_at, insert_at, delete_at, mode_at, modify_at, ending, from_change, from_condition, from_visible, from_columns, from_widths, from_changed, from_kind, from_tables, from_version, read_under, read_of}
use Rattle.page_questions.proofs.Guarantees.{accepted}
use Rattle.page_sheets.specs.Facts.{confine_all}
use Rattle.page_sheets.specs.Rows.{bytes_of_row}
use Rattle.page_sheets.specs.Tree.{bytes_of}
use Rattle.page_sheets.specs.Trees.{bytes_all}
use Rattle.page_sheets.specs.Twelve.{Claim, Case, bytes_in, numbers, sheet_in, twelve, retired}
use Rattle.page_twelve.specs.WrittenSheets.{Written, AllWritten, TwelveWritten, RetiredWritten}
use Rattle.page_twelve.proofs.Sheets.{table_trees, table_sheet, sheet_tabled}
use Rattle.page_twelve.proofs.Tables.{rows, table, table_fast, table_tree}

-- ---- the test

abbrev same : List ℕ → List ℕ → Bool
same [] [] = true
same [] (y ∷ m) = false
same (x ∷ l) [] = false
same (x ∷ l) (y ∷ m) = eqb x y && same l m

same_is : (l m : List ℕ) → T (same l m) → l ≡ m
same_is [] [] t = refl
same_is [] (y ∷ m) t = absurd t
same_is (x ∷ l) [] t = absurd t
same_is (x ∷ l) (y ∷ m) t = ap₂ (λ z k. z ∷ k) (eqb→eq x y (and_l (eqb x y) (same l m) t)) (same_is l m (and_r (eqb x y) (same l m) t))

abbrev test : ℕ → Claim → Read → Bool
test a c (good q) = same (table_sheet q a) (sheet_in a c)
test a c (refused n p) = false

unfoldable test_all : List Case → Bool
test_all [] = true
test_all (c ∷ cs) = test 1 c.irrelevant (read_of c.question) && test 2 c.computable (read_of c.question) && test_all cs

tested : T (test_all twelve) × T (test_all retired)
unfolding int32 le32 bytes4 min_z tighten blank relax S.least S.first S.best S.test S.greedy S.start S.fewest S.walk S.search compile among after hidden_ranges bounded_all differs_over tabulate run3 places total tables_of visible_from question_from many byte int column_at comparison_at token_at condition_at row_at insert_at delete_at mode_at modify_at ending from_change from_condition from_visible from_columns from_widths from_changed from_kind from_tables from_version read_under confine_all bytes_of_row bytes_of bytes_all bytes_in numbers rows table table_fast table_tree table_trees table_sheet twelve retired test_all
tested = (tt, tt)

-- ---- from the test to the sheet

written : (a : ℕ) (s : List ℕ) (c : Claim) → T (test a c (read_of s)) → Written a s c
written a s c t = go (read_of s) refl t
  where
    go : (r : Read) → read_of s ≡ r → T (test a c r) → Written a s c
    go (good q) e t = record { question = q; reads = e; sheet = sheet_tabled q a (accepted s q e) ∙ same_is (table_sheet q a) (sheet_in a c) t }
    go (refused n p) e t = absurd t

all_written : (cs : List Case) → T (test_all cs) → AllWritten cs
unfolding test_all
all_written [] t = tt
all_written (c ∷ cs) t =
    let one = test 1 c.irrelevant (read_of c.question) in
    let two = test 2 c.computable (read_of c.question) in
    let both = and_l (one && two) (test_all cs) t in
    ((written 1 c.question c.irrelevant (and_l one two both), written 2 c.question c.computable (and_r one two both)), all_written cs (and_r (one && two) (test_all cs) t))

-- the twelve, as one fact over the table
pub twelve_written : TwelveWritten
twelve_written = all_written twelve tested.0

-- and the one of version 2
pub retired_written : RetiredWritten
retired_written = all_written retired tested.1
