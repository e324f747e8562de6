-- The twelve: each sheet passes, by computation; so what each claims holds.
use Prim.Native.Nat.{ℕ}
use mathlib.Core.Path.{◌≡◌, refl}
use mathlib.Core.List.{List, [], ◌∷◌}
use lib.Dec.{T}
use Rattle.page_numbers.specs.Outcome.{good, refused}
use Rattle.page_numbers.specs.Bytes.{int32, le32}
use Rattle.page_numbers.specs.Numbers.{min_z}
use Rattle.page_meaning.specs.Contents.{in_range}
use Rattle.page_walks.specs.Grid.{tighten, blank}
use Rattle.page_questions.specs.Layout.{total, tables_of, visible_from, question_from}
use Rattle.page_questions.specs.Reader.{many, byte, int, column_at, comparison_at, token_at, condition_at, row_at, insert_at, delete_at, mode_at, modify_at, ending, from_change, from_condition, from_visible, from_columns, from_widths, from_changed, from_kind, from_tables, from_version, read_under}
use Rattle.page_formulas.specs.Compilation.{compile}
use Rattle.page_formulas.specs.Formulas.{among, after, hidden_ranges, bounded_all, differs_over, tabulate}
use Rattle.page_formulas.specs.Knowledge.{run3}
use Rattle.page_formulas.specs.Program.{run, places}
use Rattle.page_sheets.specs.Facts.{confine_all}
use Rattle.page_sheets.specs.Tree.{vertices, check}
use Rattle.page_sheets.specs.Trees.{check_trees}
use Rattle.page_sheets.specs.Rows.{fixed}
use Rattle.page_sheets.specs.Sheet.{Verdict, say_yes, say_no, Answer, check_yes, check_fields, no_end, check_rows, check_no, check_sheet_under}
use Rattle.page_sheets.specs.Answers.{check_under, check_of}
use Rattle.page_sheets.specs.Twelve.{Claim, holds, shows, Case, bytes_in, numbers, sheet_in, twelve, retired, agrees, test, test_all, Settled, AllSettled, TwelveSettled, RetiredSettled}
use mathlib.Core.Logic.{inl, inr}
use mathlib.Core.Bool.{◌&&◌}
use Rattle.page_meaning.proofs.Truth.{and_l, and_r}
use Rattle.page_sheets.specs.Demands.{Askable}
use Rattle.page_sheets.proofs.Demands.{pass_yes_proves, pass_no_breaks, verdict_by_lem}

pub tested : T (test_all twelve) × T (test_all retired)
unfolding int32 le32 min_z in_range tighten blank total tables_of visible_from question_from many byte int column_at comparison_at token_at condition_at row_at insert_at delete_at mode_at modify_at ending from_change from_condition from_visible from_columns from_widths from_changed from_kind from_tables from_version read_under compile among after hidden_ranges bounded_all differs_over tabulate run3 run places confine_all vertices check check_trees fixed check_yes check_fields no_end check_rows check_no check_sheet_under check_under bytes_in numbers twelve retired test_all
tested = (tt, tt)

-- ---- from the test to the meaning
says_it : (x : Answer) (v : Verdict) → T (agrees x v) → x ≡ good v
says_it (good say_yes) say_yes t = refl
says_it (good say_yes) say_no t = absurd t
says_it (good say_no) say_yes t = absurd t
says_it (good say_no) say_no t = refl
says_it (refused n o) v t = absurd t

settled : (a : ℕ) (s : List ℕ) (c : Claim) → Askable a → T (test a s c) → Settled a s c
settled a s (holds k trees) h t =
    let e = says_it (check_of a s (sheet_in a (holds k trees))) say_yes t in
    let m = pass_yes_proves a s (sheet_in a (holds k trees)) e in
    record { question = m.0; reads = m.1; verdict = verdict_by_lem a s _ say_yes h e; settles = m.2 }
settled a s (shows i values) h t =
    let e = says_it (check_of a s (sheet_in a (shows i values))) say_no t in
    let m = pass_no_breaks a s (sheet_in a (shows i values)) e in
    record { question = m.0; reads = m.1; verdict = verdict_by_lem a s _ say_no h e; settles = m.2 }

all_settled : (cs : List Case) → T (test_all cs) → AllSettled cs
unfolding test_all
all_settled [] t = tt
all_settled (c ∷ cs) t =
    let one = test 1 c.question c.irrelevant in
    let two = test 2 c.question c.computable in
    let both = and_l (one && two) (test_all cs) t in
    ((settled 1 c.question c.irrelevant (inl refl) (and_l one two both), settled 2 c.question c.computable (inr refl) (and_r one two both)), all_settled cs (and_r (one && two) (test_all cs) t))

-- the twelve, as one fact over the table
pub twelve_settled : TwelveSettled
twelve_settled = all_settled twelve tested.0

-- and the one of version 2
pub retired_settled : RetiredSettled
retired_settled = all_settled retired tested.1
