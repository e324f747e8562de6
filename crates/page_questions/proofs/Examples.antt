-- FORMAT 9.1: the fields of case a, and the three refusals of FORMAT 9.4.
use Prim.Native.Nat.{ℕ, ◌-◌}
use mathlib.Core.Path.{◌≡◌, refl}
use mathlib.Core.List.{List, [], ◌∷◌, ◌++◌}
use lib.IntN.{pos}
use lib.ListN.{take, set}
use Rattle.page_numbers.specs.Outcome.{refused}
use Rattle.page_numbers.specs.Bytes.{int32, le32}
use Rattle.page_meaning.specs.Limits.{most_columns}
use Rattle.page_meaning.specs.Condition.{compare, equal, at_least, both}
use Rattle.page_meaning.specs.Condition as C
use Rattle.page_questions.specs.Layout.{total, visible_from}
use Rattle.page_questions.specs.Reader.{many, byte, int, column_at, comparison_at, token_at, condition_at, row_at, insert_at, ending, from_change, from_condition, from_visible, from_columns, from_widths, from_changed, from_kind, from_tables, from_version, read_under, read_of}
use Rattle.page_questions.specs.Fields.{mark, version, table_count, change_kind, changed_table, column_count, lo, visible, hi, some_visible, token_count, token, op, constant, seventh, operands, column, right_column, finish, row_count, inserted, end, sizes, followed, runs, condition_fields, insert_fields, question_fields, fields_of}

-- insert (3,9) into KEY, in 73 bytes
abbrev start : List ℕ
start = 86 ∷ 85 ∷ 81 ∷ 1 ∷ 0 ∷ 2 ∷ 1 ∷ 0 ∷ 2 ∷ 2 ∷ []

abbrev columns : List ℕ
columns =
    0 ∷ 0 ∷ 0 ∷ 0 ∷ 9 ∷ 0 ∷ 0 ∷ 0 ∷ 1 ∷ 0 ∷ 0 ∷ 0 ∷ 0 ∷ 30 ∷ 0 ∷ 0 ∷ 0 ∷ 0 ∷ 0 ∷ 0 ∷ 0 ∷ 0 ∷ 9 ∷ 0 ∷ 0 ∷ 0 ∷ 1 ∷ 0 ∷ 0 ∷ 0 ∷ 0 ∷ 9 ∷ 0 ∷ 0 ∷ 0 ∷ 0 ∷ []

abbrev shows : List ℕ
shows = 3 ∷ 1 ∷ 3 ∷ 0 ∷ 3 ∷ 0 ∷ 0 ∷ 0 ∷ 0 ∷ 1 ∷ 4 ∷ 1 ∷ 255 ∷ 10 ∷ 0 ∷ 0 ∷ 0 ∷ 2 ∷ []

abbrev pub case_a : List ℕ
case_a = start ++ (columns ++ (shows ++ (1 ∷ 3 ∷ 0 ∷ 0 ∷ 0 ∷ 9 ∷ 0 ∷ 0 ∷ 0 ∷ [])))

-- C: K = Q and V ≥ 10
abbrev condition : C.Condition
condition = compare equal 0 (C.column 3 (pos 0)) ∷ compare at_least 1 (C.constant (pos 10)) ∷ both ∷ []

pub fields : fields_of case_a
    ≡ mark ∷ version ∷ table_count ∷ change_kind ∷ changed_table 2
    ∷ column_count most_columns ∷ column_count (most_columns - 2)
    ∷ lo ∷ hi (pos 0) ∷ visible ∷ lo ∷ hi (pos 0) ∷ visible ∷ lo ∷ hi (pos 0) ∷ visible ∷ lo ∷ hi (pos 0) ∷ visible
    ∷ some_visible (0 ∷ 2 ∷ [])
    ∷ token_count
    ∷ seventh 0 ∷ token ∷ op ∷ column 0 4 ∷ right_column 0 4 ∷ constant
    ∷ seventh 1 ∷ token ∷ op ∷ column 0 4 ∷ right_column 0 4 ∷ constant
    ∷ operands 2 2 ∷ token ∷ finish condition
    ∷ row_count ∷ inserted (record { lo = pos 0; hi = pos 9 }) ∷ inserted (record { lo = pos 0; hi = pos 30 })
    ∷ end ∷ []
unfolding question_fields followed runs sizes condition_fields insert_fields total visible_from int32 le32
fields = refl

-- FORMAT 9.4: the last byte cut off; one byte added; 31 for V
pub refusals : (read_of (take 72 case_a) ≡ refused 1 69) × (read_of (case_a ++ (0 ∷ [])) ≡ refused 9 73) × (read_of (set case_a 69 31) ≡ refused 5 69)
unfolding read_under from_version from_tables from_kind from_changed from_widths from_columns from_visible from_condition from_change ending insert_at row_at condition_at token_at comparison_at column_at int byte many total visible_from int32 le32
refusals = (refl, refl, refl)
