-- FORMAT 6, 7.2 and 8: whole sheets, what the writer writes and what the checker answers, for a question that was read.
use Rattle.std.specs.Prelude.{ℕ, zero, suc, ◌+◌, ◌*◌, Bool, ◌&&◌, cond, List, [], ◌∷◌, ◌++◌, length, get_or, drop, eqb, leb, ltb, ℤ}
use Rattle.page_numbers.specs.Outcome.{Outcome, good, refused}
use Rattle.page_meaning.specs.Limits.{Limits, limits, vertices_for, most_columns}
use Rattle.page_meaning.specs.Contents.{Question}
use Rattle.page_formulas.specs.Program.{truth}
use Rattle.page_formulas.specs.Formulas.{no_formula, Formula, formulas}
use Rattle.page_sheets.specs.Tree.{Checked}
use Rattle.page_sheets.specs.Trees.{check_trees, Finding, all_shut, first_open, write_trees, bytes_all}
use Rattle.page_sheets.specs.Rows.{fields, field_at, value_at, read_values, field_ok, no_bytes}

-- the last vertex number: there are `most_vertices`
abbrev pub last_vertex : ℕ
last_vertex = 2 * most_columns

-- ---- answers

pub data Verdict : Type 0 where
  say_yes say_no : Verdict

-- FORMAT 6.1: the byte of a verdict
abbrev pub verdict_byte : Verdict → ℕ
verdict_byte say_yes = 0
verdict_byte say_no = 1

-- of a verdict asked for, or a sheet checked
abbrev pub Answer : Type 0
Answer = Outcome Verdict

-- ---- the sheet

-- FORMAT 6.1: mark, version, asked, verdict
abbrev pub header : ℕ → Verdict → List ℕ
header a v = 86 ∷ 85 ∷ 83 ∷ 1 ∷ 0 ∷ a ∷ verdict_byte v ∷ []

abbrev pub sheet_for : Question → ℕ → Finding → List ℕ
sheet_for q a (all_shut ts) = header a say_yes ++ bytes_all ts
sheet_for q a (first_open i F x) = header a say_no ++ no_bytes q i F x

abbrev pub verdict_for : Finding → Verdict
verdict_for (all_shut ts) = say_yes
verdict_for (first_open i F x) = say_no

-- what the writer finds for a question that was read under some limits
unfoldable pub finding_under : Limits → Question → ℕ → Finding
finding_under l q a = write_trees (2 * l.columns) (formulas q a)

-- the writer's sheet
unfoldable pub sheet_under : Limits → Question → ℕ → List ℕ
sheet_under l q a = sheet_for q a (finding_under l q a)

abbrev pub finding_of : Question → ℕ → Finding
finding_of q a = finding_under limits q a

abbrev pub sheet_of : Question → ℕ → List ℕ
sheet_of q a = sheet_under limits q a

-- ---- the check of a sheet for a question that was read

-- FORMAT 8.1: a field is tested for its length, then for its value; the first fault is the answer, with the offset where the field starts:
-- a field of so many bytes, is its value as said, the number that says no, and what the later fields come to
abbrev pub field : List ℕ → ℕ → ℕ → Bool → ℕ → Answer → Answer
field s at w ok number next = cond (leb (at + w) (length s)) (cond ok next (refused number at)) (refused 11 at)

abbrev pub yes_end : Checked → Answer
yes_end (good (o, [])) = good say_yes
yes_end (good (o, b ∷ r)) = refused 16 0
yes_end (refused n o) = refused n o

-- FORMAT 8.2: one tree for each formula, over N vertex numbers
unfoldable pub check_yes : ℕ → List Formula → List ℕ → Answer
check_yes N Fs s = yes_end (check_trees N Fs 7 (drop 7 s))

-- the values from field j on, so many
unfoldable pub check_fields : (ℕ → ℤ → Bool) → List ℕ → ℕ → ℕ → Answer → Answer
check_fields ok s zero j next = next
check_fields ok s (suc k) j next = let later = check_fields ok s k (suc j) next in field s (field_at j) 4 (ok j (value_at s j)) 15 later

-- FORMAT 8.3: a formula that isn't true at the values is 15 at offset 7; FORMAT 8.4: bytes that are left are 16, tested last
unfoldable pub no_end : Question → Formula → List ℕ → Answer
no_end q F s = cond (truth (read_values q F s) F.program) (cond (leb (length s) (field_at (fields q F))) (good say_no) (refused 16 0)) (refused 15 7)

-- the fields from the first value on, for formula i
unfoldable pub check_rows : Question → ℕ → Formula → List ℕ → Answer
check_rows q i F s = check_fields (field_ok q i s) s (fields q F) 0 (no_end q F s)

-- FORMAT 8.3: the number of any formula that there is, else 14; then the values
unfoldable pub check_no : Question → List Formula → List ℕ → Answer
check_no q Fs s = let i = get_or s 7 0 in field s 7 1 (ltb i (length Fs)) 14 (check_rows q i (get_or Fs i no_formula) s)

abbrev pub check_body : Limits → Question → ℕ → List ℕ → ℕ → Answer
check_body l q a s zero = check_yes (vertices_for l) (formulas q a) s
check_body l q a s (suc v) = check_no q (formulas q a) s

-- FORMAT 6.1: the mark; the version
abbrev pub marked : List ℕ → Bool
marked s = eqb (get_or s 0 0) 86 && eqb (get_or s 1 0) 85 && eqb (get_or s 2 0) 83

abbrev pub versioned : List ℕ → Bool
versioned s = eqb (get_or s 3 0 + 256 * get_or s 4 0) 1

unfoldable pub check_sheet_under : Limits → Question → ℕ → List ℕ → Answer
check_sheet_under l q a s =
    field s 0 3 (marked s) 12
    (field s 3 2 (versioned s) 13
    (field s 5 1 (eqb (get_or s 5 0) a) 14
    (field s 6 1 (leb (get_or s 6 0) 1) 14
    (check_body l q a s (get_or s 6 0)))))

abbrev pub check_sheet : Question → ℕ → List ℕ → Answer
check_sheet q a s = check_sheet_under limits q a s
