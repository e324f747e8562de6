-- Each number that says no to a good question or to what was asked, with its place: exactly when. What a question's own fields are refused
-- for is in page_questions, `Faults`; a sheet's, in `Faults` here.
use Rattle.std.specs.Prelude.{ℕ, suc, ◌<◌, ◌≡◌, ◌↔◌, List, length, take}
use Rattle.page_numbers.specs.Outcome.{good, refused}
use Rattle.page_meaning.specs.Contents.{Question}
use Rattle.page_questions.specs.Lengths.{longest}
use Rattle.page_questions.specs.Reader.{read_of}
use Rattle.page_sheets.specs.Answers.{verdict_of, check_of, write_of}
use Rattle.page_sheets.specs.Demands.{Askable}
use Rattle.page_sheets.specs.Faults.{AllSaid, FirstFault, sheet_fields, verdict_in}
use Rattle.page_sheets.specs.Sheet.{Verdict, sheet_of}

-- ---- FORMAT 4.4: 20, at place 0, exactly when neither 1 nor 2 is asked

abbrev pub NotAskable : ℕ → ℕ → Type 0
NotAskable a p = (p ≡ 0) × ¬ Askable a

abbrev pub TwentyExactly : Type 0
TwentyExactly =
    (a : ℕ) (s : List ℕ) (p : ℕ)
    → ((verdict_of a s ≡ refused 20 p) ↔ NotAskable a p)
    × ((room : List ℕ) → ((write_of a s room).answer ≡ refused 20 p) ↔ NotAskable a p)
    × ((sheet : List ℕ) → (check_of a s sheet ≡ refused 20 p) ↔ NotAskable a p)

-- ---- 21, at place 0, exactly when the question is good and its sheet is longer than the room

abbrev pub TooLongExactly : Type 0
TooLongExactly =
    (a : ℕ) (s room : List ℕ) (p : ℕ)
    → ((write_of a s room).answer ≡ refused 21 p) ↔ (Askable a × ((q : Question) × (read_of s ≡ good q) × (length room < length (sheet_of q a)) × (p ≡ 0)))

-- ---- 1 to 9: exactly when the reader gives them and the verdict asked for is there

abbrev pub ReadExactly : Type 0
ReadExactly =
    (a : ℕ) (s : List ℕ) (n p : ℕ) → n < 10
    → ((verdict_of a s ≡ refused n p) ↔ (Askable a × (read_of s ≡ refused n p)))
    × ((room : List ℕ) → ((write_of a s room).answer ≡ refused n p) ↔ (Askable a × (read_of s ≡ refused n p)))
    × ((sheet : List ℕ) → (check_of a s sheet ≡ refused n p) ↔ (Askable a × (read_of s ≡ refused n p)))

-- ---- 11 to 16: exactly when the question is good and some field of its sheet is the first at fault

abbrev pub SheetExactly : Type 0
SheetExactly =
    (a : ℕ) (s sheet : List ℕ) (n p : ℕ) → 10 < n → n < 17
    → (check_of a s sheet ≡ refused n p) ↔ (Askable a × ((q : Question) × (read_of s ≡ good q) × FirstFault sheet (sheet_fields sheet q a) n p))

-- a sheet passes exactly when none is
abbrev pub PassExactly : Type 0
PassExactly =
    (a : ℕ) (s sheet : List ℕ) (v : Verdict)
    → (check_of a s sheet ≡ good v) ↔ (Askable a × ((q : Question) × (read_of s ≡ good q) × AllSaid sheet (sheet_fields sheet q a) × (verdict_in sheet ≡ v)))

-- ---- FORMAT 3.5: an input longer than a question can be has the answers of its first bytes, one more than the longest has

abbrev pub FirstBytesAnswer : Type 0
FirstBytesAnswer =
    (a : ℕ) (s : List ℕ) → longest < length s
    → (verdict_of a s ≡ verdict_of a (take (suc longest) s))
    × ((room : List ℕ) → write_of a s room ≡ write_of a (take (suc longest) s) room)
    × ((sheet : List ℕ) → check_of a s sheet ≡ check_of a (take (suc longest) s) sheet)
