-- FORMAT 1.5: what the version of a question decides, and what it does not.
use Rattle.std.specs.Prelude.{ℕ, ◌≡◌, List}
use Rattle.page_meaning.specs.Contents.{Version, Question, Change, insert, delete, modify}
use Rattle.page_sheets.specs.Sheet.{finding_of, sheet_of, check_sheet}

-- the same question in a version
abbrev pub in_version : Version → Question → Question
in_version v q = record { version = v; front = q.front; changed = q.changed; back = q.back; visible = q.visible; condition = q.condition; change = q.change }

abbrev pub Modifies : Change → Type 0
Modifies (insert new) = ⊥
Modifies (delete d) = ⊥
Modifies (modify d ms) = Unit {0}

-- they have the same trees or the same open formula, so the same verdict; the same sheet; and every sheet is answered alike
pub record SameAnswers (p q : Question) (a : ℕ) : Type 0 where
  pub finding : finding_of p a ≡ finding_of q a
  pub sheet : sheet_of p a ≡ sheet_of q a
  pub check : (s : List ℕ) → check_sheet p a s ≡ check_sheet q a s

-- the version decides about a modify alone
abbrev pub ForModifyOnly : Type 0
ForModifyOnly = (v : Version) (q : Question) → ¬ Modifies q.change → (a : ℕ) → SameAnswers (in_version v q) q a
