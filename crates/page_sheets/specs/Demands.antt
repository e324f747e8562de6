-- What the answers are held to: the theorems, as statements. Their proofs stand in proofs/Demands.antt.
use Rattle.std.specs.Prelude.{ℕ, ◌-◌, ◌≤◌, ◌<◌, ◌≡◌, ◌⊎◌, ◌↔◌, Bool, true, false, cond, List, ◌++◌, length, get_or, take, replicate, T, eqb, ◌≤ℤ◌}
use Rattle.page_numbers.specs.Outcome.{good, refused}
use Rattle.page_meaning.specs.Contents.{Question, Contents, left, Irrelevant, Computable}
use Rattle.page_meaning.specs.Verdicts.{Relevant, Uncomputable}
use Rattle.page_meaning.specs.Witness.{witness, empty}
use Rattle.page_formulas.specs.Formulas.{Formula, formulas, no_formula}
use Rattle.page_formulas.specs.Knowledge.{passes, known}
use Rattle.page_formulas.specs.Program.{Values, places}
use Rattle.page_formulas.specs.Truths.{Agrees}
use Rattle.page_formulas.specs.Vertices.{InRange, present}
use Rattle.page_questions.specs.Reader.{read_of}
use Rattle.page_sheets.specs.Answers.{asked_of, verdict_of, check_of, Written, write_of}
use Rattle.page_sheets.specs.Rows.{first_read, second_read, no_bytes}
use Rattle.page_sheets.specs.Sheet.{Verdict, say_yes, say_no, header, sheet_of}

-- ---- words of the statements

-- FORMAT 4.4: what may be asked
abbrev pub Askable : ℕ → Type 0
Askable a = (a ≡ 1) ⊎ (a ≡ 2)

-- what yes means, by: is 1 asked?
abbrev pub Meant : Bool → Question → Type 0
Meant true q = Irrelevant q
Meant false q = Computable q

-- what no means: these contents, at most one row a table, show it
abbrev pub Broken : Bool → Question → Contents → Contents → Type 0
Broken true q c d = Relevant q c
Broken false q c d = Uncomputable q c d

-- the formula that a no sheet names
abbrev pub named : Question → ℕ → List ℕ → Formula
named q a s = get_or (formulas q a) (get_or s 7 0) no_formula

-- FORMAT 6.4: the contents that a no sheet shows, and those that they are set against for asked 2
abbrev pub shown_first : Question → List ℕ → Contents
shown_first q s = witness q q.change (first_read q s)

-- all empty where the formula has one row only
abbrev pub shown_second : Question → Formula → List ℕ → Contents
shown_second q F s = cond F.pairs (witness q q.change (second_read q F s)) (empty q)

-- ---- demand 2: the verdict is exact

abbrev pub Exact : ℕ → (Question → Type 0) → Type 0
Exact a P = (s : List ℕ) (q : Question) → read_of s ≡ good q → ((verdict_of a s ≡ good say_yes) ↔ P q) × ((verdict_of a s ≡ good say_no) ↔ ¬ P q)

abbrev pub IrrelevantExact : Type 0
IrrelevantExact = Exact 1 Irrelevant

abbrev pub ComputableExact : Type 0
ComputableExact = Exact 2 Computable

-- ---- demand 3: sheets, whoever wrote them

abbrev pub PassYesProves : Type 0
PassYesProves = (a : ℕ) (s sheet : List ℕ) → check_of a s sheet ≡ good say_yes → (q : Question) × (read_of s ≡ good q) × Meant (eqb a 1) q

abbrev pub PassNoBreaks : Type 0
PassNoBreaks = (a : ℕ) (s sheet : List ℕ) → check_of a s sheet ≡ good say_no → (q : Question) × (read_of s ≡ good q) × Broken (eqb a 1) q (shown_first q sheet) (shown_second q (named q a sheet) sheet)

abbrev pub HasPassingSheet : Type 0
HasPassingSheet = (a : ℕ) (s : List ℕ) (q : Question) → Askable a → read_of s ≡ good q → (v : Verdict) × (sheet : List ℕ) × (verdict_of a s ≡ good v) × (check_of a s sheet ≡ good v)

abbrev pub NeverOpposite : Type 0
NeverOpposite = (a : ℕ) (s this that : List ℕ) (v w : Verdict) → check_of a s this ≡ good v → check_of a s that ≡ good w → v ≡ w

-- in any room that is at least as long as the sheet
abbrev pub WrittenPasses : Type 0
WrittenPasses =
    (a : ℕ) (s : List ℕ) (q : Question) → Askable a → read_of s ≡ good q → (room : List ℕ) → length (sheet_of q a) ≤ length room
    → (v : Verdict) × ((write_of a s room).answer ≡ good (v, length (sheet_of q a))) × (verdict_of a s ≡ good v) × (check_of a s (take (length (sheet_of q a)) (write_of a s room).room) ≡ good v)

-- a yes sheet that passes is bytes, each below 256. (A no sheet's values are read as numbers, four entries each, so entries above 255 can
-- make the same number: what is lent to the routine are bytes by its type.)
abbrev pub PassYesBytes : Type 0
PassYesBytes = (a : ℕ) (s sheet : List ℕ) → check_of a s sheet ≡ good say_yes → (i : ℕ) → get_or sheet i 0 < 256

-- ---- demand 1: the room, for each outcome

-- FORMAT 4.5. A sheet was written: it is the question's, its length is told, and the verdict is the one that `verdict_of` gives.
-- None was: the question or what was asked is refused; or it is 21, the question is good and its sheet is longer than the room
abbrev pub Fixed : ℕ → List ℕ → List ℕ → Written → List ℕ → Type 0
Fixed a s room (good (v, n)) left = (q : Question) × (asked_of a s ≡ good q) × (verdict_of a s ≡ good v) × (n ≡ length (sheet_of q a)) × (n ≤ length room) × (left ≡ sheet_of q a ++ replicate (length room - n) 0)
Fixed a s room (refused n o) left =
    ((asked_of a s ≡ refused n o) × (left ≡ room))
    ⊎ ((q : Question) × (asked_of a s ≡ good q) × (length room < length (sheet_of q a)) × (n ≡ 21) × (o ≡ 0) × (left ≡ replicate (length room) 0))

abbrev pub RoomFixed : Type 0
RoomFixed = (a : ℕ) (s room : List ℕ) → Fixed a s room (write_of a s room).answer (write_of a s room).room × (length (write_of a s room).room ≡ length room)

-- ---- the values of a no sheet

-- FORMAT 7.2: of the values in range that agree with some decisions by which the formula is true, x is the greatest at every vertex at once
pub record GreatestLeaf (F : Formula) (x : Values) : Type 0 where
  pub decisions : List Bool
  pub true_by : known F.program decisions ≡ passes
  pub in_range : InRange F.ranges x
  pub agrees : Agrees x (places F.program) decisions
  pub most : (y : Values) → InRange F.ranges y → Agrees y (places F.program) decisions → (v : ℕ) → T (present F.ranges v) → y v ≤ℤ x v

-- where the verdict is no, the sheet has the number of a formula and rows with the greatest values at a leaf of it; that they are the first
-- open formula and its first open leaf is what `sheet_of` says
abbrev pub OpenGreatest : Type 0
OpenGreatest =
    (a : ℕ) (s : List ℕ) (q : Question) → Askable a → read_of s ≡ good q → verdict_of a s ≡ good say_no
    → (i : ℕ) × (F : Formula) × (x : Values) × (sheet_of q a ≡ header a say_no ++ no_bytes q i F x) × (i < length (formulas q a)) × (get_or (formulas q a) i no_formula ≡ F) × GreatestLeaf F x

-- ---- two results that a statement allows are equal

abbrev pub Unique : {A : Type 0} → (A → Type 0) → Type 0
Unique P = (x y : _) → P x → P y → x ≡ y
