-- FORMAT 9.3: the twelve cases, and one of them in version 2. For each its question, its two verdicts, and the sheets that show them.
use Rattle.std.specs.Prelude.{ℕ, zero, suc, ◌-◌, ◌/◌, ◌%◌, ◌≡◌, Bool, true, false, ◌&&◌, List, [], ◌∷◌, ◌++◌, eqb}
use Rattle.page_numbers.specs.Outcome.{good, refused}
use Rattle.page_meaning.specs.Contents.{Question}
use Rattle.page_questions.specs.Reader.{read_of}
use Rattle.page_questions.specs.Guarantees.{Every}
use Rattle.page_sheets.specs.Sheet.{Verdict, say_yes, say_no, Answer, header}
use Rattle.page_sheets.specs.Answers.{verdict_of, check_of}
use Rattle.page_sheets.specs.Demands.{Meant, Broken, named, shown_first, shown_second}

-- ---- questions

-- an i32 from 0 to 255, and from −256 to −1
abbrev number : ℕ → List ℕ
number n = n ∷ 0 ∷ 0 ∷ 0 ∷ []

abbrev minus : ℕ → List ℕ
minus n = (256 - n) ∷ 255 ∷ 255 ∷ 255 ∷ []

-- a column 0..hi, visible 1 or 0
abbrev column : ℕ → ℕ → List ℕ
column hi visible = number 0 ++ number hi ++ (visible ∷ [])

-- a comparison of a column with a constant; K = Q
abbrev against : ℕ → ℕ → ℕ → List ℕ
against op left k = 1 ∷ op ∷ left ∷ 255 ∷ number k

abbrev matched : List ℕ
matched = 1 ∷ 3 ∷ 0 ∷ 3 ∷ number 0

-- the question of a change of KEY, by its version and its kind
abbrev asks_in : ℕ → ℕ → List ℕ → List ℕ
asks_in version kind change =
    86 ∷ 85 ∷ 81 ∷ version ∷ 0 ∷ 2 ∷ kind ∷ 0 ∷ 2 ∷ 2
    ∷ column 9 1 ++ column 30 0 ++ column 9 1 ++ column 9 0
    ++ 3 ∷ matched ++ against 4 1 10 ++ 2 ∷ change

abbrev asks : ℕ → List ℕ → List ℕ
asks kind change = asks_in 1 kind change

-- K keeps its value
abbrev kept : List ℕ
kept = 0 ∷ 255 ∷ number 0

-- ---- claims

-- yes, by so many bytes of trees; or no, by a formula's number and the values of its rows
pub data Claim : Type 0 where
  holds : ℕ → ℕ → Claim
  shows : ℕ → List ℕ → Claim

abbrev pub verdict_in : Claim → Verdict
verdict_in (holds k trees) = say_yes
verdict_in (shows i values) = say_no

-- the last k bytes of a number, the highest first, before others
unfoldable pub bytes_in : ℕ → ℕ → List ℕ → List ℕ
bytes_in zero n rest = rest
bytes_in (suc k) n rest = bytes_in k (n / 256) (n % 256 ∷ rest)

unfoldable pub numbers : List ℕ → List ℕ
numbers [] = []
numbers (n ∷ ns) = number n ++ numbers ns

-- the sheet that shows it
abbrev pub sheet_in : ℕ → Claim → List ℕ
sheet_in a (holds k trees) = header a say_yes ++ bytes_in k trees []
sheet_in a (shows i values) = header a say_no ++ i ∷ numbers values

-- a change, what is claimed of it for asked 1, and for asked 2
pub record Case : Type 0 where
  pub question : List ℕ
  pub irrelevant : Claim
  pub computable : Claim

abbrev row : List ℕ → Claim → Claim → Case
row q i c = record { question = q; irrelevant = i; computable = c }

-- insert (3,9)
abbrev case_a_lem : Case
case_a_lem = row (asks 1 (1 ∷ number 3 ++ number 9)) (holds 9 0x030303020100010101) (holds 9 0x030303020100010101)

-- insert (3,10)
abbrev case_b : Case
case_b = row (asks 1 (1 ∷ number 3 ++ number 10)) (shows 0 (3 ∷ 10 ∷ 9 ∷ 3 ∷ [])) (shows 0 (3 ∷ 10 ∷ 9 ∷ 3 ∷ []))

-- insert no row
abbrev case_c : Case
case_c = row (asks 1 (0 ∷ [])) (holds 0 0x0) (holds 0 0x0)

-- delete V < 10
abbrev case_d : Case
case_d = row (asks 2 (1 ∷ against 1 1 10)) (holds 12 0x030303030202000201010101) (holds 18 0x030303030303030202000201010101010101)

-- delete V ≤ 10
abbrev case_e : Case
case_e = row (asks 2 (1 ∷ against 2 1 10)) (shows 0 (9 ∷ 10 ∷ 9 ∷ 9 ∷ [])) (shows 0 (9 ∷ 10 ∷ 9 ∷ 9 ∷ 9 ∷ 30 ∷ 9 ∷ 9 ∷ []))

-- delete K = 4
abbrev case_f : Case
case_f = row (asks 2 (1 ∷ against 3 0 4)) (shows 0 (4 ∷ 30 ∷ 9 ∷ 4 ∷ [])) (holds 27 0x030303030303030303030102020001020200010101010101010101)

-- delete V ≥ 5
abbrev case_g : Case
case_g = row (asks 2 (1 ∷ against 4 1 5)) (shows 0 (9 ∷ 30 ∷ 9 ∷ 9 ∷ [])) (holds 20 0x0303030303030303010202000601010101010101)

-- V := V+5 where V ≥ 10
abbrev case_h : Case
case_h = row (asks 3 (1 ∷ against 4 1 10 ++ kept ++ 2 ∷ 1 ∷ number 5)) (holds 72 0x030303030303030303010202000202020104020201040101010101010303030303030102020002030303020201040101020200020303030202010401020200020202010401010101) (holds 138 0x030303030303010202000203030302020104010102020002030303020201040102020002020201040101010303030303030303030303030303030303030102020006020201080202010801010101010102020002030303030303030303030102020006020201080202010801010102020002020201040202010402020002020200020101010101010101)

-- V := V+5 where V ≥ 5
abbrev case_i : Case
case_i = row (asks 3 (1 ∷ against 4 1 5 ++ kept ++ 2 ∷ 1 ∷ number 5)) (shows 1 (9 ∷ 9 ∷ 9 ∷ 9 ∷ [])) (shows 0 (9 ∷ 9 ∷ 9 ∷ 9 ∷ []))

-- V := V−8 where V ≥ 10
abbrev case_j : Case
case_j = row (asks 3 (1 ∷ against 4 1 10 ++ kept ++ 2 ∷ 1 ∷ minus 8)) (shows 0 (9 ∷ 17 ∷ 9 ∷ 9 ∷ [])) (shows 1 (9 ∷ 30 ∷ 9 ∷ 9 ∷ 9 ∷ 17 ∷ 9 ∷ 9 ∷ []))

-- V := V−40 where V ≥ 10
abbrev lowered : List ℕ
lowered = 1 ∷ against 4 1 10 ++ kept ++ 2 ∷ 1 ∷ minus 40

abbrev case_k : Case
case_k = row (asks 3 lowered) (holds 21 0x030303020200020101010303030202000201010101) (holds 64 0x03030302020002010101030303030303030303020200020303030202000203030302020006010101020201040202010402020002020200020101010101010101)

-- V := 7 where V ≥ 10
abbrev case_l : Case
case_l = row (asks 3 (1 ∷ against 4 1 10 ++ kept ++ 1 ∷ 255 ∷ number 7)) (shows 0 (9 ∷ 30 ∷ 9 ∷ 9 ∷ [])) (holds 79 0x03030303030301020200020303030202010401010202000203030302020104010202000202020104010101030303030303030303030303020100010101020100020100020200020101010101010101)

unfoldable pub twelve : List Case
twelve = case_a_lem ∷ case_b ∷ case_c ∷ case_d ∷ case_e ∷ case_f ∷ case_g ∷ case_h ∷ case_i ∷ case_j ∷ case_k ∷ case_l ∷ []

-- k in version 2: every listed row goes
abbrev case_k2 : Case
case_k2 = row (asks_in 2 3 lowered) (shows 3 (9 ∷ 30 ∷ 9 ∷ 9 ∷ [])) (holds 37 0x03030302020002010101030303030303030303020200020101020200020101010101010101)

unfoldable pub retired : List Case
retired = case_k2 ∷ []

-- ---- the test, and what it proves

abbrev pub agrees : Answer → Verdict → Bool
agrees (good say_yes) say_yes = true
agrees (good say_yes) say_no = false
agrees (good say_no) say_yes = false
agrees (good say_no) say_no = true
agrees (refused n o) v = false

-- the sheet passes with the verdict claimed
abbrev pub test : ℕ → List ℕ → Claim → Bool
test a s c = agrees (check_of a s (sheet_in a c)) (verdict_in c)

unfoldable pub test_all : List Case → Bool
test_all [] = true
test_all (c ∷ cs) = test 1 c.question c.irrelevant && test 2 c.question c.computable && test_all cs

-- what a claim means: over all contents; or by the contents of its rows, at most one row a table
abbrev pub Settles : ℕ → Question → Claim → Type 0
Settles a q (holds k trees) = Meant (eqb a 1) q
Settles a q (shows i values) = let s = sheet_in a (shows i values) in Broken (eqb a 1) q (shown_first q s) (shown_second q (named q a s) s)

-- the question is read, the verdict is the one claimed, and the claim holds
pub record Settled (a : ℕ) (s : List ℕ) (c : Claim) : Type 0 where
  pub question : Question
  pub reads : read_of s ≡ good question
  pub verdict : verdict_of a s ≡ good (verdict_in c)
  pub settles : Settles a question c

abbrev pub AllSettled : List Case → Type 0
AllSettled cs = Every (λ c. Settled 1 c.question c.irrelevant × Settled 2 c.question c.computable) cs

abbrev pub TwelveSettled : Type 0
TwelveSettled = AllSettled twelve

abbrev pub RetiredSettled : Type 0
RetiredSettled = AllSettled retired
