-- What a question that was read guarantees.
use Rattle.std.specs.Prelude.{ℕ, zero, suc, ◌+◌, ◌≤◌, ◌<◌, Bool, true, false, List, [], ◌∷◌, T, length, ℤ, neg_ℤ, ◌≤ℤ◌}
use Rattle.page_meaning.specs.Limits.{Limits, limits, most_tokens, most_comparisons, most_rows}
use Rattle.page_meaning.specs.Condition.{Condition, Token, compare, both, either, negate, Side, constant, column}
use Rattle.page_meaning.specs.Contents.{Range, Mode, keep, become, shift, Change, insert, delete, modify, Version, version1, version2, Question, columns}
use Rattle.page_meaning.specs.WellFormed.{WellFormed, Uses}
use Rattle.page_questions.specs.Reader.{farthest, largest, comparisons}

-- FORMAT 3.2: the number of a version
abbrev pub version_number : Version → ℕ
version_number version1 = 1
version_number version2 = 2

-- P holds of every element
abbrev pub Every : {A : Type 0} → (A → Type 0) → List A → Type 0
Every P [] = Unit {0}
Every P (a ∷ l) = P a × Every P l

-- FORMAT 1.2
pub record RangeOk (g : Range) : Type 0 where
  pub low : neg_ℤ farthest ≤ℤ g.lo
  pub ordered : g.lo ≤ℤ g.hi
  pub high : g.hi ≤ℤ farthest

-- FORMAT 2.2
pub record ConstantOk (k : ℤ) : Type 0 where
  pub low : neg_ℤ largest ≤ℤ k
  pub high : k ≤ℤ largest

abbrev pub SideOk : Side → Type 0
SideOk (constant k) = ConstantOk k
SideOk (column i k) = ConstantOk k

abbrev pub TokenOk : Token → Type 0
TokenOk (compare op i s) = SideOk s
TokenOk both = Unit {0}
TokenOk either = Unit {0}
TokenOk negate = Unit {0}

-- no token lacks an operand, and one value is left, from h values on
unfoldable pub leaves_one : ℕ → Condition → Bool
leaves_one zero [] = false
leaves_one (suc zero) [] = true
leaves_one (suc (suc h)) [] = false
leaves_one h (compare op i s ∷ ts) = leaves_one (suc h) ts
leaves_one zero (both ∷ ts) = false
leaves_one (suc zero) (both ∷ ts) = false
leaves_one (suc (suc h)) (both ∷ ts) = leaves_one (suc h) ts
leaves_one zero (either ∷ ts) = false
leaves_one (suc zero) (either ∷ ts) = false
leaves_one (suc (suc h)) (either ∷ ts) = leaves_one (suc h) ts
leaves_one zero (negate ∷ ts) = false
leaves_one (suc h) (negate ∷ ts) = leaves_one (suc h) ts

-- FORMAT 2.1: no token, or tokens that leave one truth
abbrev pub Shaped : Condition → Type 0
Shaped [] = Unit {0}
Shaped (t ∷ ts) = T (leaves_one 0 (t ∷ ts))

-- FORMAT 2.1
pub record ConditionOk (c : Condition) : Type 0 where
  pub shaped : Shaped c
  pub few_tokens : length c ≤ most_tokens
  pub few_comparisons : comparisons c ≤ most_comparisons
  pub constants : Every TokenOk c

abbrev pub ModeOk : Mode → Type 0
ModeOk keep = Unit {0}
ModeOk (become k) = ConstantOk k
ModeOk (shift j k) = ConstantOk k

abbrev pub ChangeAccepted : Change → Type 0
ChangeAccepted (insert rows) = length rows ≤ most_rows
ChangeAccepted (delete d) = ConditionOk d
ChangeAccepted (modify d ms) = ConditionOk d × Every ModeOk ms

-- columns in ascending order, each from low on and below high
abbrev pub Ascending : ℕ → ℕ → List ℕ → Type 0
Ascending low high [] = Unit {0}
Ascending low high (i ∷ is) = (low ≤ i) × (i < high) × Ascending (suc i) high is

-- neither limit is lower in m
pub record NoLower (l m : Limits) : Type 0 where
  pub tables : l.tables ≤ m.tables
  pub columns : l.columns ≤ m.columns

-- under these limits
pub record AcceptedUnder (l : Limits) (q : Question) : Type 0 where
  -- one mode a column of the changed table, the change's columns its own, inserted rows in range
  pub well_formed : WellFormed q
  -- FORMAT 1.1
  pub few_tables : length q.front + 1 + length q.back ≤ l.tables
  pub each_front : Every (λ t. 1 ≤ length t) q.front
  pub changed : 1 ≤ length q.changed
  pub each_back : Every (λ t. 1 ≤ length t) q.back
  pub few_columns : length (columns q) ≤ l.columns
  pub ranges : Every RangeOk (columns q)
  -- FORMAT 1.2: one visible column or more
  pub some_visible : 1 ≤ length q.visible
  pub visible : Ascending 0 (length (columns q)) q.visible
  -- C's columns exist
  pub exist : Uses (λ i. i < length (columns q)) q.condition
  pub condition : ConditionOk q.condition
  pub change : ChangeAccepted q.change

abbrev pub Accepted : Question → Type 0
Accepted q = AcceptedUnder limits q
