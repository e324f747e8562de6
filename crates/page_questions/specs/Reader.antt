-- FORMAT 4.1: fields are read in order, each tested for its length and then for its value; the first fault is the answer, with the offset
-- where that field starts. A suffix `from..` reads its field and all that follows.
use Rattle.std.specs.Prelude.{ℕ, zero, suc, ◌+◌, ◌-◌, ◌*◌, Bool, true, cond, ◌&&◌, ltb, leb, eqb, length, get_or, ℤ, pos, neg_ℤ}
use mathlib.Core.List.{List, [], ◌∷◌, ◌++◌, foldl}
use Rattle.std.specs.Int.Signed.{le_z}
use Rattle.page_numbers.specs.Outcome.{Outcome, good, refused}
use Rattle.page_numbers.specs.Bytes.{int32}
use Rattle.page_meaning.specs.Limits.{Limits, limits, most_tokens, most_comparisons, most_rows}
use Rattle.page_meaning.specs.Condition.{Op, less, at_most, equal, at_least, more, unequal, Side, constant, column, Token, compare, both, either, negate, Condition}
use Rattle.page_meaning.specs.Contents.{Range, Mode, keep, become, shift, Values, Change, insert, delete, modify, Question}
use Rattle.page_questions.specs.Layout.{Column, ranges_of, total, first_of, table_of, visible_from, version_by, question_from}

-- ---- answers

abbrev pub Read : Type 0
Read = Outcome Question

-- what some fields hold, and the offset after them
pub record At (A : Type 0) : Type 0 where
  pub value : A
  pub next : ℕ

abbrev pub found : {A : Type 0} → A → ℕ → Outcome (At A)
found a p = good (record { value = a; next = p })

-- what follows is read only where nothing was refused before
abbrev pub and_then : {A B : Type 0} → Outcome (At A) → (A → ℕ → Outcome B) → Outcome B
and_then (good a) f = f a.value a.next
and_then (refused n p) f = refused n p

-- k fields of one sort, each read with those before it in hand
unfoldable pub many : {A : Type 0} → (List A → ℕ → Outcome (At A)) → ℕ → List A → ℕ → Outcome (At (List A))
many f zero done p = found done p
many f (suc k) done p = and_then (f done p) (λ a q. many f k (done ++ (a ∷ [])) q)

-- ---- fields

-- one byte at p from low on and below high, else the refusal n
unfoldable pub byte : List ℕ → ℕ → ℕ → ℕ → ℕ → Outcome (At ℕ)
byte s n low high p =
    cond (ltb p (length s))
    (cond (leb low (get_or s p 0) && ltb (get_or s p 0) high) (found (get_or s p 0) (p + 1)) (refused n p))
    (refused 1 p)

-- an i32 at p, lo to hi, else the refusal n
unfoldable pub int : List ℕ → ℕ → ℤ → ℤ → ℕ → Outcome (At ℤ)
int s n lo hi p =
    cond (leb (p + 4) (length s))
    (cond (le_z lo (int32 s p) && le_z (int32 s p) hi) (found (int32 s p) (p + 4)) (refused n p))
    (refused 1 p)

-- the first number above the greatest allowed
abbrev pub up_to : ℕ → ℕ
up_to n = suc n

-- FORMAT 1.2: how far the ends of a range may lie from 0
abbrev pub farthest : ℤ
farthest = pos 1000000000

-- FORMAT 2.2: how far a constant may lie from 0
abbrev pub largest : ℤ
largest = pos 2000000000

abbrev pub constant_at : List ℕ → ℕ → Outcome (At ℤ)
constant_at s p = int s 5 (neg_ℤ largest) largest p

-- FORMAT 3.3: the column byte that stands for no column
abbrev pub none : ℕ
none = 255

-- ---- columns

-- FORMAT 3.2: a table's column count, 1 or more and no more than are left of n
abbrev pub width_at : ℕ → List ℕ → List ℕ → ℕ → Outcome (At ℕ)
width_at n s ws p = byte s 4 1 (up_to (n - total ws)) p

-- FORMAT 3.2: a column's lo, hi from lo on, and visible byte
unfoldable pub column_at : List ℕ → ℕ → Outcome (At Column)
column_at s p =
    and_then (int s 5 (neg_ℤ farthest) farthest p) λ lo p.
    and_then (int s 5 lo farthest p) λ hi p.
    and_then (byte s 4 0 (up_to 1) p) λ v p.
    found (record { range = record { lo = lo; hi = hi }; shown = eqb v 1 }) p

-- ---- conditions; their columns are numbered from low on and below high

-- FORMAT 3.3: the operators by number
abbrev pub op_of : ℕ → Op
op_of o =
    cond (eqb o 1) less
    (cond (eqb o 2) at_most
    (cond (eqb o 3) equal
    (cond (eqb o 4) at_least
    (cond (eqb o 5) more unequal))))

-- FORMAT 3.3: the right column, or none
abbrev pub right_at : List ℕ → ℕ → ℕ → ℕ → Outcome (At ℕ)
right_at s low high p = cond (eqb (get_or s p 0) none) (found none (p + 1)) (byte s 7 low high p)

abbrev pub side_of : ℕ → ℤ → Side
side_of r k = cond (eqb r none) (constant k) (column r k)

-- FORMAT 3.3: what follows a comparison's token byte
unfoldable pub comparison_at : List ℕ → ℕ → ℕ → ℕ → Outcome (At Token)
comparison_at s low high p =
    and_then (byte s 6 1 (up_to 6) p) λ o p.
    and_then (byte s 7 low high p) λ i p.
    and_then (right_at s low high p) λ r p.
    and_then (constant_at s p) λ k p.
    found (compare (op_of o) i (side_of r k)) p

-- how many values stand after a token, from h
abbrev pub after : ℕ → Token → ℕ
after h (compare op i s) = h + 1
after h both = h - 1
after h either = h - 1
after h negate = h

abbrev pub height : Condition → ℕ
height ts = foldl after 0 ts

abbrev pub counted : ℕ → Token → ℕ
counted n (compare op i s) = n + 1
counted n both = n
counted n either = n
counted n negate = n

abbrev pub comparisons : Condition → ℕ
comparisons ts = foldl counted 0 ts

-- FORMAT 4.3, 6: t takes n truths, and there must be as many
abbrev pub needs : Condition → ℕ → Token → ℕ → Outcome (At Token)
needs ts n t p = cond (leb n (height ts)) (found t (p + 1)) (refused 6 p)

-- the token of number t at p, after the tokens ts. FORMAT 4.3, 4: a seventh comparison is refused at its token byte
abbrev pub token_of : List ℕ → ℕ → ℕ → Condition → ℕ → ℕ → Outcome (At Token)
token_of s low high ts p t =
    cond (eqb t 1) (cond (ltb (comparisons ts) most_comparisons) (comparison_at s low high (p + 1)) (refused 4 p))
    (cond (eqb t 2) (needs ts 2 both p)
    (cond (eqb t 3) (needs ts 2 either p)
    (needs ts 1 negate p)))

-- FORMAT 3.3: a token, by its first byte
unfoldable pub token_at : List ℕ → ℕ → ℕ → Condition → ℕ → Outcome (At Token)
token_at s low high ts p = and_then (byte s 6 1 (up_to 4) p) λ t q. token_of s low high ts p t

-- FORMAT 2.1: one truth is left, or there was no token
abbrev pub finished : Condition → Bool
finished [] = true
finished (t ∷ ts) = eqb (height (t ∷ ts)) 1

-- FORMAT 4.2: tested after the last token, with the next offset
abbrev pub finish : Condition → ℕ → Outcome (At Condition)
finish ts p = cond (finished ts) (found ts p) (refused 6 p)

-- FORMAT 3.3: the token count and the tokens
unfoldable pub condition_at : List ℕ → ℕ → ℕ → ℕ → Outcome (At Condition)
condition_at s low high p =
    and_then (byte s 4 0 (up_to most_tokens) p) λ n p.
    and_then (many (token_at s low high) n [] p) finish

-- ---- changes; gs are the changed table's ranges, low is its first column's number

-- a value after those before it, in its column's range
abbrev pub value_at : List ℕ → List Range → Values → ℕ → Outcome (At ℤ)
value_at s gs vs p = int s 5 range_at.lo range_at.hi p
  where
    range_at : Range
    range_at = get_or gs (length vs) (record { lo = pos 0; hi = pos 0 })

unfoldable pub row_at : List ℕ → List Range → ℕ → Outcome (At Values)
row_at s gs p = many (value_at s gs) (length gs) [] p

-- FORMAT 3.4: the row count and the rows
unfoldable pub insert_at : List ℕ → List Range → ℕ → Outcome (At Change)
insert_at s gs p =
    and_then (byte s 4 0 (up_to most_rows) p) λ n p.
    and_then (many (λ rs p. row_at s gs p) n [] p) λ rs p.
    found (insert rs) p

-- FORMAT 3.4: a condition
unfoldable pub delete_at : List ℕ → ℕ → ℕ → ℕ → Outcome (At Change)
delete_at s low high p = and_then (condition_at s low high p) λ d p. found (delete d) p

-- FORMAT 3.4: the column byte of modes 0 and 1
abbrev pub no_column_at : List ℕ → ℕ → Outcome (At ℕ)
no_column_at s p = byte s 4 none (up_to none) p

-- FORMAT 3.4: mode 0 has the constant 0
abbrev pub keep_at : List ℕ → ℕ → Outcome (At Mode)
keep_at s p = and_then (no_column_at s p) λ j p. and_then (int s 4 (pos 0) (pos 0) p) λ k p. found keep p

abbrev pub become_at : List ℕ → ℕ → Outcome (At Mode)
become_at s p = and_then (no_column_at s p) λ j p. and_then (constant_at s p) λ k p. found (become k) p

abbrev pub shift_at : List ℕ → ℕ → ℕ → ℕ → Outcome (At Mode)
shift_at s low high p = and_then (byte s 7 low high p) λ j p. and_then (constant_at s p) λ k p. found (shift j k) p

-- FORMAT 3.4: a mode with its column and its constant
unfoldable pub mode_at : List ℕ → ℕ → ℕ → ℕ → Outcome (At Mode)
mode_at s low high p =
    and_then (byte s 4 0 (up_to 2) p) λ m p.
    cond (eqb m 0) (keep_at s p) (cond (eqb m 1) (become_at s p) (shift_at s low high p))

-- FORMAT 3.4: a condition, then a mode for each column of the changed table
unfoldable pub modify_at : List ℕ → ℕ → ℕ → ℕ → Outcome (At Change)
modify_at s low width p =
    and_then (condition_at s low (low + width) p) λ d p.
    and_then (many (λ ms p. mode_at s low (low + width) p) width [] p) λ ms p.
    found (modify d ms) p

-- FORMAT 3.4: the change, by its kind
abbrev pub change_at : List ℕ → ℕ → ℕ → List Range → ℕ → Outcome (At Change)
change_at s kind low gs p =
    cond (eqb kind 1) (insert_at s gs p)
    (cond (eqb kind 2) (delete_at s low (low + length gs) p)
    (modify_at s low (length gs) p))

-- ---- the whole, from the end

-- FORMAT 4.3, 9: bytes are left, and the place is the first one's
unfoldable pub ending : List ℕ → Question → ℕ → Read
ending s q p = cond (ltb p (length s)) (refused 9 p) (good q)

module _ (s : List ℕ) (kind changed : ℕ) (ws : List ℕ) where
  unfoldable pub from_change : List Column → Condition → ℕ → Read
  from_change cs c p =
      and_then (change_at s kind (first_of ws changed) (table_of ws changed (ranges_of cs)) p) λ ch p.
      ending s (question_from (version_by (get_or s 3 0)) ws changed cs c ch) p

  unfoldable pub from_condition : List Column → ℕ → Read
  from_condition cs p = and_then (condition_at s 0 (total ws) p) λ c p. from_change cs c p

  -- FORMAT 4.2: no column visible is tested after the last column, with the next offset
  unfoldable pub from_visible : List Column → ℕ → Read
  from_visible cs p = seen (visible_from 0 cs)
    where
      seen : List ℕ → Read
      seen [] = refused 8 p
      seen (i ∷ is) = from_condition cs p

  unfoldable pub from_columns : ℕ → Read
  from_columns p = and_then (many (λ cs p. column_at s p) (total ws) [] p) λ cs p. from_visible cs p

-- FORMAT 3.2: the mark, one field of three bytes
abbrev pub marked : List ℕ → Bool
marked s = eqb (get_or s 0 0) 86 && eqb (get_or s 1 0) 85 && eqb (get_or s 2 0) 81

-- FORMAT 3.2: the version, one field of two bytes; and is there such a version
abbrev pub version_in : List ℕ → ℕ
version_in s = get_or s 3 0 + 256 * get_or s 4 0

abbrev pub versioned : ℕ → Bool
versioned v = leb 1 v && ltb v (up_to 2)

module _ (l : Limits) (s : List ℕ) where
  -- FORMAT 3.2: the column counts
  unfoldable pub from_widths : ℕ → ℕ → ℕ → ℕ → Read
  from_widths tables kind changed p = and_then (many (width_at l.columns s) tables [] p) λ ws p. from_columns s kind changed ws p

  -- FORMAT 3.2: the changed table
  unfoldable pub from_changed : ℕ → ℕ → ℕ → Read
  from_changed tables kind p = and_then (byte s 4 0 tables p) λ changed p. from_widths tables kind changed p

  -- FORMAT 3.2: the kind of change
  unfoldable pub from_kind : ℕ → ℕ → Read
  from_kind tables p = and_then (byte s 4 1 (up_to 3) p) λ kind p. from_changed tables kind p

  -- FORMAT 3.2: the table count
  unfoldable pub from_tables : ℕ → Read
  from_tables p = and_then (byte s 4 1 (up_to l.tables) p) λ tables p. from_kind tables p

  -- FORMAT 3.2: the version
  unfoldable pub from_version : Read
  from_version = cond (leb 5 (length s)) (cond (versioned (version_in s)) (from_tables 5) (refused 3 3)) (refused 1 3)

  -- a question under these limits
  unfoldable pub read_under : Read
  read_under = cond (leb 3 (length s)) (cond (marked s) from_version (refused 2 0)) (refused 1 0)

-- FORMAT 3: a question
abbrev pub read_of : List ℕ → Read
read_of s = read_under limits s
