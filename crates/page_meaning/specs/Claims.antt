-- The formulas as one table (FORMAT 5.2, 5.3): each is a line of parts, and a part is a claim about a row. The words are read three times: of
-- rows in `Trouble`, as programs in `page_formulas` (`Formulas`), and as the room that these take (`Costs`).
use Rattle.std.specs.Prelude.{ℕ, Bool, true, false, cond, get_or, replicate}
use mathlib.Core.List.{List, [], ◌∷◌, ◌++◌, map, foldl}
use Rattle.page_meaning.specs.Condition.{Condition}
use Rattle.page_meaning.specs.Contents.{Version, version1, version2, Question, Change, insert, delete, modify, Mode, keep, become, shift, Table, first}

-- ---- words (FORMAT 5.2)

-- of a row: C; C(F); the change's condition; its range tests; M; S, by the version; its F differs from a row (the second?) as that is, or
-- after the change (after?)
pub data Claim : Type 0 where
  listed relisted chosen fitting moving : Claim
  staying : Version → Claim
  differing : Bool → Bool → Claim

-- of row 1 or row 2; as it is, or denied
pub data Part : Type 0 where
  of1 of2 not1 not2 : Claim → Part

-- about one full row, or about two: the first part and the others, joined by and
pub data Line : Type 0 where
  single double : Part → List Part → Line

-- ---- the table (FORMAT 5.3): the lines of a change for asked 1 (true) and asked 2 (false)

-- once for each inserted row, whose values are the modes
abbrev pub insertion : Line
insertion = single (of1 relisted) []

abbrev pub deletion : Bool → List Line
deletion true = single (of1 listed) (of1 chosen ∷ []) ∷ []
deletion false = double (of1 listed) (of2 listed ∷ of1 chosen ∷ not2 chosen ∷ []) ∷ []

-- what takes a row from where it was: in version 1 only its new values, in version 2 that it was chosen
abbrev pub leaving : Version → Claim
leaving version1 = moving
leaving version2 = chosen

-- a listed row that is removed, which version 1 doesn't know
abbrev pub retirement : Version → List Line
retirement version1 = []
retirement version2 = single (of1 chosen) (of1 listed ∷ not1 fitting ∷ []) ∷ []

abbrev pub modification : Version → Bool → List Line
modification v true =
    single (of1 moving) (of1 listed ∷ not1 relisted ∷ [])
    ∷ single (of1 moving) (not1 listed ∷ of1 relisted ∷ [])
    ∷ single (of1 moving) (of1 listed ∷ of1 relisted ∷ of1 (differing false false) ∷ [])
    ∷ retirement v
modification v false =
    single (of1 moving) (not1 listed ∷ of1 relisted ∷ [])
    ∷ double (of1 listed) (of2 listed ∷ of1 (staying v) ∷ not2 (staying v) ∷ [])
    ∷ double (of1 listed) (of2 listed ∷ of1 moving ∷ of2 moving ∷ of1 relisted ∷ of2 relisted ∷ of1 (differing true true) ∷ [])
    ∷ double (of1 listed) (of2 listed ∷ of1 moving ∷ not2 (leaving v) ∷ of1 relisted ∷ of1 (differing true false) ∷ [])
    ∷ []

-- ---- the modes of a change

-- of each column; the other tables' columns are kept
abbrev pub mode_at : Question → List Mode → ℕ → Mode
mode_at q ms i = get_or (replicate (first q) keep ++ ms) i keep

-- mode 0 (FORMAT 1.5): the value stays
abbrev pub kept : Mode → Bool
kept keep = true
kept (become k) = false
kept (shift j k) = false

-- ---- how the table is read

-- rows as W and what is said of them as A, for one change: F, C, the change's condition, its range tests, M, differ; not, and, or
pub record Reading (W A : Type 0) : Type 0 where
  pub F : W → W
  pub C : W → A
  pub D : W → A
  pub ranged : W → A
  pub M : W → A
  pub differ : W → W → A
  pub deny : A → A
  pub both : A → A → A
  pub either : A → A → A

-- the rows are w false and w true
module _ {W A : Type 0} (R : Reading W A) (w : Bool → W) where
  abbrev pub claims : Claim → Bool → A
  claims listed i = R.C (w i)
  claims relisted i = R.C (R.F (w i))
  claims chosen i = R.D (w i)
  claims fitting i = R.ranged (w i)
  claims moving i = R.M (w i)
  claims (staying version1) i = R.either (R.deny (R.M (w i))) (R.C (R.F (w i)))
  claims (staying version2) i = R.either (R.deny (R.D (w i))) (R.both (R.ranged (w i)) (R.C (R.F (w i))))
  claims (differing j new) i = R.differ (R.F (w i)) (cond new (R.F (w j)) (w j))

  abbrev pub read_part : Part → A
  read_part (of1 c) = claims c false
  read_part (of2 c) = claims c true
  read_part (not1 c) = R.deny (claims c false)
  read_part (not2 c) = R.deny (claims c true)

  -- each further part is joined to what stands before it
  abbrev pub read_parts : Part → List Part → A
  read_parts p ps = foldl (λ a x. R.both a (read_part x)) (read_part p) ps

module _ {A : Type 0} where
  -- nothing where there is one table only
  abbrev pub unless_alone : List Table → List Table → List A → List A
  unless_alone [] [] l = []
  unless_alone [] (t ∷ ts) l = l
  unless_alone (t ∷ ts) us l = l

  -- every line of a change, by what a line is under a condition and modes; an inserted row's values are its modes
  abbrev pub formulas_by : (Condition → List Mode → Line → A) → Question → Change → Bool → List A
  formulas_by f q (insert new) true = map (λ n. f [] (map become n) insertion) new
  formulas_by f q (insert new) false = unless_alone q.front q.back (map (λ n. f [] (map become n) insertion) new)
  formulas_by f q (delete d) asked = map (f d []) (deletion asked)
  formulas_by f q (modify d ms) asked = map (f d ms) (modification q.version asked)
