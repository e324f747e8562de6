-- The fields of a sheet for a question that was read, one after the other in the order in which they are tested, as far as the bytes say;
-- and the first fault among them. Every list of bytes has such fields, also one that is no sheet.
use Rattle.std.specs.Prelude.{ℕ, zero, suc, ◌+◌, ◌≡◌, ◌⊎◌, Bool, true, false, ◌&&◌, List, [], ◌∷◌, ◌++◌, length, get_or, take, drop, eqb, leb, ltb, ℤ, pos}
use Rattle.std.specs.Int.Signed.{lt_z}
use Rattle.page_meaning.specs.Contents.{Question}
use Rattle.page_meaning.specs.Limits.{most_vertices}
use Rattle.page_walks.specs.Grid.{Grid, weight}
use Rattle.page_walks.specs.Walk.{closed}
use Rattle.page_formulas.specs.Formulas.{Formula, formulas, no_formula}
use Rattle.page_formulas.specs.Knowledge.{Three, fails, passes, open?, known}
use Rattle.page_formulas.specs.Program.{Place, places, truth}
use Rattle.page_formulas.specs.Vertices.{Ranges, present}
use Rattle.page_sheets.specs.Facts.{start, decide}
use Rattle.page_sheets.specs.Rows.{fields, field_at, value_at, read_values, field_ok}
use Rattle.page_sheets.specs.Sheet.{Verdict, say_yes, say_no, marked, versioned}

-- so many bytes from an offset on, whether they are as said, and the number where they aren't: refused where the field starts.
-- Or a test with no byte of its own, refused at a place of its own
pub data Field : Type 0 where
  bytes : ℕ → ℕ → Bool → ℕ → Field
  test : Bool → ℕ → ℕ → Field

-- are all its bytes there
abbrev pub whole : List ℕ → Field → Bool
whole s (bytes at w ok n) = leb (at + w) (length s)
whole s (test ok n p) = true

abbrev pub as_said : Field → Bool
as_said (bytes at w ok n) = ok
as_said (test ok n p) = ok

abbrev pub number_of : Field → ℕ
number_of (bytes at w ok n) = n
number_of (test ok n p) = n

-- where it is refused
abbrev pub place_of : Field → ℕ
place_of (bytes at w ok n) = at
place_of (test ok n p) = p

-- some fields, and the offset after them
pub record Run : Type 0 where
  pub fields : List Field
  pub next : ℕ

abbrev pub run : List Field → ℕ → Run
run fs o = record { fields = fs; next = o }

abbrev joined : Run → Run → Run
joined x y = run (x.fields ++ y.fields) y.next

-- fields, then those that start where they end
abbrev pub followed : Run → (ℕ → Run) → Run
followed x f = joined x (f x.next)

-- ---- FORMAT 8.2: trees

abbrev pub is_node : ℕ → Bool
is_node b = leb 1 b && leb b 3

abbrev pub is_false : Three → Bool
is_false fails = true
is_false passes = false
is_false open? = false

module _ (s : List ℕ) where
  -- so many vertices
  unfoldable pub vertex_fields : Ranges → ℕ → ℕ → List Field
  vertex_fields rs zero at = []
  vertex_fields rs (suc n) at = bytes at 1 (present rs (get_or s at 0)) 14 ∷ vertex_fields rs n (suc at)

  -- N: how many vertex numbers there are
  module _ (N : ℕ) (F : Formula) where
    -- after the byte of a node 2 at an offset: its count n, its vertices, and then whether their sum is below zero
    abbrev pub cycle_fields : Grid → ℕ → ℕ → Run
    cycle_fields g at n =
        run (bytes (suc at) 1 (leb 1 n && leb n N) 14 ∷ (vertex_fields F.ranges n (suc (suc at)) ++ (test (lt_z (closed (weight g) (take n (drop (suc (suc at)) s))) (pos 0)) 15 at ∷ [])))
        (suc (suc at) + n)

    -- after a node's byte b, where ds were decided and g holds the facts; halves are the fields after the byte of a node 3
    abbrev pub rest_fields : List Bool → Grid → ℕ → Run → ℕ → Run
    rest_fields ds g at halves zero = run [] (suc at)
    rest_fields ds g at halves (suc zero) = run (test (is_false (known F.program ds)) 15 at ∷ []) (suc at)
    rest_fields ds g at halves (suc (suc zero)) = cycle_fields g at (get_or s (suc at) 0)
    rest_fields ds g at halves (suc (suc (suc zero))) = halves
    rest_fields ds g at halves (suc (suc (suc (suc b)))) = run [] (suc at)

    abbrev pub node_fields : List Bool → Grid → ℕ → Run → Run
    node_fields ds g at halves = joined (run (bytes at 1 (is_node (get_or s at 0)) 14 ∷ []) (suc at)) (rest_fields ds g at halves (get_or s at 0))

    -- by the places that are left: with none left a node 3 isn't as said
    unfoldable pub tree_fields : List Place → List Bool → Grid → ℕ → Run
    tree_fields [] ds g at = node_fields ds g at (run (test false 15 at ∷ []) (suc at))
    tree_fields (p ∷ todo) ds g at =
        node_fields ds g at (followed (tree_fields todo (ds ++ true ∷ []) (decide g p true) (suc at)) (λ o. tree_fields todo (ds ++ false ∷ []) (decide g p false) o))

  unfoldable pub trees_fields : List Formula → ℕ → Run
  trees_fields [] at = run [] at
  trees_fields (F ∷ Fs) at = followed (tree_fields most_vertices F (places F.program) [] (start most_vertices F.ranges) at) (λ o. trees_fields Fs o)

  -- FORMAT 8.4: bytes after the end
  abbrev pub yes_fields : List Formula → List Field
  yes_fields Fs = (trees_fields Fs 7).fields ++ (test (leb (length s) (trees_fields Fs 7).next) 16 0 ∷ [])

  -- ---- FORMAT 8.3: rows

  -- the values from field j on, so many
  unfoldable pub value_fields : (ℕ → ℤ → Bool) → ℕ → ℕ → List Field
  value_fields ok zero j = []
  value_fields ok (suc k) j = bytes (field_at j) 4 (ok j (value_at s j)) 15 ∷ value_fields ok k (suc j)

  -- the values of formula i's rows, whether they meet it, and the end
  abbrev pub row_fields : Question → ℕ → Formula → List Field
  row_fields q i F =
      value_fields (field_ok q i s) (fields q F) 0
      ++ (test (truth (read_values q F s) F.program) 15 7 ∷ test (leb (length s) (field_at (fields q F))) 16 0 ∷ [])

  abbrev pub no_fields : Question → List Formula → List Field
  no_fields q Fs = bytes 7 1 (ltb (get_or s 7 0) (length Fs)) 14 ∷ row_fields q (get_or s 7 0) (get_or Fs (get_or s 7 0) no_formula)

  -- by the verdict's byte
  abbrev pub body_fields : Question → ℕ → ℕ → List Field
  body_fields q a zero = yes_fields (formulas q a)
  body_fields q a (suc v) = no_fields q (formulas q a)

  -- FORMAT 8.1
  abbrev pub sheet_fields : Question → ℕ → List Field
  sheet_fields q a =
      bytes 0 3 (marked s) 12
      ∷ bytes 3 2 (versioned s) 13
      ∷ bytes 5 1 (eqb (get_or s 5 0) a) 14
      ∷ bytes 6 1 (leb (get_or s 6 0) 1) 14
      ∷ body_fields q a (get_or s 6 0)

-- the verdict that a sheet has
abbrev pub verdict_by : ℕ → Verdict
verdict_by zero = say_yes
verdict_by (suc v) = say_no

abbrev pub verdict_in : List ℕ → Verdict
verdict_in s = verdict_by (get_or s 6 0)

-- ---- the first fault

abbrev pub AllSaid : List ℕ → List Field → Type 0
AllSaid s [] = Unit {0}
AllSaid s (f ∷ fs) = (whole s f ≡ true) × (as_said f ≡ true) × AllSaid s fs

-- 11 where the field runs past the end, or else its own number
abbrev pub Fault : List ℕ → Field → ℕ → ℕ → Type 0
Fault s f n p = ((whole s f ≡ false) × (n ≡ 11) × (p ≡ place_of f)) ⊎ ((whole s f ≡ true) × (as_said f ≡ false) × (n ≡ number_of f) × (p ≡ place_of f))

-- some field is at fault, and those before it are as said
pub record FirstFault (s : List ℕ) (fs : List Field) (n p : ℕ) : Type 0 where
  pub before : List Field
  pub field : Field
  pub after : List Field
  pub order : fs ≡ before ++ (field ∷ after)
  pub sound : AllSaid s before
  pub fault : Fault s field n p
