-- An inserted row's values in the changed table's columns: what they are, that they are in range, and that a formula does not look at what stood there.
use Prim.Native.Nat.{ℕ, zero, suc, ◌+◌}
use mathlib.Core.Path.{◌≡◌, refl, ap, ◌∙◌}
use mathlib.Core.Logic.{inl, inr}
use mathlib.Core.Bool.{Bool, true, false}
use mathlib.Core.Option.{Option, none, some}
use mathlib.Core.List.{List, [], ◌∷◌, ◌++◌, map}
use native.Mathlib.Omega.{arith}
use lib.ListN.{get_or, replicate}
use lib.Dec.{T}
use lib.IntN.{ℤ}
use Rattle.page_meaning.specs.Condition.{Condition, Row}
use Rattle.page_meaning.specs.Contents.{Values, look, ◌∈◌, Table, fits, Mode, keep, become, Change, insert, delete, modify, Question, columns, first, new_value}
use Rattle.page_meaning.specs.Claims.{Line, single, double, deletion, modification, unless_alone}
use Rattle.page_meaning.specs.Trouble.{Formula, one, two, moved, formula, irrelevance, computability}
use Rattle.page_meaning.proofs.Words.{C, put}
use Rattle.page_meaning.specs.WellFormed.{ChangeOk}
use Rattle.page_formulas.specs.Formulas.{put_in}
use Rattle.page_formulas.proofs.InsertedRows.{put_in_fits, put_in_put, put_in_same}
use Rattle.page_sheets.specs.Rows.{inserted_row, put_row, matches, or_else}
use Rattle.page_sheets.proofs.Values.{is_equal}

-- the value that a row's mode gives
abbrev mode_of : Option ℤ → Mode
mode_of none = keep
mode_of (some k) = become k

mode_at_lem : (k : ℕ) (new : Values) (i : ℕ) → get_or (replicate k keep ++ map become new) i keep ≡ mode_of (get_or (replicate k none ++ map some new) i none)
mode_at_lem zero [] i = refl
mode_at_lem zero (x ∷ new) zero = refl
mode_at_lem zero (x ∷ new) (suc i) = mode_at_lem zero new i
mode_at_lem (suc k) new zero = refl
mode_at_lem (suc k) new (suc i) = mode_at_lem k new i

mode_value : (o : Option ℤ) (r : Row) (x : ℤ) → new_value (mode_of o) r x ≡ or_else o x
mode_value none r x = refl
mode_value (some k) r x = refl

-- what stands in column j of a row with an inserted row's values put in
value_of : (q : Question) (new v : Values) → T (fits q.changed new) → T (fits (columns q) v) → (j : ℕ) → look (put_in q new v) j ≡ or_else (get_or (replicate (first q) none ++ map some new) j none) (look v j)
unfolding moved
value_of q new v h t j =
    ap (λ r. r j) (put_in_put q new v h t)
    ∙ ap (λ m. new_value m (look v) (look v j)) (mode_at_lem (first q) new j)
    ∙ mode_value (get_or (replicate (first q) none ++ map some new) j none) (look v) (look v j)

-- ---- for each formula of a trouble list
-- the inserted value that column j of formula i's row must have, by the change
abbrev pub fixed_by : Question → Change → ℕ → ℕ → Option ℤ
fixed_by q ch i j = get_or (replicate (first q) none ++ map some (inserted_row ch i)) j none

-- formula i's row with its inserted values is in range where the row is, has those values, and is as good
pub record Put1 (q : Question) (ch : Change) (i : ℕ) (f : Row → Bool) (v : Values) : Type 0 where
  pub within : T (fits (columns q) (put_row q ch i v))
  pub has : (j : ℕ) → T (matches (fixed_by q ch i j) (look (put_row q ch i v) j))
  pub same : f (look (put_row q ch i v)) ≡ f (look v)

abbrev pub Puts : Question → Change → ℕ → Formula → Type 0
Puts q ch i (one f) = (v : Values) → T (fits (columns q) v) → Put1 q ch i f v
Puts q ch i (two f) = ((v : Values) → put_row q ch i v ≡ v) × ((j : ℕ) → fixed_by q ch i j ≡ none)

abbrev pub AllFrom : (ℕ → Formula → Type 0) → ℕ → List Formula → Type 0
AllFrom P i [] = Unit {0}
AllFrom P i (φ ∷ φs) = P i φ × AllFrom P (suc i) φs

matches_own : (o : Option ℤ) (z : ℤ) → T (matches o (or_else o z))
matches_own none z = tt
matches_own (some k) z = is_equal k k refl

puts_inserted : (q : Question) (rows : List Values) (i : ℕ) (new : List Values) → ((k : ℕ) → get_or rows (i + k) [] ≡ get_or new k []) → ((r : Values) → r ∈ new → T (fits q.changed r)) → AllFrom (Puts q (insert rows)) i (irrelevance q (insert new))
puts_inserted q rows i [] e h = tt
puts_inserted q rows i (n ∷ new) e h = (here, puts_inserted q rows (suc i) new (λ k. let d : suc i + k ≡ i + suc k = omega arith in rw d (e (suc k))) (λ r m. h r (inr m)))
  where
    is : get_or rows i [] ≡ n
    is = let d : i + 0 ≡ i = omega arith in rw d at (e 0)

    here : (v : Values) → T (fits (columns q) v) → Put1 q (insert rows) i (λ r. C q (put q n r)) v
    here v t =
        let b = h n (inl refl) in
        record {
          within = rw is (put_in_fits q n v b t);
          has = λ j. rw is (rw (value_of q n v b t j) (matches_own (get_or (replicate (first q) none ++ map some n) j none) (look v j)));
          same = rw is (ap (C q) (put_in_same q n v b t));
        }

unless_from : (P : ℕ → Formula → Type 0) (ts us : List Table) (φs : List Formula) → AllFrom P 0 φs → AllFrom P 0 (unless_alone ts us φs)
unless_from P [] [] φs a = tt
unless_from P [] (u ∷ us) φs a = a
unless_from P (t ∷ ts) us φs a = a

-- where nothing is inserted
none_at : (n j : ℕ) → ◌≡◌ {A = Option ℤ} (get_or (replicate n none ++ []) j none) none
none_at zero j = refl
none_at (suc n) zero = refl
none_at (suc n) (suc j) = none_at n j

-- a change that inserts nothing leaves each row as it is
pub record Still (q : Question) (ch : Change) : Type 0 where
  pub puts : (i : ℕ) (v : Values) → put_row q ch i v ≡ v
  pub fixes : (i j : ℕ) → fixed_by q ch i j ≡ none

module _ (q : Question) where
  still_one : (ch : Change) → Still q ch → (i : ℕ) (f : Row → Bool) → Puts q ch i (one f)
  still_one ch s i f v t = record { within = rw (s.puts i v) t; has = λ j. rw (s.fixes i j) tt; same = ap (λ u. f (look u)) (s.puts i v) }

  still_two : (ch : Change) → Still q ch → (i : ℕ) → ((v : Values) → put_row q ch i v ≡ v) × ((j : ℕ) → fixed_by q ch i j ≡ none)
  still_two ch s i = (s.puts i, s.fixes i)

  -- any lines, from number i on
  still_lines : (ch : Change) → Still q ch → (d : Condition) (ms : List Mode) (i : ℕ) (ls : List Line) → AllFrom (Puts q ch) i (map (formula q d ms) ls)
  still_lines ch s d ms i [] = tt
  still_lines ch s d ms i (single p ps ∷ ls) = (still_one ch s i _, still_lines ch s d ms (suc i) ls)
  still_lines ch s d ms i (double p ps ∷ ls) = (still_two ch s i, still_lines ch s d ms (suc i) ls)

  delete_still : (d : Condition) → Still q (delete d)
  delete_still d = record { puts = λ i v. refl; fixes = λ i j. none_at (first q) j }

  modify_still : (d : Condition) (ms : List Mode) → Still q (modify d ms)
  modify_still d ms = record { puts = λ i v. refl; fixes = λ i j. none_at (first q) j }

  pub irrelevance_puts : (ch : Change) → ChangeOk q ch → AllFrom (Puts q ch) 0 (irrelevance q ch)
  irrelevance_puts (insert new) ok = puts_inserted q new 0 new (λ k. ap (λ m. get_or new m []) (omega arith)) ok
  irrelevance_puts (delete d) ok = still_lines (delete d) (delete_still d) d [] 0 (deletion true)
  irrelevance_puts (modify d ms) ok = still_lines (modify d ms) (modify_still d ms) d ms 0 (modification q.version true)

  pub computability_puts : (ch : Change) → ChangeOk q ch → AllFrom (Puts q ch) 0 (computability q ch)
  computability_puts (insert new) ok = unless_from (Puts q (insert new)) q.front q.back (irrelevance q (insert new)) (puts_inserted q new 0 new (λ k. ap (λ m. get_or new m []) (omega arith)) ok)
  computability_puts (delete d) ok = still_lines (delete d) (delete_still d) d [] 0 (deletion false)
  computability_puts (modify d ms) ok = still_lines (modify d ms) (modify_still d ms) d ms 0 (modification q.version false)
