-- A sheet by its parts, its header and what follows; and that an open formula can be shown.
use Prim.Native.Nat.{ℕ, ◌≤◌, ◌<◌}
use mathlib.Core.Path.{◌≡◌, sym, ap, ◌∙◌}
use mathlib.Core.Bool.{Bool, true, false, cond}
use mathlib.Core.List.{List, [], ◌∷◌, ◌++◌}
use native.Mathlib.Omega.{arith}
use lib.Dec.{eqb}
use lib.ListN.{length, get_or, length-map}
use Rattle.std.specs.Prelude.{Result, IsErr}
use Rattle.page_meaning.specs.Contents.{Version, version1, version2, Table, Change, insert, delete, modify, Question}
use Rattle.page_meaning.specs.Claims.{modification, unless_alone}
use Rattle.page_meaning.specs.Limits.{most_rows}
use Rattle.page_questions.specs.Guarantees.{Accepted, ChangeAccepted}
use Rattle.page_formulas.specs.Formulas.{Formula, irrelevance, computability, formulas, no_formula}
use Rattle.program.specs.Compiled.{Compiled}
use Rattle.program.specs.declared.types.Formula as compiled
use Rattle.formula.specs.Formulas.{formula_at}
use Rattle.formula.proofs.ProperFormulas.{proper_at}
use Rattle.page_sheets.specs.Growth.{open_at, grow_tree}
use Rattle.page_sheets.specs.Rows.{no_bytes}
use Rattle.page_sheets.specs.Sheet.{last_vertex, Verdict, header, say_yes, say_no, sheet_for, finding_under, sheet_under, sheet_of}
use Rattle.page_sheets.specs.Trees.{bytes_all}
use Rattle.page_sheets.proofs.Positions.{open_there}
use Rattle.room.specs.Room.{Filling, filling, stopped, puts}
use Rattle.room.specs.declared.Sink.{Sink}
use Rattle.room.specs.declared.Full.{Full}
use Rattle.room.proofs.PutBytes.{puts_append, stops}
use Rattle.writer_leaves.specs.Leaves.{FineOpen}
use Rattle.writer_sheets.specs.Starts.{AllShut, OpenFirst}

-- ---- how many formulas there are: their numbers are bytes
module _ (q : Question) where
  unless_fewer : (ts us : List Table) (Fs : List Formula) → length (unless_alone ts us Fs) ≤ length Fs
  unless_fewer [] [] Fs = omega arith
  unless_fewer [] (u ∷ us) Fs = omega arith
  unless_fewer (t ∷ ts) us Fs = omega arith

  few : (ch : Change) → ChangeAccepted ch → (b : Bool) → length (cond b (irrelevance q ch) (computability q ch)) ≤ most_rows
  few (insert new) h true = let e : length (irrelevance q (insert new)) ≡ length new = length-map new _ in omega (arith, e, h)
  few (insert new) h false = let e : length (irrelevance q (insert new)) ≡ length new = length-map new _ in omega (arith, unless_fewer q.front q.back (irrelevance q (insert new)), e, h)
  few (delete d) h true = omega arith
  few (delete d) h false = omega arith
  few (modify d ms) h true = let e : length (irrelevance q (modify d ms)) ≡ length (modification q.version true) = length-map (modification q.version true) _ in omega (arith, e, four q.version)
    where
      four : (v : Version) → length (modification v true) ≤ most_rows
      four version1 = omega arith
      four version2 = omega arith
  few (modify d ms) h false = omega arith

module _ (q : Question) (a : ℕ) where
  -- ---- the first open formula
  module _ (i : ℕ) (o : OpenFirst q a i) where
    there : (i < length (formulas q a)) × (get_or (formulas q a) i no_formula ≡ o.formula) × (grow_tree last_vertex o.formula ≡ open_at o.values)
    unfolding finding_under
    there = open_there last_vertex (formulas q a) i o.formula o.values o.finding no_formula

    pub number_there : i < length (formulas q a)
    number_there = there.0

    pub number_byte : Accepted q → i < 256
    number_byte ok = omega (arith, number_there, few q q.change ok.change (eqb a 1))

    pub opens : grow_tree last_vertex (formula_at (formulas q a) i) ≡ open_at o.values
    opens = rw there.1 there.2

    -- it is open, as the code compiles it
    pub fine_open : Accepted q → (f : compiled.Formula) → Compiled f (formula_at (formulas q a) i) → FineOpen f
    fine_open ok f is = record { formula = formula_at (formulas q a) i; is = is; proper = proper_at q ok a i number_there; values = o.values; opens = opens }

    -- a no sheet: its header, and the rows of the leaf
    pub no_parts : sheet_of q a ≡ header a say_no ++ no_bytes q i (formula_at (formulas q a) i) o.values
    unfolding sheet_under
    no_parts = ap (sheet_for q a) o.finding ∙ ap (λ G. header a say_no ++ no_bytes q i G o.values) (sym there.1)

  -- a yes sheet: its header, and every tree
  pub yes_parts : (s : AllShut q a) → sheet_of q a ≡ header a say_yes ++ bytes_all s.0
  unfolding sheet_under
  yes_parts s = ap (sheet_for q a) s.1

  -- ---- a sheet put by its parts
  module _ (v : Verdict) (rest : List ℕ) (parts : sheet_of q a ≡ header a v ++ rest) (f : Filling) where
    pub header_over : {A : Type 0} (t : Sink) (r : Result A Full) → IsErr r → stopped t ≡ puts f (header a v) → filling t r ≡ puts f (sheet_of q a)
    header_over t r i h = stops t r (puts f (header a v)) rest i h ∙ sym (puts_append f (header a v) rest) ∙ ap (puts f) (sym parts)

    pub header_then : (g h : Filling) → g ≡ puts f (header a v) → h ≡ puts g rest → h ≡ puts f (sheet_of q a)
    header_then g h e r = r ∙ ap (λ x. puts x rest) e ∙ sym (puts_append f (header a v) rest) ∙ ap (puts f) (sym parts)
