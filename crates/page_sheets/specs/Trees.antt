-- FORMAT 6.2 and 7.2: all formulas of a question, one tree each, or the first that is open.
use Rattle.std.specs.Prelude.{ℕ, suc, List, [], ◌∷◌, ◌++◌}
use Rattle.page_numbers.specs.Outcome.{good}
use Rattle.page_formulas.specs.Program.{Values}
use Rattle.page_formulas.specs.Formulas.{Formula}
use Rattle.page_sheets.specs.Tree.{Tree, bytes_of, Checked, and_then, check_tree}
use Rattle.page_sheets.specs.Growth.{Growth, shut, open_at, grow_tree}

-- FORMAT 6.2: one tree after another; each tree's check is handed the bytes after the last one's end
unfoldable pub check_trees : ℕ → List Formula → ℕ → List ℕ → Checked
check_trees N [] at bs = good (at, bs)
check_trees N (F ∷ Fs) at bs = and_then (check_tree N F at bs) (λ o r. check_trees N Fs o r)

-- FORMAT 7.2: what the writer finds: every formula's tree; or the number of the first open formula, the formula, and its first open leaf's values
pub data Finding : Type 0 where
  all_shut : List Tree → Finding
  first_open : ℕ → Formula → Values → Finding

abbrev pub before : Formula → Growth → Finding → Finding
before F (open_at x) v = first_open 0 F x
before F (shut t) (all_shut ts) = all_shut (t ∷ ts)
before F (shut t) (first_open i G x) = first_open (suc i) G x

-- over n + 1 vertex numbers
unfoldable pub write_trees : ℕ → List Formula → Finding
write_trees n [] = all_shut []
write_trees n (F ∷ Fs) = let rest = write_trees n Fs in before F (grow_tree n F) rest

unfoldable pub bytes_all : List Tree → List ℕ
bytes_all [] = []
bytes_all (t ∷ ts) = bytes_of t ++ bytes_all ts
