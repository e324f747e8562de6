-- Which sheet a question gets.
use Rattle.std.specs.Prelude.{ℕ, ◌≡◌, List}
use Rattle.page_meaning.specs.Contents.{Question}
use Rattle.page_formulas.specs.Formulas.{Formula}
use Rattle.page_formulas.specs.Program.{Values}
use Rattle.page_sheets.specs.Sheet.{finding_of}
use Rattle.page_sheets.specs.Tree.{Tree}
use Rattle.page_sheets.specs.Trees.{all_shut, first_open}

-- every formula is shut
abbrev pub AllShut : Question → ℕ → Type 0
AllShut q a = (ts : List Tree) × (finding_of q a ≡ all_shut ts)

-- formula i is the first that is open
pub record OpenFirst (q : Question) (a i : ℕ) : Type 0 where
  pub formula : Formula
  pub values : Values
  pub finding : finding_of q a ≡ first_open i formula values
