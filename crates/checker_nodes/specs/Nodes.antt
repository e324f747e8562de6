-- What the check of a node answers, as the definitions say it.
use Rattle.std.specs.Prelude.{ℕ, ◌+◌, ◌≤◌, ◌<◌, ◌≡◌, List, Option, Result, Ok, Err, IfErr, length, take, drop}
use Rattle.page_numbers.specs.Outcome.{good, refused}
use Rattle.page_meaning.specs.Limits.{most_vertices}
use Rattle.page_walks.specs.Grid.{Grid, far_n}
use Rattle.page_walks.specs.Sizes.{AllWithin}
use Rattle.page_walks.specs.Walk.{Below}
use Rattle.page_formulas.specs.Vertices.{Ranges}
use Rattle.page_sheets.specs.Tree.{Checked, Vertices, vertices}
use Rattle.refusal.specs.Numbers.{number_of}
use Rattle.refusal.specs.Outcomes.{IfValue}
use Rattle.refusal.specs.declared.Refusal.{Refusal}
use Rattle.grid.specs.Facts.{with_fact}
use Rattle.grid.specs.declared.Edge.{Edge}
use Rattle.program.specs.Lent.{Flagged}
use Rattle.program.specs.declared.types.Range.{Range}

-- positions are those of the part that was lent, which starts at offset base
abbrev pub outcome_of : ℕ → List ℕ → Result ℕ Refusal → Checked
outcome_of base part (Ok p) = good (base + p, drop p part)
outcome_of base part (Err r) = refused (number_of r.fault) (base + r.place)

-- of so many vertices, from first on
abbrev pub vertices_of : ℕ → List ℕ → ℕ → ℕ → Result Unit Refusal → Vertices
vertices_of base part first count (Ok u) = let bytes = drop first part in good (take count bytes, base + first + count, drop count bytes)
vertices_of base part first count (Err r) = refused (number_of r.fault) (base + r.place)

-- what the reading of vertices promises: they are the formula's, whatever else its ranges say; where all are there, they stand within the
-- part, and each has its range; and the place of a refusal is among them, within the part or at its end
pub record Named (ranges : List (Option Range)) (part : List ℕ) (first count : ℕ) (r : Result Unit Refusal) : Type 0 where
  pub meaning : (rs : Ranges) (base : ℕ) → Flagged ranges rs → vertices_of base part first count r ≡ vertices rs count (base + first) (drop first part)
  pub inside : IfValue r (λ u. (first + count ≤ length part) × Below (length ranges) (take count (drop first part)))
  pub past : IfErr r (λ e. (first ≤ e.place) × (e.place ≤ length part))

-- a grid and one fact more between its vertices, with weights that add up exactly
pub record Checkable (g : Grid) (e : Edge) : Type 0 where
  pub small : AllWithin far_n most_vertices (with_fact g e)
  pub from_is : e.from < most_vertices
  pub to_is : e.to < most_vertices
