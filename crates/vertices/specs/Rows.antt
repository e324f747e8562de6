-- The vertices of a formula's rows, as they are written one after another.
use Rattle.std.specs.Prelude.{ℕ, ◌+◌, ◌≤◌, ◌≡◌, Bool, true, false, not, ◌&&◌, cond, List, ◌++◌, map, length}
use Rattle.page_meaning.specs.Limits.{most_vertices}
use Rattle.question.specs.Held.{column_of}
use Rattle.question.specs.declared.types.Column.{Column}
use Rattle.page_formulas.specs.Vertices.{Ranges}
use Rattle.program.specs.Compiled.{Spans, range_if}
use Rattle.program.specs.declared.types.Vertices.{Vertices}

-- what a row's vertices range over; of the second row the visible columns have none
abbrev pub row_ranges : Bool → List Column → Ranges
row_ranges second cs = map (λ c. range_if (not (second && c.visible)) (column_of c).range) cs

-- and one row's or two rows'
abbrev pub ranges_by : Bool → List Column → Ranges
ranges_by pairs cs = cond pairs (row_ranges false cs ++ row_ranges true cs) (row_ranges false cs)

-- its array is as long as declared, and so many vertices more fit
pub record Widen (v : Vertices) (n : ℕ) : Type 0 where
  pub long : length v.ranges ≡ most_vertices
  pub room : v.count + n ≤ most_vertices

-- r is v with n vertices after it, of these ranges
pub record Widens (v r : Vertices) (n : ℕ) (more : Ranges) : Type 0 where
  pub long : length r.ranges ≡ most_vertices
  pub count : r.count ≡ v.count + n
  pub spans : (rs : Ranges) → Spans v rs → Spans r (rs ++ more)
