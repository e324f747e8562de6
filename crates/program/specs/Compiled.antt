-- What a compiled formula means: its program, which vertices it has, and their ranges; whole, and part by part as it is lent.
use Rattle.std.specs.Prelude.{ℕ, suc, ◌≤◌, ◌<◌, ◌≡◌, Bool, true, cond, List, Option, Some, None, is_some, length, get_or, ◌≤ℤ◌}
use Rattle.std.proofs.Math.Option as maybe
use Rattle.page_numbers.specs.Numbers.{up, dn}
use Rattle.page_meaning.specs.Limits.{most_vertices}
use Rattle.page_meaning.specs.Contents as M
use Rattle.page_walks.specs.Sizes.{least_weight, Bounded}
use Rattle.page_formulas.specs.Vertices.{Ranges}
use Rattle.page_formulas.specs.Formulas as F
use Rattle.page_formulas.specs.ProperFormulas.{billion, Proper}
use Rattle.program.specs.Meanings.{entry_of}
use Rattle.program.specs.Built.{Means}
use Rattle.program.specs.declared.types.Range.{Range}
use Rattle.program.specs.declared.types.Vertices.{Vertices}
use Rattle.program.specs.declared.types.Formula.{Formula}

-- vertex 0 is there, with whatever range; each other vertex that is there has its range, and past the last there is none
pub record Covers (ranges : List (Option Range)) (rs : Ranges) : Type 0 where
  pub zero : is_some (get_or ranges 0 None) ≡ true
  pub agree : (k : ℕ) → entry_of (get_or ranges (suc k) None) ≡ get_or rs k maybe.none

-- vertex numbers up to the last range's
pub record Spans (v : Vertices) (rs : Ranges) : Type 0 where
  pub count : v.count ≡ suc (length rs)
  pub covers : Covers v.ranges rs

abbrev pub range_if : Bool → M.Range → maybe.Option M.Range
range_if there g = cond there (maybe.some g) maybe.none

-- the compiled formula is the formula
pub record Compiled (f : Formula) (F : F.Formula) : Type 0 where
  pub program : Means f.program F.program
  pub pairs : f.pairs ≡ F.pairs
  pub vertices : Spans f.vertices F.ranges

-- it is that of some proper formula: so it fits, and every sum is exact
pub record Fine (f : Formula) : Type 0 where
  pub formula : F.Formula
  pub is : Compiled f formula
  pub proper : Proper formula

-- ---- its vertices, part by part

-- which vertices there are, and their ranges
pub record Spanned (rs : Ranges) (ranges : List (Option Range)) : Type 0 where
  pub few : length rs < most_vertices
  pub covers : Covers ranges rs

-- every range but vertex 0's is small
pub record SmallSpans (ranges : List (Option Range)) : Type 0 where
  pub low : (v : ℕ) → 0 < v → (g : Range) → get_or ranges v None ≡ Some g → Bounded least_weight g.lo
  pub high : (v : ℕ) → 0 < v → (g : Range) → get_or ranges v None ≡ Some g → Bounded least_weight g.hi

-- so many vertices, and the list of their ranges
pub record Ranging (rs : Ranges) (count : ℕ) (ranges : List (Option Range)) : Type 0 where
  pub count_is : count ≡ suc (length rs)
  pub spans : Spanned rs ranges

-- so many vertices; each of them after 0 that is there has a small range with a value in it
pub record Ranged (count : ℕ) (ranges : List (Option Range)) : Type 0 where
  pub some_vertex : 0 < count
  pub few : count ≤ most_vertices
  pub nonempty : (v : ℕ) → 0 < v → v < count → (g : Range) → get_or ranges v None ≡ Some g → g.lo ≤ℤ g.hi
  pub small_lo : (v : ℕ) → 0 < v → v < count → (g : Range) → get_or ranges v None ≡ Some g → (up g.lo ≤ billion) × (dn g.lo ≤ billion)
  pub small_hi : (v : ℕ) → 0 < v → v < count → (g : Range) → get_or ranges v None ≡ Some g → (up g.hi ≤ billion) × (dn g.hi ≤ billion)
