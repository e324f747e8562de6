-- What the code may take for granted of every formula of an accepted question (`formulas_proper`): few vertices, small ranges,
-- places between its vertices with small constants, and a program that fits the code's room. No demand rests on it.
use Rattle.std.specs.Prelude.{ℕ, suc, ◌*◌, ◌≤◌, ◌<◌, length, T, ◌≤ℤ◌}
use Rattle.std.proofs.Math.Option.{Option, none, some}
use Rattle.page_numbers.specs.Numbers.{up, dn}
use Rattle.page_meaning.specs.Limits.{most_vertices, most_decisions}
use Rattle.page_meaning.specs.Contents.{Range}
use Rattle.page_questions.specs.Guarantees.{Every}
use Rattle.page_formulas.specs.Program.{Place, places}
use Rattle.page_formulas.specs.Vertices.{Ranges, present}
use Rattle.page_formulas.specs.Formulas.{Formula}
use Rattle.page_formulas.specs.Form.{Formed}
use Rattle.page_formulas.specs.Costs.{most_instructions}

-- what a range's ends and a constant of the question reach
abbrev pub billion : ℕ
billion = 1000000000

abbrev pub large : ℕ
large = 2000000000

-- three constants of the question; < reaches one further down
abbrev pub highest : ℕ
highest = 3 * large

-- a place of the formula: its vertices are, and its constant comes from at most three of the question's
pub record SmallPlace (rs : Ranges) (p : Place) : Type 0 where
  pub left_is : T (present rs p.left)
  pub right_is : T (present rs p.right)
  pub high : up p.most ≤ highest
  pub low : dn p.most ≤ suc highest

abbrev pub Nonempty : Option Range → Type 0
Nonempty none = Unit {0}
Nonempty (some r) = r.lo ≤ℤ r.hi

abbrev pub SmallRange : Option Range → Type 0
SmallRange none = Unit {0}
SmallRange (some r) = (up r.hi ≤ billion) × (dn r.hi ≤ billion) × (up r.lo ≤ billion) × (dn r.lo ≤ billion)

pub record Proper (F : Formula) : Type 0 where
  pub vertices : length F.ranges < most_vertices
  pub ranges_small : Every SmallRange F.ranges
  pub ranges_some : Every Nonempty F.ranges
  pub places_small : Every (SmallPlace F.ranges) (places F.program)
  pub few_places : length (places F.program) ≤ most_decisions
  pub short : length F.program ≤ most_instructions
  pub formed : Formed F.program
