-- What the table's declared words mean, and which of its lines a formula has.
use Rattle.std.specs.Prelude.{ℕ, ◌≤◌, ◌<◌, ◌≡◌, Bool, true, false, List, map, length, get_or, drop}
use Rattle.page_meaning.specs.Claims as claim
use Rattle.page_meaning.specs.Claims.{insertion, deletion, modification}
use Rattle.page_meaning.specs.Contents.{Version, version1, version2}
use Rattle.question.specs.declared.types.Verb.{Verb}
use Rattle.question.specs.declared.types.Verb.TheVariants.{Insert, Delete, Modify}
use Rattle.formula_lines.specs.declared.types.Claim.{Claim}
use Rattle.formula_lines.specs.declared.types.Claim.TheVariants.{Listed, Relisted, Chosen, Fitting, Moving, Staying, Lasting, Differing}
use Rattle.formula_lines.specs.declared.types.Part.{Part}
use Rattle.formula_lines.specs.declared.types.Part.TheVariants.{First, Second, NotFirst, NotSecond}
use Rattle.formula_lines.specs.declared.types.Line.{Line}

abbrev pub claim_of : Claim → claim.Claim
claim_of Listed = claim.listed
claim_of Relisted = claim.relisted
claim_of Chosen = claim.chosen
claim_of Fitting = claim.fitting
claim_of Moving = claim.moving
claim_of Staying = claim.staying version1
claim_of Lasting = claim.staying version2
claim_of (Differing other after) = claim.differing other after

abbrev pub part_of : Part → claim.Part
part_of (First c) = claim.of1 (claim_of c)
part_of (Second c) = claim.of2 (claim_of c)
part_of (NotFirst c) = claim.not1 (claim_of c)
part_of (NotSecond c) = claim.not2 (claim_of c)

-- past the last part of a line
abbrev pub no_part : Part
no_part = First Listed

-- a line's parts; the first and the others
abbrev pub parts_of : Line → List claim.Part
parts_of l = map part_of l.parts.now

abbrev pub first_of : Line → claim.Part
first_of l = part_of (get_or l.parts.now 0 no_part)

abbrev pub rest_of : Line → List claim.Part
rest_of l = drop 1 (parts_of l)

abbrev pub line_by : Bool → claim.Part → List claim.Part → claim.Line
line_by true p ps = claim.double p ps
line_by false p ps = claim.single p ps

abbrev pub line_of : Line → claim.Line
line_of l = line_by l.pairs (first_of l) (rest_of l)

-- a line of the table, as it is declared
pub record Tabled (r : Line) (l : claim.Line) : Type 0 where
  pub is : line_of r ≡ l
  pub some : 1 ≤ length r.parts.now

-- the line of formula i of a question, asked 1 or 2
abbrev pub line_for : Version → Verb → Bool → ℕ → claim.Line
line_for v Insert b i = insertion
line_for v Delete b i = get_or (deletion b) i insertion
line_for v Modify b i = get_or (modification v b) i insertion

-- there is such a line
abbrev pub Numbered : Version → Verb → Bool → ℕ → Type 0
Numbered v Insert b i = Unit {0}
Numbered v Delete b i = i < length (deletion b)
Numbered v Modify b i = i < length (modification v b)
