-- For a builder that appends a line's parts one after another: what one part more makes of a line, and that there is room for it.
use Prim.Native.Nat.{◌≤◌}
use mathlib.Core.Path.{◌≡◌, refl}
use mathlib.Core.Bool.{Bool}
use mathlib.Core.List.{List, [], ◌∷◌, ◌++◌, foldl}
use native.Mathlib.Omega.{arith}
use Rattle.page_meaning.specs.Claims.{Part, Reading, read_part, read_parts}
use Rattle.page_formulas.specs.Costs.{Cost, joined_cost, costs, part_cost}

module _ {W A : Type 0} (R : Reading W A) (w : Bool → W) where
  joined_more : (ps : List Part) (x : Part) (a : A) → foldl (λ c p. R.both c (read_part R w p)) a (ps ++ (x ∷ [])) ≡ R.both (foldl (λ c p. R.both c (read_part R w p)) a ps) (read_part R w x)
  joined_more [] x a = refl
  joined_more (p ∷ ps) x a = joined_more ps x (R.both a (read_part R w p))

  pub parts_more : (p : Part) (ps : List Part) (x : Part) → read_parts R w p (ps ++ (x ∷ [])) ≡ R.both (read_parts R w p ps) (read_part R w x)
  parts_more p ps x = joined_more ps x (read_part R w p)

abbrev pub AtMost : Cost → Cost → Type 0
AtMost a b = (a.instructions ≤ b.instructions) × (a.places ≤ b.places)

abbrev grown : Cost → List Part → Cost
grown a ps = foldl (λ c p. joined_cost c (part_cost p)) a ps

grows : (ps : List Part) (a : Cost) → AtMost a (grown a ps)
grows [] a = (omega arith, omega arith)
grows (p ∷ ps) a = let r = grows ps (joined_cost a (part_cost p)) in (omega (arith, r.0), omega (arith, r.1))

within : (ps : List Part) (x : Part) (rest : List Part) (a : Cost) → AtMost (joined_cost (grown a ps) (part_cost x)) (grown a (ps ++ (x ∷ rest)))
within [] x rest a = grows rest (joined_cost a (part_cost x))
within (p ∷ ps) x rest a = within ps x rest (joined_cost a (part_cost p))

pub first_room : (p : Part) (ps : List Part) → AtMost (part_cost p) (read_parts costs (λ i. tt) p ps)
first_room p ps = grows ps (part_cost p)

pub next_room : (p : Part) (ps : List Part) (x : Part) (rest : List Part) → AtMost (joined_cost (read_parts costs (λ i. tt) p ps) (part_cost x)) (read_parts costs (λ i. tt) p (ps ++ (x ∷ rest)))
next_room p ps x rest = within ps x rest (part_cost p)
