-- A compiled formula, lent part by part: it is the formula, it fits, and its weights are small.
use Rattle.std.proofs.Common.{◌≡◌, ℕ, zero, suc, ◌≤◌, ◌<◌, List, [], ◌∷◌, length, get_or, sym, ap, ◌∙◌, arith}
use Rattle.std.proofs.Math.ListN.{get_or-map, length-map}
use Rattle.page_meaning.specs.Limits.{most_vertices, most_decisions}
use Rattle.page_questions.specs.Guarantees.{Every}
use Rattle.page_formulas.specs.Program as P
use Rattle.page_formulas.specs.Kinds.{nowhere}
use Rattle.page_formulas.specs.Formulas as F
use Rattle.page_formulas.specs.Costs.{most_instructions}
use Rattle.page_formulas.specs.ProperFormulas.{SmallPlace, Proper}
use Rattle.page_formulas.proofs.Trees.{kinds_length}
use Rattle.page_sheets.proofs.Fit.{present_below}
use Rattle.program.specs.Meanings.{number_of, place_of, no_place, instructions_of, places_of}
use Rattle.program.specs.Built.{Means}
use Rattle.program.specs.Compiled.{Compiled}
use Rattle.program.specs.Lent.{Lent, Places, place_at}
use Rattle.program.specs.declared.types.Instruction.{Instruction}
use Rattle.program.specs.declared.types.Place.{Place}
use Rattle.program.specs.declared.types.Program.{Program}
use Rattle.program.specs.declared.types.Formula.{Formula}

-- what is lent is as long as the program says, and the places are its places
module _ (p : P.Program) (ks : List Instruction) (ps : List Place) (lent : Lent p ks ps) where
  pub lent_instructions : length ks ≡ length p
  lent_instructions = sym (length-map ks number_of) ∙ ap length lent.instructions ∙ kinds_length p

  pub lent_length : length ps ≡ length (P.places p)
  lent_length = sym (length-map ps place_of) ∙ ap length lent.places

  pub lent_place : (i : ℕ) → place_at ps i ≡ get_or (P.places p) i nowhere
  lent_place i = sym (get_or-map place_of ps i no_place) ∙ ap (λ l. get_or l i nowhere) lent.places

pub means_lent : {r : Program} {x : P.Program} → Means r x → Lent x (instructions_of r) (places_of r)
means_lent m = record { instructions = m.instructions; places = m.places }

-- the parts that are lent are as long as is said
pub instructions_long : {r : Program} {x : P.Program} → Means r x → length (instructions_of r) ≡ r.length
instructions_long {r} {x} m = lent_instructions x (instructions_of r) (places_of r) (means_lent m) ∙ sym m.counted

pub places_long : {r : Program} {x : P.Program} → Means r x → length (places_of r) ≡ r.decisions
places_long {r} {x} m = lent_length x (instructions_of r) (places_of r) (means_lent m) ∙ sym m.decided

-- what holds of each place of a list holds at each number
every_at : {A : Type 0} (Q : A → Type 0) (l : List A) (d : A) → Every Q l → (i : ℕ) → i < length l → Q (get_or l i d)
every_at Q [] d a i h = absurd (omega arith)
every_at Q (x ∷ l) d a zero h = a.0
every_at Q (x ∷ l) d a (suc i) h = every_at Q l d a.1 i (omega arith)

module _ (f : Formula) (F : F.Formula) (is : Compiled f F) where
  pub lent_of : Lent F.program (instructions_of f.program) (places_of f.program)
  lent_of = means_lent is.program

  module _ (proper : Proper F) where
    pub count_few : f.program.length ≤ most_instructions
    count_few = omega (arith, is.program.counted, proper.short)

    pub decisions_few : f.program.decisions ≤ most_decisions
    decisions_few = omega (arith, is.program.decided, proper.few_places)

    small_at : (i : ℕ) → i < length (places_of f.program) → SmallPlace F.ranges (place_at (places_of f.program) i)
    small_at i h =
        let ps = places_of f.program in
        let n : i < length (P.places F.program) = omega (arith, lent_length F.program (instructions_of f.program) ps lent_of) in
        rw (lent_place F.program (instructions_of f.program) ps lent_of i) (every_at (SmallPlace F.ranges) (P.places F.program) nowhere proper.places_small i n)

    pub placed_of : Places (places_of f.program)
    placed_of =
        record {
          few = omega (arith, places_long is.program, decisions_few);
          left_below = λ i h. omega (arith, present_below F.ranges (place_at (places_of f.program) i).left (small_at i h).left_is, proper.vertices);
          right_below = λ i h. omega (arith, present_below F.ranges (place_at (places_of f.program) i).right (small_at i h).right_is, proper.vertices);
          small = λ i h. let b = small_at i h in record { high = omega (arith, b.high); low = omega (arith, b.low) };
        }

-- two formulas of one compiled one have equally many vertices
pub same_few : (f : Formula) (F G : F.Formula) → Compiled f F → Compiled f G → length F.ranges < most_vertices → length G.ranges < most_vertices
same_few f F G a b h = omega (arith, a.vertices.count, b.vertices.count)
