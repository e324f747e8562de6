-- What the root of a formula's tree is given: its facts and their closure are ready, and the fast rule from there is the writer's rule.
use Prim.Native.Nat.{ℕ, suc, ◌-◌, ◌<◌}
use mathlib.Core.Path.{◌≡◌, sym, subst}
use mathlib.Core.List.{[]}
use native.Mathlib.Omega.{arith}
use lib.ListN.{length}
use Rattle.page_meaning.specs.Limits.{most_vertices}
use Rattle.page_walks.specs.Grid.{Grid, weight}
use Rattle.page_formulas.specs.Formulas as written
use Rattle.page_formulas.specs.Program.{places}
use Rattle.page_formulas.specs.ProperFormulas.{Proper}
use Rattle.page_sheets.specs.Facts.{start}
use Rattle.page_sheets.specs.FastRule.{fast}
use Rattle.page_sheets.specs.Growth.{grow_tree}
use Rattle.page_sheets.specs.Sheet.{last_vertex}
use Rattle.page_sheets.proofs.FastRule.{Here, Same}
use Rattle.page_sheets.proofs.OwnVertices.{fast_formula}
use Rattle.page_sheets.proofs.Fit.{fit}
use Rattle.page_sheets.proofs.HeldFacts.{bounds_start}
use Rattle.page_sheets.proofs.SameFacts.{OfRanges}
use Rattle.grid.specs.Edges.{Kept}
use Rattle.program.specs.Meanings.{places_of}
use Rattle.program.specs.Compiled.{Compiled}
use Rattle.program.specs.declared.types.Formula.{Formula}
use Rattle.program.proofs.Loans.{lent_of, decisions_few, places_long}
use Rattle.program.proofs.Ranges.{ranged, ranging_of, spanned_of}
use Rattle.facts.specs.RangeFacts.{Starts}
use Rattle.facts.proofs.Places.{place_facts}
use Rattle.spreads.specs.Spread.{spread}
use Rattle.spreads.proofs.RangeClosure.{begun_ranges}
use Rattle.goals.specs.Closures.{Tight}
use Rattle.tableau.proofs.Roots.{begun}
use Rattle.writer_trees.specs.Places.{Placing}
use Rattle.writer_trees.specs.Trees.{fast_at}

module _ (f : Formula) (F : written.Formula) (is : Compiled f F) (proper : Proper F) where
  abbrev last : ℕ
  last = f.vertices.count - 1

  pub last_is : last ≡ length F.ranges
  last_is = omega (arith, is.vertices.count)

  pub root_placing : Placing last (places_of f.program)
  root_placing = record {
    few = omega (arith, last_is, proper.vertices);
    few_places = omega (arith, places_long is.program, decisions_few f F is proper);
    facts = λ i h d. rw last_is (place_facts F _ (places_of f.program) (lent_of f F is) proper i h d);
  }

  pub facts_are : (g : Grid) → Starts f.vertices.ranges g → g ≡ start most_vertices F.ranges
  facts_are g s = s.meaning F.ranges (spanned_of f F is proper.vertices)

  pub root_kept : (g : Grid) → Starts f.vertices.ranges g → Kept g
  root_kept g s = let b = bounds_start most_vertices F.ranges proper.ranges_small in
      rw (facts_are g s) (record { sized = b.sized; ceiling = b.ceiling; floor = b.floor })

  -- the least sums of the ranges, as the code begins with them
  abbrev pub Begun : Grid → Type 0
  Begun near = (u v : ℕ) → u < f.vertices.count → v < f.vertices.count → weight near u v ≡ spread f.vertices.ranges u v

  module _ (near : Grid) (b : Begun near) where
    pub root_tight : Tight (suc last) near
    root_tight = begun F proper f.vertices.count f.vertices.ranges (ranging_of f F is proper.vertices) near b last (omega (arith, is.vertices.count))

    ranges_are : OfRanges F.ranges (weight near)
    ranges_are = begun_ranges f.vertices.count f.vertices.ranges (ranged F.ranges f.vertices.count f.vertices.ranges (ranging_of f F is proper.vertices) proper.ranges_small proper.ranges_some) near b F.ranges (ranging_of f F is proper.vertices)

    -- from the root the code's rule is the writer's
    pub root_same : (g : Grid) → g ≡ start most_vertices F.ranges → Same (Here F.ranges) (grow_tree last_vertex F) (fast_at last F [] g near)
    root_same g s =
        subst (λ m. Same (Here F.ranges) (grow_tree last_vertex F) (fast_at m F [] g near)) (sym last_is)
        (subst (λ x. Same (Here F.ranges) (grow_tree last_vertex F) (fast (length F.ranges) F (places F.program) [] x (weight near))) (sym s) (fast_formula last_vertex F (fit F proper) (weight near) ranges_are))
