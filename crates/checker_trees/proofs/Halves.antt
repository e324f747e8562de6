-- A half of a node 3 over plain values: what the code hands down to its tree, and what that tree's outcome says of the node.
use Rattle.std.proofs.Common.{ℕ, ◌+◌, ◌<◌, ◌≡◌, Bool, true, false, List, [], ◌∷◌, ◌++◌, length, get_or, drop, sym, ap, subst, ◌∙◌, length-append, arith}
use lib.Seq.{get_or-take}
use Rattle.page_meaning.specs.Limits.{most_vertices}
use Rattle.page_walks.specs.Grid.{Grid}
use Rattle.page_walks.specs.Sizes.{least_weight, Bounded}
use Rattle.page_formulas.specs.Program as P
use Rattle.page_formulas.specs.Formulas as spec
use Rattle.page_formulas.specs.Kinds.{nowhere}
use Rattle.page_sheets.specs.Facts.{decide}
use Rattle.page_sheets.specs.Tree.{Checked}
use Rattle.page_sheets.proofs.Bounds.{decide_within}
use Rattle.grid.specs.Facts.{with_fact}
use Rattle.facts.specs.Decisions.{fact_of}
use Rattle.program.specs.Compiled.{Compiled, Fine}
use Rattle.program.specs.Meanings.{place_of, places_of, no_place}
use Rattle.program.specs.Lent.{Places}
use Rattle.program.specs.declared.types.Formula.{Formula}
use Rattle.program.proofs.Loans.{placed_of, places_long, lent_of, lent_place}
use Rattle.checker_trees.specs.Checks.{check_from, Reached}
use Rattle.checker_trees.specs.declared.trees.Stage.{Stage}

-- the place that is decided next
abbrev pub next_place : Formula → ℕ → P.Place
next_place f n = place_of (get_or f.program.places n no_place)

module _ (f : Formula) (fine : Fine f) (n : ℕ) (some : n < f.program.decisions) where
  used : n < length (places_of f.program)
  used = omega (arith, places_long fine.is.program)

  its_places : Places (places_of f.program)
  its_places = placed_of f fine.formula fine.is fine.proper

  same : get_or (places_of f.program) n no_place ≡ get_or f.program.places n no_place
  same = get_or-take f.program.decisions f.program.places n no_place some

  small_most : Bounded least_weight (next_place f n).most
  small_most = subst (λ p. Bounded least_weight p.most) same (its_places.small n used)

  ends : (d : Bool) → ((fact_of (next_place f n) d).from < most_vertices) × ((fact_of (next_place f n) d).to < most_vertices)
  ends d =
      let l : (next_place f n).left < most_vertices = rw same at (its_places.left_below n used) in
      let r : (next_place f n).right < most_vertices = rw same at (its_places.right_below n used) in
      elim d as (λ x. ((fact_of (next_place f n) x).from < most_vertices) × ((fact_of (next_place f n) x).to < most_vertices)) [ true ↦ (r, l) | false ↦ (l, r) ]

pub place_is : (f : Formula) (F : spec.Formula) → Compiled f F → (n : ℕ) → n < f.program.decisions → next_place f n ≡ get_or (P.places F.program) n nowhere
place_is f F c n some = ap place_of (sym (get_or-take f.program.decisions f.program.places n no_place some)) ∙ lent_place F.program _ _ (lent_of f F c) n

-- the stage after one decision more
abbrev pub decided : Formula → Stage → Bool → ℕ → Stage
decided f s d at = record { at = at; truths = s.truths ++ (d ∷ []); last = fact_of (next_place f (length s.truths)) d }

module _ (f : Formula) (fine : Fine f) (g : Grid) (s : Stage) (reached : Reached f g s) (some : length s.truths < f.program.decisions) (facts : Grid) (facts_are : facts ≡ with_fact g s.last) (d : Bool) (at : ℕ) (next : Stage) (is : next ≡ decided f s d at) where
  pub half_reached : Reached f facts next
  half_reached = rw (is, facts_are) (record {
    few = omega (arith, length-append s.truths (d ∷ []));
    checkable = record {
      small = decide_within most_vertices (with_fact g s.last) (next_place f (length s.truths)) d reached.checkable.small (small_most f fine (length s.truths) some);
      from_is = (ends f fine (length s.truths) some d).0;
      to_is = (ends f fine (length s.truths) some d).1;
    };
  })

  -- what a half's tree came to
  pub half_says : (part : List ℕ) (F : spec.Formula) (base : ℕ) (r : Checked) → Compiled f F → r ≡ check_from F next.truths (with_fact facts next.last) (base + next.at) (drop next.at part) → r ≡ check_from F (s.truths ++ (d ∷ [])) (decide (with_fact g s.last) (get_or (P.places F.program) (length s.truths) nowhere) d) (base + at) (drop at part)
  half_says part F base r c h = rw (is, facts_are, place_is f F c (length s.truths) some) at h
