-- The tree that is planted from a formula's program.
use Rattle.std.proofs.Common.{ℕ, ◌-◌, ◌≤◌, ◌<◌, ◌≡◌, sym, ap, ◌∙◌, subst, Bool, List, length, get_or, take, arith}
use Rattle.std.proofs.lemmas.List.{take-map, length-map}
use lib.ListN.{length-take}
use lib.Seq.{get_or-take}
use Rattle.page_meaning.specs.Limits.{most_decisions}
use Rattle.page_formulas.specs.Program as P
use Rattle.page_formulas.specs.Program.{Values, place, test, places}
use Rattle.page_formulas.specs.Kinds.{kind_of, kinds_of, nowhere}
use Rattle.page_formulas.specs.Form.{Rises}
use Rattle.page_formulas.specs.Formulas.{Formula}
use Rattle.page_formulas.specs.ProperFormulas.{Proper}
use Rattle.page_formulas.specs.Postfix.{says, first_of, places_in, value_at}
use Rattle.page_formulas.specs.Costs.{most_instructions}
use Rattle.page_formulas.proofs.Trees.{instr_at, kind_at_lem, positive, size_not, size_two, state_at, pushed_one, pushed_two, root_some, root_size, root_truth, tells_value}
use Rattle.page_sheets.specs.Facts.{taken}
use Rattle.grid.specs.Edges.{Fact}
use Rattle.program.specs.Meanings.{number_of, place_of, no_place, instructions_of, places_of}
use Rattle.program.specs.Built.{Means}
use Rattle.program.specs.Lent.{place_at}
use Rattle.program.specs.declared.types.Program.{Program}
use Rattle.program.proofs.Loans.{means_lent, lent_place, instructions_long, places_long}
use Rattle.facts.proofs.Places.{place_facts}
use Rattle.program_tree.specs.declared.types.Tree.{Tree}
use Rattle.program_tree.specs.Nodes.{node, sizes, Placed, kinds_in, Plantable, Planted, kind_at, size_at, first_at, place_in, Made, Tells}
use Rattle.program_tree.proofs.Columns.{size_in, first_in_lem}
use Rattle.program_tree.proofs.Rows.{places_take, is_place, Numbered, place_number}

module _ (F : Formula) (r : Program) (c : Means r F.program) (proper : Proper F) where
  abbrev p : P.Program
  p = F.program

  abbrev kinds : List ℕ
  kinds = kinds_in r

  abbrev n : ℕ
  n = r.length

  short : n ≤ most_instructions
  short = omega (arith, c.counted, proper.short)

  lent : take n kinds ≡ kinds_of p
  lent = take-map number_of n r.instructions ∙ c.instructions

  fits : n ≤ length kinds
  fits = omega (arith, length-take n kinds, ap length (take-map number_of n r.instructions), length-map (take n r.instructions) number_of, instructions_long c)

  formed : Rises 0 (take n kinds) 1
  formed = subst (λ l. Rises 0 l 1) (sym lent) proper.formed

  -- the place that an instruction is
  module _ (j : ℕ) (h : j < n) (k : get_or kinds j 0 ≡ 0) where
    instr : (q : P.Place) × (instr_at p j ≡ place q)
    instr = is_place (instr_at p j) (sym (kind_at_lem p j (omega (arith, c.counted))) ∙ ap (λ l. get_or l j 0) (sym lent) ∙ get_or-take n kinds j 0 h ∙ k)

    number : (q : P.Place) → instr_at p j ≡ place q → (places_in kinds j < r.decisions) × (get_or (places p) (places_in kinds j) nowhere ≡ q)
    number q is =
        let d : places_in (kinds_of p) j ≡ places_in kinds j = ap (λ l. places_in l j) (sym lent) ∙ places_take kinds n j (omega arith) in
        let o = subst (λ m. Numbered p m q) d (place_number p j q (omega (arith, c.counted)) is) in
        (omega (arith, o.0, c.decided), o.1)

    few_before : places_in kinds j < most_decisions
    few_before = omega (arith, (number instr.0 instr.1).0, c.decided, proper.few_places)

    whole : place_at (places_of r) (places_in kinds j) ≡ place_at r.places (places_in kinds j)
    whole = ap place_of (get_or-take r.decisions r.places (places_in kinds j) no_place (number instr.0 instr.1).0)

    place_is : (q : P.Place) → instr_at p j ≡ place q → place_at r.places (places_in kinds j) ≡ q
    place_is q is = sym whole ∙ lent_place p _ _ (means_lent c) (places_in kinds j) ∙ (number q is).1

    place_fits : (last : ℕ) → last ≡ length F.ranges → Placed last (place_at r.places (places_in kinds j))
    place_fits last e = record {
      few = omega (arith, e, proper.vertices);
      facts = λ d. rw e (subst (λ a. FactOf a d) whole (place_facts F (instructions_of r) (places_of r) (means_lent c) proper (places_in kinds j) (omega (arith, (number instr.0 instr.1).0, places_long c)) d));
    }
      where
        FactOf : P.Place → Bool → Type 0
        FactOf a d = Fact (length F.ranges) (taken a d).right (taken a d).left (taken a d).most

  -- what the code may take for granted
  pub plantable : Plantable r
  plantable = record { short = short; long = fits; formed = formed; few = few_before }

  module _ (last : ℕ) (t : Tree) (planted : Planted r last t) (last-is : last ≡ length F.ranges) where
    abbrev ss : List ℕ
    ss = sizes t.nodes

    firsts : (j : ℕ) → get_or ss (first_of ss j) 0 ≡ size_at t (first_at t j)
    firsts j = size_in t.nodes (first_of ss j) ∙ ap (λ m. (node t.nodes m).size) (first_in_lem t.nodes j)

    made : (j : ℕ) → j < n → Made t j
    made j h =
        let s = state_at kinds n fits formed ss j (omega arith) (λ m l. planted.filled.sizes_are m (omega arith)) in let z = planted.filled.sizes_are j h in let k = planted.filled.kinds_are j h in let a = size_in t.nodes j in let b = size_in t.nodes (j - 1) in
        record {
          some = omega (arith, a, z, positive (get_or kinds j 0) (get_or ss (first_of ss j) 0) (get_or ss (j - 1) 0));
          place = λ y. subst (Placed t.last) (sym (planted.filled.places_are j h (sym k ∙ y))) (place_fits j h (sym k ∙ y) t.last (planted.last_is ∙ last-is));
          one = λ y. (pushed_one kinds n fits formed ss j h s (omega arith) (omega arith), omega (arith, a, b, z, size_not (get_or kinds j 0) (get_or ss (first_of ss j) 0) (get_or ss (j - 1) 0) (sym k ∙ y)));
          two = λ y l. (omega (arith, b, pushed_two kinds n fits formed ss j h s (omega arith) (omega arith)), omega (arith, a, b, firsts j, z, size_two (get_or kinds j 0) (omega arith) (omega arith) (get_or ss (first_of ss j) 0) (get_or ss (j - 1) 0)));
        }

    told : (x : Values) (j : ℕ) → j < n → value_at p x j ≡ says (kind_at t j) (test x (place_in t j)) (value_at p x (first_at t j)) (value_at p x (j - 1))
    told x j h =
        tells_value kinds n fits formed ss planted.filled.sizes_are p (sym lent) x j h (test x (place_in t j)) (λ q is. ap (test x) (the q is))
        ∙ ap (λ m. says m (test x (place_in t j)) (value_at p x (first_of ss j)) (value_at p x (j - 1))) (sym (planted.filled.kinds_are j h))
        ∙ ap (λ m. says (kind_at t j) (test x (place_in t j)) (value_at p x m) (value_at p x (j - 1))) (first_in_lem t.nodes j)
      where
        the : (q : P.Place) → instr_at p j ≡ place q → place_in t j ≡ q
        the q is = let k : get_or kinds j 0 ≡ 0 = sym (get_or-take n kinds j 0 h) ∙ ap (λ l. get_or l j 0) lent ∙ kind_at_lem p j (omega (arith, c.counted)) ∙ ap kind_of is in planted.filled.places_are j h k ∙ place_is j h k q is

    pub tells : Tells t p
    tells = let e = planted.count_is in record {
      laid = record { short = omega (arith, e, short); few = omega (arith, planted.last_is, last-is, proper.vertices); made = λ j h. made j (omega (arith, e)) };
      some = omega (arith, e, root_some kinds n fits formed ss planted.filled.sizes_are);
      whole = omega (arith, ap (λ m. size_at t (m - 1)) e, size_in t.nodes (n - 1), root_size kinds n fits formed ss planted.filled.sizes_are, short);
      describes = record { told = λ x j h. told x j (omega (arith, e)) };
      truth_is = λ x. root_truth kinds n fits formed ss planted.filled.sizes_are p (sym lent) x ∙ ap (λ m. value_at p x (m - 1)) (sym e);
    }
