-- A node of a tree where the code reads it: at a position of the part that it was lent, with the first places decided.
use Rattle.std.proofs.Common.{ℕ, zero, suc, ◌+◌, ◌<◌, ◌≤◌, ◌≡◌, Bool, true, false, List, [], ◌∷◌, ◌++◌, length, get_or, drop, refl, sym, ◌∙◌, length-append, add-one, arith}
use Rattle.std.proofs.lemmas.List.{drop_all}
use lib.Seq.{drop-cons}
use Rattle.page_numbers.specs.Outcome.{good, refused}
use Rattle.page_meaning.specs.Limits.{most_vertices}
use Rattle.page_walks.specs.Grid.{Grid}
use Rattle.page_formulas.specs.Kinds.{known_kinds, kinds_of, nowhere}
use Rattle.page_formulas.specs.Program.{Place, places}
use Rattle.page_formulas.specs.Formulas.{Formula}
use Rattle.page_formulas.proofs.Truths.{known_kinds_lem}
use Rattle.page_sheets.specs.Facts.{start, decide}
use Rattle.page_sheets.specs.Sheet.{last_vertex}
use Rattle.page_sheets.specs.Tree.{Checked, and_then, false_node, cycle_node, check, check_tree}
use Rattle.page_sheets.proofs.Steps.{check_false, check_cycle, check_empty, check_split, check_split_none}
use Rattle.checker_trees.specs.Checks.{check_from}

-- a byte that is no node
check_other : (F : Formula) (ds : List Bool) (g : Grid) (ps : List Place) (at b : ℕ) (bs : List ℕ) → ¬ (b ≡ 1) → ¬ (b ≡ 2) → ¬ (b ≡ 3) → check most_vertices F ps ds g at (b ∷ bs) ≡ refused 14 at
unfolding check
check_other F ds g [] at zero bs one two three = refl
check_other F ds g (p ∷ ps) at zero bs one two three = refl
check_other F ds g ps at (suc zero) bs one two three = absurd (one refl)
check_other F ds g ps at (suc (suc zero)) bs one two three = absurd (two refl)
check_other F ds g ps at (suc (suc (suc zero))) bs one two three = absurd (three refl)
check_other F ds g [] at (suc (suc (suc (suc b)))) bs one two three = refl
check_other F ds g (p ∷ ps) at (suc (suc (suc (suc b)))) bs one two three = refl

module _ (F : Formula) (truths : List Bool) (g : Grid) (part : List ℕ) (at base : ℕ) where
  abbrev ps : List Place
  ps = places F.program

  abbrev d : ℕ
  d = length truths

  abbrev Here : Checked
  Here = check_from F truths g (base + at) (drop at part)

  pub left_end : length part ≤ at → refused 11 (base + at) ≡ Here
  unfolding check_from
  left_end h = rw (drop_all at part h) (sym (check_empty last_vertex F truths g (drop d ps) (base + at)))

  module _ (h : at < length part) where
    opened : drop at part ≡ get_or part at 0 ∷ drop (at + 1) part
    opened = rw (add-one at) (drop-cons part at 0 h)

    pub left_false : get_or part at 0 ≡ 1 → false_node (known_kinds (kinds_of F.program) truths) (base + at) (drop (at + 1) part) ≡ Here
    unfolding check_from
    left_false n =
        rw (opened, n, ← known_kinds_lem F.program truths)
        (sym (check_false last_vertex F truths g (drop d ps) (base + at) (drop (at + 1) part)))

    pub left_cycle : get_or part at 0 ≡ 2 → cycle_node most_vertices F g (base + at) (drop (at + 1) part) ≡ Here
    unfolding check_from
    left_cycle n = rw (opened, n) (sym (check_cycle last_vertex F truths g (drop d ps) (base + at) (drop (at + 1) part)))

    pub left_other : ¬ (get_or part at 0 ≡ 1) → ¬ (get_or part at 0 ≡ 2) → ¬ (get_or part at 0 ≡ 3) → refused 14 (base + at) ≡ Here
    unfolding check_from
    left_other one two three = rw opened (sym (check_other F truths g (drop d ps) (base + at) (get_or part at 0) (drop (at + 1) part) one two three))

    module _ (n : get_or part at 0 ≡ 3) where
      pub left_none : length ps ≤ d → refused 15 (base + at) ≡ Here
      unfolding check_from
      left_none e = rw (opened, n) (sym (check_split_none last_vertex F truths g ps d nowhere e (base + at) (drop (at + 1) part)))

      module _ (some : d < length ps) where
        -- one of the two trees: with one place less, under one fact more
        abbrev half : Bool → ℕ → List ℕ → Checked
        half b o bs = check_from F (truths ++ (b ∷ [])) (decide g (get_or ps d nowhere) b) o bs

        half_is : (b : Bool) (o : ℕ) (bs : List ℕ) → half b o bs ≡ check most_vertices F (drop (suc d) ps) (truths ++ (b ∷ [])) (decide g (get_or ps d nowhere) b) o bs
        unfolding check_from
        half_is b o bs = rw (length-append truths (b ∷ []), add-one d)

        split : Here ≡ and_then (check most_vertices F (drop (suc d) ps) (truths ++ (true ∷ [])) (decide g (get_or ps d nowhere) true) (suc (base + at)) (drop (at + 1) part)) (λ o r. check most_vertices F (drop (suc d) ps) (truths ++ (false ∷ [])) (decide g (get_or ps d nowhere) false) o r)
        unfolding check_from
        split = rw (opened, n) (check_split last_vertex F truths g ps d nowhere some (base + at) (drop (at + 1) part))

        -- what the two trees come to, from what the first does
        after_first : (x : Checked) → x ≡ half true (base + (at + 1)) (drop (at + 1) part) → and_then x (λ o r. check most_vertices F (drop (suc d) ps) (truths ++ (false ∷ [])) (decide g (get_or ps d nowhere) false) o r) ≡ Here
        after_first x e =
            let next : base + (at + 1) ≡ suc (base + at) = omega arith in
            let first : x ≡ check most_vertices F (drop (suc d) ps) (truths ++ (true ∷ [])) (decide g (get_or ps d nowhere) true) (suc (base + at)) (drop (at + 1) part) = rw next at (e ∙ half_is true (base + (at + 1)) (drop (at + 1) part)) in
            rw first (sym split)

        pub left_bad : (number p : ℕ) → refused number p ≡ half true (base + (at + 1)) (drop (at + 1) part) → refused number p ≡ Here
        left_bad number p x = after_first (refused number p) x

        pub left_both : (p : ℕ) (r : Checked) → good (base + p, drop p part) ≡ half true (base + (at + 1)) (drop (at + 1) part) → r ≡ half false (base + p) (drop p part) → r ≡ Here
        left_both p r x y = y ∙ half_is false (base + p) (drop p part) ∙ after_first (good (base + p, drop p part)) x

-- with no place decided the check is that of the whole tree
pub left_all : (F : Formula) (at : ℕ) (bs : List ℕ) → check_from F [] (start most_vertices F.ranges) at bs ≡ check_tree most_vertices F at bs
unfolding check_from
left_all F at bs = refl
