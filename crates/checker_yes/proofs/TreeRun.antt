-- The trees of a yes sheet one by one: what the rest makes from formula i on, at a position, is what the whole makes.
use Rattle.std.proofs.Common.{ℕ, suc, ◌+◌, ◌≤◌, ◌<◌, ◌≡◌, List, [], length, drop, sym, ap, subst, ◌∙◌, add-one, length-append, arith}
use Rattle.std.proofs.lemmas.List.{drop_all}
use lib.Seq.{drop-cons, drop-drop}
use Rattle.page_numbers.specs.Outcome.{good, refused}
use Rattle.page_meaning.specs.Limits.{most_vertices}
use Rattle.page_formulas.specs.Formulas.{Formula, no_formula}
use Rattle.page_formulas.specs.Program.{places}
use Rattle.page_sheets.specs.Facts.{start}
use Rattle.page_sheets.specs.Tree.{Checked, and_then, check_tree}
use Rattle.page_sheets.specs.Trees.{check_trees}
use Rattle.page_sheets.specs.Sheet.{Answer, say_yes, yes_end}
use Rattle.page_sheets.proofs.Positions.{trees_next, trees_end}
use Rattle.page_sheets.proofs.Remainders.{HandsOn, check_hands}
use Rattle.formula.specs.Formulas.{formula_at}

-- a tree ends, or is refused, within the part that was lent
module _ (F : Formula) (base : ℕ) (part : List ℕ) (p : ℕ) where
  hands : (x : Checked) → x ≡ check_tree most_vertices F base part → HandsOn base part x
  hands x e = subst (HandsOn base part) (sym e) (check_hands most_vertices F (places F.program) [] (start most_vertices F.ranges) base part)

  pub ends_inside : good (base + p, drop p part) ≡ check_tree most_vertices F base part → p ≤ length part
  ends_inside e = let h = hands (good (base + p, drop p part)) e in omega (arith, h.2, ap length h.1, length-append h.0 (drop p part))

  pub refused_inside : (n : ℕ) → refused n (base + p) ≡ check_tree most_vertices F base part → p ≤ length part
  refused_inside n e = omega (arith, (hands (refused n (base + p)) e).1)

-- from formula i on, at a position of the sheet
module _ (Fs : List Formula) (s : List ℕ) (i at : ℕ) where
  abbrev pub left : Answer
  left = yes_end (check_trees most_vertices (drop i Fs) at (drop at s))

  next : i < length Fs → (x : Checked) → x ≡ check_tree most_vertices (formula_at Fs i) at (drop at s) → left ≡ yes_end (and_then x (λ o r. check_trees most_vertices (drop (suc i) Fs) o r))
  next h x e = ap yes_end (trees_next most_vertices Fs i h no_formula at (drop at s)) ∙ ap (λ y. yes_end (and_then y (λ o r. check_trees most_vertices (drop (suc i) Fs) o r))) (sym e)

  pub tree_bad : i < length Fs → (n p : ℕ) → refused n (at + p) ≡ check_tree most_vertices (formula_at Fs i) at (drop at s) → left ≡ refused n (at + p)
  tree_bad h n p e = next h (refused n (at + p)) e

  pub trees_left : length Fs ≤ i → at < length s → left ≡ refused 16 0
  trees_left h l = ap yes_end (trees_end most_vertices Fs i h at (drop at s)) ∙ rw (drop-cons s at 0 l)

  pub trees_done : length Fs ≤ i → length s ≤ at → left ≡ good say_yes
  trees_done h l = ap yes_end (trees_end most_vertices Fs i h at (drop at s)) ∙ rw (drop_all at s l)

-- one tree more
pub tree_good : (Fs : List Formula) (s : List ℕ) (i at p : ℕ) → i < length Fs → good (at + p, drop p (drop at s)) ≡ check_tree most_vertices (formula_at Fs i) at (drop at s) → left Fs s i at ≡ left Fs s (i + 1) (at + p)
tree_good Fs s i at p h e = next Fs s i at h (good (at + p, drop p (drop at s))) e ∙ rw (drop-drop p at s, add-one i)
