-- The rows of a formula's program, as the code fills them: what a row is read from, and which place a place is.
use Prim.Native.Nat.{ℕ, zero, suc, ◌+◌, ◌-◌, ◌≤◌, ◌<◌}
use mathlib.Core.Path.{◌≡◌, refl, sym, ap, ap₂, ◌∙◌, subst}
use mathlib.Core.List.{List, [], ◌∷◌}
use native.Mathlib.Numerals.{add-one}
use native.Mathlib.Omega.{arith}
use lib.ListN.{length, get_or, take}
use lib.Seq.{get_or-take}
use Rattle.page_formulas.specs.Program.{Place, Instr, place, and_i, or_i, not_i, true_i, false_i, Program, places}
use Rattle.page_formulas.specs.Kinds.{kind_of, kinds_of, nowhere}
use Rattle.page_formulas.specs.Form.{Rises}
use Rattle.page_formulas.specs.Costs.{most_instructions}
use Rattle.page_formulas.specs.Postfix.{counted, places_in}
use Rattle.program_tree.specs.Nodes.{sizes, Reading}
use Rattle.program_tree.specs.declared.types.Tree.{Tree}
use Rattle.program_tree.proofs.Columns.{size_in, size_read}
use Rattle.page_formulas.proofs.Trees.{instr_at, State, size_small, pushed_one, pushed_two}

module _ (kinds : List ℕ) (n : ℕ) (long : n ≤ length kinds) (formed : Rises 0 (take n kinds) 1) (t : Tree) (i : ℕ) (h : i < n) (s : State kinds n long formed (sizes t.nodes) i) (m : n ≤ most_instructions) where
  pub reading : (k : ℕ) → k ≡ get_or kinds i 0 → Reading t k i
  reading k e = record {
    short = omega arith;
    one = λ a b. pushed_one kinds n long formed (sizes t.nodes) i h s (omega arith) (omega arith);
    two = λ a b. omega (arith, size_in t.nodes (i - 1), pushed_two kinds n long formed (sizes t.nodes) i h s (omega arith) (omega arith));
    small = omega (arith, size_read kinds t k i e, size_small kinds n long formed (sizes t.nodes) i h s);
  }

pub places_next : (kinds : List ℕ) (i : ℕ) → counted (get_or kinds i 0) (places_in kinds i) ≡ places_in kinds (i + 1)
unfolding places_in
places_next kinds i = rw (add-one i)

pub places_none : (kinds : List ℕ) → 0 ≡ places_in kinds 0
unfolding places_in
places_none kinds = refl

-- ---- which place a place is

pub places_take : (kinds : List ℕ) (n i : ℕ) → i ≤ n → places_in (take n kinds) i ≡ places_in kinds i
unfolding places_in
places_take kinds n zero h = refl
places_take kinds n (suc i) h = ap₂ counted (get_or-take n kinds i 0 h) (places_take kinds n i (omega arith))

places_cons : (k : ℕ) (ks : List ℕ) (i : ℕ) → places_in (k ∷ ks) (suc i) ≡ counted k (places_in ks i)
unfolding places_in
places_cons k ks zero = refl
places_cons k ks (suc i) = ap (counted (get_or ks i 0)) (places_cons k ks i) ∙ twice (get_or ks i 0) k (places_in ks i)
  where
    twice : (a b n : ℕ) → counted a (counted b n) ≡ counted b (counted a n)
    twice zero zero n = refl
    twice zero (suc b) n = refl
    twice (suc a) zero n = refl
    twice (suc a) (suc b) n = refl

pub is_place : (s : Instr) → kind_of s ≡ 0 → (q : Place) × (s ≡ place q)
is_place (place q) e = (q, refl)
is_place and_i e = absurd (omega arith)
is_place or_i e = absurd (omega arith)
is_place not_i e = absurd (omega arith)
is_place true_i e = absurd (omega arith)
is_place false_i e = absurd (omega arith)

abbrev pub Numbered : Program → ℕ → Place → Type 0
Numbered p m q = (m < length (places p)) × (get_or (places p) m nowhere ≡ q)

pub place_number : (p : Program) (j : ℕ) (q : Place) → j < length p → instr_at p j ≡ place q → Numbered p (places_in (kinds_of p) j) q
unfolding places kinds_of places_in
place_number [] j q h e = absurd (omega arith)
place_number (s ∷ p) zero q h e = rw e (omega arith, refl)
place_number (s ∷ p) (suc j) q h e = subst (λ m. Numbered (s ∷ p) m q) (sym (places_cons (kind_of s) (kinds_of p) j)) (go s (place_number p j q (omega arith) e))
  where
    go : (s : Instr) → Numbered p (places_in (kinds_of p) j) q → Numbered (s ∷ p) (counted (kind_of s) (places_in (kinds_of p) j)) q
    go (place a) r = rw (add-one (places_in (kinds_of p) j)) (omega (arith, r.0), r.1)
    go and_i r = r
    go or_i r = r
    go not_i r = r
    go true_i r = r
    go false_i r = r
