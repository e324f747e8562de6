-- The vertices of a formula: each column's vertex is one, in the first row and in the second, and each has a range of the question.
use Prim.Native.Nat.{ℕ, zero, suc, ◌+◌, ◌<◌}
use mathlib.Core.Path.{◌≡◌, refl, sym, ap, ◌∙◌, subst}
use mathlib.Core.Bool.{Bool, true, false, cond}
use mathlib.Core.Option.{Option, none, some}
use mathlib.Core.List.{List, [], ◌∷◌, ◌++◌, append-nil}
use native.Mathlib.Omega.{arith}
use lib.ListN.{length, get_or, length-map}
use lib.Dec.{T}
use Rattle.page_meaning.specs.Contents.{Question, Mode, keep, become, shift, Range, columns, first}
use Rattle.page_meaning.specs.WellFormed.{Reads}
use Rattle.page_meaning.specs.Claims.{mode_at}
use Rattle.page_questions.specs.Guarantees.{Every, RangeOk, ModeOk}
use Rattle.page_formulas.specs.Compilation.{Sight}
use Rattle.page_formulas.specs.Vertices.{Ranges, present, is_some}
use Rattle.page_formulas.specs.Formulas.{first_sight, among, second_sight, new_term, after, first_ranges, hidden_ranges, both_ranges}
use Rattle.page_formulas.proofs.Usability.{Exists, mode_at_lem, reads_at}
use Rattle.page_formulas.proofs.Rows.{hidden_at, get_d_after}
use Rattle.page_formulas.specs.ProperFormulas.{large}
use Rattle.page_formulas.proofs.Sizes.{SmallTerm, SmallSight, small_constant, small_plus, constant_size}

-- what is so of the columns' ranges is so of the vertices'
module _ (P : Option Range → Type 0) (absent : P none) (f : (g : Range) → RangeOk g → P (some g)) where
  pub first_every : (gs : List Range) → Every RangeOk gs → Every P (first_ranges gs)
  first_every [] r = tt
  first_every (g ∷ gs) r = (f g r.0, first_every gs r.1)

  hidden_every : (vs : List ℕ) (i : ℕ) (gs : List Range) → Every RangeOk gs → Every P (hidden_ranges vs i gs)
  unfolding hidden_ranges
  hidden_every vs i [] r = tt
  hidden_every vs i (g ∷ gs) r = (go (among vs i), hidden_every vs (suc i) gs r.1)
    where
      go : (b : Bool) → P (cond b none (some g))
      go true = absent
      go false = f g r.0

  pub both_every : (vs : List ℕ) (gs hs : List Range) → Every RangeOk gs → Every RangeOk hs → Every P (first_ranges gs ++ hidden_ranges vs 0 hs)
  both_every vs [] hs r s = hidden_every vs 0 hs s
  both_every vs (g ∷ gs) hs r s = (f g r.0, both_every vs gs hs r.1 s)

pub hidden_length : (vs : List ℕ) (i : ℕ) (gs : List Range) → length (hidden_ranges vs i gs) ≡ length gs
unfolding hidden_ranges
hidden_length vs i [] = refl
hidden_length vs i (g ∷ gs) = ap suc (hidden_length vs (suc i) gs)

-- ---- vertices

present_first : (gs : List Range) (hs : Ranges) (i : ℕ) → i < length gs → T (is_some (get_or (first_ranges gs ++ hs) i none))
present_first [] hs i h = absurd (omega arith)
present_first (g ∷ gs) hs zero h = tt
present_first (g ∷ gs) hs (suc i) h = present_first gs hs i (omega arith)

module _ (q : Question) where
  pub first_in_one : SmallSight (first_ranges (columns q)) (Exists q) 0 first_sight
  first_in_one i h = record { is = subst (λ rs. T (is_some (get_or rs i none))) (append-nil (first_ranges (columns q))) (present_first (columns q) [] i h); high = omega arith; low = omega arith }

  pub first_in_both : SmallSight (both_ranges q) (Exists q) 0 first_sight
  first_in_both i h = record { is = present_first (columns q) (hidden_ranges q.visible 0 (columns q)) i h; high = omega arith; low = omega arith }

  pub second_in_both : SmallSight (both_ranges q) (Exists q) 0 (second_sight q)
  second_in_both i h = record { is = go (among q.visible i) shown; high = omega arith; low = omega arith }
    where
      n : ℕ
      n = length (columns q)

      shown : get_or (both_ranges q) (n + i) none ≡ cond (among q.visible i) none (get_or (first_ranges (columns q)) i none)
      shown = let e : 0 + i ≡ i = omega arith in get_d_after (first_ranges (columns q)) (hidden_ranges q.visible 0 (columns q)) none n i (sym (length-map (columns q) some)) ∙ rw e at (hidden_at q.visible 0 (columns q) i)

      go : (b : Bool) → get_or (both_ranges q) (n + i) none ≡ cond b none (get_or (first_ranges (columns q)) i none) → T (present (both_ranges q) (cond b (suc i) (suc (n + i))))
      go true e = (first_in_both i h).is
      go false e = subst (λ o. T (is_some o)) (sym e) (first_in_one i h).is

  -- a sight after F has the modes' constants
  module _ (rs : Ranges) (σ : Sight) (x : SmallSight rs (Exists q) 0 σ) where
    new_small : (m : Mode) → ModeOk m → Reads (Exists q) (m ∷ []) → (i : ℕ) → Exists q i → SmallTerm rs large (new_term m σ (σ i))
    new_small keep o u i h = let y = x i h in record { is = y.is; high = omega (arith, y.high); low = omega (arith, y.low) }
    new_small (become k) o u i h = let c = constant_size k o in small_constant rs large k c.0 c.1
    new_small (shift j k) o u i h = let c = constant_size k o in small_plus rs 0 large (σ j) k (x j u.0) c.0 c.1

    pub after_small : (ms : List Mode) → Every ModeOk ms → Reads (Exists q) ms → SmallSight rs (Exists q) large (after q ms σ)
    unfolding after
    after_small ms o u i h = new_small (mode_at q ms i) (mode_at_lem ModeOk tt (first q) ms o i) (reads_at (Exists q) (first q) ms u i) i h
