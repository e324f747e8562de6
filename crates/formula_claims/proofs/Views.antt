-- What the sights of a context see is what the table's programs are made of.
use mathlib.Core.Path.{◌≡◌, refl, sym, ap, ap₂, ◌∙◌, fun_ext}
use mathlib.Core.Bool.{Bool, true, false, cond, ◌&&◌, ◌||◌}
use mathlib.Core.List.{List, [], ◌∷◌, ◌++◌}
use Prim.Native.Nat.{ℕ, zero, suc, ◌+◌, ◌<◌}
use native.Mathlib.Omega.{arith}
use borrow.Author.Tests.{eq-eqb, ne_eqb}
use lib.ListN.{get_or, replicate}
use Rattle.page_meaning.specs.Contents.{Question, Mode, keep}
use Rattle.page_meaning.specs.Claims.{mode_at}
use Rattle.page_formulas.specs.Compilation as C
use Rattle.page_formulas.specs.Program.{false_i}
use Rattle.page_formulas.specs.Parts.{condition_program}
use Rattle.page_formulas.specs.Formulas.{vertex, among, new_term, after, bounded_all, differs_over}
use Rattle.page_formulas.specs.Formulas as F
use Rattle.sights.specs.Sights.{flags_of, shown_from, visible_of, row_of, modes_of, mode_in, sight_of}
use Rattle.pieces.specs.Pieces.{tokens_of, table_from}
use Rattle.sights.specs.declared.types.Sight.{Sight}
use Rattle.formula_contexts.specs.Contexts.{view_of, Under}
use Rattle.formula_claims.specs.Claims.{rows_of, words_of}
use Rattle.formula_contexts.specs.declared.contexts.Context.{Context}

-- ---- the visible columns

-- a number before those listed is not among them
not_below : (bs : List Bool) (k i : ℕ) → i < k → among (shown_from k bs) i ≡ false
unfolding among shown_from
not_below [] k i h = refl
not_below (true ∷ bs) k i h = ap₂ ◌||◌ (ne_eqb k i (λ x. absurd (omega arith))) (not_below bs (suc k) i (omega arith))
not_below (false ∷ bs) k i h = not_below bs (suc k) i (omega arith)

-- those listed from number k on are the ones shown
among_shown : (bs : List Bool) (k i j : ℕ) → j ≡ k + i → among (shown_from k bs) j ≡ get_or bs i false
unfolding among shown_from
among_shown [] k i j e = refl
among_shown (true ∷ bs) k zero j e = ap (λ t. t || among (shown_from (suc k) bs) j) (eq-eqb k j (omega arith))
among_shown (false ∷ bs) k zero j e = not_below bs (suc k) j (omega arith)
among_shown (true ∷ bs) k (suc i) j e = ap₂ ◌||◌ (ne_eqb k j (λ x. absurd (omega arith))) (among_shown bs (suc k) i j (omega arith))
among_shown (false ∷ bs) k (suc i) j e = among_shown bs (suc k) i j (omega arith)

-- ---- rows

module _ (Q : Question) (d : Context) (u : Under Q d) where
  flag_is : (i : ℕ) → get_or (flags_of d.sight) i false ≡ among Q.visible i
  flag_is i = sym (ap (λ vs. among vs i) u.visible ∙ among_shown (flags_of d.sight) 0 i i (omega arith))

  row_is : (b moved : Bool) → row_of (view_of d.sight b moved) ≡ cond b (F.second_sight Q) F.first_sight
  row_is true moved = fun_ext (λ i. ap₂ (λ f n. vertex (cond f (suc i) (suc (n + i)))) (flag_is i) (sym u.total))
  row_is false moved = refl

  abbrev modes : List Mode
  modes = modes_of d.sight

  mode_is : (b : Bool) → mode_in (view_of d.sight b true) ≡ mode_at Q modes
  mode_is b = ap (λ n i. get_or (replicate n keep ++ modes) i keep) (sym u.first)

  module _ (second : Bool) where
    abbrev row : C.Sight
    row = rows_of Q d.pairs second

    abbrev old : Sight
    old = view_of d.sight (d.pairs && second) false

    abbrev new : Sight
    new = view_of d.sight (d.pairs && second) true

    pub old_is : sight_of old ≡ row
    old_is = row_is (d.pairs && second) false

    pub new_is : sight_of new ≡ after Q modes row
    unfolding after
    new_is = ap₂ {C = C.Sight} (λ (m : ℕ → Mode) (σ : C.Sight) i. new_term (m i) σ (σ i)) (mode_is (d.pairs && second)) (row_is (d.pairs && second) true)

    -- ---- conditions and range tests, of a sight that is a view

    pub listed_is : (v : Sight) → v ≡ old → condition_program (sight_of v) (tokens_of d.listed.now) ≡ condition_program row Q.condition
    listed_is v e = ap (λ v. condition_program (sight_of v) (tokens_of d.listed.now)) e ∙ ap₂ condition_program old_is (sym u.listed)

    pub relisted_is : (v : Sight) → v ≡ new → condition_program (sight_of v) (tokens_of d.listed.now) ≡ condition_program (after Q modes row) Q.condition
    relisted_is v e = ap (λ v. condition_program (sight_of v) (tokens_of d.listed.now)) e ∙ ap₂ condition_program new_is (sym u.listed)

    pub chosen_is : (v : Sight) → v ≡ old → condition_program (sight_of v) (tokens_of d.chosen.now) ≡ condition_program row (tokens_of d.chosen.now)
    chosen_is v e = ap (λ v. condition_program (sight_of v) (tokens_of d.chosen.now)) e ∙ ap (λ σ. condition_program σ (tokens_of d.chosen.now)) old_is

    pub tests_are : (v : Sight) → v ≡ new → bounded_all (row_of v) (table_from v.first v.columns.now) (modes_of v) ≡ bounded_all row Q.changed modes
    tests_are v e =
        ap (λ v. bounded_all (row_of v) (table_from v.first v.columns.now) (modes_of v)) e
        ∙ u.tests (row_of new)
        ∙ ap (λ σ. bounded_all σ Q.changed modes) (row_is (d.pairs && second) true)

  -- ---- differences

  pub than_is : (other moved : Bool) → sight_of (view_of d.sight (d.pairs && other) moved) ≡ cond moved (after Q modes (rows_of Q d.pairs other)) (rows_of Q d.pairs other)
  than_is other true = new_is other
  than_is other false = old_is other

  pub differs_is : (second other moved : Bool) (a b : Sight) → a ≡ view_of d.sight (d.pairs && second) true → b ≡ view_of d.sight (d.pairs && other) moved → false_i ∷ differs_over (mode_in a) (sight_of a) (sight_of b) (visible_of a) ≡ (words_of Q d).differ (after Q modes (rows_of Q d.pairs second)) (cond moved (after Q modes (rows_of Q d.pairs other)) (rows_of Q d.pairs other))
  differs_is second other moved a b e f =
      ap₂ (λ a b. false_i ∷ differs_over (mode_in a) (sight_of a) (sight_of b) (visible_of a)) e f
      ∙ ap (λ m. false_i ∷ differs_over m (sight_of (view_of d.sight (d.pairs && second) true)) (sight_of (view_of d.sight (d.pairs && other) moved)) (visible_of d.sight)) (mode_is (d.pairs && second))
      ∙ ap (λ vs. false_i ∷ differs_over (mode_at Q modes) (sight_of (view_of d.sight (d.pairs && second) true)) (sight_of (view_of d.sight (d.pairs && other) moved)) vs) (sym u.visible)
      ∙ ap₂ (λ σ τ. false_i ∷ differs_over (mode_at Q modes) σ τ Q.visible) (new_is second) (than_is other moved)
