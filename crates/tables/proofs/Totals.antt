-- Sums of widths, and the loop that reads them.
use Rattle.std.specs.Prelude.{ℕ, suc, ◌+◌, ◌-◌, ◌≤◌, ◌<◌, ◌≡◌, List, [], ◌∷◌, map, take, get_or, length, Result, Ok}
use Rattle.std.specs.List.{sum}
use Rattle.std.proofs.lemmas.List.Sums.{sum_by-cons}
use mathlib.Core.Path.{refl, sym, ap, ◌∙◌}
use mathlib.Core.List.{map-id}
use native.Mathlib.Omega.{arith}
use lib.ListN.{set}
use lib.Seq.{get_or-set_same, get_or-set_other}
use borrow.Author.Count.{below_more}
use Rattle.page_meaning.specs.Limits.{most_tables, most_columns}
use Rattle.page_questions.specs.Layout.{total}
use Rattle.page_questions.specs.Reader.{byte, width_at}
use Rattle.page_questions.proofs.FieldLaws.{is_within}
use Rattle.page_questions.proofs.Sums.{total_set}
use Rattle.refusal.specs.declared.Refusal.{Refusal}
use Rattle.fields.specs.Steps.{Steps}
use Rattle.fields.specs.declared.cursor.Cursor.{Cursor}
use Rattle.fields.proofs.Run.{Run, one_read}
use Rattle.tables.specs.Shapes.{Counted}

pub total_sum : (ws : List ℕ) → sum ws ≡ total ws
unfolding total
total_sum [] = refl
total_sum (w ∷ ws) = omega (arith, sum_by-cons (λ x. x) w ws, total_sum ws)

-- i widths were read, of n
pub record WidthRun (n : ℕ) (start now : Cursor) (widths : List ℕ) (sum i : ℕ) : Type 0 where
  pub run : Run (width_at most_columns) (λ (w : ℕ). w) most_tables n start now widths i
  pub sums : sum ≡ total (take i widths)
  pub small : sum ≤ most_columns
  pub each : (j : ℕ) → j < i → 1 ≤ get_or widths j 0

module _ {n : ℕ} {start mid : Cursor} {widths : List ℕ} {sum i : ℕ} (h : WidthRun n start mid widths sum i) where
  -- the field that the code reads as a width
  pub this_width : {new : Cursor} {r : Result ℕ Refusal} → Steps (λ w. w) (λ s q. byte s 4 1 (suc most_columns - sum) q) mid r new
      → Steps (λ w. w) (λ s q. width_at most_columns s (map (λ (w : ℕ). w) (take i widths)) q) mid r new
  this_width s =
      let e : total (map (λ (w : ℕ). w) (take i widths)) ≡ sum = ap total (map-id (take i widths)) ∙ sym h.sums in
      let k : suc most_columns - sum ≡ suc (most_columns - total (map (λ (w : ℕ). w) (take i widths))) = omega (arith, e, h.small) in
      record { same = s.same; meaning = s.meaning ∙ ap (λ b. byte mid.bytes.now 4 1 b mid.at) k }

  pub width_on : {new : Cursor} {w : ℕ} → n ≤ most_tables → i < n → Steps (λ w. w) (λ s q. byte s 4 1 (suc most_columns - sum) q) mid (Ok w) new → WidthRun n start new (set widths i w) (sum + w) (i + 1)
  width_on {w = w} fit l s =
      let inside : i < length widths = omega (arith, h.run.going.sized) in
      let ok = is_within _ 4 1 (suc most_columns - sum) _ w _ s.meaning in
      record {
        run = one_read h.run l fit (this_width s);
        sums = ap (λ k. k + w) h.sums ∙ sym (total_set widths i w inside);
        small = omega (arith, ok.1, h.small);
        each =
            below_more _ _
            (λ j k. rw (get_or-set_other widths i j w 0 (λ e. omega (arith, e, k))) (h.each j k))
            (rw (get_or-set_same widths i w 0 inside) ok.0);
      }

  pub counted : n ≤ most_tables → n ≤ i → Counted n widths
  counted fit l =
      let e : i ≡ n = omega (arith, h.run.going.within) in
      record {
        few = fit;
        small = rw (← e, ← h.sums) h.small;
        each = λ j k. h.each j (omega (arith, e, k));
      }
