-- One truth more: the cells past it are still false.
use Rattle.std.proofs.Common.{ℕ, ◌+◌, ◌-◌, ◌<◌, ◌≡◌, sym, ap, ◌∙◌, Bool, false, List, ◌++◌, length, take, drop, replicate, set, arith}
use Rattle.std.proofs.lemmas.List.{drop-drop, drop-replicate, drop-set-lt, length-set, length-take-le, take-append-drop}
use Rattle.std.proofs.Math.Seq.{drop-append_seam}
use Rattle.page_meaning.specs.Limits.{most_decisions}
use Rattle.truth.specs.Spares.{padded}

module _ (cells : List Bool) (n : ℕ) (few : n < most_decisions) (long : length cells ≡ most_decisions) (same : padded (take n cells) ≡ cells) (truth : Bool) where
  abbrev after : List Bool
  after = set cells n truth

  pub count_next : length (take (n + 1) after) ≡ n + 1
  count_next = length-take-le (n + 1) after (omega (arith, few, long, length-set cells n truth))

  count_here : length (take n cells) ≡ n
  count_here = length-take-le n cells (omega (arith, few, long))

  spare_here : drop n cells ≡ replicate (most_decisions - n) false
  spare_here =
      ap (drop n) (sym same)
      ∙ ap (λ m. drop m (padded (take n cells))) (sym count_here)
      ∙ drop-append_seam (take n cells) _
      ∙ ap (λ m. replicate {A = Bool} (most_decisions - m) false) count_here

  spare_next : drop (n + 1) after ≡ replicate (most_decisions - (n + 1)) false
  spare_next =
      let less : most_decisions - n - 1 ≡ most_decisions - (n + 1) = omega arith in
      drop-set-lt (n + 1) cells n truth (omega arith)
      ∙ sym (drop-drop 1 n cells)
      ∙ ap (drop 1) spare_here
      ∙ drop-replicate 1 (most_decisions - n) false
      ∙ ap (λ m. replicate {A = Bool} m false) less

  pub padded_next : padded (take (n + 1) after) ≡ after
  padded_next =
      ap (λ m. take (n + 1) after ++ replicate {A = Bool} (most_decisions - m) false) count_next
      ∙ ap (λ s. take (n + 1) after ++ s) (sym spare_next)
      ∙ take-append-drop (n + 1) after
