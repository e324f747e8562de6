-- A row with the inserted row's values put in: it is in range, and an insert's formula says of it what it says of the row.
use Prim.Native.Nat.{ℕ, zero, suc}
use mathlib.Core.Path.{◌≡◌, refl, ap, ◌∙◌, fun_ext}
use mathlib.Core.List.{[], ◌∷◌, ◌++◌, map}
use lib.ListN.{length, get_or, replicate, take, drop}
use lib.Dec.{T}
use lib.IntN.{ℤ}
use Rattle.page_meaning.specs.Condition.{Row}
use Rattle.page_meaning.specs.Contents.{Question, keep, become, Values, columns, columns_of, first, look, fits, new_value}
use Rattle.page_meaning.specs.Trouble.{moved}
use Rattle.page_meaning.proofs.Words.{put}
use Rattle.page_meaning.specs.Witness.{cut}
use Rattle.page_meaning.proofs.MovedRows.{fits_length, put_same}
use Rattle.page_meaning.proofs.Tables.{fits_append, cut_values, cut_fits}
use Rattle.page_formulas.specs.Formulas.{put_in}

-- a mode that puts a value in, or keeps it, does so once and for all
new_again : (r s : Row) (x : ℤ) (n : ℕ) (new : Values) (i : ℕ) → let m = get_or (replicate n keep ++ map become new) i keep in new_value m s (new_value m r x) ≡ new_value m r x
new_again r s x zero [] i = refl
new_again r s x zero (k ∷ new) zero = refl
new_again r s x zero (k ∷ new) (suc i) = new_again r s x zero new i
new_again r s x (suc n) new zero = refl
new_again r s x (suc n) new (suc i) = new_again r s x n new i

put_again : (q : Question) (new : Values) (r : Row) → put q new (put q new r) ≡ put q new r
unfolding moved
put_again q new r = fun_ext (λ i. new_again r (put q new r) (r i) (first q) new i)

module _ (q : Question) (new u : Values) (h : T (fits q.changed new)) (k : T (fits (columns q) u)) where
  pub put_in_fits : T (fits (columns q) (put_in q new u))
  unfolding cut
  put_in_fits = let c = cut_fits q u k in fits_append (columns_of q.front) (q.changed ++ columns_of q.back) (take (first q) u) (new ++ drop (length q.changed) (drop (first q) u)) c.before
      (fits_append q.changed (columns_of q.back) new (drop (length q.changed) (drop (first q) u)) h c.after)

  pub put_in_put : look (put_in q new u) ≡ put q new (look u)
  unfolding cut
  put_in_put = let c = cut_fits q u k in put_same q (cut q u) (record { before = fits_length (columns_of q.front) (cut q u).before c.before; here = c.here }) new h ∙ ap (λ l. put q new (look l)) (cut_values q u)

  -- so the formula's test of it is that of the row
  pub put_in_same : put q new (look (put_in q new u)) ≡ put q new (look u)
  put_in_same = ap (put q new) put_in_put ∙ put_again q new (look u)
