-- Contents: rows that fit, full rows in range, and the contents with one row a table.
use native.Mathlib.Omega.{arith}
use mathlib.Core.Path.{◌≡◌, refl, sym, ap, ap₂, ◌∙◌}
use mathlib.Core.Logic.{◌⊎◌, inl, inr}
use mathlib.Core.List.{List, [], ◌∷◌, ◌++◌}
use lib.ListN.{length, take, drop, take-append-drop}
use lib.Dec.{T}
use Rattle.page_meaning.specs.Contents.{Question, Values, Table, Range, ◌∈◌, each, columns_of, columns, fits, in_range, first, Contents, TablesFit, Valid, Joined, Full, values, Within}
use Rattle.page_meaning.specs.Witness.{cut, alone, none, AtMostOne}
use Rattle.page_meaning.proofs.Truth.{and_in, parts}
use Rattle.page_meaning.proofs.MovedRows.{Wide, fits_length}

-- ---- membership

pub in_left : (r : Values) (a b : List Values) → r ∈ a → r ∈ (a ++ b)
in_left r [] b h = absurd h
in_left r (x ∷ a) b (inl e) = inl e
in_left r (x ∷ a) b (inr h) = inr (in_left r a b h)

pub in_right : (r : Values) (a b : List Values) → r ∈ b → r ∈ (a ++ b)
in_right r [] b h = h
in_right r (x ∷ a) b h = inr (in_right r a b h)

pub in_cases : (r : Values) (a b : List Values) → r ∈ (a ++ b) → (r ∈ a) ⊎ (r ∈ b)
in_cases r [] b h = inr h
in_cases r (x ∷ a) b (inl e) = inl (inl e)
in_cases r (x ∷ a) b (inr h) = elim (in_cases r a b h) [ inl k ↦ inl (inr k) | inr k ↦ inr k ]

-- a row that each makes comes from one
pub each_from : (g : Values → List Values) (l : List Values) (s : Values) → s ∈ each g l → (r : Values) × (r ∈ l) × (s ∈ g r)
unfolding each
each_from g [] s h = absurd h
each_from g (x ∷ l) s h = go (each_from g l s) (in_cases s (g x) (each g l) h)
  where
    go : (s ∈ each g l → (r : Values) × (r ∈ l) × (s ∈ g r)) → (s ∈ g x) ⊎ (s ∈ each g l) → (r : Values) × (r ∈ (x ∷ l)) × (s ∈ g r)
    go ih (inl k) = (x, inl refl, k)
    go ih (inr k) = let y = ih k in (y.0, inr y.1, y.2)

pub each_in : (g : Values → List Values) (l : List Values) (r s : Values) → r ∈ l → s ∈ g r → s ∈ each g l
unfolding each
each_in g [] r s h k = absurd h
each_in g (x ∷ l) r s (inl e) k = in_left s (g x) (each g l) (rw e at k)
each_in g (x ∷ l) r s (inr h) k = in_right s (g x) (each g l) (each_in g l r s h k)

-- ---- full rows are in range

pub fits_append : (t u : List Range) (r s : Values) → T (fits t r) → T (fits u s) → T (fits (t ++ u) (r ++ s))
fits_append [] u [] s h k = k
fits_append [] u (v ∷ r) s h k = absurd h
fits_append (g ∷ t) u [] s h k = absurd h
fits_append (g ∷ t) u (v ∷ r) s h k = and_in (in_range g v) (fits (t ++ u) (r ++ s)) (search parts) (fits_append t u r s (search parts) k)

pub joined_fits : (ts : List Table) (rss : List (List Values)) → TablesFit ts rss → (s : Values) → Joined rss s → T (fits (columns_of ts) s)
joined_fits [] [] f s j = rw j tt
joined_fits [] (rs ∷ rss) f s j = absurd f
joined_fits (t ∷ ts) [] f s j = absurd f
joined_fits (t ∷ ts) (rs ∷ rss) f s j = rw j.4 (fits_append t (columns_of ts) j.0 j.1 (f.0 j.0 j.2) (joined_fits ts rss f.1 j.1 j.3))

pub within_fits : (q : Question) (c : Contents) → Valid q c → (x : Full) → Within c x → T (fits (columns q) (values x))
within_fits q c v x w =
    fits_append (columns_of q.front) (q.changed ++ columns_of q.back) x.before (x.here ++ x.after) (joined_fits q.front c.front v.front x.before w.before)
    (fits_append q.changed (columns_of q.back) x.here x.after (v.changed x.here w.here) (joined_fits q.back c.back v.back x.after w.after))

pub within_wide : (q : Question) (c : Contents) → Valid q c → (x : Full) → Within c x → Wide q x
within_wide q c v x w = record { before = fits_length (columns_of q.front) x.before (joined_fits q.front c.front v.front x.before w.before); here = v.changed x.here w.here }

-- ---- values of every column, taken apart

pub fits_take : (t u : List Range) (s : Values) → T (fits (t ++ u) s) → T (fits t (take (length t) s))
fits_take [] u s h = tt
fits_take (g ∷ t) u [] h = absurd h
fits_take (g ∷ t) u (v ∷ s) h = and_in (in_range g v) (fits t (take (length t) s)) (search parts) (fits_take t u s (search parts))

pub fits_drop : (t u : List Range) (s : Values) → T (fits (t ++ u) s) → T (fits u (drop (length t) s))
fits_drop [] u s h = h
fits_drop (g ∷ t) u [] h = absurd h
fits_drop (g ∷ t) u (v ∷ s) h = fits_drop t u s (search parts)

pub cut_values : (q : Question) (u : Values) → values (cut q u) ≡ u
unfolding cut
cut_values q u = ap (λ l. take (first q) u ++ l) (take-append-drop (length q.changed) (drop (first q) u)) ∙ take-append-drop (first q) u

-- the parts' ranges
pub record Cut (q : Question) (x : Full) : Type 0 where
  pub before : T (fits (columns_of q.front) x.before)
  pub here : T (fits q.changed x.here)
  pub after : T (fits (columns_of q.back) x.after)

pub cut_fits : (q : Question) (u : Values) → T (fits (columns q) u) → Cut q (cut q u)
unfolding cut
cut_fits q u h = let k = fits_drop (columns_of q.front) (q.changed ++ columns_of q.back) u h in
    record { before = fits_take (columns_of q.front) (q.changed ++ columns_of q.back) u h; here = fits_take q.changed (columns_of q.back) (drop (first q) u) k; after = fits_drop q.changed (columns_of q.back) (drop (first q) u) k }

-- ---- one row a table

pub alone_small : (ts : List Table) (s : Values) → AtMostOne (alone ts s)
unfolding alone
alone_small [] s = tt
alone_small (t ∷ ts) s = (omega arith, alone_small ts (drop (length t) s))

pub none_small : (ts : List Table) → AtMostOne (none ts)
unfolding none
none_small [] = tt
none_small (t ∷ ts) = (omega arith, none_small ts)

pub none_fit : (ts : List Table) → TablesFit ts (none ts)
unfolding none
none_fit [] = tt
none_fit (t ∷ ts) = (λ r h. absurd h, none_fit ts)

pub alone_fit : (ts : List Table) (s : Values) → T (fits (columns_of ts) s) → TablesFit ts (alone ts s)
unfolding alone
alone_fit [] s h = tt
alone_fit (t ∷ ts) s h = (λ r i. elim i [ inl e ↦ rw e (fits_take t (columns_of ts) s h) | inr k ↦ absurd k ], alone_fit ts (drop (length t) s) (fits_drop t (columns_of ts) s h))

pub alone_joined : (ts : List Table) (s : Values) → T (fits (columns_of ts) s) → Joined (alone ts s) s
unfolding alone
alone_joined [] [] h = refl
alone_joined [] (v ∷ s) h = absurd h
alone_joined (t ∷ ts) s h = (take (length t) s, drop (length t) s, inl refl, alone_joined ts (drop (length t) s) (fits_drop t (columns_of ts) s h), sym (take-append-drop (length t) s))

pub only : {r s : Values} → r ∈ (s ∷ []) → r ≡ s
only (inl e) = e
only (inr h) = absurd h

pub alone_only : (ts : List Table) (s : Values) → T (fits (columns_of ts) s) → (r : Values) → Joined (alone ts s) r → r ≡ s
unfolding alone
alone_only [] [] h r j = j
alone_only [] (v ∷ s) h r j = absurd h
alone_only (t ∷ ts) s h r j =
    j.4 ∙ ap₂ (λ a b. a ++ b) (only j.2) (alone_only ts (drop (length t) s) (fits_drop t (columns_of ts) s h) j.1 j.3) ∙ take-append-drop (length t) s
