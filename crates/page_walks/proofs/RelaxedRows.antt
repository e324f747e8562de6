-- What one row of the relaxed grid is, in the numbers that are read, and that they are exact; and which rows stay.
use Prim.Native.Nat.{ℕ, ◌+◌, ◌≤◌, ◌<◌}
use mathlib.Core.Path.{◌≡◌, sym, ap, ◌∙◌}
use mathlib.Core.List.{List, []}
use native.Mathlib.Omega.{arith}
use lib.IntN.{ℤ, pos, ◌+ℤ◌}
use lib.ListN.{length, get_or}
use lib.Signed.{◌≤ℤ◌}
use Rattle.page_numbers.specs.Numbers.{min_z}
use Rattle.page_numbers.proofs.Bridge.{ints, min_first, +law}
use Rattle.page_meaning.specs.Limits.{most_vertices}
use Rattle.page_walks.specs.Grid.{Grid, row, weight, far, far_n}
use Rattle.page_walks.specs.Sizes.{wide, Bounded, RowWithin, AllWithin, Sized, filled}
use Rattle.page_walks.specs.Nearness.{relax, via, Triangle}
use Rattle.page_walks.proofs.Rows.{filled_same, filled_out, filled_more, filled_length, filled_own, set_own, read}
use Rattle.page_walks.proofs.Sums.{bounded_more, bounded_plus}

-- row u with the new edge
abbrev pub new_row : Grid → ℕ → ℕ → ℕ → ℤ → ℕ → List ℤ
new_row near n b a k u = filled (relax (weight near) b a k u) n (row near u)

module _ (near : Grid) (n b a : ℕ) (k : ℤ) (sz : Sized most_vertices near) (h : (n ≤ most_vertices) × (b < n) × (a < n)) (hk : Bounded far_n k) (all : AllWithin far_n n near) where
  -- an entry between vertices below n
  at : (u v : ℕ) → u < n → v < n → get_or (row near u) v (pos 0) ≡ weight near u v
  at u v hu hv = read most_vertices near u v sz (omega (arith, h.0)) (omega (arith, h.0))

  pub reach_bounded : (u : ℕ) → u < n → Bounded wide (get_or (row near u) b (pos 0) +ℤ k)
  reach_bounded u hu = rw (at u b hu h.1) (bounded_more (far_n + far_n) wide (weight near u b +ℤ k) (omega arith) (bounded_plus far_n far_n (weight near u b) k (all.entry u b hu h.1) hk))

  pub on_within : RowWithin wide n (row near a)
  on_within = record { entry = λ v hv. rw (at a v h.2 hv) (bounded_more far_n wide (weight near a v) (omega arith) (all.entry a v h.2 hv)) }

  pub row_is : (u : ℕ) → u < n → filled (λ v. min_z (get_or (row near u) v (pos 0)) ((get_or (row near u) b (pos 0) +ℤ k) +ℤ get_or (row near a) v (pos 0))) n (row near u) ≡ new_row near n b a k u
  unfolding relax
  row_is u hu = filled_same _ _ n (row near u) (λ v hv. rw (at u v hu hv, at u b hu h.1, at a v h.2 hv))

  -- a row that the edge doesn't lower at its end
  module _ (tri : Triangle n (weight near)) (u : ℕ) (hu : u < n) (low : weight near u a ≤ℤ (weight near u b +ℤ k)) where
    stays : (v : ℕ) → v < n → relax (weight near) b a k u v ≡ weight near u v
    unfolding relax
    stays v hv = min_first (weight near u v) (via (weight near) b a k u v) (omega (ints, low, tri u a v hu h.2 hv, +law (weight near u a) (weight near a v), +law (weight near u b) k, +law (weight near u b +ℤ k) (weight near a v)))

    pub row_stays : new_row near n b a k u ≡ row near u
    row_stays = filled_own (relax (weight near) b a k u) n (row near u) far (λ v hv. stays v hv) (omega (arith, h.0, sz.columns u (omega (arith, h.0))))

  -- so nothing is written there
  pub grid_stays : (tri : Triangle n (weight near)) (u : ℕ) → u < n → weight near u a ≤ℤ (weight near u b +ℤ k) → (h' : Grid) → h' ≡ filled (new_row near n b a k) u near → h' ≡ filled (new_row near n b a k) (u + 1) near
  grid_stays tri u hu low h' e =
      let here : get_or h' u [] ≡ new_row near n b a k u = ap (λ g. get_or g u []) e ∙ filled_out (new_row near n b a k) u near u [] (omega arith) ∙ sym (row_stays tri u hu low) in
      sym (set_own h' u [] (omega (arith, ap length e, filled_length (new_row near n b a k) u near, sz.rows, h.0))) ∙ filled_more (new_row near n b a k) u near h' (get_or h' u []) e here
