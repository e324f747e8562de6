-- The run over the numbers of the instructions, one instruction at a time.
use Rattle.std.proofs.Common.{ℕ, zero, suc, ◌+◌, ◌<◌, ◌≤◌, ◌≡◌, refl, Bool, List, [], ◌∷◌, map, length, get_or, drop, arith, add-one}
use Rattle.std.proofs.lemmas.List.{drop_all, drop_more, drop-map}
use Rattle.page_formulas.specs.Program.{two, one}
use Rattle.page_formulas.specs.Knowledge.{Three, later, sure}
use Rattle.page_formulas.specs.Kinds.{kind_step, kind_later, run_kinds}
use Rattle.truth.specs.Values.{decided_of, constant_of}

pub two_short : (f : Three → Three → Three) (st : List Three) → length (two f st) ≤ length st
two_short f [] = omega arith
two_short f (a ∷ []) = omega arith
two_short f (b ∷ (a ∷ st)) = omega arith

pub one_short : (f : Three → Three) (st : List Three) → length (one f st) ≤ length st
one_short f [] = omega arith
one_short f (a ∷ st) = omega arith

later_suc : (ds : List Bool) (n : ℕ) → later (drop n ds) ≡ drop (suc n) ds
later_suc [] zero = refl
later_suc [] (suc n) = refl
later_suc (d ∷ ds) zero = refl
later_suc (d ∷ ds) (suc n) = later_suc ds n

pub later_drop : (ds : List Bool) (n : ℕ) → later (drop n ds) ≡ drop (n + 1) ds
later_drop ds n = rw add-one (later_suc ds n)

-- what place n pushes, where it is decided
pub decided_at : {T : Type 0} (passes : T → Bool) (ts : List T) (n : ℕ) (t : T) → n < length ts → t ≡ get_or ts n t → decided_of (map passes ts) n ≡ sure (passes t)
decided_at passes ts n t h e = rw (drop-map passes n ts, drop_more ts n t h, ← e)

-- what a kind from 4 on does
pub high_step : (k : ℕ) → 4 ≤ k → (ds : List Bool) (st : List Three) → kind_step k ds st ≡ constant_of k ∷ st
high_step zero h ds st = absurd (omega arith)
high_step (suc zero) h ds st = absurd (omega arith)
high_step (suc (suc zero)) h ds st = absurd (omega arith)
high_step (suc (suc (suc zero))) h ds st = absurd (omega arith)
high_step (suc (suc (suc (suc zero)))) h ds st = refl
high_step (suc (suc (suc (suc (suc k))))) h ds st = refl

pub high_later : (k : ℕ) → 4 ≤ k → (ds : List Bool) → kind_later k ds ≡ ds
high_later zero h ds = absurd (omega arith)
high_later (suc k) h ds = refl

module _ {I : Type 0} (number : I → ℕ) (xs : List I) (i : ℕ) (ds : List Bool) (st whole : List Three) (same : run_kinds ds (map number (drop i xs)) st ≡ whole) where
  -- one step more of the run, by the step's number
  pub run_on : (x : I) → i < length xs → x ≡ get_or xs i x → (k : ℕ) → k ≡ number x → run_kinds (kind_later k ds) (map number (drop (i + 1) xs)) (kind_step k ds st) ≡ whole
  unfolding run_kinds
  run_on x h e k a = rw a (rw (drop_more xs i x h, ← e) at same)

  -- none is left
  pub run_out : length xs ≤ i → st ≡ whole
  unfolding run_kinds
  run_out h = rw (drop_all i xs h) at same
