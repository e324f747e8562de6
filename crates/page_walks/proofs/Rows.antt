-- Laws of entries that are written anew, and what the machine says of the size of a grid that is handed over.
use Prim.Native.Nat.{ℕ, zero, suc, ◌+◌, ◌≤◌, ◌<◌}
use mathlib.Core.Path.{◌≡◌, refl, ap, ap₂, ◌∙◌}
use mathlib.Core.List.{List, [], ◌∷◌}
use native.Mathlib.Omega.{arith}
use native.Mathlib.Numerals.{add-one}
use native.Mathlib.Decide.{dec_lt, ℕ_discrete}
use lib.ListN.{length, get_or, set, length-set}
use lib.Seq.{get_or-set_same, get_or-set_other}
use lib.IntN.{ℤ, pos}
use mir.Syntax.{w64}
use mir.Val.{Val}
use denote.Shadow.{shadow}
use denote.Laws.{Is}
use denote.Signed.{SInt}
use denote.Array.{Array, each}
use Rattle.page_walks.specs.Grid.{far, Grid, row, weight}
use Rattle.page_walks.specs.Sizes.{Sized, filled, tabled}

-- ---- what is written at an index
pub filled_length : {A : Type 0} (f : ℕ → A) (n : ℕ) (l : List A) → length (filled f n l) ≡ length l
unfolding filled
filled_length f zero l = refl
filled_length f (suc n) l = length-set (filled f n l) n (f n) ∙ filled_length f n l

pub filled_at : {A : Type 0} (f : ℕ → A) (n : ℕ) (l : List A) (i : ℕ) (d : A) → i < n → n ≤ length l → get_or (filled f n l) i d ≡ f i
unfolding filled
filled_at f zero l i d h k = absurd (omega arith)
filled_at f (suc n) l i d h k = go (λ j. filled_at f n l i d j (omega arith)) (ℕ_discrete i n)
  where
    go : (i < n → get_or (filled f n l) i d ≡ f i) → Dec (i ≡ n) → get_or (set (filled f n l) n (f n)) i d ≡ f i
    go ih (yes e) = rw e (get_or-set_same (filled f n l) n (f n) d (omega (arith, filled_length f n l)))
    go ih (no e) = get_or-set_other (filled f n l) n i (f n) d e ∙ ih (omega arith)

pub filled_out : {A : Type 0} (f : ℕ → A) (n : ℕ) (l : List A) (i : ℕ) (d : A) → n ≤ i → get_or (filled f n l) i d ≡ get_or l i d
unfolding filled
filled_out f zero l i d h = refl
filled_out f (suc n) l i d h = get_or-set_other (filled f n l) n i (f n) d (λ e. omega arith) ∙ filled_out f n l i d (omega arith)

pub filled_same : {A : Type 0} (f g : ℕ → A) (n : ℕ) (l : List A) → ((i : ℕ) → i < n → f i ≡ g i) → filled f n l ≡ filled g n l
unfolding filled
filled_same f g zero l h = refl
filled_same f g (suc n) l h = ap₂ (λ m x. set m n x) (filled_same f g n l (λ i k. h i (omega arith))) (h n (omega arith))

-- an entry written as it was
pub set_own : {A : Type 0} (l : List A) (i : ℕ) (d : A) → i < length l → set l i (get_or l i d) ≡ l
set_own [] i d h = absurd (omega arith)
set_own (x ∷ l) zero d h = refl
set_own (x ∷ l) (suc i) d h = ap (λ m. x ∷ m) (set_own l i d (omega arith))

pub filled_own : {A : Type 0} (f : ℕ → A) (n : ℕ) (l : List A) (d : A) → ((i : ℕ) → i < n → f i ≡ get_or l i d) → n ≤ length l → filled f n l ≡ l
unfolding filled
filled_own f zero l d e h = refl
filled_own f (suc n) l d e h = ap₂ (λ m x. set m n x) (filled_own f n l d (λ i k. e i (omega arith)) (omega arith)) (e n (omega arith)) ∙ set_own l n d (omega arith)

-- a loop writes one entry more
pub filled_more : {A : Type 0} (f : ℕ → A) (n : ℕ) (l m : List A) (x : A) → m ≡ filled f n l → x ≡ f n → set m n x ≡ filled f (n + 1) l
unfolding filled
filled_more f n l m x e d = rw add-one (ap₂ (λ m x. set m n x) e d)

-- ---- grids
pub tabled_sized : (f : ℕ → ℕ → ℤ) (N n : ℕ) (g : Grid) → n ≤ N → Sized N g → Sized N (tabled f n g)
unfolding tabled
tabled_sized f N n g h s = record { rows = filled_length new n g ∙ s.rows; columns = λ u k. go u k (dec_lt u n) }
  where
    new : ℕ → List ℤ
    new u = filled (f u) n (row g u)

    go : (u : ℕ) → u < N → Dec (u < n) → length (row (filled new n g) u) ≡ N
    go u k (yes j) = rw (filled_at new n g u [] j (omega (arith, s.rows))) (filled_length (f u) n (row g u) ∙ s.columns u k)
    go u k (no j) = ap length (filled_out new n g u [] (omega arith)) ∙ s.columns u k

pub tabled_at : (f : ℕ → ℕ → ℤ) (N n : ℕ) (g : Grid) → n ≤ N → Sized N g → (u v : ℕ) → u < n → v < n → weight (tabled f n g) u v ≡ f u v
unfolding tabled
tabled_at f N n g h s u v hu hv = ap (λ r. get_or r v far) (filled_at (λ u. filled (f u) n (row g u)) n g u [] hu (omega (arith, s.rows))) ∙ filled_at (f u) n (row g u) v far hv (omega (arith, s.columns u (omega arith)))

-- an entry that is there is the same whatever stands for a missing one
pub there : {A : Type 0} (l : List A) (i : ℕ) (d e : A) → i < length l → get_or l i d ≡ get_or l i e
there [] i d e h = absurd (omega arith)
there (x ∷ l) zero d e h = refl
there (x ∷ l) (suc i) d e h = there l i d e (omega arith)

pub read : (N : ℕ) (g : Grid) (u v : ℕ) → Sized N g → u < N → v < N → get_or (row g u) v (pos 0) ≡ weight g u v
read N g u v s hu hv = there (row g u) v (pos 0) far (omega (arith, s.columns u hu))

-- ---- the machine's word on an array of arrays
rows_of : (n : ℕ) (xs : List (List ℤ)) (us : List Val) → shadow (each (List ℤ) (Array (SInt w64) n).own_val xs us) → (u : ℕ) → u < length xs → length (get_or xs u []) ≡ n
rows_of n [] us s u h = absurd (omega arith)
rows_of n (x ∷ xs) [] s u h = absurd s
rows_of n (x ∷ xs) (v ∷ us) s zero h = s.0.1.0.1
rows_of n (x ∷ xs) (v ∷ us) s (suc u) h = rows_of n xs us s.1 u (omega arith)

pub sized : (n : ℕ) (g : Grid) (vs : List Val) → Is (Array (Array (SInt w64) n) n) g vs → Sized n g
sized n g vs p = record { rows = p.1.0.1; columns = λ u h. rows_of n g p.0 p.1.1 u (omega (arith, p.1.0.1)) }
