-- Values written as bytes are read back; rows of read values, by the column.
-- ---- written, then read
use Prim.Native.Nat.{ℕ, zero, suc, ◌+◌, ◌*◌, ◌<◌}
use mathlib.Core.Path.{◌≡◌, refl, sym, ap, ap₂, ◌∙◌}
use mathlib.Core.Bool.{Bool, true, false, ◌||◌}
use mathlib.Core.List.{List, [], ◌∷◌, ◌++◌, map, append_assoc, head-eq_of_cons-eq, tail-eq_of_cons-eq}
use native.Mathlib.Omega.{arith}
use lib.ListN.{length, get_or}
use lib.Seq.{get_or-append-add}
use lib.Dec.{T, eqb, eqb→eq, eqb_refl}
use lib.IntN.{ℤ}
use lib.Signed.{le_z}
use mir.Syntax.{w32}
use mir.Val.{SFits, of_z, to_z}
use Rattle.page_numbers.specs.Bytes.{le32, int32, bytes4, put32}
use Rattle.page_numbers.specs.Numbers.{up, dn}
use Rattle.page_numbers.proofs.Bridge.{from_le_z, to_le_z, ints}
use Rattle.page_numbers.proofs.Stores.{read_put}
use Rattle.page_meaning.specs.Condition.{equal, holds}
use Rattle.page_meaning.specs.Contents.{Values, look, Range, in_range, fits}
use Rattle.page_meaning.proofs.Truth.{and_l, and_r, and_in, or_l, or_r}
use Rattle.page_formulas.specs.Formulas.{among, tabulate}
use Rattle.page_questions.specs.Guarantees.{Every}
use Rattle.page_sheets.specs.Rows.{bytes_of_row}

pub read_first : (z : ℤ) (rest : List ℕ) → SFits w32 z → int32 (bytes4 (of_z w32 z) ++ rest) 0 ≡ z
unfolding put32
read_first z rest f = read_put (0 ∷ 0 ∷ 0 ∷ 0 ∷ rest) 0 z (omega arith) f

-- after other bytes
pub read_after : (P s : List ℕ) (p m : ℕ) → m ≡ length P + p → int32 (P ++ s) m ≡ int32 s p
unfolding int32 le32
read_after P s p m e = let same : le32 (P ++ s) m ≡ le32 s p = cc (at m p (omega arith), at (m + 1) (p + 1) (omega arith), at (m + 2) (p + 2) (omega arith), at (m + 3) (p + 3) (omega arith)) in ap (to_z w32) same
  where
    at : (x y : ℕ) → x ≡ length P + y → get_or (P ++ s) x 0 ≡ get_or s y 0
    at x y d = rw d (get_or-append-add P s y 0)

pub row_read : (zs : Values) (rest : List ℕ) → Every (SFits w32) zs → (j : ℕ) → j < length zs → int32 (bytes_of_row zs ++ rest) (4 * j) ≡ look zs j
unfolding bytes_of_row bytes4
row_read [] rest a j h = absurd (omega arith)
row_read (z ∷ zs) rest a zero h = ap (λ l. int32 l 0) (append_assoc (bytes4 (of_z w32 z)) (bytes_of_row zs) rest) ∙ read_first z (bytes_of_row zs ++ rest) a.0
row_read (z ∷ zs) rest a (suc j) h =
    ap (λ l. int32 l (4 * suc j)) (append_assoc (bytes4 (of_z w32 z)) (bytes_of_row zs) rest)
    ∙ read_after (bytes4 (of_z w32 z)) (bytes_of_row zs ++ rest) (4 * j) (4 * suc j) (omega arith)
    ∙ row_read zs rest a.1 j (omega arith)

pub row_bytes : (zs : Values) → length (bytes_of_row zs) ≡ 4 * length zs
unfolding bytes_of_row bytes4
row_bytes [] = refl
row_bytes (z ∷ zs) = omega (arith, row_bytes zs)

-- ---- tabulated rows
pub look_tabulate : (n : ℕ) (f : ℕ → ℤ) (i : ℕ) → i < n → look (tabulate n f) i ≡ f i
unfolding tabulate
look_tabulate zero f i h = absurd (omega arith)
look_tabulate (suc n) f zero h = refl
look_tabulate (suc n) f (suc i) h = look_tabulate n (λ j. f (suc j)) i (omega arith)

pub tabulate_is : (n : ℕ) (f : ℕ → ℤ) (u : Values) → length u ≡ n → ((i : ℕ) → i < n → f i ≡ look u i) → tabulate n f ≡ u
unfolding tabulate
tabulate_is zero f [] l e = refl
tabulate_is zero f (x ∷ u) l e = absurd (omega arith)
tabulate_is (suc n) f [] l e = absurd (omega arith)
tabulate_is (suc n) f (x ∷ u) l e = ap₂ ◌∷◌ (e 0 (omega arith)) (tabulate_is n (λ i. f (suc i)) u (omega arith) (λ i h. e (suc i) (omega arith)))

pub tabulate_length : (n : ℕ) (f : ℕ → ℤ) → length (tabulate n f) ≡ n
unfolding tabulate
tabulate_length zero f = refl
tabulate_length (suc n) f = ap suc (tabulate_length n (λ i. f (suc i)))

pub tabulate_same : (n : ℕ) (f g : ℕ → ℤ) → ((j : ℕ) → j < n → f j ≡ g j) → tabulate n f ≡ tabulate n g
tabulate_same n f g e = tabulate_is n f (tabulate n g) (tabulate_length n g) (λ j h. e j h ∙ sym (look_tabulate n g j h))

pub fits_tabulate : (gs : List Range) (d : Range) (f : ℕ → ℤ) → ((i : ℕ) → i < length gs → T (in_range (get_or gs i d) (f i))) → T (fits gs (tabulate (length gs) f))
unfolding tabulate
fits_tabulate [] d f h = tt
fits_tabulate (g ∷ gs) d f h = and_in (in_range g (f 0)) (fits gs (tabulate (length gs) (λ i. f (suc i)))) (h 0 (omega arith)) (fits_tabulate gs d (λ i. f (suc i)) (λ i k. h (suc i) (omega arith)))

pub fits_look : (gs : List Range) (d : Range) (u : Values) → T (fits gs u) → (i : ℕ) → i < length gs → T (in_range (get_or gs i d) (look u i))
fits_look [] d u t i h = absurd (omega arith)
fits_look (g ∷ gs) d [] t i h = absurd t
fits_look (g ∷ gs) d (x ∷ u) t zero h = and_l (in_range g x) (fits gs u) t
fits_look (g ∷ gs) d (x ∷ u) t (suc i) h = fits_look gs d u (and_r (in_range g x) (fits gs u) t) i (omega arith)

-- two rows alike at those columns have the same part
pub same_part : (a b : ℕ → ℤ) (P : ℕ → Type 0) (is : List ℕ) → Every P is → ((i : ℕ) → P i → T (among is i) → a i ≡ b i) → map a is ≡ map b is
unfolding among
same_part a b P [] p h = refl
same_part a b P (j ∷ is) p h = ap₂ ◌∷◌ (h j p.0 (or_l (eqb j j) (among is j) (eqb_refl j))) (same_part a b P is p.1 (λ i q t. h i q (or_r (eqb j i) (among is i) t)))

-- = holds of equal numbers only
pub equal_is : (a b : ℤ) → T (holds equal a b) → a ≡ b
equal_is a b t = omega (ints, from_le_z a b (and_l (le_z a b) (le_z b a) t), from_le_z b a (and_r (le_z a b) (le_z b a) t))

pub is_equal : (a b : ℤ) → a ≡ b → T (holds equal a b)
is_equal a b e = and_in (le_z a b) (le_z b a) (to_le_z a b (omega (arith, ap up e, ap dn e))) (to_le_z b a (omega (arith, ap up e, ap dn e)))

-- rows with the same part are alike at those columns
pub part_same : (a b : ℕ → ℤ) (is : List ℕ) → map a is ≡ map b is → (i : ℕ) → T (among is i) → a i ≡ b i
unfolding among
part_same a b [] e i t = absurd t
part_same a b (j ∷ is) e i t = go (eqb j i) (λ h. eqb→eq j i h) t (part_same a b is (tail-eq_of_cons-eq e) i)
  where
    go : (c : Bool) → (T c → j ≡ i) → T (c || among is i) → (T (among is i) → a i ≡ b i) → a i ≡ b i
    go true f t g = rw (← (f tt)) (head-eq_of_cons-eq e)
    go false f t g = g t
