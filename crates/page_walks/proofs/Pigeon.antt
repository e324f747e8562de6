-- Lists of vertices below a bound, and the pigeonhole: more than N numbers below N have one twice.
use mathlib.Core.Path.{◌≡◌, refl, sym, ap}
use mathlib.Core.Logic.{◌⊎◌, inl, inr, ◌≢◌}
use mathlib.Core.List.{List, [], ◌∷◌, ◌++◌, map}
use Prim.Native.Nat.{ℕ, zero, suc, ◌<◌}
use native.Mathlib.Omega.{arith}
use native.Mathlib.Decide.{ℕ_discrete}
use lib.ListN.{length, length-map}
use Rattle.page_walks.specs.Walk.{Below}

abbrev pub Has : ℕ → List ℕ → Type 0
Has u [] = ⊥
Has u (x ∷ l) = (u ≡ x) ⊎ Has u l

abbrev pub Dup : List ℕ → Type 0
Dup [] = ⊥
Dup (x ∷ l) = Has x l ⊎ Dup l

pub below_append : (N : ℕ) (p q : List ℕ) → Below N p → Below N q → Below N (p ++ q)
below_append N [] q a b = b
below_append N (x ∷ p) q a b = (a.0, below_append N p q a.1 b)

pub below_split : (N : ℕ) (p q : List ℕ) → Below N (p ++ q) → Below N p × Below N q
below_split N [] q b = (tt, b)
below_split N (x ∷ p) q b = let r = below_split N p q b.1 in ((b.0, r.0), r.1)

-- where u stands in l
pub has_split : (u : ℕ) (l : List ℕ) → Has u l → (a : List ℕ) × (b : List ℕ) × (l ≡ a ++ u ∷ b)
has_split u [] h = absurd h
has_split u (x ∷ l) (inl e) = ([], l, ap (λ z. z ∷ l) (sym e))
has_split u (x ∷ l) (inr h) = let r = has_split u l h in (x ∷ r.0, r.1, ap (λ m. x ∷ m) r.2)

dec_has : (u : ℕ) (l : List ℕ) → Dec (Has u l)
dec_has u [] = no (λ h. h)
dec_has u (x ∷ l) = go (ℕ_discrete u x) (dec_has u l)
  where
    go : Dec (u ≡ x) → Dec (Has u l) → Dec ((u ≡ x) ⊎ Has u l)
    go (yes e) d = yes (inl e)
    go (no f) (yes h) = yes (inr h)
    go (no f) (no g) = no (λ s. elim s [ inl e ↦ f e | inr h ↦ g h ])

-- y, or x in the place of N
repl : (N x y : ℕ) → (z : ℕ) × (((y ≡ N) × (z ≡ x)) ⊎ ((y ≢ N) × (z ≡ y)))
repl N x y = elim (ℕ_discrete y N) [ yes e ↦ (x, inl (e, refl)) | no f ↦ (y, inr (f, refl)) ]

put : ℕ → ℕ → List ℕ → List ℕ
put N x l = map (λ y. (repl N x y).0) l

repl_below : (N x y : ℕ) → x < suc N → y < suc N → x ≢ y → (repl N x y).0 < N
repl_below N x y a b f = go (repl N x y)
  where
    go : (r : (z : ℕ) × (((y ≡ N) × (z ≡ x)) ⊎ ((y ≢ N) × (z ≡ y)))) → r.0 < N
    go r = elim r.1 [ inl e ↦ omega arith | inr e ↦ omega arith ]

repl_inj : (N x y z : ℕ) → x ≢ y → x ≢ z → (repl N x y).0 ≡ (repl N x z).0 → y ≡ z
repl_inj N x y z f g e = go (repl N x y).1 (repl N x z).1
  where
    go : ((y ≡ N) × ((repl N x y).0 ≡ x)) ⊎ ((y ≢ N) × ((repl N x y).0 ≡ y)) → ((z ≡ N) × ((repl N x z).0 ≡ x)) ⊎ ((z ≢ N) × ((repl N x z).0 ≡ z)) → y ≡ z
    go (inl a) (inl b) = omega arith
    go (inl a) (inr b) = omega arith
    go (inr a) (inl b) = omega arith
    go (inr a) (inr b) = omega arith

put_below : (N x : ℕ) (l : List ℕ) → x < suc N → Below (suc N) l → ¬ Has x l → Below N (put N x l)
unfolding put
put_below N x [] h b f = tt
put_below N x (y ∷ l) h b f = (repl_below N x y h b.0 (λ e. f (inl e)), put_below N x l h b.1 (λ e. f (inr e)))

put_has : (N x y : ℕ) (l : List ℕ) → x ≢ y → ¬ Has x l → Has (repl N x y).0 (put N x l) → Has y l
unfolding put
put_has N x y [] f g h = h
put_has N x y (z ∷ l) f g (inl e) = inl (repl_inj N x y z f (λ d. g (inl d)) e)
put_has N x y (z ∷ l) f g (inr h) = inr (put_has N x y l f (λ d. g (inr d)) h)

put_dup : (N x : ℕ) (l : List ℕ) → ¬ Has x l → Dup (put N x l) → Dup l
unfolding put
put_dup N x [] f h = h
put_dup N x (y ∷ l) f (inl h) = inl (put_has N x y l (λ d. f (inl d)) (λ d. f (inr d)) h)
put_dup N x (y ∷ l) f (inr h) = inr (put_dup N x l (λ d. f (inr d)) h)

pub pigeon : (N : ℕ) (l : List ℕ) → Below N l → N < length l → Dup l
unfolding put
pigeon zero [] b h = omega arith
pigeon zero (x ∷ l) b h = absurd (omega arith)
pigeon (suc N) [] b h = omega arith
pigeon (suc N) (x ∷ l) b h = go (λ m. pigeon N m) (dec_has x l)
  where
    go : ((m : List ℕ) → Below N m → N < length m → Dup m) → Dec (Has x l) → Has x l ⊎ Dup l
    go ih (yes m) = inl m
    go ih (no f) = inr (put_dup N x l f (ih (put N x l) (put_below N x l b.0 b.1 f) (rw length-map (omega arith))))
