-- The vertices of a node 2, one by one: those before i are there, so the list goes on from there.
use Prim.Native.Nat.{ℕ, zero, suc, ◌+◌, ◌-◌, ◌≤◌, ◌<◌}
use mathlib.Core.Path.{◌≡◌, refl, sym, ap, ◌∙◌}
use mathlib.Core.Bool.{true, false}
use mathlib.Core.List.{List, [], ◌∷◌, ◌++◌, append-nil}
use native.Mathlib.Omega.{arith}
use lib.ListN.{length, get_or, take, drop, drop_of_length-le}
use lib.Seq.{drop-cons, take-suc}
use native.Mathlib.Numerals.{add-one}
use Rattle.page_numbers.specs.Outcome.{good, refused}
use Rattle.page_walks.specs.Walk.{Below}
use Rattle.page_walks.proofs.Pigeon.{below_append}
use Rattle.page_formulas.specs.Vertices.{Ranges, present}
use Rattle.page_sheets.specs.Tree.{Vertices, more, vertices}

-- the first i of the bytes are vertices of the formula
pub record AllShown (rs : Ranges) (bytes : List ℕ) (i : ℕ) : Type 0 where
  pub each : (k : ℕ) → k < i → present rs (get_or bytes k 0) ≡ true

pub below_take : (N : ℕ) (bytes : List ℕ) (i : ℕ) → i < length bytes → Below N (take i bytes) → get_or bytes i 0 < N → Below N (take (i + 1) bytes)
below_take N bytes i l b h = rw (add-one, take-suc bytes i 0 l) (below_append N (take i bytes) (get_or bytes i 0 ∷ []) b (h, tt))

abbrev ahead : List ℕ → Vertices → Vertices
ahead c (good (d, o, r)) = good (c ++ d, o, r)
ahead c (refused n o) = refused n o

more_ahead : (v : ℕ) (c : List ℕ) (x : Vertices) → more v (ahead c x) ≡ ahead (v ∷ c) x
more_ahead v c (good (d, o, r)) = refl
more_ahead v c (refused n o) = refl

none_ahead : (x : Vertices) → ahead [] x ≡ x
none_ahead (good (d, o, r)) = refl
none_ahead (refused n o) = refl

module _ (rs : Ranges) where
  goes_on : (i m at : ℕ) (bytes : List ℕ) → i ≤ length bytes → AllShown rs bytes i → vertices rs (i + m) at bytes ≡ ahead (take i bytes) (vertices rs m (at + i) (drop i bytes))
  unfolding vertices
  goes_on zero m at bytes l a = let e : at + 0 ≡ at = omega arith in let d : 0 + m ≡ m = omega arith in rw (e, d) (sym (none_ahead (vertices rs m at bytes)))
  goes_on (suc i) m at [] l a = absurd (omega arith)
  goes_on (suc i) m at (v ∷ bytes) l a =
      let e : at + suc i ≡ suc at + i = omega arith in
      let d : suc i + m ≡ suc (i + m) = omega arith in
      rw (e, d, a.each 0 (omega arith), goes_on i m (suc at) bytes (omega arith) (record { each = λ k h. a.each (suc k) (omega arith) })) (more_ahead v (take i bytes) (vertices rs m (suc at + i) (drop i bytes)))

  module _ (at : ℕ) (bytes : List ℕ) where
    split_at : (i count : ℕ) → i ≤ count → i ≤ length bytes → AllShown rs bytes i → vertices rs count at bytes ≡ ahead (take i bytes) (vertices rs (count - i) (at + i) (drop i bytes))
    split_at i count h l a = let e : count ≡ i + (count - i) = omega arith in ap (λ n. vertices rs n at bytes) e ∙ goes_on i (count - i) at bytes l a

    pub named_all : (count : ℕ) → count ≤ length bytes → AllShown rs bytes count → good (take count bytes, at + count, drop count bytes) ≡ vertices rs count at bytes
    unfolding vertices
    named_all count l a = sym (split_at count count (omega arith) l a ∙ (let e : count - count ≡ 0 = omega arith in rw (e, append-nil)))

    pub named_short : (i count : ℕ) → i < count → length bytes ≤ i → i ≤ length bytes → AllShown rs bytes i → refused 11 (at + i) ≡ vertices rs count at bytes
    unfolding vertices
    named_short i count h s l a = sym (split_at i count (omega arith) l a ∙ (let e : count - i ≡ suc (count - suc i) = omega arith in rw (e, drop_of_length-le bytes s)))

    pub named_lacking : (i count : ℕ) → i < count → i < length bytes → AllShown rs bytes i → present rs (get_or bytes i 0) ≡ false → refused 14 (at + i) ≡ vertices rs count at bytes
    unfolding vertices
    named_lacking i count h l a f = sym (split_at i count (omega arith) (omega arith) a ∙ (let e : count - i ≡ suc (count - suc i) = omega arith in rw (e, drop-cons bytes i 0 l, f)))
