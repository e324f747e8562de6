-- Digits in pairs: what the first pairs mean stands in the room, what the rest means is still to come.
use Prim.Native.Nat.{ℕ, zero, suc, ◌+◌, ◌*◌, ◌/◌, ◌<◌, ◌≤◌}
use mathlib.Core.Path.{◌≡◌, refl, sym, ap, subst, ◌∙◌}
use mathlib.Core.Bool.{Bool, true, false}
use mathlib.Core.List.{List, [], ◌∷◌, ◌++◌, append-nil}
use mathlib.Core.Option.{Option, none, some}
use native.Mathlib.Numerals.{add-one}
use native.Mathlib.Omega.{arith}
use lib.Dec.{ltb}
use lib.ListN.{length, get_or, take, drop, set, take-append-drop, length-set}
use lib.Seq.{drop-cons, drop-drop, drop-set-lt, take-suc-set, append_snoc, length-take-le, drop-length}
use Rattle.cases.specs.Hex.{byte_of, before, bytes_of_hex}
use Rattle.cases.specs.Decoding.{Decodes}
use Rattle.std.specs.Prelude as std
use Rattle.std.specs.Simd.{first_chunks}
use Rattle.std.proofs.lemmas.Bool.{lt-ltb, le-ltb}

-- some bytes before others
abbrev after : List ℕ → Option (List ℕ) → Option (List ℕ)
after p none = none
after p (some rest) = some (p ++ rest)

after_none : (o : Option (List ℕ)) → after [] o ≡ o
after_none none = refl
after_none (some rest) = refl

after_one : (p : List ℕ) (x : ℕ) (o : Option (List ℕ)) → after (p ++ (x ∷ [])) o ≡ after p (before true x o)
after_one p x none = refl
after_one p x (some rest) = ap some (append_snoc p x rest)

-- so many digits, two a byte
abbrev Sized : Option (List ℕ) → ℕ → Type 0
Sized none n = Unit {0}
Sized (some bytes) n = n ≡ 2 * length bytes

sized_more : (b : Bool) (x n : ℕ) (o : Option (List ℕ)) → Sized o n → Sized (before b x o) (suc (suc n))
sized_more true x n none h = tt
sized_more true x n (some rest) h = omega (arith, h)
sized_more false x n o h = tt

sized : (s : List ℕ) → Sized (bytes_of_hex s) (length s)
unfolding bytes_of_hex
sized [] = refl
sized (high ∷ []) = tt
sized (high ∷ low ∷ rest) = sized_more (ltb (byte_of high low) 256) (byte_of high low) (length rest) (bytes_of_hex rest) (sized rest)

-- an odd number of digits, and more bytes than the room has
odd : (o : Option (List ℕ)) (n : ℕ) (old new : List ℕ) → Sized o n → ¬ (n ≡ 2 * (n / 2)) → Decodes o std.None old new
odd none n old new h f = tt
odd (some bytes) n old new h f = absurd (f (omega (arith, h)))

long : (o : Option (List ℕ)) (n : ℕ) (old new : List ℕ) → Sized o n → length old < n / 2 → Decodes o std.None old new
long none n old new h f = tt
long (some bytes) n old new h f = omega (arith, h, f)

pub refused_odd : (s old new : List ℕ) → ¬ (length s ≡ 2 * (length s / 2)) → Decodes (bytes_of_hex s) std.None old new
refused_odd s old new f = odd (bytes_of_hex s) (length s) old new (sized s) f

pub refused_long : (s old new : List ℕ) → length old < length s / 2 → Decodes (bytes_of_hex s) std.None old new
refused_long s old new f = long (bytes_of_hex s) (length s) old new (sized s) f

first : (s : List ℕ) (j : ℕ) → j < length s → drop j s ≡ get_or s j 0 ∷ drop (j + 1) s
first s j h = rw (add-one, drop-cons s j 0)

-- i pairs decoded
pub record Stage (s old : List ℕ) (i : ℕ) (room : List ℕ) : Type 0 where
  pub long : length room ≡ length old
  pub rest : drop i room ≡ drop i old
  pub means : after (take i room) (bytes_of_hex (drop (2 * i) s)) ≡ bytes_of_hex s

pub stage_start : (s old : List ℕ) → Stage s old 0 old
stage_start s old = record { long = refl; rest = refl; means = after_none (bytes_of_hex s) }

module _ (s old : List ℕ) (i : ℕ) (room : List ℕ) (h : Stage s old i room) where
  pub stage_end : length s ≡ 2 * i → i ≤ length old → Decodes (bytes_of_hex s) (std.Some i) old room
  unfolding bytes_of_hex
  stage_end e f =
      let none_left : drop (2 * i) s ≡ [] = subst (λ n. drop n s ≡ []) e (drop-length s) in
      let all : some (take i room) ≡ bytes_of_hex s =
      ap some (sym (append-nil (take i room))) ∙ ap (λ l. after (take i room) (bytes_of_hex l)) (sym none_left) ∙ h.means
      in
      let whole : room ≡ take i room ++ drop i old = sym (take-append-drop i room) ∙ ap (λ l. take i room ++ l) h.rest in
      subst (λ o. Decodes o (std.Some i) old room) all (sym (length-take-le i room (omega (arith, f, h.long))), f, whole)

  module _ (e : 2 * i + 1 < length s) (x : ℕ) (b : x ≡ byte_of (get_or s (2 * i) 0) (get_or s (2 * i + 1) 0)) where
    -- what is still to come, and what comes after its first pair
    pair : bytes_of_hex (drop (2 * i) s) ≡ before (ltb x 256) x (bytes_of_hex (drop (2 * (i + 1)) s))
    unfolding bytes_of_hex
    pair =
        let two : 2 * (i + 1) ≡ 2 * i + 1 + 1 = omega arith in
        rw (b, two, first s (2 * i) (omega (arith, e)), first s (2 * i + 1) e)

    pub stage_wrong : 256 ≤ x → Decodes (bytes_of_hex s) std.None old room
    stage_wrong f =
        let nothing : bytes_of_hex (drop (2 * i) s) ≡ none = pair ∙ rw (le-ltb x 256 f) in
        subst (λ o. Decodes o std.None old room) (sym (ap (after (take i room)) nothing) ∙ h.means) tt

    pub stage_next : x < 256 → i < length old → Stage s old (i + 1) (set room i x)
    stage_next f g =
        let there : i < length room = omega (arith, g, h.long) in
        let to-come = bytes_of_hex (drop (2 * (i + 1)) s) in
        let some_more : bytes_of_hex (drop (2 * i) s) ≡ before true x to-come = pair ∙ rw (lt-ltb x 256 f) in
        let done : take (i + 1) (set room i x) ≡ take i room ++ (x ∷ []) = rw (add-one) (take-suc-set room i x there) in
        record {
          long = length-set room i x ∙ h.long;
          rest = drop-set-lt (i + 1) room i x (omega arith) ∙ sym (drop-drop 1 i room) ∙ ap (drop 1) h.rest ∙ drop-drop 1 i old;
          means = rw (done) (after_one (take i room) x to-come) ∙ ap (after (take i room)) (sym some_more) ∙ h.means;
        }

-- pair i is the digits 2i and 2i + 1
chunk : (k i : ℕ) (s : List ℕ) → i < k → 2 * k ≤ length s → get_or (first_chunks 2 k s) i [] ≡ get_or s (2 * i) 0 ∷ get_or s (2 * i + 1) 0 ∷ []
chunk zero i s h e = absurd (omega arith)
chunk (suc k) i [] h e = absurd (omega arith)
chunk (suc k) i (high ∷ []) h e = absurd (omega arith)
chunk (suc k) zero (high ∷ low ∷ rest) h e = refl
chunk (suc k) (suc i) (high ∷ low ∷ rest) h e =
    let second : 2 * suc i + 1 ≡ suc (suc (2 * i + 1)) = omega arith in
    let first : 2 * suc i ≡ suc (suc (2 * i)) = omega arith in
    rw (second, first) (chunk k i rest (omega arith) (omega arith))

pub pair_is : (s : List ℕ) (pairs : List (List ℕ)) (i : ℕ) → pairs ≡ first_chunks 2 (length s / 2) s → i < length s / 2 → get_or pairs i [] ≡ get_or s (2 * i) 0 ∷ get_or s (2 * i + 1) 0 ∷ []
pair_is s pairs i e h = rw e (chunk (length s / 2) i s h (omega arith))
