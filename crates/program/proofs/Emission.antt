-- Building a program: what a store adds, and steps one after the other.
use Rattle.std.proofs.Common.{◌≡◌, ℕ, ◌+◌, ◌≤◌, ◌<◌, List, [], ◌∷◌, ◌++◌, map, length, take, set, refl, sym, ap, ◌∙◌, subst, append_assoc, add-one, arith, length-append, length-set}
use Rattle.std.proofs.Math.Seq.{take-suc-set}
use mathlib.Core.List.{append-nil}
use Rattle.page_meaning.specs.Limits.{most_decisions}
use Rattle.page_formulas.specs.Program.{place, and_i, or_i, not_i, true_i, false_i}
use Rattle.page_formulas.specs.Program as P
use Rattle.page_formulas.specs.Kinds.{kind_of, kinds_of}
use Rattle.page_formulas.specs.Costs.{most_instructions}
use Rattle.program.specs.Meanings.{number_of, instr_of, place_of, instructions_of, places_of, Bare}
use Rattle.program.specs.Built.{Room, Emits, Builds, Means}
use Rattle.program.specs.declared.types.Instruction.{Instruction}
use Rattle.program.specs.declared.types.Instruction.TheVariants as does
use Rattle.program.specs.declared.types.Place.{Place}
use Rattle.program.specs.declared.types.Program.{Program}

map_append : {A B : Type 0} (f : A → B) (s t : List A) → map f (s ++ t) ≡ map f s ++ map f t
map_append f [] t = refl
map_append f (a ∷ s) t = ap (λ l. f a ∷ l) (map_append f s t)

-- one more entry after the first n of an array of N
pub push : {A B : Type 0} (f : A → B) (N : ℕ) (l : List A) (n : ℕ) (a : A) → length l ≡ N → n < N → map f (take (n + 1) (set l n a)) ≡ map f (take n l) ++ (f a ∷ [])
push f N l n a e h = ap (map f) (rw add-one (take-suc-set l n a (omega arith))) ∙ map_append f (take n l) (a ∷ [])

pub kinds_append : (x y : P.Program) → kinds_of (x ++ y) ≡ kinds_of x ++ kinds_of y
unfolding kinds_of
kinds_append [] y = refl
kinds_append (i ∷ x) y = ap (λ l. kind_of i ∷ l) (kinds_append x y)

pub places_append : (x y : P.Program) → P.places (x ++ y) ≡ P.places x ++ P.places y
unfolding P.places
places_append [] y = refl
places_append (place p ∷ x) y = ap (λ l. p ∷ l) (places_append x y)
places_append (and_i ∷ x) y = places_append x y
places_append (or_i ∷ x) y = places_append x y
places_append (not_i ∷ x) y = places_append x y
places_append (true_i ∷ x) y = places_append x y
places_append (false_i ∷ x) y = places_append x y

-- an array's used part after two steps
after_two : {A : Type 0} (a b c xs ys : List A) → b ≡ a ++ xs → c ≡ b ++ ys → c ≡ a ++ (xs ++ ys)
after_two a b c xs ys e f = f ∙ ap (λ l. l ++ ys) e ∙ append_assoc a xs ys

-- nothing is added
pub emits_none : (p : Program) → Emits p p []
unfolding kinds_of P.places
emits_none p = record { instructions = sym (append-nil _); places = sym (append-nil _); counted = omega arith; decided = omega arith }

-- one step after another
infixl 5 ◌then◌
pub ◌then◌ : {p r s : Program} {x y : P.Program} → Emits p r x → Emits r s y → Emits p s (x ++ y)
◌then◌ {p} {r} {s} {x} {y} a b =
    record {
      instructions = rw (kinds_append x y) (after_two (map number_of (instructions_of p)) _ _ (kinds_of x) (kinds_of y) a.instructions b.instructions);
      places = rw (places_append x y) (after_two (map place_of (places_of p)) _ _ (P.places x) (P.places y) a.places b.places);
      counted = simp length-append (omega arith);
      decided = rw (places_append x y) (simp length-append (omega arith));
    }

-- built from nothing
pub emits_means : {p r : Program} {x : P.Program} → Means p [] → Emits p r x → Means r x
unfolding kinds_of P.places
emits_means {p} {r} {x} b e =
    record {
      instructions = e.instructions ∙ ap (λ l. l ++ kinds_of x) b.instructions;
      places = e.places ∙ ap (λ l. l ++ P.places x) b.places;
      counted = omega arith;
      decided = omega arith;
    }

-- ---- one instruction more

pub emit_bare : (p : Program) (i : Instruction) → Room p 1 0 → Bare i → Builds p (record p { instructions = set p.instructions p.length i; length = p.length + 1 }) 1 0 (instr_of i ∷ [])
unfolding kinds_of P.places
emit_bare p i room bare =
    record {
      long = record { instructions = length-set p.instructions p.length i ∙ room.long.instructions; places = room.long.places };
      emits = go i bare;
      few = omega arith;
      few_places = omega arith;
    }
  where
    one : (i : Instruction) → map number_of (take (p.length + 1) (set p.instructions p.length i)) ≡ map number_of (instructions_of p) ++ (number_of i ∷ [])
    one i = push number_of most_instructions p.instructions p.length i room.long.instructions (omega (arith, room.instructions))

    go : (i : Instruction) → Bare i → Emits p (record p { instructions = set p.instructions p.length i; length = p.length + 1 }) (instr_of i ∷ [])
    go does.Place b = absurd b
    go does.And b = record { instructions = one does.And; places = sym (append-nil _); counted = refl; decided = omega arith }
    go does.Or b = record { instructions = one does.Or; places = sym (append-nil _); counted = refl; decided = omega arith }
    go does.Not b = record { instructions = one does.Not; places = sym (append-nil _); counted = refl; decided = omega arith }
    go does.True b = record { instructions = one does.True; places = sym (append-nil _); counted = refl; decided = omega arith }
    go does.False b = record { instructions = one does.False; places = sym (append-nil _); counted = refl; decided = omega arith }

pub emit_place : (p : Program) (a : Place) → Room p 1 1 → Builds p (record { instructions = set p.instructions p.length does.Place; length = p.length + 1; places = set p.places p.decisions a; decisions = p.decisions + 1 }) 1 1 (place (place_of a) ∷ [])
unfolding kinds_of P.places
emit_place p a room =
    record {
      long =
          record {
            instructions = length-set p.instructions p.length does.Place ∙ room.long.instructions;
            places = length-set p.places p.decisions a ∙ room.long.places;
          };
      emits =
          record {
            instructions = push number_of most_instructions p.instructions p.length does.Place room.long.instructions (omega (arith, room.instructions));
            places = push place_of most_decisions p.places p.decisions a room.long.places (omega (arith, room.places));
            counted = refl;
            decided = refl;
          };
      few = omega arith;
      few_places = omega arith;
    }

-- ---- steps of a known size

-- room for more is room for less, and what is left of it after a step
pub room_less : {p : Program} {n m k l : ℕ} → Room p n m → k ≤ n → l ≤ m → Room p k l
room_less r h g = record { long = r.long; instructions = omega (arith, r.instructions); places = omega (arith, r.places) }

pub room_left : {p r : Program} {n m : ℕ} {x : P.Program} (k l : ℕ) → Room p (n + k) (m + l) → Builds p r n m x → Room r k l
room_left k l a b = record { long = b.long; instructions = omega (arith, a.instructions, b.few); places = omega (arith, a.places, b.few_places) }

-- one after another: the sizes add up
pub more : {p r s : Program} {n m k l : ℕ} {x y : P.Program} → Builds p r n m x → Builds r s k l y → Builds p s (n + k) (m + l) (x ++ y)
more a b = record { long = b.long; emits = a.emits then b.emits; few = omega arith; few_places = omega arith }

-- a larger bound
pub within : {p r : Program} {n m k l : ℕ} {x : P.Program} → n ≤ k → m ≤ l → Builds p r n m x → Builds p r k l x
within h g a = record { long = a.long; emits = a.emits; few = omega arith; few_places = omega arith }

-- the same instructions, said otherwise
pub said : {p r : Program} {n m : ℕ} {x y : P.Program} → x ≡ y → Builds p r n m x → Builds p r n m y
said {p} {r} {n} {m} e b = subst (λ x. Builds p r n m x) e b
