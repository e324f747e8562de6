-- A program put after what stands in lent arrays, and what a step of the declared program is there.
use Rattle.std.proofs.Common.{◌≡◌, ℕ, ◌+◌, List, [], ◌∷◌, ◌++◌, map, length, take, refl, ap, ◌∙◌, arith}
use Rattle.page_formulas.specs.Program as P
use Rattle.program.specs.Meanings.{place_of, places_of}
use Rattle.program.specs.Built.{Long, Room, Builds, Means}
use Rattle.program.specs.declared.types.Place.{Place}
use Rattle.program.specs.declared.types.Program.{Program}
use Rattle.program.proofs.Emission.{emits_means}
use Rattle.program.proofs.Loans.{places_long}
use Rattle.program_arrays.specs.Arrays.{Arrays, RoomIn, BuildsIn}

-- what is put is as long as is said, and reads as is said
pub put_as : {A B : Type 0} (f : A → B) (l : List A) (old now xs : List B) (at to : ℕ) → to ≡ at + length l → map f l ≡ xs → take (at + length l) now ≡ take at old ++ map f l → take to now ≡ take at old ++ xs
put_as f l old now xs at to n e p = ap (λ k. take k now) n ∙ p ∙ ap (λ r. take at old ++ r) e

-- a part of each place
parts : {B : Type 0} (f : P.Place → B) (ps : List Place) → map (λ a. f (place_of a)) ps ≡ map f (map place_of ps)
parts f [] = refl
parts f (p ∷ ps) = ap (λ l. f (place_of p) ∷ l) (parts f ps)

pub put_part : {B : Type 0} (f : P.Place → B) (p : Program) (x : P.Program) (ps : List Place) (old now : List B) (at to : ℕ) → Means p x → ps ≡ places_of p → to ≡ at + p.decisions → take (at + length ps) now ≡ take at old ++ map (λ a. f (place_of a)) ps → take to now ≡ take at old ++ map f (P.places x)
put_part f p x ps old now at to m e n put =
    put_as (λ a. f (place_of a)) ps old now (map f (P.places x)) at to (omega (arith, n, ap length e ∙ places_long m)) (parts f ps ∙ ap (map f) (ap (map place_of) e ∙ m.places)) put

-- ---- from the declared program: a step that was written into an empty one, put after what stands in the arrays

-- room for the step there is room for it in the empty program
pub room_empty : {q : Arrays} {e : Program} {n m : ℕ} → Means e [] → Long e → RoomIn q n m → Room e n m
unfolding P.places
room_empty s l r = record { long = l; instructions = omega (arith, s.counted, r.instructions); places = omega (arith, s.decided, r.places) }

-- and for what it wrote
pub room_built : {q : Arrays} {e p : Program} {n m : ℕ} {x : P.Program} → Means e [] → Builds e p n m x → RoomIn q n m → RoomIn q p.length p.decisions
unfolding P.places
room_built s b r = record { long = r.long; instructions = omega (arith, s.counted, b.few, r.instructions); places = omega (arith, s.decided, b.few_places, r.places) }

-- what the step promises of the program holds of the arrays
pub appended : {q r : Arrays} {e p : Program} {n m : ℕ} {x : P.Program} → Means e [] → Builds e p n m x → ((y : P.Program) → Means p y → BuildsIn q r p.length p.decisions y) → BuildsIn q r n m x
unfolding P.places
appended {q} {r} {e} {p} {n} {m} {x} s b f =
    let a = f x (emits_means s b.emits) in
    record { long = a.long; emits = a.emits; few = omega (arith, s.counted, b.few, a.few); few_places = omega (arith, s.decided, b.few_places, a.few_places) }
