-- A part that is built piece by piece: the start, one piece, the end.
use mathlib.Core.Path.{◌≡◌, refl, sym, ap, ◌∙◌}
use mathlib.Core.List.{List, [], ◌∷◌, ◌++◌, append_assoc, append-nil}
use Prim.Native.Nat.{ℕ, ◌+◌, ◌≤◌, ◌<◌}
use native.Mathlib.Numerals.{add-one}
use native.Mathlib.Omega.{arith}
use lib.ListN.{length, get_or, drop}
use lib.Seq.{drop-cons}
use Rattle.page_formulas.specs.Program as P
use Rattle.program.specs.Built.{Room, Builds}
use Rattle.program.specs.declared.types.Program.{Program}
use Rattle.program.proofs.Emission.{◌then◌, emits_none}
use Rattle.pieces.specs.Pieces.{Partway}

-- no instruction fits any room
pub builds_none : {p : Program} {k l : ℕ} (n m : ℕ) → Room p k l → Builds p p n m []
builds_none {p} n m r = record { long = r.long; emits = emits_none p; few = omega arith; few_places = omega arith }

pub begin : {k l : ℕ} (n m a b : ℕ) (p : Program) (all : P.Program) → Room p k l → a ≤ n → b ≤ m → Partway n m p p a b all all
begin n m a b p all r h g = record { long = r.long; done = []; emits = emits_none p; whole = refl; few = omega arith; few_places = omega arith }

module _ {n m : ℕ} {p now : Program} {a b : ℕ} {left all : P.Program} (w : Partway n m p now a b left all) where
  -- room for what is left is room for a piece of it
  pub piece_room : (k l : ℕ) → k ≤ a → l ≤ b → Room p n m → Room now k l
  piece_room k l h g r = record { long = w.long; instructions = omega (arith, w.few, r.instructions); places = omega (arith, w.few_places, r.places) }

  pub piece : {next : Program} {k l : ℕ} {x : P.Program} (c d : ℕ) (rest : P.Program) → left ≡ x ++ rest → k + c ≤ a → l + d ≤ b → Builds now next k l x → Partway n m p next c d rest all
  piece {x = x} c d rest e h g s =
      record {
        long = s.long;
        done = w.done ++ x;
        emits = w.emits then s.emits;
        whole = append_assoc w.done x rest ∙ ap (λ l. w.done ++ l) (sym e) ∙ w.whole;
        few = omega (arith, w.few, s.few);
        few_places = omega (arith, w.few_places, s.few_places);
      }

  pub finish : left ≡ [] → Builds p now n m all
  finish e =
      let same : w.done ≡ all = sym (append-nil w.done) ∙ ap (λ l. w.done ++ l) (sym e) ∙ w.whole in
      record { long = w.long; emits = rw same at w.emits; few = omega (arith, w.few); few_places = omega (arith, w.few_places) }

-- what is left of a list, one entry further
pub next : {A : Type 0} (l : List A) (j : ℕ) (d : A) → j < length l → drop j l ≡ get_or l j d ∷ drop (j + 1) l
next l j d h = rw (add-one j) (drop-cons l j d h)
