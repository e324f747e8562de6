-- The parts of a line, one after another: what is written of the first and so many others, and the room that they take.
use Rattle.std.proofs.Common.{◌≡◌, ℕ, zero, suc, ◌+◌, ◌-◌, ◌≤◌, ◌<◌, Bool, true, false, List, [], ◌∷◌, ◌++◌, length, get_or, take, drop, refl, sym, ap, ◌∙◌, subst, add-one, arith}
use Rattle.std.proofs.Math.ListN.{length-map, length-drop, get_or-map}
use Rattle.std.proofs.Math.Seq.{take-suc, take_all, get_or-drop}
use Rattle.page_meaning.specs.Contents.{version1, version2, Question}
use Rattle.page_meaning.specs.Claims.{listed, relisted, chosen, fitting, moving, staying, differing, claims, read_part, read_parts}
use Rattle.page_meaning.specs.Claims as claim
use Rattle.page_meaning.specs.Limits.{most_decisions}
use Rattle.page_formulas.specs.Costs.{Cost, claim_cost, part_cost, denied_cost, joined_cost, costs, Fits}
use Rattle.page_formulas.specs.Costs as most
use Rattle.page_formulas.specs.Program as P
use Rattle.page_formulas.proofs.Rooms.{AtMost, parts_more, first_room, next_room}
use Rattle.program.specs.Built.{Long, Room, Builds, Means}
use Rattle.program.specs.declared.types.Program.{Program}
use Rattle.program.proofs.Emission.{emits_means, more, said, within, room_less}
use Rattle.pieces.proofs.Pieces.{next}
use Rattle.formula_lines.specs.Lines.{part_of, no_part, parts_of, first_of, rest_of, line_by, line_of}
use Rattle.formula_lines.specs.declared.types.Line.{Line}
use Rattle.formula_lines.specs.declared.types.Part.{Part}
use Rattle.formula_contexts.specs.declared.contexts.Context.{Context}
use Rattle.formula_claims.specs.Claims.{rows_of, words_of}

abbrev Adds : Program → Program → Cost → P.Program → Type 0
Adds p r c x = Builds p r c.instructions c.places x

-- ---- one part: its claim, and what denies it

pub either_row : (c : claim.Claim) (i : Bool) → claims costs (λ i. tt) c i ≡ claim_cost c
either_row listed i = refl
either_row relisted i = refl
either_row chosen i = refl
either_row fitting i = refl
either_row moving i = refl
either_row (staying version1) i = refl
either_row (staying version2) i = refl
either_row (differing j new) i = refl

-- a claim of either row, and the not after it
pub denied : (c : claim.Claim) (i : Bool) {p one next : Program} {x : P.Program} → Builds p one (claim_cost c).instructions (claim_cost c).places x → Builds one next 1 0 (P.not_i ∷ []) → Builds p next (denied_cost (claims costs (λ i. tt) c i)).instructions (denied_cost (claims costs (λ i. tt) c i)).places (x ++ (P.not_i ∷ []))
denied c i {p} {one} {next} {x} b j = subst (λ k. Adds p next (denied_cost k) (x ++ (P.not_i ∷ []))) (sym (either_row c i)) (within (omega arith) (omega arith) (more b j))

-- ---- a declared line

cut : {A : Type 0} (i : ℕ) (l : List A) → take i l ++ drop i l ≡ l
cut zero l = refl
cut (suc i) [] = refl
cut (suc i) (x ∷ l) = ap (λ m. x ∷ m) (cut i l)

-- those after the first, as the code lends them
abbrev tail_of : Line → List Part
tail_of l = take (length l.parts.now - 1) (drop 1 l.parts.now)

abbrev pub other_at : Line → ℕ → claim.Part
other_at l i = part_of (get_or (tail_of l) i no_part)

abbrev cost_of : Line → ℕ → Cost
cost_of l i = read_parts costs (λ i. tt) (first_of l) (take i (rest_of l))

-- the first part is written, and i others
abbrev pub Written : Question → Context → Line → Program → Program → ℕ → Type 0
Written Q d l p now i = Adds p now (cost_of l i) (read_parts (words_of Q d) (rows_of Q d.pairs) (first_of l) (take i (rest_of l)))

module _ (l : Line) where
  tail_is : tail_of l ≡ drop 1 l.parts.now
  tail_is = take_all (length l.parts.now - 1) (drop 1 l.parts.now) (simp length-drop (omega arith))

  rest_length : length (rest_of l) ≡ length (tail_of l)
  rest_length = rw tail_is (simp (length-drop, length-map) refl)

  part_is : (i : ℕ) → get_or (rest_of l) i (part_of no_part) ≡ other_at l i
  part_is i = get_or-drop 1 (parts_of l) i (part_of no_part) ∙ get_or-map part_of l.parts.now (1 + i) no_part ∙ ap part_of (sym (get_or-drop 1 l.parts.now i no_part) ∙ ap (λ ps. get_or ps i no_part) (sym tail_is))

  module _ (i : ℕ) (h : i < length (tail_of l)) where
    one_more : take (i + 1) (rest_of l) ≡ take i (rest_of l) ++ (other_at l i ∷ [])
    one_more =
        ap (λ n. take n (rest_of l)) (add-one i)
        ∙ take-suc (rest_of l) i (part_of no_part) (omega (arith, rest_length))
        ∙ ap (λ p. take i (rest_of l) ++ (p ∷ [])) (part_is i)

    and_then : take i (rest_of l) ++ (other_at l i ∷ drop (i + 1) (rest_of l)) ≡ rest_of l
    and_then =
        ap (λ p. take i (rest_of l) ++ (p ∷ drop (i + 1) (rest_of l))) (sym (part_is i))
        ∙ ap (λ k. take i (rest_of l) ++ k) (sym (next (rest_of l) i (part_of no_part) (omega (arith, rest_length))))
        ∙ cut i (rest_of l)

    more_cost : cost_of l (i + 1) ≡ joined_cost (cost_of l i) (part_cost (other_at l i))
    more_cost = ap (read_parts costs (λ i. tt) (first_of l)) one_more ∙ parts_more costs (λ i. tt) (first_of l) (take i (rest_of l)) (other_at l i)

    -- a part, then the instruction that joins it
    pub part_more : (Q : Question) (d : Context) (p now one next : Program) → Written Q d l p now i → Builds now one (part_cost (other_at l i)).instructions (part_cost (other_at l i)).places (read_part (words_of Q d) (rows_of Q d.pairs) (other_at l i)) → Builds one next 1 0 (P.and_i ∷ []) → Written Q d l p next (i + 1)
    part_more Q d p now one next w b j =
        let two = more w (more b j) in
        let e = ap (read_parts (words_of Q d) (rows_of Q d.pairs) (first_of l)) one_more ∙ parts_more (words_of Q d) (rows_of Q d.pairs) (first_of l) (take i (rest_of l)) (other_at l i) in
        record { long = two.long; emits = (said (sym e) two).emits; few = omega (arith, two.few, ap (λ c. c.instructions) more_cost); few_places = omega (arith, two.few_places, ap (λ c. c.places) more_cost) }

  module _ (f : Fits (line_of l)) where
    whole_cost : AtMost (read_parts costs (λ i. tt) (first_of l) (rest_of l)) (record { instructions = most.most_instructions; places = most_decisions })
    whole_cost = go l.pairs f
      where
        go : (b : Bool) → Fits (line_by b (first_of l) (rest_of l)) → AtMost (read_parts costs (λ i. tt) (first_of l) (rest_of l)) (record { instructions = most.most_instructions; places = most_decisions })
        go true f = (f.instructions, f.places)
        go false f = (f.instructions, f.places)

    module _ (p : Program) (long : Long p) (m : Means p []) where
      empty : p.decisions ≡ 0
      unfolding P.places
      empty = m.decided

      pub begin_room : Room p (part_cost (first_of l)).instructions (part_cost (first_of l)).places
      begin_room =
          let c = first_room (first_of l) (rest_of l) in
          record { long = long; instructions = omega (arith, c.0, whole_cost.0, m.counted); places = omega (arith, c.1, whole_cost.1, empty) }

      pub parts_all : (Q : Question) (d : Context) (now : Program) (i : ℕ) → length (tail_of l) ≤ i → Written Q d l p now i → Means now (read_parts (words_of Q d) (rows_of Q d.pairs) (first_of l) (rest_of l))
      parts_all Q d now i h w = subst (λ ps. Means now (read_parts (words_of Q d) (rows_of Q d.pairs) (first_of l) ps)) (take_all i (rest_of l) (omega (arith, rest_length))) (emits_means m w.emits)

      module _ (i : ℕ) (h : i < length (tail_of l)) (Q : Question) (d : Context) (now : Program) (w : Written Q d l p now i) where
        both_room : Room now ((part_cost (other_at l i)).instructions + 1) (part_cost (other_at l i)).places
        both_room =
            let c = next_room (first_of l) (take i (rest_of l)) (other_at l i) (drop (i + 1) (rest_of l)) in
            let k = ap (read_parts costs (λ i. tt) (first_of l)) (and_then i h) in
            record {
              long = w.long;
              instructions = omega (arith, c.0, ap (λ c. c.instructions) k, whole_cost.0, w.few, m.counted);
              places = omega (arith, c.1, ap (λ c. c.places) k, whole_cost.1, w.few_places, empty);
            }

        pub part_room : Room now (part_cost (other_at l i)).instructions (part_cost (other_at l i)).places
        part_room = room_less both_room (omega arith) (omega arith)

        pub and_room : (one : Program) (x : P.Program) → Builds now one (part_cost (other_at l i)).instructions (part_cost (other_at l i)).places x → Room one 1 0
        and_room one x b = record { long = b.long; instructions = omega (arith, both_room.instructions, b.few); places = omega (arith, both_room.places, b.few_places) }
