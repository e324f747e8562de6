-- Modify: its formulas are exact.
use Prim.Native.Nat.{ℕ}
use mathlib.Core.Path.{◌≡◌, refl, sym, subst}
use mathlib.Core.Logic.{inl, inr, ◌≢◌}
use mathlib.Core.Bool.{Bool, true, false, not, ◌&&◌, cond}
use mathlib.Core.List.{List, map}
use lib.Dec.{T, T_not}
use Rattle.page_meaning.specs.Condition.{Condition, Row, meets}
use Rattle.page_meaning.specs.Contents.{Version, version1, version2, Question, modify, Mode, Values, look, part, Shows, Same}
use Rattle.page_meaning.specs.WellFormed.{ChangeOk}
use Rattle.page_meaning.specs.Claims.{retirement, kept, mode_at}
use Rattle.page_meaning.specs.Trouble.{All, AllFail, moved, new_fits, formula}
use Rattle.page_meaning.proofs.Words.{C, S, moves, staying_of, leaving_of, differ}
use Rattle.page_meaning.specs.Witness.{witness}
use Rattle.page_meaning.proofs.Truth.{and_in, and_r, or_cases, or_l, or_r, parts, test}
use Rattle.page_meaning.proofs.MovedRows.{kept_same, differ_yes, differ_no}
use Rattle.page_meaning.proofs.Fates.{Fate, Then, Seen, vanishes, appears, alters, both_show, one_left, two_moved, one_moved}
use Rattle.page_meaning.proofs.RowsAfter.{modify_fate, fate_of}
use Rattle.page_meaning.proofs.QuietRows.{InRange}
use Rattle.page_meaning.proofs.BreakingContents.{Breaks1, Breaks2, Broken1, Exact, breaks1, breaks2, breaks2_empty}

-- ---- visible parts, by the columns not kept

module _ (q : Question) (ms : List Mode) where
  kept_moved : (r : Row) (i : ℕ) → T (kept (mode_at q ms i)) → moved q ms r i ≡ r i
  unfolding moved
  kept_moved r i t = kept_same (mode_at q ms i) r (r i) t

  part_same : (a b u w : Row) → ((i : ℕ) → T (kept (mode_at q ms i)) → (a i ≡ u i) × (b i ≡ w i)) → part q u ≡ part q w → ¬ T (differ q ms a b) → part q a ≡ part q b
  unfolding part
  part_same a b u w k e f = differ_no (mode_at q ms) a b u w k q.visible e f

  part_apart : (a b : Row) → T (differ q ms a b) → part q a ≢ part q b
  unfolding part
  part_apart a b t = differ_yes (mode_at q ms) a b q.visible t

module _ (q : Question) (d : Condition) (ms : List Mode) where
  abbrev k : Fate
  k = fate_of q (modify d ms)

  -- two rows, the first and the second
  abbrev pair : Values → Values → Bool → Row
  pair u w i = cond i (look w) (look u)

  -- its range tests
  abbrev within : Row → Bool
  within r = new_fits q.changed ms r

  -- S says of a row that met C that it is still seen
  still : (v : Version) (r : Row) → T (S q d ms v r) → Seen q (modify_fate v q d ms) r
  still version1 r t = elim (or_cases (not (moves q d ms r)) (C q (moved q ms r)) t) [ inl n ↦ inl n | inr c ↦ elim (test (moves q d ms r)) [ inl m ↦ inr (m, c) | inr n ↦ inl n ] ]
  still version2 r t =
      elim (or_cases (not (meets d r)) (within r && C q (moved q ms r)) t)
      [ inl n ↦ inl n | inr c ↦ elim (test (meets d r)) [ inl m ↦ let f : T (within r) = search parts in inr (search and_in, search parts) | inr n ↦ inl n ] ]

  seen : (v : Version) (r : Row) → Seen q (modify_fate v q d ms) r → T (S q d ms v r)
  seen version1 r (inl n) = or_l (not (moves q d ms r)) (C q (moved q ms r)) n
  seen version1 r (inr m) = or_r (not (moves q d ms r)) (C q (moved q ms r)) m.1
  seen version2 r (inl n) = or_l (not (meets d r)) (within r && C q (moved q ms r)) n
  seen version2 r (inr m) = or_r (not (meets d r)) (within r && C q (moved q ms r)) (and_in (within r) (C q (moved q ms r)) (and_r (meets d r) (within r) m.0) m.1)

  -- a listed row that moves out of the list
  moved_out : (r : Row) → T (moves q d ms r) → T (not (C q (moved q ms r))) → ¬ Seen q k r
  moved_out r m n s = elim s [ inl t ↦ k.apart r t m | inr t ↦ T_not (C q (moved q ms r)) n t.1 ]

  -- a row that the store removes
  removed : (r : Row) → T (meets d r) → T (not (within r)) → ¬ Seen q (modify_fate version2 q d ms) r
  removed r t n s = elim s [ inl h ↦ T_not (meets d r) h t | inr m ↦ T_not (within r) n (and_r (meets d r) (within r) m.0) ]

  -- a listed row that does not move is seen where none is removed
  unmoved_seen : (v : Version) → AllFail q (map (formula q d ms) (retirement v)) → (u : Values) → InRange q u → T (C q (look u)) → T (not (moves q d ms (look u))) → Seen q (modify_fate v q d ms) (look u)
  unmoved_seen version1 f u i c n = inl n
  unmoved_seen version2 f u i c n = elim (test (meets d (look u))) [
    | inl t ↦ elim (test (within (look u))) [ inl g ↦ absurd (T_not (moves q d ms (look u)) n (search and_in)) | inr g ↦ absurd (f.0 (u, i, search and_in)) ]
    | inr t ↦ inl t
  ]

  module _ (ok : ChangeOk q (modify d ms)) where
    break1 : (u : Values) → InRange q u → ¬ Same (Shows q (look u)) (Then q k (look u)) → Breaks1 q (modify d ms) (witness q (modify d ms) u)
    break1 u h = breaks1 q (modify d ms) ok (λ r i. i) u h

    break2 : (u w : Values) → InRange q u → InRange q w → part q (look u) ≡ part q (look w) → T (C q (look u)) → T (C q (look w))
        → ¬ Same (Then q k (look u)) (Then q k (look w)) → Breaks2 q (modify d ms) (witness q (modify d ms) u) (witness q (modify d ms) w)
    break2 u w h i e c b = breaks2 q (modify d ms) ok (λ r i. i) u w h i (both_show q k (look u) (look w) c b e)

    retired : (v : Version) → q.version ≡ v → All (Broken1 q (modify d ms)) (map (formula q d ms) (retirement v))
    retired version1 e = tt
    retired version2 e = (
      λ m. let r = look m.0 in let t : T (meets d r) = search parts in let n : T (not (within r)) = search parts in
          break1 m.0 m.1 (vanishes q k r (search parts) (subst (λ v. ¬ Seen q (modify_fate v q d ms) r) (sym e) (removed r t n))),
      tt,
    )

    pub modify_exact : Exact q (modify d ms)
    modify_exact = record {
      quiet = λ f. record {
        remain = λ u i c. elim (test (moves q d ms (look u))) [
          | inl m ↦ elim (test (C q (moved q ms (look u)))) [ inl n ↦ inr (m, n) | inr n ↦ absurd (f.0 (u, i, search and_in)) ]
          | inr n ↦ unmoved_seen q.version f.1.1.1 u i c n
        ];
        enter = λ u i m n. elim (test (C q (look u))) [ inl c ↦ c | inr c ↦ absurd (f.1.0 (u, i, search and_in)) ];
        same = λ u i m c n. part_same q ms (moved q ms (look u)) (look u) (look u) (look u) (λ j t. (kept_moved q ms (look u) j t, refl)) refl (λ t. f.1.1.0 (u, i, search and_in));
        fresh = λ c o v t. t.1.here;
      };
      settled = λ f. record {
        enter = λ u i m n. elim (test (C q (look u))) [ inl c ↦ c | inr c ↦ absurd (f.0 (u, i, search and_in)) ];
        together = λ u w p s. let c = p.shown.0 in let b = p.shown.1 in let t = rw (← staying_of q d ms q.version (pair u w) false) at (seen q.version (look u) s) in
            elim (test (S q d ms q.version (look w))) [ inl t ↦ still q.version (look w) t | inr n ↦ let g = rw (← staying_of q d ms q.version (pair u w) true) at n in absurd (f.1.0 (u, w, p.first, p.second, p.part, search and_in)) ];
        both = λ u w p m n g h. let c = p.shown.0 in let b = p.shown.1 in
            part_same q ms (moved q ms (look u)) (moved q ms (look w)) (look u) (look w) (λ i t. (kept_moved q ms (look u) i t, kept_moved q ms (look w) i t)) p.part
            (λ t. f.1.1.0 (u, w, p.first, p.second, p.part, search and_in depth 9));
        mixed = λ u w p m n g. let c = p.shown.0 in let b = p.shown.1 in let h = rw (← leaving_of q d ms q.version (pair u w) true) at n in
            part_same q ms (moved q ms (look u)) (look w) (look u) (look w) (λ i t. (kept_moved q ms (look u) i t, refl)) p.part
            (λ t. f.1.1.1.0 (u, w, p.first, p.second, p.part, search and_in depth 9));
        fresh = λ c e o p v t. absurd t.1.here;
      };
      broken1 = (
        λ m. break1 m.0 m.1 (vanishes q k (look m.0) (search parts) (moved_out (look m.0) (search parts) (search parts))),
        (
          λ m. break1 m.0 m.1 (appears q k (look m.0) (search parts) (T_not (C q (look m.0)) (search parts)) (search parts)),
          (λ m. break1 m.0 m.1 (alters q k (look m.0) (search parts) (search parts) (part_apart q ms (moved q ms (look m.0)) (look m.0) (search parts))), retired q.version refl),
        ),
      );
      broken2 = (
        λ m. breaks2_empty q (modify d ms) ok (λ r i. i) m.0 m.1 (T_not (C q (look m.0)) (search parts)) (part q (moved q ms (look m.0))) (inr (search parts, (search parts, refl))),
        (
          λ m. let t = rw (staying_of q d ms q.version (pair m.0 m.1) false, staying_of q d ms q.version (pair m.0 m.1) true) at m.5 in
              break2 m.0 m.1 m.2 m.3 m.4 (search parts) (search parts)
              (one_left q k (look m.0) (look m.1) (search parts) (still q.version (look m.0) (search parts)) (λ s. T_not (S q d ms q.version (look m.1)) (search parts) (seen q.version (look m.1) s))),
          (
            λ m. break2 m.0 m.1 m.2 m.3 m.4 (search parts depth 9) (search parts depth 9)
                (two_moved q k (look m.0) (look m.1) (search parts depth 9) (search parts depth 9) (search parts) (part_apart q ms (moved q ms (look m.0)) (moved q ms (look m.1)) (search parts))),
            (
              λ m. let t = rw (leaving_of q d ms q.version (pair m.0 m.1) true) at m.5 in
                  break2 m.0 m.1 m.2 m.3 m.4 (search parts depth 9) (search parts depth 9)
                  (one_moved q k (look m.0) (look m.1) (search parts depth 9) (search parts depth 9) (search parts) (part_apart q ms (moved q ms (look m.0)) (look m.1) (search parts))),
              tt,
            ),
          ),
        ),
      );
    }
