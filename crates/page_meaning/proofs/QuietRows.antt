-- Yes: what has to hold of single rows, and of two rows that share their visible columns, for either verdict.
use mathlib.Core.Path.{◌≡◌, refl, sym, ◌∙◌}
use mathlib.Core.Logic.Iff
use mathlib.Core.Logic.{◌⊎◌, inl, inr}
use lib.Dec.{T}
use Rattle.page_meaning.specs.Contents.{Question, Change, Values, columns, fits, look, part, Contents, Valid, Full, values, row, Within, Listed, after_by, Same}
use Rattle.page_meaning.specs.WellFormed.{ChangeOk}
use Rattle.page_meaning.proofs.Words.{C}
use Rattle.page_meaning.proofs.Tables.{within_fits}
use Rattle.page_meaning.proofs.Fates.{Fate, Then, Seen}
use Rattle.page_meaning.proofs.RowsAfter.{fate_of, adding, Among, listed_after}

-- values of every column, in range
abbrev pub InRange : Question → Values → Type 0
InRange q u = T (fits (columns q) u)

-- a row that moves into the list was there
abbrev pub Enter : Question → Fate → Type 0
Enter q k = (u : Values) → InRange q u → T (k.moves (look u)) → T (C q (k.after (look u))) → T (C q (look u))

-- two rows that show the same
pub record Pair (q : Question) (u w : Values) : Type 0 where
  pub first : InRange q u
  pub second : InRange q w
  pub part : part q (look u) ≡ part q (look w)
  pub shown : T (C q (look u)) × T (C q (look w))

module _ (q : Question) (ch : Change) where
  abbrev k : Fate
  k = fate_of q ch

  pub record Quiet : Type 0 where
    pub remain : (u : Values) → InRange q u → T (C q (look u)) → Seen q k (look u)
    pub enter : Enter q k
    pub same : (u : Values) → InRange q u → T (k.moves (look u)) → T (C q (look u)) → T (C q (k.after (look u))) → part q (k.after (look u)) ≡ part q (look u)
    pub fresh : (c : Contents) → Valid q c → (v : Values) → ¬ Listed q (adding ch c) v

  pub record Settled : Type 0 where
    pub enter : Enter q k
    pub together : (u w : Values) → Pair q u w → Seen q k (look u) → Seen q k (look w)
    pub both : (u w : Values) → Pair q u w → T (k.moves (look u)) → T (k.moves (look w)) → T (C q (k.after (look u))) → T (C q (k.after (look w))) → part q (k.after (look u)) ≡ part q (k.after (look w))
    pub mixed : (u w : Values) → Pair q u w → T (k.moves (look u)) → T (k.stays (look w)) → T (C q (k.after (look u))) → part q (k.after (look u)) ≡ part q (look w)
    pub fresh : (c d : Contents) → Valid q c → Valid q d → (v : Values) → Listed q (adding ch c) v → Listed q (adding ch d) v

  module _ (ok : ChangeOk q ch) where
    pub unchanged : Quiet → (c : Contents) → Valid q c → Same (Listed q c) (Listed q (after_by q ch c))
    unchanged h c o v = (λ t. (listed_after q ch ok c o v).1 (inl (t.0, t.1, there t)), λ t. back ((listed_after q ch ok c o v).0 t))
      where
        there : (t : Listed q c v) → Then q k (row t.0) v
        there t = let u = values t.0 in let i = within_fits q c o t.0 t.1 in
            elim (h.remain u i t.2.0) [ inl s ↦ inl (s, t.2) | inr m ↦ inr (m.0, (m.1, h.same u i m.0 t.2.0 m.1 ∙ t.2.1)) ]

        back : Among c (λ x. Then q k (row x) v) ⊎ Listed q (adding ch c) v → Listed q c v
        back (inl t) = let u = values t.0 in let i = within_fits q c o t.0 t.1 in
            (t.0, t.1, elim t.2 [ inl s ↦ s.1 | inr m ↦ let n = h.enter u i m.0 m.1.0 in (n, sym (h.same u i m.0 n m.1.0) ∙ m.1.1) ])
        back (inr f) = absurd (h.fresh c o v f)

    -- what a row shows after the change, any other that shows the same before shows too
    partner : Settled → (u w : Values) → Pair q u w → (v : Values) → Then q k (look u) v → Then q k (look w) v
    partner h u w p v (inl s) =
        elim (h.together u w p (inl s.0)) [ inl t ↦ inl (t, (p.shown.1, sym p.part ∙ s.1.1)) | inr m ↦ inr (m.0, (m.1, h.mixed w u (turn p) m.0 s.0 m.1 ∙ s.1.1)) ]
      where
        turn : {u w : Values} → Pair q u w → Pair q w u
        turn p = record { first = p.second; second = p.first; part = sym p.part; shown = (p.shown.1, p.shown.0) }
    partner h u w p v (inr m) =
        elim (h.together u w p (inr (m.0, m.1.0))) [ inl t ↦ inl (t, (p.shown.1, sym (h.mixed u w p m.0 t m.1.0) ∙ m.1.1)) | inr n ↦ inr (n.0, (n.1, sym (h.both u w p m.0 n.0 m.1.0 n.1) ∙ m.1.1)) ]

    -- one direction
    along : Settled → (c d : Contents) → Valid q c → Valid q d → Same (Listed q c) (Listed q d) → (v : Values) → Listed q (after_by q ch c) v → Listed q (after_by q ch d) v
    along h c d o p same v t = (listed_after q ch ok d p v).1 (go ((listed_after q ch ok c o v).0 t))
      where
        met : (x : Full) → Within c x → Then q k (row x) v → T (C q (row x))
        met x i (inl s) = s.1.0
        met x i (inr m) = h.enter (values x) (within_fits q c o x i) m.0 m.1.0

        go : Among c (λ x. Then q k (row x) v) ⊎ Listed q (adding ch c) v → Among d (λ x. Then q k (row x) v) ⊎ Listed q (adding ch d) v
        go (inl t) = let x = t.0 in let n = met x t.1 t.2 in let y = (same (part q (row x))).0 (x, t.1, (n, refl)) in
            inl (y.0, y.1, partner h (values x) (values y.0) (record { first = within_fits q c o x t.1; second = within_fits q d p y.0 y.1; part = sym y.2.1; shown = (n, y.2.0) }) v t.2)
        go (inr f) = inr (h.fresh c d o p v f)

    pub alike : Settled → (c d : Contents) → Valid q c → Valid q d → Same (Listed q c) (Listed q d) → Same (Listed q (after_by q ch c)) (Listed q (after_by q ch d))
    alike h c d o p same v = (along h c d o p same v, along h d c p o (λ w. Iff.symm (same w)) v)
