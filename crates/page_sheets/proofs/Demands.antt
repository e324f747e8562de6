-- The demands, proved.
use Prim.Native.Nat.{ℕ, ◌-◌, ◌<◌}
use mathlib.Core.Path.{◌≡◌, refl, sym, ap, ◌∙◌}
use mathlib.Core.Logic.{inl, inr, ◌↔◌}
use mathlib.Core.Bool.{Bool, true, false, ◌||◌, cond}
use mathlib.Core.List.{List, ◌++◌}
use native.Mathlib.Omega.{arith}
use lib.ListN.{length, get_or, take, replicate, length-append, length-replicate}
use lib.Seq.{take_at}
use lib.Dec.{eqb, leb, le→leb}
use borrow.Author.Tests.{leb-true, leb-false}
use Rattle.page_numbers.specs.Outcome.{good, refused}
use Rattle.page_meaning.specs.Contents.{Question}
use Rattle.page_meaning.specs.Limits.{most_vertices, limits}
use Rattle.page_formulas.specs.Formulas.{Formula, formulas, no_formula}
use Rattle.page_formulas.specs.Program.{Values}
use Rattle.page_formulas.proofs.ProperFormulas.{formulas_proper}
use Rattle.page_questions.specs.Guarantees.{Accepted, Every}
use Rattle.page_questions.specs.Reader.{Read, read_of}
use Rattle.page_questions.proofs.Guarantees.{accepted}
use Rattle.page_sheets.specs.Answers.{asked_of, judge, verdict_under, verdict_of, check_for, check_under, check_of, Done, placed, write_for, write_under, write_of}
use Rattle.page_sheets.specs.Demands.{Exact, Askable, Meant, IrrelevantExact, ComputableExact, PassYesProves, PassNoBreaks, PassYesBytes, HasPassingSheet, NeverOpposite, WrittenPasses, Fixed, RoomFixed, GreatestLeaf, OpenGreatest}
use Rattle.page_sheets.specs.Rows.{no_bytes}
use Rattle.page_sheets.specs.Sheet.{last_vertex, Verdict, say_yes, say_no, header, sheet_for, verdict_for, finding_under, finding_of, sheet_under, sheet_of, check_sheet}
use Rattle.page_sheets.specs.Trees.{Finding, all_shut, first_open}
use Rattle.page_sheets.proofs.Findings.{no_found, found_greatest, opens_at}
use Rattle.page_sheets.proofs.Fit.{Fit, fit_all, to_true}
use Rattle.page_sheets.proofs.Entries.{sheet_bytes}
use Rattle.page_sheets.proofs.PassingSheets.{Shown, passes_show}
use Rattle.page_sheets.proofs.Refusals.{pass_exactly}
use Rattle.page_sheets.proofs.Sheets.{sheet_passes, yes_fails, fails_yes, fails_meant, shown_breaks, no_fails}

-- ---- from the bytes to the question
pub asked_reads : (a : ℕ) (s : List ℕ) → Askable a → asked_of a s ≡ read_of s
asked_reads a s (inl e) = rw e refl
asked_reads a s (inr e) = rw e refl

reads_asked : (a : ℕ) (s : List ℕ) (q : Question) → asked_of a s ≡ good q → read_of s ≡ good q
reads_asked a s q e = go (eqb a 1 || eqb a 2) e
  where
    go : (b : Bool) → cond b (read_of s) (refused 20 0) ≡ good q → read_of s ≡ good q
    go true e = e
    go false e = let z : ◌≡◌ {A = ℕ} 0 1 = cc in absurd (omega arith)

-- a sheet that passes is for a question that was read
checked : (a : ℕ) (s sheet : List ℕ) (v : Verdict) → check_of a s sheet ≡ good v → (q : Question) × (read_of s ≡ good q) × (check_sheet q a sheet ≡ good v)
unfolding check_under
checked a s sheet v e = go (asked_of a s) refl e
  where
    go : (r : Read) → asked_of a s ≡ r → check_for limits a sheet r ≡ good v → (q : Question) × (read_of s ≡ good q) × (check_sheet q a sheet ≡ good v)
    go (good q) d e = (q, reads_asked a s q d, e)
    go (refused n o) d e = let z : ◌≡◌ {A = ℕ} 0 1 = cc in absurd (omega arith)

verdict_is : (a : ℕ) (s : List ℕ) (q : Question) → Askable a → read_of s ≡ good q → verdict_of a s ≡ good (verdict_for (finding_of q a))
unfolding verdict_under
verdict_is a s q h e = ap (judge limits a) (asked_reads a s h ∙ e)

check_is : (a : ℕ) (s sheet : List ℕ) (q : Question) → Askable a → read_of s ≡ good q → check_of a s sheet ≡ check_sheet q a sheet
unfolding check_under
check_is a s sheet q h e = ap (check_for limits a sheet) (asked_reads a s h ∙ e)

write_is : (a : ℕ) (s room : List ℕ) (q : Question) → Askable a → read_of s ≡ good q → write_of a s room ≡ placed (verdict_for (finding_of q a)) (sheet_of q a) room
unfolding write_under
write_is a s room q h e = ap (write_for limits a room) (asked_reads a s h ∙ e)

-- ---- demand 2
exact : (a : ℕ) → Askable a → Exact a (Meant (eqb a 1))
exact a h s q e =
    let ok = accepted s q e in
    let v = verdict_is a s q h e in
    let m = fails_meant q ok a in
    let yes_is : (verdict_of a s ≡ good say_yes) ↔ Meant (eqb a 1) q = (λ d. m.0 (yes_fails q ok a (cc)), λ t. v ∙ ap good (fails_yes q ok a (m.1 t))) in
    (yes_is, (λ d t. opposite (sym d ∙ yes_is.1 t), λ f. v ∙ no_case (verdict_for (finding_of q a)) (λ d. f (yes_is.0 (v ∙ ap good d)))))
  where
    opposite : good say_no ≡ good say_yes → ⊥
    opposite e = let z : ◌≡◌ {A = ℕ} 0 1 = cc in omega arith

    no_case : (v : Verdict) → ¬ (v ≡ say_yes) → good v ≡ good say_no
    no_case say_yes f = absurd (f refl)
    no_case say_no f = refl

pub irrelevant_exact : IrrelevantExact
irrelevant_exact = exact 1 (inl refl)

pub computable_exact : ComputableExact
computable_exact = exact 2 (inr refl)

-- ---- demand 3
shown : (a : ℕ) (s sheet : List ℕ) (v : Verdict) → check_of a s sheet ≡ good v → (q : Question) × (read_of s ≡ good q) × Accepted q × Shown q a sheet v
shown a s sheet v e = let c = checked a s sheet v e in let ok = accepted s c.0 c.1 in (c.0, c.1, ok, passes_show c.0 a sheet v (fit_all (formulas c.0 a) (formulas_proper c.0 ok a)) c.2)

pub pass_yes_proves : PassYesProves
pass_yes_proves a s sheet e = let r = shown a s sheet say_yes e in (r.0, r.1, (fails_meant r.0 r.2 a).0 r.3)

pub pass_no_breaks : PassNoBreaks
pass_no_breaks a s sheet e = let r = shown a s sheet say_no e in (r.0, r.1, shown_breaks r.0 r.2 a sheet r.3)

pub pass_yes_bytes : PassYesBytes
pass_yes_bytes a s sheet e =
    let x = (pass_exactly a s sheet say_yes).0 e in
    let q = x.1.0 in
    sheet_bytes q a (small x.0) sheet (fit_all (formulas q a) (formulas_proper q (accepted s q x.1.1) a)) (sym (check_is a s sheet q x.0 x.1.1) ∙ e)
  where
    small : Askable a → a < 256
    small (inl d) = omega (arith, d)
    small (inr d) = omega (arith, d)

pub has_passing_sheet : HasPassingSheet
has_passing_sheet a s q h e = (verdict_for (finding_of q a), sheet_of q a, verdict_is a s q h e, check_is a s (sheet_of q a) q h e ∙ sheet_passes q (accepted s q e) a)

pub never_opposite : NeverOpposite
never_opposite a s this that v w e d =
    let x = shown a s this v e in
    let y = shown a s that w d in
    let same : x.0 ≡ y.0 = cc (x.1, y.1) in
    go v w x.3 (rw (← same) at y.3)
  where
    q : Question
    q = (shown a s this v e).0

    go : (v w : Verdict) → Shown q a this v → Shown q a that w → v ≡ w
    go say_yes say_yes x y = refl
    go say_yes say_no x y = absurd (no_fails q (shown a s this v e).2 a that y x)
    go say_no say_yes x y = absurd (no_fails q (shown a s this v e).2 a this x y)
    go say_no say_no x y = refl

-- a sheet that passes tells the verdict
pub verdict_by_lem : (a : ℕ) (s sheet : List ℕ) (v : Verdict) → Askable a → check_of a s sheet ≡ good v → verdict_of a s ≡ good v
verdict_by_lem a s sheet v h e =
    let c = checked a s sheet v e in
    let p = has_passing_sheet a s c.0 h c.1 in
    p.2 ∙ ap good (never_opposite a s p.1 sheet p.0 v p.3 e)

pub written_passes : WrittenPasses
written_passes a s q h e room l =
    let v = verdict_for (finding_of q a) in
    let t = to_true (leb (length (sheet_of q a)) (length room)) (le→leb (length (sheet_of q a)) (length room) l) in
    let w : write_of a s room ≡ record { answer = good (v, length (sheet_of q a)); room = sheet_of q a ++ replicate (length room - length (sheet_of q a)) 0 } = write_is a s room q h e ∙ rw t refl in
    (v, ap (λ d. d.answer) w, verdict_is a s q h e, ap (λ d. check_of a s (take (length (sheet_of q a)) d.room)) w ∙ ap (check_of a s) (take_at (sheet_of q a) (replicate (length room - length (sheet_of q a)) 0) (length (sheet_of q a)) refl) ∙ check_is a s (sheet_of q a) q h e ∙ sheet_passes q (accepted s q e) a)

-- ---- demand 1
pub room_fixed : RoomFixed
unfolding write_under verdict_under
room_fixed a s room = go (asked_of a s) refl
  where
    put : (q : Question) → asked_of a s ≡ good q → (b : Bool) → leb (length (sheet_of q a)) (length room) ≡ b → (d : Done) → d ≡ cond b (record { answer = good (verdict_for (finding_of q a), length (sheet_of q a)); room = sheet_of q a ++ replicate (length room - length (sheet_of q a)) 0 }) (record { answer = refused 21 0; room = replicate (length room) 0 }) → Fixed a s room d.answer d.room × (length d.room ≡ length room)
    put q e true l d f =
        let fits = leb-true (length (sheet_of q a)) (length room) l in
        rw f ((q, e, ap (judge limits a) e, refl, fits, refl), simp (length-append, length-replicate) (omega (arith, fits)))
    put q e false l d f = rw f (inr (q, e, leb-false (length (sheet_of q a)) (length room) l, refl, refl, refl), length-replicate (length room) 0)

    go : (r : Read) → asked_of a s ≡ r → Fixed a s room (write_for limits a room r).answer (write_for limits a room r).room × (length (write_for limits a room r).room ≡ length room)
    go (good q) e = put q e (leb (length (sheet_of q a)) (length room)) refl (placed (verdict_for (finding_of q a)) (sheet_of q a) room) refl
    go (refused n o) e = (inl (e, refl), refl)

-- ---- the values of a no sheet
pub open_greatest : OpenGreatest
unfolding sheet_under finding_under
open_greatest a s q h e v = go (finding_of q a) refl (sym (verdict_is a s q h e) ∙ v)
  where
    fit_formulas : Every (Fit most_vertices) (formulas q a)
    fit_formulas = fit_all (formulas q a) (formulas_proper q (accepted s q e) a)

    go : (f : Finding) → finding_of q a ≡ f → good (verdict_for f) ≡ good say_no
        → (i : ℕ) × (F : Formula) × (x : Values) × (sheet_for q a f ≡ header a say_no ++ no_bytes q i F x) × (i < length (formulas q a)) × (get_or (formulas q a) i no_formula ≡ F) × GreatestLeaf F x
    go (all_shut ts) d k = absurd (let z : ◌≡◌ {A = ℕ} 0 1 = cc in omega arith)
    go (first_open i F x) d k =
        let o = opens_at (formulas q a) i F x (no_found last_vertex (formulas q a) fit_formulas i F x d) no_formula in
        (i, F, x, refl, o.0, o.1, found_greatest last_vertex (formulas q a) fit_formulas i F x d)
