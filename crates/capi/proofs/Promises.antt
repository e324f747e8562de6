-- Two results that a contract of the C interface allows are equal: the result, what stands behind the pointers, and the room.
use Prim.Native.Nat.{ℕ}
use mathlib.Core.Path.{◌≡◌, sym, ap, ◌∙◌}
use mathlib.Core.List.{List}
use Rattle.page_sheets.specs.Answers.{verdict_of, write_of, check_of}
use Rattle.capi.specs.Returns.{Returned, leaves, leaves_room, answer, done}

-- three numbers that a function may leave, each for each the same
abbrev pub Left : Returned → ℕ → ℕ → ℕ → Type 0
Left x number verdict place = leaves number verdict place ≡ x

left_unique : (x : Returned) (n n' v v' p p' : ℕ) → Left x n v p → Left x n' v' p' → (n ≡ n') × (v ≡ v') × (p ≡ p')
left_unique x n n' v v' p p' e e' = let d = e ∙ sym e' in (ap (λ y. y.number) d, ap (λ y. y.verdict) d, ap (λ y. y.place) d)

pub vu_verdict_unique : (a : ℕ) (s : List ℕ) (n n' v v' p p' : ℕ) → Left (answer (verdict_of a s)) n v p → Left (answer (verdict_of a s)) n' v' p' → (n ≡ n') × (v ≡ v') × (p ≡ p')
vu_verdict_unique a s = left_unique (answer (verdict_of a s))

pub vu_check_unique : (a : ℕ) (s sheet : List ℕ) (n n' v v' p p' : ℕ) → Left (answer (check_of a s sheet)) n v p → Left (answer (check_of a s sheet)) n' v' p' → (n ≡ n') × (v ≡ v') × (p ≡ p')
vu_check_unique a s sheet = left_unique (answer (check_of a s sheet))

-- and the room as it is then
pub vu_write_unique : (a : ℕ) (s room : List ℕ) (n n' v v' p p' : ℕ) (new new' : List ℕ)
    → leaves_room n v p new ≡ done (write_of a s room) → leaves_room n' v' p' new' ≡ done (write_of a s room)
    → (n ≡ n') × (v ≡ v') × (p ≡ p') × (new ≡ new')
vu_write_unique a s room n n' v v' p p' new new' e e' =
    let r = left_unique (done (write_of a s room)).returned n n' v v' p p' (ap (λ f. f.returned) e) (ap (λ f. f.returned) e') in
    (r.0, r.1, r.2, ap (λ f. f.room) (e ∙ sym e'))
