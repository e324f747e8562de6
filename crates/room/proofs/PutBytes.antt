-- Bytes put into a room: one after another, and what stands there in the end.
use Prim.Native.Nat.{ℕ, ◌+◌, ◌≤◌, ◌<◌}
use mathlib.Core.Path.{◌≡◌, refl, sym, ap, ◌∙◌}
use mathlib.Core.Bool.{Bool, true, false, cond, true≢false}
use mathlib.Core.List.{List, [], ◌∷◌, ◌++◌, append-nil}
use native.Mathlib.Numerals.{add-one}
use native.Mathlib.Omega.{arith}
use native.Mathlib.Decide.{dec_lt}
use lib.Dec.{ltb}
use lib.ListN.{length, get_or, take, drop, set, length-set, drop_of_length-le}
use lib.Seq.{drop-cons, take-suc-set, append_snoc}
use borrow.Author.Tests.{lt-ltb, le-ltb}
use Rattle.std.specs.Prelude.{Result, Ok, Err, IsErr}
use Rattle.room.specs.declared.Sink.{Sink}
use Rattle.room.specs.declared.Full.{Full}
use Rattle.room.specs.Room.{Filling, filling, stopped, stored, put_one, puts}

pub puts_append : (f : Filling) (bs cs : List ℕ) → puts f (bs ++ cs) ≡ puts (puts f bs) cs
unfolding puts
puts_append f [] cs = refl
puts_append f (b ∷ bs) cs = puts_append (put_one f b) bs cs

-- the next of some bytes
pub puts_next : (f g : Filling) (bs : List ℕ) (i : ℕ) → i < length bs → g ≡ put_one f (get_or bs i 0) → puts g (drop (i + 1) bs) ≡ puts f (drop i bs)
unfolding puts
puts_next f g bs i h e = rw (add-one, drop-cons bs i 0 h, e) refl

-- ---- one byte, by cases

pub put_over : (f : Filling) (b : ℕ) → f.over ≡ true → f ≡ put_one f b
put_over f b e = rw e

-- nothing is stored after a byte that found no room
pub puts_over : (f : Filling) (bs : List ℕ) → f.over ≡ true → puts f bs ≡ f
unfolding puts
puts_over f [] e = refl
puts_over f (b ∷ bs) e = rw (← put_over f b e) (puts_over f bs e)

pub put_fits : (f : Filling) (b : ℕ) → f.over ≡ false → f.at < length f.bytes → record { bytes = set f.bytes f.at b; at = f.at + 1; over = false } ≡ put_one f b
put_fits f b e h = rw (e, lt-ltb f.at (length f.bytes) h)

pub put_full : (f : Filling) (b : ℕ) → f.over ≡ false → length f.bytes ≤ f.at → record { bytes = f.bytes; at = f.at; over = true } ≡ put_one f b
put_full f b e h = rw (e, le-ltb f.at (length f.bytes) h)

-- a result that is handed on where a byte found no room
pub stopped_is : {A : Type 0} (t : Sink) (r : Result A Full) → IsErr r → filling t r ≡ stopped t
stopped_is t (Ok x) i = absurd (true≢false (sym i))
stopped_is t (Err x) i = refl

-- whatever was to come after that
pub stops : {A : Type 0} (t : Sink) (r : Result A Full) (f : Filling) (bs : List ℕ) → IsErr r → stopped t ≡ f → filling t r ≡ puts f bs
stops t r f bs i h = stopped_is t r i ∙ h ∙ sym (puts_over f bs (ap (λ g. g.over) (sym h)))

-- ---- the length stays

one_length : (f : Filling) (b : ℕ) → length (put_one f b).bytes ≡ length f.bytes
one_length f b = go f.over (ltb f.at (length f.bytes))
  where
    go : (o l : Bool) → length (cond o f (stored f.bytes f.at b l)).bytes ≡ length f.bytes
    go true l = refl
    go false true = length-set f.bytes f.at b
    go false false = refl

pub puts_length : (f : Filling) (bs : List ℕ) → length (puts f bs).bytes ≡ length f.bytes
unfolding puts
puts_length f [] = refl
puts_length f (b ∷ bs) = puts_length (put_one f b) bs ∙ one_length f b

-- ---- what stands in the room

over_stays : (f : Filling) (bs : List ℕ) → f.over ≡ true → (puts f bs).over ≡ true
over_stays f bs e = rw (puts_over f bs e) e

-- bytes that fit, after those that stand there
pub record Stand (f : Filling) (bs : List ℕ) (g : Filling) : Type 0 where
  pub inside : g.over ≡ false
  pub next : g.at ≡ f.at + length bs
  pub front : take g.at g.bytes ≡ take f.at f.bytes ++ bs

pub puts_fit : (f : Filling) (bs : List ℕ) → f.over ≡ false → f.at + length bs ≤ length f.bytes → Stand f bs (puts f bs)
unfolding puts
puts_fit f [] e h = record { inside = e; next = omega arith; front = sym (append-nil (take f.at f.bytes)) }
puts_fit f (b ∷ bs) e h =
    let l : f.at < length f.bytes = omega arith in
    let g : Filling = record { bytes = set f.bytes f.at b; at = f.at + 1; over = false } in
    let r : Stand g bs (puts g bs) = puts_fit g bs refl (omega (arith, length-set f.bytes f.at b)) in
    let one : take (f.at + 1) (set f.bytes f.at b) ≡ take f.at f.bytes ++ (b ∷ []) = rw (add-one, take-suc-set f.bytes f.at b l) in
    rw (← put_fits f b e l) (record { inside = r.inside; next = omega (arith, r.next); front = r.front ∙ ap (λ x. x ++ bs) one ∙ append_snoc (take f.at f.bytes) b bs })

pub puts_past : (f : Filling) (bs : List ℕ) → f.at ≤ length f.bytes → length f.bytes < f.at + length bs → (puts f bs).over ≡ true
unfolding puts
puts_past f [] m h = absurd (omega arith)
puts_past f (b ∷ bs) m h = go (λ g k l. puts_past g bs k l) f.over refl (dec_lt f.at (length f.bytes))
  where
    go : ((g : Filling) → g.at ≤ length g.bytes → length g.bytes < g.at + length bs → (puts g bs).over ≡ true) → (o : Bool) → f.over ≡ o → Dec (f.at < length f.bytes) → (puts (put_one f b) bs).over ≡ true
    go ih true e d = over_stays (put_one f b) bs (rw e)
    go ih false e (no n) = over_stays (put_one f b) bs (rw (← put_full f b e (omega arith)))
    go ih false e (yes l) = rw (← put_fits f b e l) (ih _ (omega (arith, length-set f.bytes f.at b)) (omega (arith, length-set f.bytes f.at b)))

pub puts_end : (f : Filling) (bs : List ℕ) (i : ℕ) → length bs ≤ i → puts f (drop i bs) ≡ f
unfolding puts
puts_end f bs i h = rw (drop_of_length-le bs h)
