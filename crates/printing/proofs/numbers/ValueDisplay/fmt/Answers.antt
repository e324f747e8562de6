use Rattle.std.proofs.Common.{◌≡◌, ap, ◌∙◌, w32, to_z, of_z, rules}
use Rattle.std.specs.Prelude.{decimal, nat_abs}
use Rattle.printing.proofs.Texts.{plain_value, not_below, written}
use Rattle.printing.proofs.numbers.ValueDisplay.fmt.Goals as goal
use Rattle.printing.proofs.numbers.ValueDisplay.fmt.Goals.{After-as_str}

-- a value is what its bits say
back : (g : _) (c : After-as_str g) → to_z w32 (of_z w32 c.args.self.now.0) ≡ c.args.self.now.0
back g c = search rules

-- the digits that are handed on are those of the value without its sign
digits : (g : _) (c : After-as_str g) → c.as_str.result.now ≡ decimal (nat_abs c.args.self.now.0)
digits g c = c.as_str.ensures.value ∙ written _ _ _ c.new-digits.ensures.text c.new-digits.ensures.intact c.in_ok-write.ensures.writes ∙ ap decimal (rw (back g c) at c.magnitude.ensures)

pub returns-clause-styled : goal.returns-clause-styled
returns-clause-styled g c = λ flush ok.
    let h = (goal.at.returns-clause-styled g c).After-as_str in
    let w = c.pad_integral.ensures.styled flush ok in
    rw (← not_below c.args.self.now.0, ← digits g h) (simp (back g h) at w)

-- with no options, that is the value in decimal
pub returns-clause-writes : goal.returns-clause-writes
returns-clause-writes g c = λ p ok.
    let h = (goal.at.returns-clause-writes g c).After-as_str in
    let w = c.pad_integral.ensures.styled p.flush ok in record {
      wrote = rw (← plain_value c.args.f.now p.bare c.args.self.now.0, ← not_below c.args.self.now.0, ← digits g h) (simp (back g h) at w.wrote);
      plain = record { bare = rw w.spec p.bare; flush = w.flush };
    }
