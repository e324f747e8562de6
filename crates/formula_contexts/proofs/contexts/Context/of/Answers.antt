use Rattle.std.proofs.Common.{sym, subst, take, get_or, arith}
use Rattle.std.proofs.Math.ListN.{length-map, length-take}
use Rattle.question.specs.Held.{question_of}
use Rattle.formula_contexts.specs.Contexts.{Of, Buildable, condition_for, modes_for, Done, no_row}
use Rattle.formula_contexts.proofs.Grounds.{reads_become}
use Rattle.formula_contexts.proofs.contexts.Context.of.Goals as goal

pub under-requires : goal.under-requires
under-requires c = let q = c.args.q.now in
    let vs = (get_or q.change.rows c.args.i no_row).values in
    record {
      list = (q.shape_held, q.few_tokens, subst (λ v. Buildable v q) c.in-Insert.is c.requires.0);
      change = (simp (length-map, length-take) (omega arith), record { few = omega arith; uses = tt; few_comparisons = omega arith }, reads_become (Of q.shape) (take q.shape.width vs));
    }

pub returns-in-Insert : goal.returns-in-Insert
unfolding question_of
returns-in-Insert c = let q = c.args.q.now in
    subst (λ v. Done q (condition_for v q) (modes_for v q c.args.i) c.args.pairs c.under.result) (sym c.in-Insert.is) (c.under.ensures q.version q.change)

pub returns-in-Delete : goal.returns-in-Delete
unfolding question_of
returns-in-Delete c = let q = c.args.q.now in
    subst (λ v. Done q (condition_for v q) (modes_for v q c.args.i) c.args.pairs c.under-in-Delete.result) (sym c.in-Delete.is) (c.under-in-Delete.ensures q.version q.change)

pub returns-in-Modify : goal.returns-in-Modify
unfolding question_of
returns-in-Modify c = let q = c.args.q.now in
    subst (λ v. Done q (condition_for v q) (modes_for v q c.args.i) c.args.pairs c.under-in-Modify.result) (sym c.in-Modify.is) (c.under-in-Modify.ensures q.version q.change)
