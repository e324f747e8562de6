use Rattle.std.proofs.Common.{Err, Ok, arith}
use Rattle.page_meaning.specs.Contents.{Question}
use Rattle.question.specs.Held.{verb_number, question_of, question_with}
use Rattle.question.proofs.Guaranteed.{held_of}
use mathlib.Core.Path.{refl, sym, ◌∙◌}
use Rattle.page_questions.specs.Reader.{from_tables, from_kind, from_changed, from_widths, from_columns, from_condition, from_change}
use Rattle.fields.proofs.Chain.{ends_after, ends_at}
use Rattle.page_questions.proofs.FieldLaws.{is_within}
use Rattle.reader.proofs.Chain.{from_fields, from_hidden, from_shown, from_end, from_more, with_columns, with_condition, with_change, cut_change, reads_refused, version_refused, version_good, after_version, version_accepted, from_front}
use Rattle.reader.proofs.from_version.Goals as goal

pub returns-in_err-version : goal.returns-in_err-version
returns-in_err-version c = reads_refused _ c.from_residual.ensures.1 (version_refused _ _ _ c.in_err-version.ensures)

pub returns-in_err-tables : goal.returns-in_err-tables
unfolding from_tables
returns-in_err-tables c = reads_refused _ c.from_residual-in_err-tables.ensures.1 (after_version question_of c.in_ok-version.ensures refl refl (ends_at _ c.in_err-tables.ensures))

pub returns-in_err-verb : goal.returns-in_err-verb
unfolding from_tables from_kind
returns-in_err-verb c = reads_refused _ c.from_residual-in_err-verb.ensures.1 (after_version question_of c.in_ok-version.ensures refl refl (ends_after _ c.in_ok-tables.ensures (ends_at _ c.in_err-verb.ensures)))

pub returns-in_err-changed : goal.returns-in_err-changed
unfolding from_tables from_kind from_changed
returns-in_err-changed c = reads_refused _ c.from_residual-in_err-changed.ensures.1 (after_version question_of c.in_ok-version.ensures refl refl
    (ends_after _ c.in_ok-tables.ensures (ends_after _ c.in_ok-verb.ensures (ends_at _ c.in_err-changed.ensures))))

pub widths-requires : goal.widths-requires
widths-requires c = let k = is_within _ 4 _ _ _ _ _ c.in_ok-tables.ensures.meaning in omega (arith, k.1)

pub returns-in_err-widths : goal.returns-in_err-widths
unfolding from_tables from_kind from_changed from_widths
returns-in_err-widths c = reads_refused _ c.from_residual-in_err-widths.ensures.1 (after_version question_of c.in_ok-version.ensures refl refl
    (ends_after _ c.in_ok-tables.ensures (ends_after _ c.in_ok-verb.ensures (ends_after _ c.in_ok-changed.ensures (ends_at _ c.in_err-widths.ensures.meaning)))))

pub shape-shape-requires-clause-changed_lt_n : goal.shape-shape-requires-clause-changed_lt_n
shape-shape-requires-clause-changed_lt_n c = let k = is_within _ 4 _ _ _ _ _ c.in_ok-changed.ensures.meaning in omega (arith, k.1)

pub returns-in_err-columns : goal.returns-in_err-columns
unfolding from_columns
returns-in_err-columns c = let h = c.shape-shape.result in
    let e = c.shape-shape.ensures in
    reads_refused _ c.from_residual-in_err-columns.ensures.1
    (after_version question_of c.in_ok-version.ensures refl refl
    (from_front h c.in_ok-tables.ensures c.in_ok-verb.ensures c.in_ok-changed.ensures c.in_ok-widths.ensures.meaning e.result_value e.changed_value
    (ends_at _ (with_columns h e.shape_held c.in_err-columns.ensures))))

pub returns-then-not-some_visible : goal.returns-then-not-some_visible
unfolding from_columns
returns-then-not-some_visible c = let h = c.shape-shape.result in
    let e = c.shape-shape.ensures in
    record {
      meaning =
          after_version question_of {r = Err c.at.result} c.in_ok-version.ensures refl refl
          (from_front h c.in_ok-tables.ensures c.in_ok-verb.ensures c.in_ok-changed.ensures c.in_ok-widths.ensures.meaning e.result_value e.changed_value
          (ends_after _ (with_columns h e.shape_held c.in_ok-columns.ensures)
          (from_hidden h (verb_number c.in_ok-verb.verb) c.in_ok-columns.columns (sym c.if-not-some_visible.ensures) (rw c.at.ensures refl))));
      held = tt;
    }

pub returns-in_err-condition : goal.returns-in_err-condition
unfolding from_columns from_condition
returns-in_err-condition c = let h = c.shape-shape.result in
    let e = c.shape-shape.ensures in
    reads_refused _ c.from_residual-in_err-condition.ensures.1
    (after_version question_of c.in_ok-version.ensures refl refl
    (from_front h c.in_ok-tables.ensures c.in_ok-verb.ensures c.in_ok-changed.ensures c.in_ok-widths.ensures.meaning e.result_value e.changed_value
    (ends_after _ (with_columns h e.shape_held c.in_ok-columns.ensures)
    (from_shown h (verb_number c.in_ok-verb.verb) c.in_ok-columns.columns (sym c.if-not-some_visible.ensures)
    (ends_at _ (with_condition h e.shape_held c.in_err-condition.ensures.meaning))))))

pub returns-in_err-change : goal.returns-in_err-change
unfolding from_columns from_condition from_change
returns-in_err-change c = let h = c.shape-shape.result in
    let e = c.shape-shape.ensures in
    reads_refused _ c.from_residual-in_err-change.ensures.1
    (after_version question_of c.in_ok-version.ensures refl refl
    (from_front h c.in_ok-tables.ensures c.in_ok-verb.ensures c.in_ok-changed.ensures c.in_ok-widths.ensures.meaning e.result_value e.changed_value
    (ends_after _ (with_columns h e.shape_held c.in_ok-columns.ensures)
    (from_shown h (verb_number c.in_ok-verb.verb) c.in_ok-columns.columns (sym c.if-not-some_visible.ensures)
    (ends_after _ (with_condition h e.shape_held c.in_ok-condition.ensures.meaning)
    (ends_at _ (with_change h e.shape_held (verb_number c.in_ok-verb.verb) c.in_ok-columns.columns (cut_change h c.in_ok-columns.columns (omega arith) (verb_number c.in_ok-verb.verb) c.in_err-change.ensures.meaning))))))))

pub returns-then-from : goal.returns-then-from
returns-then-from c = let h = c.shape-shape.result in
    let e = c.shape-shape.ensures in
    record {
      meaning =
          after_version question_of {r = Err c.at-then-from.result} c.in_ok-version.ensures refl refl
          (from_fields h e.shape_held c.in_ok-columns.columns c.in_ok-tables.ensures c.in_ok-verb.ensures c.in_ok-changed.ensures c.in_ok-widths.ensures.meaning e.result_value e.changed_value
          c.in_ok-columns.ensures (sym c.if-not-some_visible.ensures) c.in_ok-condition.ensures.meaning (cut_change h c.in_ok-columns.columns (omega arith) (verb_number c.in_ok-verb.verb) c.in_ok-change.ensures.meaning)
          (from_more _ c.if-from.true (rw c.at-then-from.ensures refl)));
      held = tt;
    }

pub invariant_of-result : goal.invariant_of-result
invariant_of-result c = let h = c.shape-shape.result in
    let e = c.shape-shape.ensures in
    let same = c.in_ok-change.ensures.meaning.same ∙ c.in_ok-condition.ensures.meaning.same ∙ c.in_ok-columns.ensures.same ∙ c.in_ok-widths.ensures.meaning.same ∙ c.in_ok-changed.ensures.same ∙ c.in_ok-verb.ensures.same ∙ c.in_ok-tables.ensures.same in
    let q = question_with c.in_ok-version.version h c.in_ok-columns.columns c.in_ok-condition.condition c.in_ok-change.change in
    record {
      shape_held = e.shape_held;
      few_tokens = c.in_ok-condition.ensures.few_tokens;
      change_held = c.in_ok-change.ensures.held;
      accepted =
          version_accepted c.args.s.now _ q c.in_ok-version.ensures
          (sym (after_version (λ (x : Question). x) {r = Ok q} c.in_ok-version.ensures refl refl
          (from_fields h e.shape_held c.in_ok-columns.columns c.in_ok-tables.ensures c.in_ok-verb.ensures c.in_ok-changed.ensures c.in_ok-widths.ensures.meaning e.result_value e.changed_value
          c.in_ok-columns.ensures (sym c.if-not-some_visible.ensures) c.in_ok-condition.ensures.meaning (cut_change h c.in_ok-columns.columns (omega arith) (verb_number c.in_ok-verb.verb) c.in_ok-change.ensures.meaning)
          (from_end c.in_ok-version.version h c.in_ok-columns.columns c.in_ok-condition.condition c.in_ok-change.change refl (version_good _ _ c.in_ok-version.ensures).1 same c.if-from.false))));
    }

pub returns : goal.returns
unfolding question_of
returns c = let h = c.shape-shape.result in
    let e = c.shape-shape.ensures in
    let same = c.in_ok-change.ensures.meaning.same ∙ c.in_ok-condition.ensures.meaning.same ∙ c.in_ok-columns.ensures.same ∙ c.in_ok-widths.ensures.meaning.same ∙ c.in_ok-changed.ensures.same ∙ c.in_ok-verb.ensures.same ∙ c.in_ok-tables.ensures.same in
    let q = question_with c.in_ok-version.version h c.in_ok-columns.columns c.in_ok-condition.condition c.in_ok-change.change in
    record {
      meaning =
          after_version (λ (x : Question). x) {r = Ok q} c.in_ok-version.ensures refl refl
          (from_fields h e.shape_held c.in_ok-columns.columns c.in_ok-tables.ensures c.in_ok-verb.ensures c.in_ok-changed.ensures c.in_ok-widths.ensures.meaning e.result_value e.changed_value
          c.in_ok-columns.ensures (sym c.if-not-some_visible.ensures) c.in_ok-condition.ensures.meaning (cut_change h c.in_ok-columns.columns (omega arith) (verb_number c.in_ok-verb.verb) c.in_ok-change.ensures.meaning)
          (from_end c.in_ok-version.version h c.in_ok-columns.columns c.in_ok-condition.condition c.in_ok-change.change refl (version_good _ _ c.in_ok-version.ensures).1 same c.if-from.false));
      held = held_of _;
    }
