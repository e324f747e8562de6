use Rattle.page_questions.specs.Reader.{mode_at}
use Rattle.question.specs.Held.{setting_of}
use Rattle.fields.proofs.Run.{Run}
use Rattle.changes.proofs.modes.modes.Given as goal

abbrev pub invariant-loop-setting : goal.invariant-loop-setting
invariant-loop-setting l = Run (λ s ms q. mode_at s l.names.low l.names.high q) setting_of l.n l.n l.fn.from l.from l.setting-items l.setting-index
