-- What every question carries.
use Rattle.page_questions.specs.Guarantees.{Accepted}
use Rattle.question.specs.Held.{Held, question_of}
use Rattle.question.specs.declared.types.Question.{Question}

pub held_of : (q : Question) → Held q
held_of q = record { shape = q.shape_held; few_tokens = q.few_tokens; change = q.change_held }

pub accepted_of : (q : Question) → Accepted (question_of q)
unfolding question_of
accepted_of q = q.accepted
