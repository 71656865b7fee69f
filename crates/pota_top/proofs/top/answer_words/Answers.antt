use Rattle.std.proofs.Common.{◌≡◌, map, string_bytes, refl, ap, subst, ◌∙◌}
use Rattle.pota_base.specs.declared.fault.Refused.{Refused}
use Rattle.call_request.specs.declared.question.QuestionFault.{QuestionFault}
use Rattle.call_request.specs.Questions.{IsQuestionFault, AreFaults}
use Rattle.call_promise.proofs.Clauses.{told_as}
use Rattle.fault_line.specs.declared.fault.Fault.{Fault}
use Rattle.call_promise.specs.Questions.{fault_of_question}
use Rattle.certificate_answers.specs.PassedOn.{faulty_outcome}
use Rattle.certificate_answers.proofs.PassedOn.{ran_short}
use Rattle.call_promise.specs.declared.outcome.Outcome.{Outcome}
use Rattle.pota_top.proofs.Running.{ran_misasked, calm_outcome}
use Rattle.pota_top.proofs.top.answer_words.Goals as goal

pub returns-in-Ok-clause-ran : goal.returns-in-Ok-clause-ran
returns-in-Ok-clause-ran g c = told_as _ _ _ _ _ _ _ _ _ _ _ _ c.outcome_of.ensures (c.answer_question.ensures.ran (map string_bytes c.args.words.now) c.in-Ok.ensures)

pub returns-in-Err-Fault-clause-ran : goal.returns-in-Err-Fault-clause-ran
returns-in-Err-Fault-clause-ran g c =
    let is : IsQuestionFault (map string_bytes c.args.words.now) c.in-Err-Fault.fault =
    subst (λ (x : Refused QuestionFault). AreFaults x (IsQuestionFault (map string_bytes c.args.words.now)))
    c.in-Err-Fault.field-0-is c.in-Err-Fault.ensures in
    let fault_is = subst (λ (x : QuestionFault). c.fault_of_question.result ≡ fault_of_question x) c.in-Err-Fault.fault-is c.fault_of_question.ensures in
    ran_misasked _ _ _ _ _ (map string_bytes c.args.words.now) c.in-Err-Fault.fault c.faulty.result is
    (c.faulty.ensures ∙ ap (λ (f : Fault). faulty_outcome 0 f) fault_is)

pub returns-clause-ran : goal.returns-clause-ran
returns-clause-ran g c =
    told_as _ _ _ _ _ _ _ _ _ _ _ _ c.outcome_of-in-Err-NoMemory.ensures
    (ran_short _ _ _ _ _ _ c.without_memory.result c.without_memory.ensures)

pub returns-in-Ok-clause-calm : goal.returns-in-Ok-clause-calm
returns-in-Ok-clause-calm g c other =
    calm_outcome (g.S.Source.faults c.args.log.now) (g.S.Source.faults c.answer_question.new.log) c.answer_question.result (c.answer_question.ensures.calm)
    (λ e. other (ap (λ (o : Outcome). o.status) c.outcome_of.ensures ∙ e))

pub returns-in-Err-Fault-clause-calm : goal.returns-in-Err-Fault-clause-calm
returns-in-Err-Fault-clause-calm g c other = refl

pub returns-clause-calm : goal.returns-clause-calm
returns-clause-calm g c other = refl
