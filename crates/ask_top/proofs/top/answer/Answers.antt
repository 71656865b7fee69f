use Rattle.std.specs.Prelude.{map, string_bytes, length, take, drop, ◌-◌}
use Rattle.std.proofs.Common.{sym, ap, ◌∙◌}
use Rattle.ask_top.proofs.Answered.{drop-map, rest_is}
use Rattle.ask_top.proofs.Passed.{faulty}
use Rattle.ask_top.proofs.top.answer.Goals as goal

pub returns-in-Err-Fault-clause-answered : goal.returns-in-Err-Fault-clause-answered
returns-in-Err-Fault-clause-answered g c =
    rw c.in-Err-Fault.fault-is (faulty _ (map string_bytes c.args.words.now) c.in-Some.asked (sym c.in-Some.ensures.asked)
    (map string_bytes (take (length c.args.words.now - c.in-Some.asked.questions_from) (drop c.in-Some.asked.questions_from c.args.words.now)))
    (ap (map string_bytes) (rest_is c.in-Some.asked.questions_from c.args.words.now) ∙ sym (drop-map string_bytes c.in-Some.asked.questions_from c.args.words.now))
    c.in-Err-Fault.fault (rw c.in-Err-Fault.field-0-is at c.in-Err-Fault.ensures.fault) _ _ _ _)
