use Rattle.std.proofs.Common.{map}
use Rattle.std.specs.String.{string_bytes}
use Rattle.ask_questions.proofs.Observed.{observed_where}
use Rattle.ask_questions.proofs.Texts.{asked_so, few, sized, too_many}
use Rattle.ask_questions.proofs.reading.read_questions.Goals as goal

pub list_all-requires-clause-few : goal.list_all-requires-clause-few
list_all-requires-clause-few c =
    few string_bytes c.args.texts.now c.in_ok-entries.entries c.in_ok-entries.ensures.read c.requires

pub list_all-requires-clause-sized : goal.list_all-requires-clause-sized
list_all-requires-clause-sized c =
    sized (map string_bytes c.args.texts.now) c.in_ok-entries.entries c.in_ok-entries.ensures.read

pub returns-clause-asked : goal.returns-clause-asked
returns-clause-asked c =
    let texts = map string_bytes c.args.texts.now in
    observed_where texts c.in-Ok.asked.list c.in_ok-list.list c.in-Ok.asked.overs (asked_so texts c.in_ok-entries.entries c.in-Ok.asked c.in_ok-entries.ensures.read c.in-Ok.ensures.added) c.in_ok-list.ensures.same c.in_ok-list.ensures.filled

pub returns-in-Err-clause-fault : goal.returns-in-Err-clause-fault
returns-in-Err-clause-fault c =
    too_many (map string_bytes c.args.texts.now) c.in_ok-entries.entries c.in-Err.stop c.in_ok-entries.ensures.read c.in-Err.ensures.fault
