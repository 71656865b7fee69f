use Rattle.ask_questions.proofs.Texts.{counted, full, joined, next_of, next_sized}
use Rattle.ask_questions.proofs.reading.list_all.Goals as goal

pub add_entry-requires-clause-sized : goal.add_entry-requires-clause-sized
add_entry-requires-clause-sized c =
    let among = next_of c.args.entries c.entries.yielded c.entries.entry-iterator.rest.items c.in-Some.entry c.next.new.self.rest.items c.entries.invariant.all c.in-Some.ensures.steps.0 in
    next_sized c.args.entries c.entries.yielded c.in-Some.entry c.next.new.self.rest.items among c.requires.sized

pub returns-in-Err-clause-fault : goal.returns-in-Err-clause-fault
returns-in-Err-clause-fault c =
    let among = next_of c.args.entries c.entries.yielded c.entries.entry-iterator.rest.items c.in-Some.entry c.next.new.self.rest.items c.entries.invariant.all c.in-Some.ensures.steps.0 in
    full c.args.entries c.entries.yielded c.in-Some.entry c.next.new.self.rest.items c.entries.list c.entries.overs c.entries.number c.in-Err.stop c.too_many.result c.too_many.ensures among
    c.entries.invariant.numbered c.entries.invariant.added c.in-Err.ensures.fault

pub entries-preserved : goal.entries-preserved
entries-preserved c =
    let among = next_of c.args.entries c.entries.yielded c.entries.entry-iterator.rest.items c.in-Some.entry c.next.new.self.rest.items c.entries.invariant.all c.in-Some.ensures.steps.0 in
    record {
      added = c.in-Ok.ensures.added c.entries.yielded c.entries.invariant.added;
      numbered = counted c.entries.number c.entries.yielded c.in-Some.entry c.entries.invariant.numbered;
      all = joined c.args.entries c.entries.yielded c.in-Some.entry c.next.new.self.rest.items among;
    }
