use Rattle.std.proofs.Common.{◌≡◌, ◌+◌, ◌++◌, length}
use Rattle.ask_questions.specs.inside.Added.{AreAddedTo}
use Rattle.ask_questions.proofs.reading.list_all.Given as goal

abbrev pub invariant-entries : goal.invariant-entries
invariant-entries l = record {
  added : AreAddedTo l.list l.yielded l.overs;
  numbered : l.number ≡ length l.yielded + 1;
  all : l.fn.entries ≡ l.yielded ++ l.entry-iterator.rest.items;
}
