use Rattle.call_promise.proofs.Clauses.{clause_read, clause_write, clause_decided, clause_refused, clause_misasked, clause_benched}
use Rattle.pota_top.proofs.top.pota.Goals as goal

pub returns-clause-read : goal.returns-clause-read
returns-clause-read g c is = clause_read _ _ _ _ _ _ _ _ _ _ _ c.answer_words-outcome.ensures.ran is

pub returns-clause-write : goal.returns-clause-write
returns-clause-write g c is = clause_write _ _ _ _ _ _ _ _ _ _ _ c.answer_words-outcome.ensures.ran is

pub returns-clause-decided : goal.returns-clause-decided
returns-clause-decided g c is = clause_decided _ _ _ _ _ _ _ _ _ _ _ c.answer_words-outcome.ensures.ran is

pub returns-clause-refused : goal.returns-clause-refused
returns-clause-refused g c is = clause_refused _ _ _ _ _ _ _ _ _ _ _ c.answer_words-outcome.ensures.ran is

pub returns-clause-misasked : goal.returns-clause-misasked
returns-clause-misasked g c is = clause_misasked _ _ _ _ _ _ _ _ _ _ _ c.answer_words-outcome.ensures.ran is

pub returns-clause-benched : goal.returns-clause-benched
returns-clause-benched g c is = clause_benched _ _ _ _ _ _ _ _ _ _ _ c.answer_words-outcome.ensures.ran is

pub returns-clause-calm : goal.returns-clause-calm
returns-clause-calm g c is = c.answer_words-outcome.ensures.calm is
