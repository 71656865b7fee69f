use Rattle.std.proofs.Common.{◌≡◌, List, [], length, replicate, sym, subst}
use Rattle.event_log.specs.declared.log.Header.{Header}
use Rattle.event_log.specs.States.{StatesView}
use Rattle.counter_preds.specs.declared.values.Variable.{Variable}
use Rattle.counter_preds.specs.Counters.{IsCounter}
use Rattle.counter_preds.proofs.Staying.{opened_counter}
use Rattle.run_tests.proofs.counters.two_counters.Goals as goal

-- where there are no events yet
counter_at_first : (states : StatesView) (h : Header) (x : Variable) → states ≡ record { header = h; events = replicate (length h.procs) [] } → IsCounter states x
counter_at_first states h x is = subst (λ (s : StatesView). IsCounter s x) (sym is) (opened_counter h x)

pub returns-clause-rise : goal.returns-clause-rise
returns-clause-rise g c = (counter_at_first c.in_ok-states.states _ _ c.in_ok-states.ensures, counter_at_first c.in_ok-states.states _ _ c.in_ok-states.ensures)
