use Rattle.std.proofs.Common.{◌≡◌, take, map}
use Rattle.event_log.specs.declared.log.Binding.{Binding}
use Rattle.event_log.proofs.history.History.new.Given as goal

abbrev pub invariant-loop-variable : goal.invariant-loop-variable
invariant-loop-variable l = l.values.items ≡ map (λ (b : Binding). b.value) (take l.variable-index l.variables)
