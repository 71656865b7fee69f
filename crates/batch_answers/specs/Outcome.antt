-- What a run tells its caller of how it ended.
use Rattle.std.specs.Prelude.{ℕ, None, Some, Result, Ok, Err}
use Rattle.std.specs.Prelude.{if◌then◌else◌}
use Rattle.pota_base.specs.declared.status.Status.TheVariants as status
use Rattle.fault_line.specs.declared.fault.Fault.{Fault}
use Rattle.fault_line.specs.declared.fault.Fault.TheVariants as fault
use Rattle.fault_line.specs.Faults.{status_of, fault_of_refusal}
use Rattle.log_answers.specs.declared.stop.Stop.{Stop}
use Rattle.log_answers.specs.declared.stop.StopCause.{StopCause}
use Rattle.log_answers.specs.declared.stop.StopCause.TheVariants as causes
use Rattle.log_answers.specs.declared.stop.Verdict.{Verdict}
use Rattle.call_promise.specs.declared.outcome.Outcome.{Outcome}

-- why a log has no verdict, as it is told
abbrev pub fault_of : StopCause → Fault
fault_of (causes.Refused r) = fault_of_refusal r
fault_of causes.Read = fault.Read
fault_of causes.Write = fault.Write
fault_of causes.Memory = fault.Memory

-- behind so many batches there was this fault
abbrev pub faulty_outcome : ℕ → Fault → Outcome
faulty_outcome batches f =
    record { status = status_of f; batches = batches; fault = Some f }

-- how a run ended that led to a verdict or a stop
abbrev pub outcome_of : Result Verdict Stop → Outcome
outcome_of (Ok v) = record {
  status = if v.truth then status.True else status.False;
  batches = v.batches;
  fault = None;
}
outcome_of (Err stop) = faulty_outcome stop.batches (fault_of stop.cause)
