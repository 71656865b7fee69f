-- One event more of a run: what the process of the event does, and what the processes are then.
use Rattle.std.specs.Prelude.{ℕ, pos, ◌+◌, ◌-◌, ◌/◌, ◌%◌, ◌==◌, ◌&&◌, nat_le, List}
use Rattle.std.specs.Prelude.{[], ◌∷◌, ◌++◌, get_or, set, if◌then◌else◌}
use Rattle.run_model.specs.Cut.{count, max_cut, with_next}
use Rattle.event_log.specs.declared.log.Event.{Event}
use Rattle.event_log.specs.declared.log.Kind.TheVariants as kind
use Rattle.event_log.specs.declared.log.Assign.{Assign}
use Rattle.trace_gen.specs.declared.queue.Sent.{Sent}
use Rattle.trace_gen.specs.declared.process.Process.{Process}

abbrev pub Processes : Type 0
Processes = List Process

-- a process without counts, receipts and messages
abbrev pub nobody : Process
nobody = record { clock = []; seen = 0; waiting = [] }

abbrev pub process_at : Processes → ℕ → Process
process_at ps i = get_or ps i nobody

-- one event more of process i, which this is
abbrev pub advanced : Process → ℕ → Process
advanced p i = record p { clock = with_next p.clock i }

-- the clock is now the maximum with that of the send (Fidge; Mattern), and there is one receipt
-- more
abbrev pub received : Process → Sent → Process
received p m = record p { clock = max_cut m.clock p.clock; seen = p.seen + 1 }

-- the message stands last in the queue of process i
abbrev pub with_message : Processes → ℕ → Sent → Processes
with_message ps i m =
    set ps i (record (process_at ps i) { waiting = (process_at ps i).waiting ++ m ∷ [] })

-- the first variable of a process is `n`, its position; the second is `seen`, the number of its
-- receipts
abbrev pub position_is : ℕ → Assign
position_is n = record { variable = 0; value = pos n }

abbrev pub seen_is : ℕ → Assign
seen_is n = record { variable = 1; value = pos n }

-- an event, and the processes after it
pub record Made : Type 0 where
  pub event : Event
  pub processes : Processes

-- the process after its step, and the event of that step
abbrev pub internal_by : ℕ → ℕ → Process → Event
internal_by i line p = record {
  process = i;
  line = line;
  clock = p.clock;
  kind = kind.Internal;
  assigns = position_is (count p.clock i) ∷ [];
}

abbrev pub internal : ℕ → ℕ → Processes → Made
internal i line ps =
    let p = advanced (process_at ps i) i in
    record { event = internal_by i line p; processes = set ps i p }

abbrev pub send_by : ℕ → ℕ → ℕ → ℕ → Process → Event
send_by i line to id p = record {
  process = i;
  line = line;
  clock = p.clock;
  kind = kind.Send to id;
  assigns = position_is (count p.clock i) ∷ [];
}

abbrev pub sending : ℕ → ℕ → ℕ → ℕ → Processes → Made
sending i line to id ps =
    let p = advanced (process_at ps i) i in
    record {
      event = send_by i line to id p;
      processes = with_message (set ps i p) to (record { sender = i; id = id; clock = p.clock });
    }

abbrev pub receipt_by : ℕ → ℕ → Sent → Process → Event
receipt_by i line m p = record {
  process = i;
  line = line;
  clock = (received p m).clock;
  kind = kind.Receive m.sender m.id;
  assigns = position_is (count p.clock i) ∷ seen_is (received p m).seen ∷ [];
}

-- process i receives m, behind which these others wait
abbrev pub receiving : ℕ → ℕ → Sent → List Sent → Processes → Made
receiving i line m others ps =
    let p = advanced (record (process_at ps i) { waiting = others }) i in
    record { event = receipt_by i line m p; processes = set ps i (received p m) }

-- the oldest waiting message is received, and where none waits the event is internal
abbrev pub taking : ℕ → ℕ → List Sent → Processes → Made
taking i line [] ps = internal i line ps
taking i line (m ∷ others) ps = receiving i line m others ps

-- another process than i
abbrev pub peer : ℕ → ℕ → ℕ → ℕ
peer procs i w = (i + 1 + w / 4 % (procs - 1)) % procs

-- event number k, of the process whose turn it is; the word w decides what it does
unfoldable pub made : ℕ → ℕ → ℕ → Processes → Made
made procs k w ps =
    let i = k % procs in
    let line = procs + 3 + k in
    if nat_le (w % 4) 1 then taking i line (process_at ps i).waiting ps
    else if (w % 4 == 3) && nat_le 2 procs then sending i line (peer procs i w) k ps
    else internal i line ps
