-- A log folded to what is named: its events in their order, as one batch, of which those stay that
-- are kept in its run, and the variables that are named, by numbers of their own.
use Rattle.std.specs.Prelude.{ℕ, suc, Bool, List, [], ◌∷◌, map, if◌then◌else◌}
use Rattle.std.specs.List.{filter}
use Rattle.run_model.specs.Run.{Trace}
use Rattle.kept_runs.specs.Chosen.{chosen, new_number}
use Rattle.kept_runs.specs.Kept.{Names, is_kept_variable, is_on_some, is_kept, kept_cut}
use Rattle.event_log.specs.declared.log.Kind.TheVariants as kind
use Rattle.event_log.specs.declared.log.Assign.{Assign}
use Rattle.event_log.specs.declared.log.Binding.{Binding}
use Rattle.event_log.specs.declared.log.Event.{Event}
use Rattle.event_log.specs.declared.log.Header.{Header}
use Rattle.event_log.specs.declared.log.Log.{Log}
use Rattle.event_log.specs.States.{event_of, trace_of_log}
use Rattle.clock_laws.specs.Joined.{as_one}

-- the event of the log is kept
abbrev pub is_kept_here : Trace → Names → Event → Bool
is_kept_here trace names e = is_kept trace names e.process (event_of e)

-- of these assignments of process p those of kept variables, by the numbers that these get
abbrev pub kept_assigns : Trace → Names → ℕ → List Assign → List Assign
kept_assigns trace names p assigns =
    map (λ (a : Assign).
    record a { variable = new_number (is_kept_variable trace names p) a.variable })
    (filter (λ (a : Assign). is_kept_variable trace names p a.variable) assigns)

-- an event as it is kept: its line stays, its clock counts kept events, it assigns kept variables,
-- and it is internal where its channel is not named
abbrev pub kept_here : Trace → Names → Event → Event
kept_here trace names e =
    record e {
      clock = kept_cut trace names e.clock;
      kind = if is_on_some trace names e.process (event_of e) then e.kind else kind.Internal;
      assigns = kept_assigns trace names e.process e.assigns;
    }

-- the kept ones of these events
abbrev pub kept_events : Trace → Names → List Event → List Event
kept_events trace names es = map (kept_here trace names) (filter (is_kept_here trace names) es)

-- the kept variables of each process with their opening values, from process i on
unfoldable pub kept_vars : Trace → Names → ℕ → List (List Binding) → List (List Binding)
kept_vars trace names i [] = []
kept_vars trace names i (bindings ∷ vars) =
    chosen (is_kept_variable trace names i) bindings ∷ kept_vars trace names (suc i) vars

-- version, processes and the lines of the log that spell the variables stay
abbrev pub kept_header : Trace → Names → Header → Header
kept_header trace names header = record header { vars = kept_vars trace names 0 header.vars }

abbrev pub kept_log : Log → Names → Log
kept_log log names = record {
  header = kept_header (trace_of_log log) names log.header;
  batches = kept_events (trace_of_log log) names (as_one log.batches) ∷ [];
}
