-- What is named, by numbers of processes and variables.
use Rattle.std.specs.Prelude.{ℕ, suc, Bool, false, ◌&&◌, ◌||◌, ◌==◌, List, [], ◌∷◌, map}
use Rattle.std.specs.Prelude.{if◌then◌else◌}
use Rattle.std.specs.List.{filter, list_any}
use Rattle.kept_runs.specs.Chosen.{chosen, new_number}
use Rattle.run_model.specs.Run.{Name, number_of}
use Rattle.event_log.specs.declared.log.Assign.{Assign}
use Rattle.event_log.specs.declared.log.Binding.{Binding}
use Rattle.event_log.specs.declared.log.Kind.{Kind}
use Rattle.event_log.specs.declared.log.Kind.TheVariants as kind
use Rattle.event_log.specs.declared.log.Event.{Event}
use Rattle.event_log.specs.declared.log.Header.{Header}
use Rattle.event_log.specs.Numbers.{binding_names, variables_at}
use Rattle.kept_names.specs.declared.names.Pair.{Pair}
use Rattle.kept_names.specs.declared.names.Names.{Names}
use Rattle.kept_log.specs.declared.names.Second.{Second}
use Rattle.kept_log.specs.declared.names.Second.TheVariants as second
use Rattle.kept_log.specs.declared.numbers.Ends.{Ends}
use Rattle.kept_log.specs.declared.numbers.Numbers.{Numbers}

-- ---- names to numbers

abbrev pub process_in : Header → Name → ℕ
process_in header name = number_of name header.procs

abbrev pub variable_in : Header → ℕ → Name → ℕ
variable_in header process name = number_of name (binding_names (variables_at header.vars process))

-- the number of the second name, behind that of the first
abbrev pub second_in : Header → Second → ℕ → Name → ℕ
second_in header second.Variable first name = variable_in header first name
second_in header second.Receiver first name = process_in header name

abbrev pub ends_in : Header → Second → Pair → Ends
ends_in header kind x = record {
  first = process_in header x.first;
  second = second_in header kind (process_in header x.first) x.second;
}

abbrev pub numbers_in : Header → Names → Numbers
numbers_in header names = record {
  variables = map (ends_in header second.Variable) names.variables;
  channels = map (ends_in header second.Receiver) names.channels;
  processes = map (process_in header) names.processes;
}

-- ---- which events are kept

abbrev pub is_send_to : ℕ → Kind → Bool
is_send_to q kind.Internal = false
is_send_to q (kind.Send to id) = to == q
is_send_to q (kind.Receive sender id) = false

abbrev pub is_receipt_from : ℕ → Kind → Bool
is_receipt_from p kind.Internal = false
is_receipt_from p (kind.Send to id) = false
is_receipt_from p (kind.Receive sender id) = sender == p

abbrev pub is_among : List Assign → ℕ → Bool
is_among assigns variable = list_any (λ (a : Assign). a.variable == variable) assigns

abbrev pub assigns_to : Event → Ends → Bool
assigns_to e x = (x.first == e.process) && is_among e.assigns x.second

abbrev pub is_on : Event → Ends → Bool
is_on e x =
    ((x.first == e.process) && is_send_to x.second e.kind)
    || ((x.second == e.process) && is_receipt_from x.first e.kind)

-- the event sends or receives on a named channel
abbrev pub is_open : Numbers → Event → Bool
is_open numbers e = list_any (is_on e) numbers.channels

abbrev pub is_assigned : Numbers → Event → Bool
is_assigned numbers e = list_any (assigns_to e) numbers.variables

abbrev pub is_whole : Numbers → ℕ → Bool
is_whole numbers process = list_any (λ p. p == process) numbers.processes

-- variable v of process p is named
abbrev pub is_named : Numbers → ℕ → ℕ → Bool
is_named numbers p v =
    list_any (λ (x : Ends). (x.first == p) && (x.second == v)) numbers.variables

-- and it is kept: it is named, or the process is
abbrev pub is_kept_variable : Numbers → ℕ → ℕ → Bool
is_kept_variable numbers p v = is_named numbers p v || is_whole numbers p

-- the event is kept
abbrev pub is_kept : Numbers → Event → Bool
is_kept numbers e = (is_assigned numbers e || is_open numbers e) || is_whole numbers e.process

-- ---- variables by the numbers that they get

abbrev pub assign_by : Numbers → ℕ → Assign → Assign
assign_by numbers p a =
    record a { variable = new_number (is_kept_variable numbers p) a.variable }

-- the assignments of kept variables of process p
abbrev pub assigns_by : Numbers → ℕ → List Assign → List Assign
assigns_by numbers p assigns =
    map (assign_by numbers p)
    (filter (λ (a : Assign). is_kept_variable numbers p a.variable) assigns)

-- one variable, where it is kept
abbrev pub chosen_one : Bool → Binding → List Binding
chosen_one kept b = if kept then b ∷ [] else []

-- the kept variables of each process, from process i on
unfoldable pub vars_by : Numbers → ℕ → List (List Binding) → List (List Binding)
vars_by numbers i [] = []
vars_by numbers i (bindings ∷ vars) =
    chosen (is_kept_variable numbers i) bindings ∷ vars_by numbers (suc i) vars

abbrev pub header_by : Numbers → Header → Header
header_by numbers header = record header { vars = vars_by numbers 0 header.vars }
