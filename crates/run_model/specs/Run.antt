-- One run of a distributed program: what was logged of it, the states that its processes passed
-- through, and what formulas see of it.
use Rattle.std.specs.Prelude.{ℕ, Bool, false, List, [], ◌∷◌, map, get_or, take, set, ℤ, pos, ◌==◌}
use Rattle.std.specs.Prelude.{count_by}
use Rattle.std.specs.Str.{bytes_eq}
use Rattle.std.specs.List.{position_or_len}
use Rattle.run_model.specs.Cut.{Cut, Clocks}

-- the bytes of a name
abbrev pub Name : Type 0
Name = List ℕ

-- an event gives the variable of this number, counted from 0 in the order of its process's
-- variables, a value
pub record Assignment : Type 0 where
  pub variable : ℕ
  pub value : ℤ

-- what an event does: it sends to a process, receives from one, or neither (Lamport). A message has
-- an identifying number
pub data Kind : Type 0 where
  Internal : Kind
  Send : (to : ℕ) → (id : ℕ) → Kind
  Receive : (sender : ℕ) → (id : ℕ) → Kind

-- an event as it was logged, with its vector clock (Fidge; Mattern)
pub record Event : Type 0 where
  pub clock : Cut
  pub kind : Kind
  pub assigns : List Assignment

-- a variable of a process and the value that it opens with
pub record Variable : Type 0 where
  pub name : Name
  pub value : ℤ

pub record Process : Type 0 where
  pub name : Name
  pub variables : List Variable
  pub events : List Event

-- the processes are numbered from 0, in this order
abbrev pub Trace : Type 0
Trace = List Process

-- the place of a name among names, and their number where it is not there
abbrev pub number_of : Name → List Name → ℕ
number_of name names = position_or_len (bytes_eq name) names

abbrev pub no_process : Process
no_process = record { name = []; variables = []; events = [] }

abbrev pub process_at : Trace → ℕ → Process
process_at trace p = get_or trace p no_process

-- a state is one value per variable; the assignments are made in their order
unfoldable pub assigned : List ℤ → List Assignment → List ℤ
assigned state [] = state
assigned state (a ∷ rest) = assigned (set state a.variable a.value) rest

-- the state that these events leave, made in their order
unfoldable pub state_from : List ℤ → List Event → List ℤ
state_from state [] = state
state_from state (e ∷ rest) = state_from (assigned state e.assigns) rest

abbrev pub opening_state : Process → List ℤ
opening_state p = map (λ (v : Variable). v.value) p.variables

-- the state of a process after its first a events
abbrev pub state_after : Process → ℕ → List ℤ
state_after p a = state_from (opening_state p) (take a p.events)

-- the state before these events, and the state after each of them
unfoldable pub states_from : List ℤ → List Event → List (List ℤ)
states_from state [] = state ∷ []
states_from state (e ∷ rest) = state ∷ states_from (assigned state e.assigns) rest

-- all states of a process, the opening state first
abbrev pub states_of : Process → List (List ℤ)
states_of p = states_from (opening_state p) p.events

-- the value of variable number v after the first a events of its process
abbrev pub value_of : Process → ℕ → ℕ → ℤ
value_of p a v = get_or (state_after p a) v (pos 0)

-- the value of the variable of a name after the first a events
abbrev pub value_after : Process → Name → ℕ → ℤ
value_after p variable a =
    value_of p a (number_of variable (map (λ (v : Variable). v.name) p.variables))

abbrev pub is_send_to : ℕ → Kind → Bool
is_send_to q Internal = false
is_send_to q (Send to id) = to == q
is_send_to q (Receive sender id) = false

abbrev pub is_receipt_from : ℕ → Kind → Bool
is_receipt_from p Internal = false
is_receipt_from p (Send to id) = false
is_receipt_from p (Receive sender id) = sender == p

-- the sends from p to q among the first a events of p
abbrev pub sends : Trace → ℕ → ℕ → ℕ → ℕ
sends trace p q a =
    count_by (λ (e : Event). is_send_to q e.kind) (take a (process_at trace p).events)

-- the receipts at q from p among the first b events of q
abbrev pub receipts : Trace → ℕ → ℕ → ℕ → ℕ
receipts trace p q b =
    count_by (λ (e : Event). is_receipt_from p e.kind) (take b (process_at trace q).events)

-- the truth values that the watch of a name gives for the states of a process in order, one per
-- state (a watch keeps a state of its own)
abbrev pub Watches : Type 0
Watches = Name → List (List ℤ) → List Bool

abbrev pub clocks_of : Trace → Clocks
clocks_of trace = map (λ (p : Process). map (λ (e : Event). e.clock) p.events) trace

-- what formulas see of a run
pub record Run : Type 0 where
  pub clocks : Clocks
  -- the number of the process with a name
  pub process : Name → ℕ
  -- process, variable, count of its events
  pub value : ℕ → Name → ℕ → ℤ
  -- process, watch, count of its events
  pub watched : ℕ → Name → ℕ → Bool
  -- sender, receiver, count of the sender's events
  pub sent : ℕ → ℕ → ℕ → ℕ
  -- sender, receiver, count of the receiver's events
  pub received : ℕ → ℕ → ℕ → ℕ

-- what formulas see of a logged run under these watches
abbrev pub run_of : Trace → Watches → Run
run_of trace watches = record {
  clocks = clocks_of trace;
  process = λ name. number_of name (map (λ (p : Process). p.name) trace);
  value = λ p variable a. value_after (process_at trace p) variable a;
  watched = λ p watch a. get_or (watches watch (states_of (process_at trace p))) a false;
  sent = sends trace;
  received = receipts trace;
}
