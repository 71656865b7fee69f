-- What is known of the clocks of a log whose events were checked so far.
use Rattle.std.specs.Prelude.{◌≡◌, Result, Ok, Err}
use Rattle.pota_base.specs.declared.fault.Refused.{Refused}
use Rattle.pota_base.specs.declared.fault.Refused.TheVariants.{Fault, NoMemory}
use Rattle.vector_clock.specs.declared.message.Message.{Message}
use Rattle.vector_clock.specs.declared.messages.Messages.{Messages}
use Rattle.vector_clock.specs.declared.clocks.Clocks.{Clocks}
use Rattle.vector_clock.specs.Events.{Events, clocks_of}
use Rattle.vector_clock.specs.Messages.{first_send, first_receipt}
use Rattle.vector_clock.specs.Met.{met_at}

-- the first events that send and receive messages are kept for these events
pub record HasMessages (messages : Messages) (events : Events) : Type 0 where
  pub sent : (m : Message) → (met_at messages.places m).sent ≡ first_send events m
  pub received : (m : Message) → (met_at messages.places m).received ≡ first_receipt events m

-- the clocks are those of these events, all of which were admitted
pub record HasAdmitted (c : Clocks) (events : Events) : Type 0 where
  pub order : c.order ≡ clocks_of events
  pub messages : HasMessages c.messages events

-- ---- answers that are refused

-- what holds of a fault
abbrev pub IfFault : {T F : Type 0} → Result T (Refused F) → (F → Type 0) → Type 0
IfFault (Ok x) P = Unit {0}
IfFault (Err (Fault f)) P = P f
IfFault (Err NoMemory) P = Unit {0}

-- what holds where memory was wanted
abbrev pub IfWantsMemory : {T F : Type 0} → Result T (Refused F) → Type 0 → Type 0
IfWantsMemory (Ok x) P = Unit {0}
IfWantsMemory (Err (Fault f)) P = Unit {0}
IfWantsMemory (Err NoMemory) P = P
