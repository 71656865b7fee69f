-- A trace whose clocks are an order is a run; states and counts when events are added.
use Rattle.std.proofs.Common.{false, ◌≡◌, ℕ, zero, suc, ◌+◌, ◌≤◌, Bool, List, [], ◌∷◌, ◌++◌, length, get_or, take, ℤ, count_by, ap, subst, refl, arith}
use Rattle.std.proofs.lemmas.List.{take-take}
use Rattle.std.proofs.lemmas.List.Sums.{sum_by-take-le}
use Rattle.run_model.specs.Run.{Name, Run, Event, Trace, Watches, assigned, state_from, states_from, states_of, sends, receipts, is_send_to, is_receipt_from, process_at, clocks_of, run_of}
use Rattle.run_model.specs.Consistent.{IsOrder}
use Rattle.run_model.specs.Meaning.{IsRun}

counted_rises : {X : Type 0} (p : X → Bool) (xs : List X) (a b : ℕ) → a ≤ b → count_by p (take a xs) ≤ count_by p (take b xs)
counted_rises p xs a b h = subst (λ ys. count_by p ys ≤ count_by p (take b xs)) (take-take a b xs h) (sum_by-take-le _ (take b xs) a)

pub sends_rise : (trace : Trace) (p q a b : ℕ) → a ≤ b → sends trace p q a ≤ sends trace p q b
sends_rise trace p q a b h = counted_rises (λ (e : Event). is_send_to q e.kind) (process_at trace p).events a b h

pub receipts_rise : (trace : Trace) (p q a b : ℕ) → a ≤ b → receipts trace p q a ≤ receipts trace p q b
receipts_rise trace p q a b h = counted_rises (λ (e : Event). is_receipt_from p e.kind) (process_at trace q).events a b h

-- a trace whose clocks are an order is a run, under all watches
pub run_of_order : (trace : Trace) (watches : Watches) → IsOrder (clocks_of trace) → IsRun (run_of trace watches)
run_of_order trace watches order = record {
  order = order;
  sent_rises = sends_rise trace;
  received_rises = receipts_rise trace;
}

-- ---- states

pub state_from_joined : (state : List ℤ) (xs ys : List Event) → state_from state (xs ++ ys) ≡ state_from (state_from state xs) ys
unfolding state_from
state_from_joined state [] ys = refl
state_from_joined state (e ∷ xs) ys = state_from_joined (assigned state e.assigns) xs ys

-- one state more than events
pub length-states_from : (state : List ℤ) (events : List Event) → length (states_from state events) ≡ length events + 1
unfolding states_from
length-states_from state [] = refl
length-states_from state (e ∷ events) = omega (arith, length-states_from (assigned state e.assigns) events)

-- the state at a place is the state after so many events
pub states_from_at : (state : List ℤ) (events : List Event) (a : ℕ) (d : List ℤ) → a ≤ length events → get_or (states_from state events) a d ≡ state_from state (take a events)
unfolding states_from state_from
states_from_at state [] zero d h = refl
states_from_at state [] (suc a) d h = absurd (omega (arith, h))
states_from_at state (e ∷ events) zero d h = refl
states_from_at state (e ∷ events) (suc a) d h = states_from_at (assigned state e.assigns) events a d (omega (arith, h))

-- the states of events that are added follow those that were there; the last old state is the first of the new ones
pub states_from_joined : (state : List ℤ) (xs ys : List Event) → states_from state (xs ++ ys) ≡ take (length xs) (states_from state xs) ++ states_from (state_from state xs) ys
unfolding states_from state_from
states_from_joined state [] ys = refl
states_from_joined state (e ∷ xs) ys = ap (λ l. state ∷ l) (states_from_joined (assigned state e.assigns) xs ys)

-- ---- what formulas see is all that counts

pub run_same : (r s : Run) → r.clocks ≡ s.clocks → ((name : Name) → r.process name ≡ s.process name) → ((p : ℕ) (variable : Name) (a : ℕ) → r.value p variable a ≡ s.value p variable a) → ((p : ℕ) (watch : Name) (a : ℕ) → r.watched p watch a ≡ s.watched p watch a) → ((p q a : ℕ) → r.sent p q a ≡ s.sent p q a) → ((p q a : ℕ) → r.received p q a ≡ s.received p q a) → r ≡ s
run_same r s clocks process value watched sent received = λ i. record {
  clocks = clocks i;
  process = λ name. process name i;
  value = λ p variable a. value p variable a i;
  watched = λ p watch a. watched p watch a i;
  sent = λ p q a. sent p q a i;
  received = λ p q a. received p q a i;
}

-- truth needs no more of the watches than their answers over the states of each process
pub watches_same : (trace : Trace) (watches others : Watches) → ((p : ℕ) (watch : Name) (a : ℕ) → get_or (watches watch (states_of (process_at trace p))) a false ≡ get_or (others watch (states_of (process_at trace p))) a false) → run_of trace watches ≡ run_of trace others
watches_same trace watches others same = run_same (run_of trace watches) (run_of trace others) refl (λ name. refl) (λ p variable a. refl) same (λ p q a. refl) (λ p q a. refl)
