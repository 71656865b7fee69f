-- The first events that have to do with a message, as events are added.
use Rattle.std.proofs.Common.{◌≡◌, ℕ, ◌+◌, ◌<◌, Bool, true, false, List, [], ◌∷◌, ◌++◌, length, refl, sym, ap, ◌∙◌, subst, inl, inr, cond, append-nil, append_assoc}
use Rattle.std.specs.Prelude.{Option, None, Some}
use Rattle.std.specs.Option.{option_map}
use Rattle.std.proofs.lemmas.Bool.{cases_eq}
use Rattle.std.proofs.lemmas.List.{get_or-set_other}
use Rattle.event_log.specs.declared.log.Event.{Event}
use Rattle.event_log.specs.States.{with_event}
use Rattle.vector_clock.specs.declared.message.Message.{Message}
use Rattle.vector_clock.specs.Events.{Events, own_events}
use Rattle.vector_clock.specs.Messages.{first_place, first_send, sends}
use Rattle.vector_clock.proofs.FirstPlaces.{own_same}

stays_step : (b : Bool) (first whole : Option ℕ) (a : ℕ) → ((k : ℕ) → first ≡ Some k → whole ≡ Some k)
    → cond b (Some 1) (option_map (λ k. k + 1) first) ≡ Some a → cond b (Some 1) (option_map (λ k. k + 1) whole) ≡ Some a
stays_step true first whole a h is = is
stays_step false None whole a h is = cc
stays_step false (Some k) whole a h is = ap (λ (o : Option ℕ). option_map (λ n. n + 1) o) (h k refl) ∙ is

first_stays : (test : Event → Bool) (es more : List Event) (a : ℕ) → first_place test es ≡ Some a → first_place test (es ++ more) ≡ Some a
unfolding first_place
first_stays test [] more a h = cc
first_stays test (x ∷ es) more a h = stays_step (test x) (first_place test es) (first_place test (es ++ more)) a (first_stays test es more) h

none_step : (b t : Bool) (first whole : Option ℕ) → t ≡ false → (first ≡ None → whole ≡ None)
    → cond b (Some 1) (option_map (λ k. k + 1) first) ≡ None → cond b (Some 1) (option_map (λ k. k + 1) whole) ≡ None
none_step true t first whole f h is = cc
none_step false t None whole f h is = ap (λ (o : Option ℕ). option_map (λ n. n + 1) o) (h refl)
none_step false t (Some k) whole f h is = cc

none_stays : (test : Event → Bool) (es : List Event) (e : Event) → test e ≡ false → first_place test es ≡ None → first_place test (es ++ e ∷ []) ≡ None
unfolding first_place
none_stays test [] e f h = ap (λ b. cond b (Some 1) None) f
none_stays test (x ∷ es) e f h = none_step (test x) (test e) (first_place test es) (first_place test (es ++ e ∷ [])) f (none_stays test es e f) h

pub own_other : (events : Events) (e : Event) (p : ℕ) → (p ≡ e.process → ⊥) → own_events (with_event events e) p ≡ own_events events p
own_other events e p other = get_or-set_other events e.process p _ [] other

-- no event that passes the test, and one more that doesn't
pub none_kept : (test : Event → Bool) (events : Events) (e : Event) (p : ℕ) → e.process < length events → test e ≡ false
    → first_place test (own_events events p) ≡ None → first_place test (own_events (with_event events e) p) ≡ None
none_kept test events e p there fails none = elim (cases_eq p e.process) [
  | inl same ↦
      let old : first_place test (own_events events e.process) ≡ None = subst (λ q. first_place test (own_events events q) ≡ None) same none in
      subst (λ q. first_place test (own_events (with_event events e) q) ≡ None) (sym same)
      (ap (first_place test) (own_same events e there) ∙ none_stays test (own_events events e.process) e fails old)
  | inr other ↦ ap (first_place test) (own_other events e p other) ∙ none
]

-- ---- events with more behind them

-- each process has its events of the first table in front
abbrev pub HasMore : Events → Events → Type 0
HasMore before all = (p : ℕ) → (more : List Event) × (own_events all p ≡ own_events before p ++ more)

pub same_more : (events : Events) → HasMore events events
same_more events p = ([], sym (append-nil (own_events events p)))

pub one_more : (events : Events) (e : Event) → e.process < length events → HasMore events (with_event events e)
one_more events e there p = elim (cases_eq p e.process) [
  | inl same ↦ subst (λ q. (more : List Event) × (own_events (with_event events e) q ≡ own_events events q ++ more)) (sym same) (e ∷ [], own_same events e there)
  | inr other ↦ ([], own_other events e p other ∙ sym (append-nil (own_events events p)))
]

pub more_still : (a b c : Events) → HasMore a b → HasMore b c → HasMore a c
more_still a b c first then p =
    let f = first p in
    let g = then p in
    (f.0 ++ g.0, g.1 ∙ ap (λ (es : List Event). es ++ g.0) f.1 ∙ append_assoc (own_events a p) f.0 g.0)

-- the first send of a message stays the first
pub send_stays : (before all : Events) (m : Message) (a : ℕ) → HasMore before all → first_send before m ≡ Some a → first_send all m ≡ Some a
send_stays before all m a more first =
    let g = more m.sender in
    ap (first_place (sends m)) g.1 ∙ first_stays (sends m) (own_events before m.sender) g.0 a first
