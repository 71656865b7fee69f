-- Events that are the same but for what f takes away from each.
use Rattle.std.proofs.Common.{◌≡◌, ℕ, zero, suc, ◌+◌, ◌-◌, ◌<◌, List, [], ◌∷◌, length, map, get_or, refl, sym, ap, ◌∙◌, subst, arith}
use Rattle.std.specs.Prelude.{Option, Some, Bool, if◌then◌else◌}
use Rattle.std.specs.Option.{option_map}
use Rattle.std.proofs.Math.ListN.{get_or-map}
use Rattle.std.proofs.lemmas.List.{length-map, ext_get_or}
use Rattle.event_log.specs.declared.log.Event.{Event}
use Rattle.vector_clock.specs.declared.message.Message.{Message}
use Rattle.vector_clock.specs.Events.{Events, own_events}
use Rattle.vector_clock.specs.Messages.{sends, first_place, first_send}
use Rattle.vector_clock.specs.Fill.{Place, IsThere, event_at, no_event}

pub own_mapped : (f : Event → Event) (events : Events) (p : ℕ) → own_events (map (map f) events) p ≡ map f (own_events events p)
own_mapped f [] p = refl
own_mapped f (es ∷ events) zero = refl
own_mapped f (es ∷ events) (suc p) = own_mapped f events p

pub event_mapped : (f : Event → Event) → f no_event ≡ no_event → (events : Events) (x : Place) → event_at (map (map f) events) x ≡ f (event_at events x)
event_mapped f none events x =
    ap (λ (es : List Event). get_or es (x.position - 1) no_event) (own_mapped f events x.process)
    ∙ ap (λ (d : Event). get_or (map f (own_events events x.process)) (x.position - 1) d) (sym none)
    ∙ get_or-map f (own_events events x.process) (x.position - 1) no_event

first_mapped : (f : Event → Event) (m : Message) → ((e : Event) → sends m (f e) ≡ sends m e) → (es : List Event) → first_place (sends m) (map f es) ≡ first_place (sends m) es
unfolding first_place
first_mapped f m kept [] = refl
first_mapped f m kept (e ∷ es) =
    ap (λ (b : Bool). if b then Some 1 else option_map (λ k. k + 1) (first_place (sends m) (map f es))) (kept e)
    ∙ ap (λ (o : Option ℕ). if sends m e then Some 1 else option_map (λ k. k + 1) o) (first_mapped f m kept es)

module _ (f : Event → Event) (one other : Events) (same : map (map f) one ≡ map (map f) other) where
  pub same_count : length one ≡ length other
  same_count = sym (length-map one (map f)) ∙ ap length same ∙ length-map other (map f)

  same_own : (p : ℕ) → map f (own_events one p) ≡ map f (own_events other p)
  same_own p = sym (own_mapped f one p) ∙ ap (λ (x : Events). own_events x p) same ∙ own_mapped f other p

  pub same_len : (p : ℕ) → length (own_events one p) ≡ length (own_events other p)
  same_len p = sym (length-map (own_events one p) f) ∙ ap length (same_own p) ∙ length-map (own_events other p) f

  pub same_there : (x : Place) → IsThere one x → IsThere other x
  same_there x there = record { process = omega (arith, there.process, same_count); first = there.first; last = omega (arith, there.last, same_len x.process) }

  pub same_at : f no_event ≡ no_event → (x : Place) → f (event_at one x) ≡ f (event_at other x)
  same_at none x = sym (event_mapped f none one x) ∙ ap (λ (e : Events). event_at e x) same ∙ event_mapped f none other x

  pub same_send : (m : Message) → ((e : Event) → sends m (f e) ≡ sends m e) → first_send one m ≡ first_send other m
  same_send m kept = sym (first_mapped f m kept (own_events one m.sender)) ∙ ap (first_place (sends m)) (same_own m.sender) ∙ first_mapped f m kept (own_events other m.sender)

-- events that are the same at each place
pub same_places : (one other : Events) → length one ≡ length other → ((p : ℕ) → length (own_events one p) ≡ length (own_events other p)) → ((x : Place) → IsThere one x → event_at one x ≡ event_at other x) → one ≡ other
same_places one other count len same =
    ext_get_or [] one other count (λ p lt. ext_get_or no_event (own_events one p) (own_events other p) (len p) (λ k here. at p k lt here))
  where
    at : (p k : ℕ) → p < length one → k < length (own_events one p) → get_or (own_events one p) k no_event ≡ get_or (own_events other p) k no_event
    at p k lt here =
        let back : k + 1 - 1 ≡ k = omega arith in
        subst (λ (n : ℕ). get_or (own_events one p) n no_event ≡ get_or (own_events other p) n no_event) back
        (same (record { process = p; position = k + 1 }) (record { process = lt; first = omega arith; last = omega (arith, here) }))
