-- Events that are the same but for their clocks stay so as batches come.
use Rattle.std.proofs.Common.{◌≡◌, List, [], ◌∷◌, ◌++◌, map, set, refl, sym, ap, ◌∙◌}
use Rattle.std.proofs.lemmas.List.{map-set, map-append}
use Rattle.event_log.specs.declared.log.Event.{Event}
use Rattle.event_log.specs.States.{with_event, with_batch}
use Rattle.vector_clock.specs.Events.{Events, own_events}
use Rattle.clock_laws.specs.Clocked.{without_clock, without_clocks}
use Rattle.clock_laws.proofs.Same.{own_mapped}

unclocked_one : (events : Events) (e : Event) → without_clocks (with_event events e) ≡ with_event (without_clocks events) (without_clock e)
unclocked_one events e =
    map-set (map without_clock) events e.process _
    ∙ ap (set (without_clocks events) e.process) (map-append without_clock (own_events events e.process) (e ∷ []) ∙ ap (λ (es : List Event). es ++ without_clock e ∷ []) (sym (own_mapped without_clock events e.process)))

unclocked_batch : (events : Events) (batch : List Event) → without_clocks (with_batch events batch) ≡ with_batch (without_clocks events) (map without_clock batch)
unfolding with_batch
unclocked_batch events [] = refl
unclocked_batch events (e ∷ es) = unclocked_batch (with_event events e) es ∙ ap (λ (x : Events). with_batch x (map without_clock es)) (unclocked_one events e)

pub same_more : (one other : Events) (b c : List Event) → without_clocks one ≡ without_clocks other → map without_clock b ≡ map without_clock c → without_clocks (with_batch one b) ≡ without_clocks (with_batch other c)
same_more one other b c same is =
    unclocked_batch one b ∙ ap (λ (x : Events). with_batch x (map without_clock b)) same
    ∙ ap (with_batch (without_clocks other)) is ∙ sym (unclocked_batch other c)
