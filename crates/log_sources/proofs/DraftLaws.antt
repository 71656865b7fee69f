-- The log that items spell.
use Rattle.std.proofs.Common.{◌≡◌, List, [], ◌∷◌, ◌++◌, refl, sym, ap, ◌∙◌, append_assoc}
use Rattle.std.proofs.lemmas.List.{append-nil}
use Rattle.event_log.specs.declared.item.Item.{Item}
use Rattle.event_log.specs.declared.item.Item.TheVariants as item
use Rattle.event_log.specs.declared.log.Event.{Event}
use Rattle.event_log.specs.declared.log.Log.{Log}
use Rattle.event_log.specs.LogText.{event_items, batch_items, closing_item, log_items}
use Rattle.log_merge.specs.Sources.{all_events, in_one_batch}
use Rattle.log_sources.specs.declared.draft.Draft.{Draft}
use Rattle.log_sources.specs.Drafts.{empty_draft, with_item, with_items, log_in}

pub items_more : (d : Draft) (xs ys : List Item) → with_items d (xs ++ ys) ≡ with_items (with_items d xs) ys
unfolding with_items
items_more d [] ys = refl
items_more d (x ∷ xs) ys = items_more (with_item d x) xs ys

pub none_drafted : (d : Draft) → with_items d [] ≡ d
unfolding with_items
none_drafted d = refl

one_drafted : (d : Draft) (x : Item) → with_items d (x ∷ []) ≡ with_item d x
unfolding with_items
one_drafted d x = refl

pub item_drafted : (d : Draft) (xs : List Item) (x : Item) → with_items d (xs ++ x ∷ []) ≡ with_item (with_items d xs) x
item_drafted d xs x = items_more d xs (x ∷ []) ∙ one_drafted (with_items d xs) x

abbrev with_events : Draft → List Event → Draft
with_events d events = record d { events = d.events ++ events }

events_drafted : (d : Draft) (events : List Event) (rest : List Item) → with_items d (event_items events ++ rest) ≡ with_items (with_events d events) rest
unfolding with_items
events_drafted d [] rest = ap (λ (es : List Event). with_items (record d { events = es }) rest) (sym (append-nil d.events))
events_drafted d (e ∷ events) rest = events_drafted (with_item d (item.Event e)) events rest ∙ ap (λ (es : List Event). with_items (record d { events = es }) rest) (append_assoc d.events (e ∷ []) events)

closing_drafted : (d : Draft) (others : List (List Event)) (rest : List Item) → with_items d (closing_item others ∷ rest) ≡ with_items d rest
unfolding with_items
closing_drafted d [] rest = refl
closing_drafted d (b ∷ others) rest = refl

batches_drafted : (d : Draft) (batches : List (List Event)) → with_items d (batch_items batches) ≡ with_events d (all_events batches)
batches_drafted d [] = none_drafted d ∙ ap (λ (es : List Event). record d { events = es }) (sym (append-nil d.events))
batches_drafted d (b ∷ batches) =
    events_drafted d b (closing_item batches ∷ batch_items batches) ∙ closing_drafted (with_events d b) batches (batch_items batches) ∙ batches_drafted (with_events d b) batches ∙ ap (λ (es : List Event). record d { events = es }) (append_assoc d.events b (all_events batches))

header_drafted : (log : Log) → with_items empty_draft (log_items log) ≡ with_items (record { header = log.header; events = [] }) (batch_items log.batches)
unfolding with_items
header_drafted log = refl

-- the items of a log spell it
pub log_drafted : (log : Log) → log_in (log_items log) ≡ in_one_batch log
log_drafted log = ap (λ (d : Draft). record { header = d.header; batches = d.events ∷ [] }) (header_drafted log ∙ batches_drafted (record { header = log.header; events = [] }) log.batches)
