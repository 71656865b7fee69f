-- Parts of a log by the items that they are.
use Rattle.std.proofs.Common.{◌≡◌, ℕ, ◌<◌, ◌≤◌, Bool, true, false, List, [], ◌∷◌, ◌++◌, length, map, get_or, Option, Some, None, refl, sym, ap, ◌∙◌, arith}
use Rattle.std.specs.Prelude.{if◌then◌else◌}
use Rattle.std.proofs.lemmas.List.{get_or-map, length-map, map-append}
use Rattle.std.proofs.lemmas.Option.{none-some, same_Some}
use Rattle.event_log.specs.declared.item.Item.{Item}
use Rattle.event_log.specs.declared.item.Item.TheVariants as item
use Rattle.event_log.specs.declared.log.Event.{Event}
use Rattle.vector_clock.specs.Events.{Events}
use Rattle.torn_log.specs.Items.{event_in, with_item}

-- ---- one item

pub event_is : (i : Item) (e : Event) → Some e ≡ event_in i → i ≡ item.Event e
event_is (item.Header h) e is = absurd (none-some e (sym is))
event_is (item.Event x) e is = ap (λ (y : Event). item.Event y) (sym (same_Some e x is))
event_is item.BatchEnd e is = absurd (none-some e (sym is))
event_is item.End e is = absurd (none-some e (sym is))

pub nothing_more : (events : Events) (i : Item) → None ≡ event_in i → with_item events i ≡ events
nothing_more events (item.Header h) is = refl
nothing_more events (item.Event e) is = absurd (none-some e is)
nothing_more events item.BatchEnd is = refl
nothing_more events item.End is = refl

-- ---- several

module _ {P : Type 0} (item_of : P → Item) where
  pub part_at : (parts : List P) (k : ℕ) (x : P) → k < length parts → x ≡ get_or parts k x → item_of x ≡ get_or (map item_of parts) k (item_of x)
  part_at parts k x lt read = ap item_of read ∙ sym (get_or-map item_of parts k x (item_of x) lt)

  pub part_below : (parts : List P) (k : ℕ) → k < length parts → k < length (map item_of parts)
  part_below parts k lt = omega (arith, lt, length-map parts item_of)

  pub parts_past : (parts : List P) (k : ℕ) → length parts ≤ k → length (map item_of parts) ≤ k
  parts_past parts k all = omega (arith, all, length-map parts item_of)

  pub kept_one : (kept now : List P) (stay : Bool) (x : P) → now ≡ kept ++ (if stay then x ∷ [] else []) → map item_of now ≡ map item_of kept ++ (if stay then item_of x ∷ [] else [])
  kept_one kept now true x is = ap (map item_of) is ∙ map-append item_of kept (x ∷ [])
  kept_one kept now false x is = ap (map item_of) is ∙ map-append item_of kept []

-- an item is the item that it is
pub same_items : (items : List Item) → map (λ (i : Item). i) items ≡ items
same_items [] = refl
same_items (i ∷ items) = ap (λ (is : List Item). i ∷ is) (same_items items)
