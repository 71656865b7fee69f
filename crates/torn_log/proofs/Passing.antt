-- Items one after the other, and the events behind them.
use Rattle.std.proofs.Common.{set, ◌≡◌, ℕ, zero, suc, ◌+◌, ◌^◌, ◌<◌, ◌≤◌, List, [], ◌∷◌, ◌++◌, length, map, take, drop, get_or, replicate, refl, sym, ap, ◌∙◌, subst, inl, inr, arith, append_assoc, append-nil}
use Rattle.std.proofs.lemmas.Bool.{cases_eq}
use Rattle.std.proofs.lemmas.List.{take_more, take_all, take-append-drop, map-set, length-set, length-take, length-replicate, length_push}
use Rattle.event_log.specs.declared.item.Item.{Item}
use Rattle.event_log.specs.declared.item.Item.TheVariants as item
use Rattle.event_log.specs.declared.log.Event.{Event}
use Rattle.event_log.specs.States.{with_event}
use Rattle.vector_clock.specs.Events.{Events, own_events, no_events}
use Rattle.vector_clock.proofs.FirstPlaces.{own_same, own_other}
use Rattle.torn_log.specs.Items.{with_item, with_items, ItemStands, ItemsStand}
use Rattle.torn_log.specs.Counts.{HasRoom, Grows}

-- ---- items

pub with_items-append : (events : Events) (xs ys : List Item) → with_items events (xs ++ ys) ≡ with_items (with_items events xs) ys
with_items-append events [] ys = refl
with_items-append events (x ∷ xs) ys = with_items-append (with_item events x) xs ys

pub items_more : (none : Events) (items : List Item) (k : ℕ) (i : Item) → k < length items → i ≡ get_or items k i → with_items none (take (k + 1) items) ≡ with_item (with_items none (take k items)) i
items_more none items k i lt read =
    ap (with_items none) (take_more items k i lt)
    ∙ with_items-append none (take k items) (get_or items k i ∷ [])
    ∙ ap (with_item (with_items none (take k items))) (sym read)

pub items_split : (none : Events) (items : List Item) (k : ℕ) (i : Item) → k < length items → i ≡ get_or items k i → with_items none items ≡ with_items (with_item (with_items none (take k items)) i) (drop (k + 1) items)
items_split none items k i lt read =
    ap (with_items none) (sym (take-append-drop (k + 1) items))
    ∙ with_items-append none (take (k + 1) items) (drop (k + 1) items)
    ∙ ap (λ (events : Events). with_items events (drop (k + 1) items)) (items_more none items k i lt read)

pub items_all : (none : Events) (items : List Item) (k : ℕ) → length items ≤ k → with_items none (take k items) ≡ with_items none items
items_all none items k all = ap (with_items none) (take_all k items all)

pub one_stands : (procs : ℕ) (items : List Item) (k : ℕ) (i : Item) → ItemsStand procs items → k < length items → i ≡ get_or items k i → ItemStands procs i
one_stands procs [] k i all lt read = absurd (omega (arith, lt))
one_stands procs (x ∷ items) zero i all lt read = subst (ItemStands procs) (sym read) all.0
one_stands procs (x ∷ items) (suc k) i all lt read = one_stands procs items k i all.1 (omega (arith, lt)) read

pub front_stands : (procs : ℕ) (items : List Item) (k : ℕ) → ItemsStand procs items → ItemsStand procs (take k items)
front_stands procs items zero all = tt
front_stands procs [] (suc k) all = tt
front_stands procs (x ∷ items) (suc k) all = (all.0, front_stands procs items k all.1)

pub rest_stands : (procs : ℕ) (items : List Item) (k : ℕ) → ItemsStand procs items → ItemsStand procs (drop k items)
rest_stands procs items zero all = all
rest_stands procs [] (suc k) all = tt
rest_stands procs (x ∷ items) (suc k) all = rest_stands procs items k all.1

-- ---- counts

pub count-lens : (events : Events) (p : ℕ) → get_or (map length events) p 0 ≡ length (own_events events p)
count-lens [] p = refl
count-lens (es ∷ events) zero = refl
count-lens (es ∷ events) (suc p) = count-lens events p

pub length-lens : (events : Events) → length (map length events) ≡ length events
length-lens [] = refl
length-lens (es ∷ events) = ap suc (length-lens events)

pub length-with_item : (events : Events) (i : Item) → length (with_item events i) ≡ length events
length-with_item events (item.Header h) = refl
length-with_item events (item.Event e) = length-set events e.process (get_or events e.process [] ++ e ∷ [])
length-with_item events item.BatchEnd = refl
length-with_item events item.End = refl

pub length-with_items : (events : Events) (items : List Item) → length (with_items events items) ≡ length events
length-with_items events [] = refl
length-with_items events (i ∷ items) = length-with_items (with_item events i) items ∙ length-with_item events i

pub length-none : (procs : ℕ) → length (no_events procs) ≡ procs
length-none procs = length-replicate procs []

-- an event more is counted
pub count_event : (events : Events) (e : Event) (counts : List ℕ) (n : ℕ) → n ≡ get_or counts e.process 0 → counts ≡ map length events → set counts e.process (n + 1) ≡ map length (with_event events e)
count_event events e counts n read are =
    let size : n + 1 ≡ length (own_events events e.process ++ e ∷ []) = ap (λ (k : ℕ). k + 1) (read ∙ ap (λ (cs : List ℕ). get_or cs e.process 0) are ∙ count-lens events e.process) ∙ sym (length_push (own_events events e.process) e) in
    ap (λ (cs : List ℕ). set cs e.process (n + 1)) are
    ∙ ap (set (map length events) e.process) size
    ∙ sym (map-set length events e.process (own_events events e.process ++ e ∷ []))

pub counts_none : (procs : ℕ) → replicate procs 0 ≡ map length (no_events procs)
counts_none zero = refl
counts_none (suc procs) = ap (λ (cs : List ℕ). 0 ∷ cs) (counts_none procs)

pub own_none : (procs p : ℕ) → own_events (no_events procs) p ≡ []
own_none zero p = refl
own_none (suc procs) zero = refl
own_none (suc procs) (suc p) = own_none procs p

pub own_more : (events : Events) (i : Item) (p : ℕ) → ItemStands (length events) i → length (own_events (with_item events i) p) ≤ length (own_events events p) + 1
own_more events (item.Header h) p stands = omega arith
own_more events item.BatchEnd p stands = omega arith
own_more events item.End p stands = omega arith
own_more events (item.Event e) p stands = elim (cases_eq p e.process) [
  | inl same ↦ subst (λ (q : ℕ). length (own_events (with_event events e) q) ≤ length (own_events events q) + 1) (sym same) (omega (arith, ap length (own_same events e stands.process), length_push (own_events events e.process) e))
  | inr other ↦ omega (arith, ap length (own_other events e p other))
]

pub own_few : (events : Events) (items : List Item) (p : ℕ) → ItemsStand (length events) items → length (own_events (with_items events items) p) ≤ length (own_events events p) + length items
own_few events [] p all = omega arith
own_few events (i ∷ items) p all =
    omega (arith, own_more events i p all.0, own_few (with_item events i) items p (subst (λ (n : ℕ). ItemsStand n items) (sym (length-with_item events i)) all.1))

pub has_room : (procs : ℕ) (items : List Item) (k : ℕ) (counts : List ℕ) → ItemsStand procs items → k < length items → length items < 2 ^ 64 → counts ≡ map length (with_items (no_events procs) (take k items)) → HasRoom counts
has_room procs items k counts all lt small are p =
    let front : ItemsStand (length (no_events procs)) (take k items) = subst (λ (n : ℕ). ItemsStand n (take k items)) (sym (length-none procs)) (front_stands procs items k all) in
    omega (arith, lt, small, ap (λ (cs : List ℕ). get_or cs p 0) are, count-lens (with_items (no_events procs) (take k items)) p, own_few (no_events procs) (take k items) p front, ap length (own_none procs p), length-take k items)

pub counts_long : (procs : ℕ) (items : List Item) (counts : List ℕ) → counts ≡ map length (with_items (no_events procs) items) → length counts ≡ procs
counts_long procs items counts are = ap length are ∙ length-lens (with_items (no_events procs) items) ∙ length-with_items (no_events procs) items ∙ length-none procs

-- ---- events that grow

pub grows_none : (events : Events) → Grows events events
grows_none events = record { count = refl; more = λ p. ([], sym (append-nil (own_events events p))) }

pub grows_on : (one two three : Events) → Grows one two → Grows two three → Grows one three
grows_on one two three a b = record {
  count = b.count ∙ a.count;
  more = λ p.
      let x = a.more p in
      let y = b.more p in
      (x.0 ++ y.0, y.1 ∙ ap (λ (es : List Event). es ++ y.0) x.1 ∙ append_assoc (own_events one p) x.0 y.0);
}

pub grows_event : (events : Events) (e : Event) → e.process < length events → Grows events (with_event events e)
grows_event events e lt = record {
  count = length-set events e.process (get_or events e.process [] ++ e ∷ []);
  more = λ p. elim (cases_eq p e.process) [
    | inl same ↦ (e ∷ [], subst (λ (q : ℕ). own_events (with_event events e) q ≡ own_events events q ++ e ∷ []) (sym same) (own_same events e lt))
    | inr other ↦ ([], own_other events e p other ∙ sym (append-nil (own_events events p)))
  ];
}

pub grows_item : (events : Events) (i : Item) → ItemStands (length events) i → Grows events (with_item events i)
grows_item events (item.Header h) stands = grows_none events
grows_item events (item.Event e) stands = grows_event events e stands.process
grows_item events item.BatchEnd stands = grows_none events
grows_item events item.End stands = grows_none events

pub grows_items : (events : Events) (items : List Item) → ItemsStand (length events) items → Grows events (with_items events items)
grows_items events [] all = grows_none events
grows_items events (i ∷ items) all = grows_on events (with_item events i) (with_items (with_item events i) items) (grows_item events i all.0) (grows_items (with_item events i) items (subst (λ (n : ℕ). ItemsStand n items) (sym (length-with_item events i)) all.1))

-- behind one item more come the others
pub grows_split : (procs : ℕ) (items : List Item) (k : ℕ) (i : Item) → ItemsStand procs items → k < length items → i ≡ get_or items k i → Grows (with_item (with_items (no_events procs) (take k items)) i) (with_items (no_events procs) items)
grows_split procs items k i all lt read =
    let before = with_items (no_events procs) (take k items) in
    let size : procs ≡ length (with_item before i) = sym (length-with_item before i ∙ length-with_items (no_events procs) (take k items) ∙ length-none procs) in
    subst (Grows (with_item before i)) (sym (items_split (no_events procs) items k i lt read)) (grows_items (with_item before i) (drop (k + 1) items) (subst (λ (n : ℕ). ItemsStand n (drop (k + 1) items)) size (rest_stands procs items (k + 1) all)))
