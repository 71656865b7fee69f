-- The events of all processes in one list, and the histories that say by places which are whose.
use Rattle.std.proofs.Common.{◌≡◌, ℕ, zero, suc, ◌+◌, ◌-◌, ◌*◌, ◌<◌, ◌≤◌, List, [], ◌∷◌, ◌++◌, length, map, take, drop, get_or, set, sum, refl, sym, ap, ◌∙◌, subst, arith, append_assoc, append-nil, length-append, inl, inr, below_more, reverse}
use Rattle.std.specs.Prelude.{ℤ}
use Rattle.std.specs.List.{AllByRecursion}
use Rattle.std.proofs.lemmas.Bool.{cases_eq, cases_lt}
use Rattle.std.proofs.lemmas.List.{length-set, length-map, get_or-set_same, get_or-set_other, get_or-map, get_or_append_left, get_or-append-add, take_all, take-append-le, take_more, ext_get_or, map_push, get_or_default, length-take-le, length-drop}
use Rattle.std.proofs.lemmas.List.Sums.{sum_by-cons, sum_by-set}
use Rattle.run_model.specs.Run.{Assignment, assigned}
use Rattle.event_log.specs.declared.log.Assign.{Assign}
use Rattle.event_log.specs.declared.log.Binding.{Binding}
use Rattle.event_log.specs.declared.log.Event.{Event}
use Rattle.event_log.specs.States.{HistoryView, IsHistory, AssignsWithin, assignment_of}
use Rattle.event_log.specs.inside.States.{nothing, events_in, fresh, HasRoom, Added}
use Rattle.event_log.specs.inside.Places.{PlacedHistory, HasRows, with_place, first_of, no_event, events_at, history_of, IsPlaced, unplaced, histories_of, lens_of, ArePlaced, HasPlace, with_places, IsLonger, AreLonger, AllHaveRows}
use Rattle.event_log.proofs.Growing.{longer, added_none, added_more}
use Rattle.event_log.proofs.Histories.{length-assigned, history_len, history_push, history_new}
use Rattle.event_log.proofs.Lists.{all_push}

-- ---- rows of one width

pub rows_more : (w place : ℕ) (places : List ℕ) (vs : List ℤ) (as_ : List Assignment) → HasRows w places vs → HasRows w (places ++ place ∷ []) (vs ++ assigned (drop (length vs - w) vs) as_)
rows_more w place places vs as_ h =
    let row : length (assigned (drop (length vs - w) vs) as_) ≡ length vs - (length vs - w) = length-assigned (drop (length vs - w) vs) as_ ∙ length-drop (length vs - w) vs in
    let more : (length (places ++ place ∷ []) + 1) * w ≡ (length places + 1) * w + w = ap (λ (n : ℕ). (n + 1) * w) (length-append places (place ∷ [])) ∙ omega arith in
    omega (arith, h, more, row, length-append vs (assigned (drop (length vs - w) vs) as_))

-- ---- all events, of which there are more

within_more : (n m : ℕ) (places : List ℕ) → n ≤ m → AllByRecursion (λ (i : ℕ). i < n) places → AllByRecursion (λ (i : ℕ). i < m) places
within_more n m [] le h = tt
within_more n m (i ∷ places) le h = (omega (arith, h.0), within_more n m places le h.1)

pub within_at : (n : ℕ) (places : List ℕ) (k : ℕ) → AllByRecursion (λ (i : ℕ). i < n) places → k < length places → get_or places k 0 < n
within_at n [] k h lt = absurd (omega arith)
within_at n (i ∷ places) zero h lt = h.0
within_at n (i ∷ places) (suc k) h lt = within_at n places k h.1 (omega arith)

events_at-append : (all more : List Event) (places : List ℕ) → AllByRecursion (λ (i : ℕ). i < length all) places → events_at (all ++ more) places ≡ events_at all places
events_at-append all more [] h = refl
events_at-append all more (i ∷ places) h =
    ap (λ (e : Event). e ∷ events_at (all ++ more) places) (get_or_append_left all more no_event i h.0)
    ∙ ap (λ (es : List Event). get_or all i no_event ∷ es) (events_at-append all more places h.1)

histories_of-at : (all : List Event) (hs : List PlacedHistory) (p : ℕ) → get_or (histories_of all hs) p nothing ≡ history_of all (get_or hs p unplaced)
histories_of-at all [] p = refl
histories_of-at all (h ∷ hs) zero = refl
histories_of-at all (h ∷ hs) (suc p) = histories_of-at all hs p

histories_of-set : (all : List Event) (hs : List PlacedHistory) (p : ℕ) (h : PlacedHistory) → histories_of all (set hs p h) ≡ set (histories_of all hs) p (history_of all h)
histories_of-set all [] p h = refl
histories_of-set all (x ∷ hs) zero h = refl
histories_of-set all (x ∷ hs) (suc p) h = ap (λ (l : List HistoryView). history_of all x ∷ l) (histories_of-set all hs p h)

pub length-histories_of : (all : List Event) (hs : List PlacedHistory) → length (histories_of all hs) ≡ length hs
length-histories_of all hs = length-map hs (history_of all)

pub lens_of-at : (hs : List PlacedHistory) (p : ℕ) → get_or (lens_of hs) p 0 ≡ length (get_or hs p unplaced).places
lens_of-at [] p = refl
lens_of-at (h ∷ hs) zero = refl
lens_of-at (h ∷ hs) (suc p) = lens_of-at hs p

lens_of-set : (hs : List PlacedHistory) (p : ℕ) (h : PlacedHistory) → lens_of (set hs p h) ≡ set (lens_of hs) p (length h.places)
lens_of-set [] p h = refl
lens_of-set (x ∷ hs) zero h = refl
lens_of-set (x ∷ hs) (suc p) h = ap (λ (l : List ℕ). length x.places ∷ l) (lens_of-set hs p h)

-- the lengths of the histories, as callers see them
pub lens_of-events : (all : List Event) (hs : List PlacedHistory) → map length (events_in (histories_of all hs)) ≡ lens_of hs
lens_of-events all [] = refl
lens_of-events all (h ∷ hs) =
    ap (λ (n : ℕ). n ∷ map length (events_in (histories_of all hs))) (length-map h.places (λ (i : ℕ). get_or all i no_event))
    ∙ ap (λ (l : List ℕ). length h.places ∷ l) (lens_of-events all hs)

history_of-append : (all more : List Event) (h : PlacedHistory) → IsPlaced all h → history_of (all ++ more) h ≡ history_of all h
history_of-append all more h is =
    ap (λ (es : List Event). let v : HistoryView = record { opening = take h.width h.values; events = es } in v) (events_at-append all more h.places is.within)

placed_append : (all more : List Event) (h : PlacedHistory) → IsPlaced all h → IsPlaced (all ++ more) h
placed_append all more h is = record {
  within = within_more (length all) (length (all ++ more)) h.places (omega (arith, length-append all more)) is.within;
  rows = subst (IsHistory h.width h.values) (sym (events_at-append all more h.places is.within)) is.rows;
}

histories_of-append : (all more : List Event) (hs : List PlacedHistory) → ((p : ℕ) → IsPlaced all (get_or hs p unplaced)) → histories_of (all ++ more) hs ≡ histories_of all hs
histories_of-append all more [] each = refl
histories_of-append all more (h ∷ hs) each =
    ap (λ (v : HistoryView). v ∷ histories_of (all ++ more) hs) (history_of-append all more h (each 0))
    ∙ ap (λ (l : List HistoryView). history_of all h ∷ l) (histories_of-append all more hs (λ p. each (suc p)))

-- ---- one event more

record PlacedMore (all : List Event) (h : PlacedHistory) (place : ℕ) (e : Event) : Type 0 where
  placed : IsPlaced all (with_place h place e.assigns)
  longer : history_of all (with_place h place e.assigns) ≡ longer (history_of all h) e

placed_more : (all : List Event) (h : PlacedHistory) (place : ℕ) (e : Event) → IsPlaced all h → place < length all → get_or all place no_event ≡ e → PlacedMore all h place e
placed_more all h place e is lt read =
    let new = with_place h place e.assigns in
    let events : events_at all new.places ≡ events_at all h.places ++ e ∷ [] =
    map_push (λ (i : ℕ). get_or all i no_event) h.places place ∙ ap (λ (x : Event). events_at all h.places ++ x ∷ []) read in
    let pushed = history_push h.width h.values new.values (events_at all h.places) e is.rows refl in
    record {
      placed = record {
        within = all_push (λ (i : ℕ). i < length all) h.places place is.within lt;
        rows = subst (IsHistory h.width new.values) (sym events) pushed.history;
      };
      longer = ap (λ (o : List ℤ). let v : HistoryView = record { opening = o; events = events_at all new.places } in v) pushed.opening
          ∙ ap (λ (es : List Event). let v : HistoryView = record { opening = take h.width h.values; events = es } in v) events;
    }

-- ---- a batch

-- one event of it
abbrev pub with_one : List PlacedHistory → ℕ → Event → List PlacedHistory
with_one hs place e = set hs e.process (with_place (get_or hs e.process unplaced) place e.assigns)

pub with_places-push : (hs : List PlacedHistory) (place : ℕ) (batch : List Event) (e : Event)
    → with_places hs place (batch ++ e ∷ []) ≡ with_one (with_places hs place batch) (place + length batch) e
unfolding with_places
with_places-push hs place [] e = ap (λ (n : ℕ). with_one hs n e) (omega arith)
with_places-push hs place (f ∷ batch) e =
    with_places-push (with_one hs place f) (place + 1) batch e ∙ ap (λ (n : ℕ). with_one (with_places hs place (f ∷ batch)) n e) (omega arith)

-- ---- what is behind a history

prefix_fits : {A : Type 0} (n : ℕ) (xs ys : List A) → take n xs ≡ ys → length ys ≡ n → n ≤ length xs
prefix_fits n xs ys is len = elim (cases_lt (length xs) n) [
  | inl short ↦ absurd (omega (arith, ap length (sym (take_all n xs (omega arith)) ∙ is), len))
  | inr long ↦ long
]

longer_same : (h : PlacedHistory) → IsLonger h h
longer_same h = record { width = refl; places = take_all (length h.places) h.places (omega arith); values = take_all (length h.values) h.values (omega arith) }

longer_more : (old h : PlacedHistory) (place : ℕ) (assigns : List Assign) → IsLonger old h → IsLonger old (with_place h place assigns)
longer_more old h place assigns is =
    let row = assigned (drop (length h.values - h.width) h.values) (map assignment_of assigns) in
    record {
      width = is.width;
      places = take-append-le (length old.places) h.places (place ∷ []) (prefix_fits (length old.places) h.places old.places is.places refl) ∙ is.places;
      values = take-append-le (length old.values) h.values row (prefix_fits (length old.values) h.values old.values is.values refl) ∙ is.values;
    }

pub all_longer_none : (old : List PlacedHistory) → AreLonger old old
all_longer_none old = record { count = refl; each = λ p. longer_same (get_or old p unplaced) }

all_longer_more : (old now : List PlacedHistory) (place : ℕ) (e : Event) → AreLonger old now → e.process < length now → AreLonger old (with_one now place e)
all_longer_more old now place e h there =
    let p = e.process in
    let own = with_place (get_or now p unplaced) place e.assigns in
    record {
      count = length-set now p own ∙ h.count;
      each = λ q. elim (cases_eq q p) [
        | inl same ↦ subst (λ (k : ℕ). IsLonger (get_or old k unplaced) (get_or (set now p own) k unplaced)) (sym same)
            (subst (IsLonger (get_or old p unplaced)) (sym (get_or-set_same now p own unplaced there)) (longer_more (get_or old p unplaced) (get_or now p unplaced) place e.assigns (h.each p)))
        | inr other ↦ subst (IsLonger (get_or old q unplaced)) (sym (get_or-set_other now p q own unplaced other)) (h.each q)
      ];
    }

-- ---- a batch is noted event by event

-- the first i events of the batch are noted
pub record NotedSoFar (old : List PlacedHistory) (start : ℕ) (batch : List Event) (i : ℕ) (now : List PlacedHistory) : Type 0 where
  pub items : now ≡ with_places old start (take i batch)
  pub longer : AreLonger old now

pub noted_none : (old : List PlacedHistory) (start : ℕ) (batch : List Event) → NotedSoFar old start batch 0 old
unfolding with_places
noted_none old start batch = record { items = refl; longer = all_longer_none old }

pub noted_more : (old : List PlacedHistory) (start : ℕ) (batch : List Event) (i : ℕ) (now : List PlacedHistory) (e : Event) → NotedSoFar old start batch i now → i < length batch → e ≡ get_or batch i e
    → e.process < length now → NotedSoFar old start batch (i + 1) (set now e.process (with_place (get_or now e.process unplaced) (start + i) e.assigns))
noted_more old start batch i now e h lt read there =
    let front : take (i + 1) batch ≡ take i batch ++ e ∷ [] = take_more batch i e lt ∙ ap (λ (x : Event). take i batch ++ x ∷ []) (sym read) in
    let place : start + length (take i batch) ≡ start + i = ap (λ (n : ℕ). start + n) (length-take-le i batch (omega arith)) in
    record {
      items = ap (λ (hs : List PlacedHistory). with_one hs (start + i) e) h.items ∙ ap (λ (n : ℕ). with_one (with_places old start (take i batch)) n e) (sym place)
          ∙ sym (ap (with_places old start) front ∙ with_places-push old start (take i batch) e);
      longer = all_longer_more old now (start + i) e h.longer there;
    }

all_at : (P : Event → Type 0) (xs : List Event) (i : ℕ) (d : Event) → AllByRecursion P xs → i < length xs → P (get_or xs i d)
all_at P [] i d h lt = absurd (omega arith)
all_at P (x ∷ xs) zero d h lt = h.0
all_at P (x ∷ xs) (suc i) d h lt = all_at P xs i d h.1 (omega arith)

-- the event of the batch has its place among histories that grew
pub next_place : (old : List PlacedHistory) (start : ℕ) (batch : List Event) (i : ℕ) (now : List PlacedHistory) (e : Event) → NotedSoFar old start batch i now → AllByRecursion (HasPlace old) batch
    → i < length batch → e ≡ get_or batch i e → HasPlace now e
next_place old start batch i now e h room lt read =
    let one : HasPlace old e = subst (HasPlace old) (sym read) (all_at (HasPlace old) batch i e room lt) in
    record {
      process = omega (arith, one.process, h.longer.count);
      assigns = subst (λ (n : ℕ). AssignsWithin n e) (sym (h.longer.each e.process).width) one.assigns;
    }

-- a history that is read by its place
pub history_is : (hs : List PlacedHistory) (p : ℕ) (h : PlacedHistory) → p < length hs → h ≡ get_or hs p h → h ≡ get_or hs p unplaced
history_is hs p h lt is = is ∙ get_or_default hs p h unplaced lt

-- ---- what the batch has added

record BatchPlaced (all : List Event) (old : List HistoryView) (batch : List Event) (now : List PlacedHistory) : Type 0 where
  each : (p : ℕ) → IsPlaced all (get_or now p unplaced)
  added : Added old batch (histories_of all now)
  count : sum (lens_of now) ≡ sum (map length (events_in old)) + length batch

one_placed : (all : List Event) (old : List HistoryView) (done : List Event) (place : ℕ) (hs : List PlacedHistory) (e : Event) → BatchPlaced all old done hs → HasRoom old e → place < length all
    → get_or all place no_event ≡ e → BatchPlaced all old (done ++ e ∷ []) (with_one hs place e)
one_placed all old done place hs e h room lt read =
    let p = e.process in
    let before = get_or hs p unplaced in
    let own = with_place before place e.assigns in
    let more = placed_more all before place e (h.each p) lt read in
    let there : p < length hs = omega (arith, room.process, h.added.grown.count, length-histories_of all hs) in
    let view : histories_of all (set hs p own) ≡ set (histories_of all hs) p (longer (get_or (histories_of all hs) p nothing) e) =
    histories_of-set all hs p own ∙ ap (set (histories_of all hs) p) (more.longer ∙ ap (λ (v : HistoryView). longer v e) (sym (histories_of-at all hs p))) in
    record {
      each = λ q. elim (cases_eq q p) [
        | inl same ↦ subst (λ (k : ℕ). IsPlaced all (get_or (set hs p own) k unplaced)) (sym same)
            (subst (IsPlaced all) (sym (get_or-set_same hs p own unplaced there)) more.placed)
        | inr other ↦ subst (IsPlaced all) (sym (get_or-set_other hs p q own unplaced other)) (h.each q)
      ];
      added = subst (Added old (done ++ e ∷ [])) (sym view)
          (added_more old (histories_of all hs) done e h.added (omega (arith, there, length-histories_of all hs)));
      count =
          let raised : sum (set (lens_of hs) p (length own.places)) + get_or (lens_of hs) p 0 ≡ sum (lens_of hs) + length own.places =
          sum_by-set (λ (n : ℕ). n) (lens_of hs) p (length own.places) 0 (omega (arith, there, length-map hs (λ (x : PlacedHistory). length x.places))) in
          omega (arith, raised, ap sum (lens_of-set hs p own), lens_of-at hs p, length-append before.places (place ∷ []), length-append done (e ∷ []), h.count);
    }

batch_placed : (all : List Event) (old : List HistoryView) (done rest : List Event) (place : ℕ) (hs : List PlacedHistory) → BatchPlaced all old done hs → AllByRecursion (HasRoom old) rest
    → place + length rest ≤ length all → ((k : ℕ) → k < length rest → get_or all (place + k) no_event ≡ get_or rest k no_event) → BatchPlaced all old (done ++ rest) (with_places hs place rest)
unfolding with_places
batch_placed all old done [] place hs h room fits read = subst (λ (es : List Event). BatchPlaced all old es hs) (sym (append-nil done)) h
batch_placed all old done (e ∷ rest) place hs h room fits read =
    let here : place + 0 ≡ place = omega arith in
    let step = one_placed all old done place hs e h room.0 (omega arith) (subst (λ (n : ℕ). get_or all n no_event ≡ e) here (read 0 (omega arith))) in
    let next : (k : ℕ) → k < length rest → get_or all (place + 1 + k) no_event ≡ get_or rest k no_event =
    λ k lt. (let at : place + suc k ≡ place + 1 + k = omega arith in subst (λ (n : ℕ). get_or all n no_event ≡ get_or rest k no_event) at (read (suc k) (omega arith))) in
    subst (λ (es : List Event). BatchPlaced all old es (with_places hs place (e ∷ rest))) (append_assoc done (e ∷ []) rest)
    (batch_placed all old (done ++ e ∷ []) rest (place + 1) (with_one hs place e) step room.1 (omega arith) next)

-- the lengths that callers see are those of the places
pub shape_is : (all : List Event) (hs : List PlacedHistory) (view : List HistoryView) (shape : List ℕ) → histories_of all hs ≡ view → shape ≡ map length (events_in view) → shape ≡ lens_of hs
shape_is all hs view shape same is = is ∙ ap (λ (v : List HistoryView). map length (events_in v)) (sym same) ∙ lens_of-events all hs

-- what the fields are of once the batch is there
pub record AreExtended (all batch : List Event) (view : List HistoryView) (now : List PlacedHistory) : Type 0 where
  pub placed : ArePlaced (all ++ batch) now
  pub added : Added view batch (histories_of (all ++ batch) now)

pub extended : (all batch : List Event) (old now : List PlacedHistory) (view : List HistoryView) → ArePlaced all old → histories_of all old ≡ view → AllByRecursion (HasRoom view) batch
    → now ≡ with_places old (length all) batch → AreExtended all batch view now
extended all batch old now view h is_view room is =
    let whole = all ++ batch in
    let same : histories_of whole old ≡ view = histories_of-append all batch old h.each ∙ is_view in
    let lens : sum (map length (events_in view)) ≡ sum (lens_of old) =
    ap (λ (v : List HistoryView). sum (map length (events_in v))) (sym is_view) ∙ ap sum (lens_of-events all old) in
    let none : BatchPlaced whole view [] old = record {
      each = λ p. placed_append all batch (get_or old p unplaced) (h.each p);
      added = subst (Added view []) (sym same) (added_none view);
      count = omega (arith, lens);
    } in
    let end : length all + length batch ≤ length whole = omega (arith, length-append all batch) in
    let done = batch_placed whole view [] batch (length all) old none room end (λ k lt. get_or-append-add all batch k no_event) in
    let placed : ArePlaced whole (with_places old (length all) batch) = record {
      each = done.each;
      count = omega (arith, done.count, lens, h.count, length-append all batch);
    } in
    record {
      placed = subst (ArePlaced whole) (sym is) placed;
      added = subst (λ (hs : List PlacedHistory). Added view batch (histories_of whole hs)) (sym is) done.added;
    }

pub room_placed : (all : List Event) (hs : List PlacedHistory) (view : List HistoryView) (batch : List Event) → ArePlaced all hs → histories_of all hs ≡ view
    → AllByRecursion (HasRoom view) batch → AllByRecursion (HasPlace hs) batch
room_placed all hs view [] h is room = tt
room_placed all hs view (e ∷ batch) h is room =
    let p = e.process in
    let width : length (get_or view p nothing).opening ≡ (get_or hs p unplaced).width =
    ap (λ (v : List HistoryView). length (get_or v p nothing).opening) (sym is) ∙ ap (λ (v : HistoryView). length v.opening) (histories_of-at all hs p) ∙ (h.each p).rows.wide in (
      record { process = omega (arith, room.0.process, ap length is, length-histories_of all hs); assigns = subst (λ (n : ℕ). AssignsWithin n e) width room.0.assigns },
      room_placed all hs view batch h is room.1,
    )

-- ---- cut back

pub same_placed : (h k : PlacedHistory) → h.width ≡ k.width → h.places ≡ k.places → h.values ≡ k.values → h ≡ k
same_placed h k w p v =
    ap (λ (x : ℕ). let y : PlacedHistory = record { width = x; places = h.places; values = h.values } in y) w
    ∙ ap (λ (x : List ℕ). let y : PlacedHistory = record { width = k.width; places = x; values = h.values } in y) p
    ∙ ap (λ (x : List ℤ). let y : PlacedHistory = record { width = k.width; places = k.places; values = x } in y) v

-- the histories below i have as many events as the shape says, the others are as they were
pub record CutBelow (shape : List ℕ) (old : List PlacedHistory) (i : ℕ) (now : List PlacedHistory) : Type 0 where
  pub count : length now ≡ length old
  pub below : (p : ℕ) → p < i → get_or now p unplaced ≡ first_of (get_or old p unplaced) (get_or shape p 0)
  pub above : (p : ℕ) → i ≤ p → get_or now p unplaced ≡ get_or old p unplaced

pub cut_more : (shape : List ℕ) (old now : List PlacedHistory) (i len : ℕ) → CutBelow shape old i now → i < length now → len ≡ get_or shape i 0
    → CutBelow shape old (i + 1) (set now i (first_of (get_or now i unplaced) len))
cut_more shape old now i len h lt is = record {
  count = length-set now i _ ∙ h.count;
  below = below_more _ _ (λ p k. get_or-set_other now i p _ unplaced (λ e. absurd (omega arith)) ∙ h.below p k)
      (get_or-set_same now i _ unplaced lt ∙ ap (λ (x : PlacedHistory). first_of x len) (h.above i (omega arith)) ∙ ap (λ (n : ℕ). first_of (get_or old i unplaced) n) is);
  above = λ p k. get_or-set_other now i p _ unplaced (λ e. absurd (omega arith)) ∙ h.above p (omega arith);
}

-- histories that became longer and are cut to the lengths from before are those from before
pub cut_all : (shape : List ℕ) (before old now : List PlacedHistory) (i : ℕ) → CutBelow shape old i now → length old ≤ i → AreLonger before old → AllHaveRows before → shape ≡ lens_of before → now ≡ before
cut_all shape before old now i h all longer rows lens = ext_get_or unplaced now before (h.count ∙ longer.count) (λ p lt.
    let b = get_or before p unplaced in
    let o = get_or old p unplaced in
    let is = longer.each p in
    let len : get_or shape p 0 ≡ length b.places = ap (λ (s : List ℕ). get_or s p 0) lens ∙ lens_of-at before p in
    let end : (get_or shape p 0 + 1) * o.width ≡ length b.values =
    ap (λ (n : ℕ). (n + 1) * o.width) len ∙ ap (λ (w : ℕ). (length b.places + 1) * w) is.width ∙ sym (rows p) in
    h.below p (omega (arith, h.count)) ∙ same_placed (first_of o (get_or shape p 0)) b is.width
    (ap (λ (n : ℕ). take n o.places) len ∙ is.places) (ap (λ (n : ℕ). take n o.values) end ∙ is.values))

-- the lengths from before are there in what became longer
pub longer_fits : (shape : List ℕ) (before old : List PlacedHistory) → AreLonger before old → shape ≡ lens_of before → (p : ℕ) → get_or shape p 0 ≤ length (get_or old p unplaced).places
longer_fits shape before old longer lens p =
    let len : get_or shape p 0 ≡ length (get_or before p unplaced).places = ap (λ (s : List ℕ). get_or s p 0) lens ∙ lens_of-at before p in
    omega (arith, len, prefix_fits (length (get_or before p unplaced).places) (get_or old p unplaced).places (get_or before p unplaced).places (longer.each p).places refl)

pub all_have_rows : (all : List Event) (hs : List PlacedHistory) → ArePlaced all hs → AllHaveRows hs
all_have_rows all hs h p =
    let own = get_or hs p unplaced in
    history_len own.width own.values (events_at all own.places) (h.each p).rows
    ∙ ap (λ (n : ℕ). (n + 1) * own.width) (length-map own.places (λ (i : ℕ). get_or all i no_event))

-- ---- without events

-- histories of processes with these variables
abbrev pub fresh_placed : List (List Binding) → List PlacedHistory
fresh_placed vars = map (λ (v : List Binding). record { width = length v; places = []; values = map (λ (b : Binding). b.value) v }) vars

fresh_one : (v : List Binding) → IsPlaced [] (record { width = length v; places = []; values = map (λ (b : Binding). b.value) v })
fresh_one v = record { within = tt; rows = history_new (length v) (map (λ (b : Binding). b.value) v) (length-map v (λ (b : Binding). b.value)) }

fresh_each : (vars : List (List Binding)) (p : ℕ) → IsPlaced [] (get_or (fresh_placed vars) p unplaced)
fresh_each [] p = record { within = tt; rows = history_new 0 [] refl }
fresh_each (v ∷ vars) zero = fresh_one v
fresh_each (v ∷ vars) (suc p) = fresh_each vars p

fresh_count : (vars : List (List Binding)) → sum (lens_of (fresh_placed vars)) ≡ 0
fresh_count [] = refl
fresh_count (v ∷ vars) = sum_by-cons (λ (n : ℕ). n) 0 (lens_of (fresh_placed vars)) ∙ omega (arith, fresh_count vars)

pub fresh_are_placed : (vars : List (List Binding)) → ArePlaced [] (fresh_placed vars)
fresh_are_placed vars = record { each = fresh_each vars; count = sym (fresh_count vars) }

pub fresh_view : (vars : List (List Binding)) → histories_of [] (fresh_placed vars) ≡ fresh vars
fresh_view [] = refl
fresh_view (v ∷ vars) =
    let bs = map (λ (b : Binding). b.value) v in
    ap (λ (o : List ℤ). let h : HistoryView = record { opening = o; events = [] } in h ∷ histories_of [] (fresh_placed vars)) (take_all (length v) bs (omega (arith, length-map v (λ (b : Binding). b.value))))
    ∙ ap (λ (l : List HistoryView). let h : HistoryView = record { opening = bs; events = [] } in h ∷ l) (fresh_view vars)

-- one list of variables more
pub fresh_placed_more : (vars : List (List Binding)) (i : ℕ) (hs hs' : List PlacedHistory) (h : PlacedHistory) (v : List Binding) → hs ≡ fresh_placed (take i vars) → i < length vars → v ≡ get_or vars i v
    → h ≡ record { width = length v; places = []; values = map (λ (b : Binding). b.value) v } → hs' ≡ hs ++ h ∷ [] → hs' ≡ fresh_placed (take (i + 1) vars)
fresh_placed_more vars i hs hs' h v is lt read new pushed =
    let start = λ (x : List Binding). let y : PlacedHistory = record { width = length x; places = []; values = map (λ (b : Binding). b.value) x } in y in
    pushed ∙ ap (λ (l : List PlacedHistory). l ++ h ∷ []) is ∙ ap (λ (x : PlacedHistory). fresh_placed (take i vars) ++ x ∷ []) (new ∙ ap start read)
    ∙ sym (ap fresh_placed (take_more vars i v lt) ∙ map_push start (take i vars) (get_or vars i v))

pub fresh_all : (vars : List (List Binding)) (i : ℕ) (hs : List PlacedHistory) → hs ≡ fresh_placed (take i vars) → length vars ≤ i → hs ≡ fresh_placed vars
fresh_all vars i hs is all = is ∙ ap fresh_placed (take_all i vars all)

-- ---- the events of a batch are moved

-- the batch from before is what was moved and then what is left, which is turned round
pub record MovedSoFar (old batch left now : List Event) : Type 0 where
  pub done : List Event
  pub split : batch ≡ done ++ reverse left
  pub moved : now ≡ old ++ done

-- ---- what is read

-- what is kept of a process, as callers see the histories
pub record IsKept (all : List Event) (hs : List PlacedHistory) (view : List HistoryView) (p : ℕ) (h : PlacedHistory) : Type 0 where
  pub placed : IsPlaced all h
  pub is : get_or view p nothing ≡ history_of all h
  pub events : length (get_or view p nothing).events ≡ length h.places
  pub width : length (get_or view p nothing).opening ≡ h.width

pub is_kept : (all : List Event) (hs : List PlacedHistory) (view : List HistoryView) (p : ℕ) (h : PlacedHistory) → ArePlaced all hs → histories_of all hs ≡ view → p < length view → h ≡ get_or hs p h → IsKept all hs view p h
is_kept all hs view p h placed same lt read =
    let own = history_is hs p h (omega (arith, length-histories_of all hs, ap length same)) read in
    let here : IsPlaced all h = subst (IsPlaced all) (sym own) (placed.each p) in
    let is : get_or view p nothing ≡ history_of all h = ap (λ (v : List HistoryView). get_or v p nothing) (sym same) ∙ histories_of-at all hs p ∙ ap (history_of all) (sym own) in
    record {
      placed = here;
      is = is;
      events = ap (λ (v : HistoryView). length v.events) is ∙ length-map h.places (λ (i : ℕ). get_or all i no_event);
      width = ap (λ (v : HistoryView). length v.opening) is ∙ here.rows.wide;
    }

-- the event at a position, by its place
pub event_is : (all : List Event) (hs : List PlacedHistory) (view : List HistoryView) (p i : ℕ) (h : PlacedHistory) (e : Event) → IsKept all hs view p h → i < length h.places
    → e ≡ get_or all (get_or h.places i 0) e → e ≡ get_or (get_or view p nothing).events i e
event_is all hs view p i h e kept lt read =
    read ∙ get_or_default all (get_or h.places i 0) e no_event (within_at (length all) h.places i kept.placed.within lt)
    ∙ sym (get_or-map (λ (j : ℕ). get_or all j no_event) h.places i 0 e lt) ∙ ap (λ (v : HistoryView). get_or v.events i e) (sym kept.is)
