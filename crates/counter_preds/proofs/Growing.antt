-- Counters when more events come.
use Rattle.std.proofs.Common.{◌≡◌, ℕ, ◌+◌, ◌-◌, ◌<◌, ◌≤◌, min, ℤ, pos, ◌+ℤ◌, ◌≤ℤ◌, List, [], length, map, take, get_or, refl, ap, sym, subst, ◌∙◌, arith, length-append}
use Rattle.std.proofs.lemmas.Int.{ints}
use Rattle.std.proofs.lemmas.List.{take-map, take-append-le}
use Rattle.run_model.specs.Run as run
use Rattle.run_model.specs.Run.{process_at, state_after, state_from}
use Rattle.event_log.specs.declared.log.Event.{Event}
use Rattle.event_log.specs.declared.log.Header.{Header}
use Rattle.event_log.specs.States.{StatesView, AreWhole, trace_of, event_of, variable_of}
use Rattle.event_log.proofs.Keeping.{process_is}
use Rattle.pull_system.specs.Growth.{PullGrows, PullStays}
use Rattle.pull_system.proofs.PullLists.{first_grows, first_passes, first_least}
use Rattle.channel_preds.specs.Channels.{events_at}
use Rattle.channel_preds.specs.Truth.{lens_of}
use Rattle.channel_preds.proofs.Growing.{lens-get_or}
use Rattle.counter_preds.specs.declared.values.Variable.{Variable}
use Rattle.counter_preds.specs.Counters.{AreRising, IsVariable, IsCounter, value_in, values_of, value_at, lead_at, at_most_pull, at_least_pull}
use Rattle.counter_preds.specs.Truth.{HasMoreEvents}
use Rattle.counter_preds.proofs.Tests.{le_holds, holds_le}
use Rattle.counter_preds.proofs.Along.{length-values_of, value_at-values_of}
use Rattle.counter_preds.proofs.Reaching.{reached, entry}
use Rattle.counter_preds.proofs.Tables.{positions_pull, entry_at}

-- the process of the run, by what was logged of it
pub process_logged : (states : StatesView) → AreWhole states → (p : ℕ) → p < length states.events
    → process_at (trace_of states) p ≡ record { name = get_or states.header.procs p []; variables = map variable_of (get_or states.header.vars p []); events = map event_of (events_at states p) }
process_logged states whole p there =
    process_is states.header.procs states.header.vars states.events p (omega (arith, whole.events, there)) (omega (arith, whole.events, whole.header.vars, there)) there

-- the state that a header opens a process with, and the value behind some events
abbrev pub opening_in : Header → Variable → List ℤ
opening_in h x = map (λ (v : run.Variable). v.value) (map variable_of (get_or h.vars x.process []))

abbrev pub value_behind : Header → Variable → List Event → ℤ
value_behind h x events = get_or (state_from (opening_in h x) (map event_of events)) x.number (pos 0)

-- the value after the first events goes by them and the header alone
pub value_by : (states : StatesView) → AreWhole states → (x : Variable) → IsVariable states x → (a : ℕ)
    → value_in states x a ≡ value_behind states.header x (take a (events_at states x.process))
value_by states whole x is a =
    ap (λ (p : run.Process). get_or (state_after p a) x.number (pos 0)) (process_logged states whole x.process is.process)
    ∙ ap (λ (es : List run.Event). get_or (state_from (opening_in states.header x) es) x.number (pos 0)) (take-map event_of a (events_at states x.process))

more_there : (before after : StatesView) → HasMoreEvents before after → AreWhole before → AreWhole after → (x : Variable) → IsVariable before x → IsVariable after x
more_there before after more whole whole' x is = record {
  process = omega (arith, is.process, whole.events, whole'.events, ap (λ (h : Header). length h.procs) more.header);
  variable = subst (λ (h : Header). x.number < length (get_or h.vars x.process [])) (sym more.header) is.variable;
}

-- the values before are the first of those after
pub value_stays : (before after : StatesView) → HasMoreEvents before after → AreWhole before → AreWhole after → (x : Variable) → IsVariable before x → (a : ℕ) → a ≤ length (events_at before x.process)
    → value_in before x a ≡ value_in after x a
value_stays before after more whole whole' x is a le =
    let front : take a (events_at after x.process) ≡ take a (events_at before x.process) =
    ap (λ (es : List Event). take a es) (more.each x.process).1 ∙ take-append-le a (events_at before x.process) (more.each x.process).0 le in
    value_by before whole x is a
    ∙ ap (λ (h : Header). value_behind h x (take a (events_at before x.process))) (sym more.header)
    ∙ ap (value_behind after.header x) (sym front)
    ∙ sym (value_by after whole' x (more_there before after more whole whole' x is) a)

-- these values are the first of those
pub record IsFront (values later : List ℤ) : Type 0 where
  pub shorter : length values ≤ length later
  pub same : (a : ℕ) → a < length values → value_at values a ≡ value_at later a

values_front : (before after : StatesView) → HasMoreEvents before after → AreWhole before → AreWhole after → (x : Variable) → IsVariable before x → IsFront (values_of before x) (values_of after x)
values_front before after more whole whole' x is =
    let longer : length (events_at before x.process) ≤ length (events_at after x.process) =
    omega (arith, ap (λ (es : List Event). length es) (more.each x.process).1, length-append (events_at before x.process) (more.each x.process).0) in
    record {
      shorter = omega (arith, length-values_of before x, length-values_of after x, longer);
      same = λ a h.
          let here : a ≤ length (events_at before x.process) = omega (arith, h, length-values_of before x) in
          value_at-values_of before x a here ∙ value_stays before after more whole whole' x is a here ∙ sym (value_at-values_of after x a (omega (arith, here, longer)));
    }

-- a counter of the grown run was one before
counter_before : (before after : List ℤ) → IsFront before after → 1 ≤ length before → AreRising after → AreRising before
counter_before before after front some rising = record {
  some = some;
  rises = λ a b up lt.
      let low = front.same a (omega (arith, up, lt)) in
      let high = front.same b lt in
      subst (λ z. z ≤ℤ value_at before b) (sym low) (subst (λ z. value_at after a ≤ℤ z) (sym high) (rising.rises a b up (omega (arith, lt, front.shorter))));
}

-- the leading value from before, at the position or at its last one, is no more than the later one
lead_grows : (leads later : List ℤ) → AreRising leads → AreRising later → IsFront leads later → (x : ℕ) → lead_at leads (min x (length leads)) ≤ℤ lead_at later x
lead_grows leads later rising after front x =
    let old = min (min x (length leads)) (length leads - 1) in
    let new = min x (length later - 1) in
    subst (λ z. z ≤ℤ value_at later new) (sym (front.same old (omega (arith, rising.some)))) (after.rises old new (omega (arith, front.shorter, rising.some)) (omega (arith, after.some)))

positions_grow : (old lens : List ℕ) (p q : ℕ) (leads leads' : List ℤ) (more : ℤ) (follows follows' : List ℤ) (extra : ℤ) → AreRising leads → AreRising leads'
    → IsFront leads leads' → IsFront follows follows' → length leads ≡ get_or old p 0 + 1 → length leads' ≡ get_or lens p 0 + 1
    → PullGrows old lens (positions_pull p q leads more follows extra) (positions_pull p q leads' more follows' extra)
positions_grow old lens p q leads leads' more follows follows' extra rising rising' front back size size' = record {
  source = refl;
  target = refl;
  asks = λ x within.
      let x' = min x (get_or old p 0 + 1) in
      let here : x' ≡ min x (length leads) = omega (arith, size) in
      let less : lead_at leads x' ≤ℤ lead_at leads' x = subst (λ (k : ℕ). lead_at leads k ≤ℤ lead_at leads' x) (sym here) (lead_grows leads leads' rising rising' front x) in
      let grows = first_grows (reached follows extra (lead_at leads x' +ℤ more)) (reached follows' extra (lead_at leads' x +ℤ more)) (length follows) (length follows') back.shorter
      (λ y lt has. le_holds (lead_at leads x' +ℤ more) (value_at follows y +ℤ extra) (subst (λ z. (lead_at leads x' +ℤ more) ≤ℤ (z +ℤ extra)) (sym (back.same y lt)) (omega (arith, ints, less, holds_le (lead_at leads' x +ℤ more) (value_at follows' y +ℤ extra) has)))) in
      omega (arith, entry_at leads more follows extra x' (omega (arith, here)), entry_at leads' more follows' extra x (omega (arith, within, size')), grows);
}

values_size : (states : StatesView) (x : Variable) → length (values_of states x) ≡ get_or (lens_of states) x.process 0 + 1
values_size states x = length-values_of states x ∙ ap (λ (n : ℕ). n + 1) (sym (lens-get_or states.events x.process))

pull_grows : (before after : StatesView) (lead follow : Variable) (more extra : ℤ) → HasMoreEvents before after → AreWhole before → AreWhole after → IsVariable before lead → IsVariable before follow → IsCounter after lead
    → PullGrows (lens_of before) (lens_of after) (positions_pull lead.process follow.process (values_of before lead) more (values_of before follow) extra) (positions_pull lead.process follow.process (values_of after lead) more (values_of after follow) extra)
pull_grows before after lead follow more extra grown whole whole' leads follows rising =
    let front = values_front before after grown whole whole' lead leads in
    positions_grow (lens_of before) (lens_of after) lead.process follow.process (values_of before lead) (values_of after lead) more (values_of before follow) (values_of after follow) extra
    (counter_before (values_of before lead) (values_of after lead) front (omega (arith, length-values_of before lead)) rising) rising front (values_front before after grown whole whole' follow follows)
    (values_size before lead) (values_size after lead)

pub at_most_grows : (before after : StatesView) (left right : Variable) (k : ℤ) → HasMoreEvents before after → AreWhole before → AreWhole after → IsVariable before left → IsVariable before right
    → IsCounter after left → IsCounter after right → PullGrows (lens_of before) (lens_of after) (at_most_pull before left right k) (at_most_pull after left right k)
at_most_grows before after left right k more whole whole' l r rising after_rises = pull_grows before after left right (pos 0) k more whole whole' l r rising

pub at_least_grows : (before after : StatesView) (left right : Variable) (k : ℤ) → HasMoreEvents before after → AreWhole before → AreWhole after → IsVariable before left → IsVariable before right
    → IsCounter after left → IsCounter after right → PullGrows (lens_of before) (lens_of after) (at_least_pull before left right k) (at_least_pull after left right k)
at_least_grows before after left right k more whole whole' l r rising after_rises = pull_grows before after right left k (pos 0) more whole whole' r l after_rises

-- ---- pulls that stay

positions_stay : (old : List ℕ) (p q : ℕ) (leads leads' : List ℤ) (more : ℤ) (follows follows' : List ℤ) (extra : ℤ)
    → IsFront leads leads' → IsFront follows follows' → length leads ≡ get_or old p 0 + 1 → length follows ≡ get_or old q 0 + 1
    → PullStays old (positions_pull p q leads more follows extra) (positions_pull p q leads' more follows' extra)
positions_stay old p q leads leads' more follows follows' extra front back size follow_size = record {
  asks = λ x le asked.
      let at_old = entry_at leads more follows extra x (omega (arith, le, size)) in
      let here : min x (length leads - 1) ≡ x = omega (arith, le, size) in
      let there : min x (length leads' - 1) ≡ x = omega (arith, le, size, front.shorter) in
      let same : lead_at leads x ≡ lead_at leads' x =
      ap (λ (i : ℕ). value_at leads i) here ∙ front.same x (omega (arith, le, size)) ∙ ap (λ (i : ℕ). value_at leads' i) (sym there) in
      let y : ℕ = entry leads more follows extra x in
      let found : y < length follows = omega (arith, at_old, asked, follow_size) in
      let has : (lead_at leads x +ℤ more) ≤ℤ (value_at follows y +ℤ extra) =
      holds_le (lead_at leads x +ℤ more) (value_at follows y +ℤ extra) (first_passes (reached follows extra (lead_at leads x +ℤ more)) (length follows) found) in
      let later : (lead_at leads' x +ℤ more) ≤ℤ (value_at follows' y +ℤ extra) =
      subst (λ z. (z +ℤ more) ≤ℤ (value_at follows' y +ℤ extra)) same (subst (λ z. (lead_at leads x +ℤ more) ≤ℤ (z +ℤ extra)) (back.same y found) has) in
      let least = first_least (reached follows' extra (lead_at leads' x +ℤ more)) (length follows') y (omega (arith, found, back.shorter))
      (le_holds (lead_at leads' x +ℤ more) (value_at follows' y +ℤ extra) later) in
      omega (arith, at_old, entry_at leads' more follows' extra x (omega (arith, front.shorter, le, size)), least);
}

pull_stays : (before after : StatesView) (lead follow : Variable) (more extra : ℤ) → HasMoreEvents before after → AreWhole before → AreWhole after → IsVariable before lead → IsVariable before follow
    → PullStays (lens_of before) (positions_pull lead.process follow.process (values_of before lead) more (values_of before follow) extra) (positions_pull lead.process follow.process (values_of after lead) more (values_of after follow) extra)
pull_stays before after lead follow more extra grown whole whole' leads follows =
    positions_stay (lens_of before) lead.process follow.process (values_of before lead) (values_of after lead) more (values_of before follow) (values_of after follow) extra
    (values_front before after grown whole whole' lead leads) (values_front before after grown whole whole' follow follows) (values_size before lead) (values_size before follow)

pub at_most_stays : (before after : StatesView) (left right : Variable) (k : ℤ) → HasMoreEvents before after → AreWhole before → AreWhole after → IsVariable before left → IsVariable before right
    → PullStays (lens_of before) (at_most_pull before left right k) (at_most_pull after left right k)
at_most_stays before after left right k more whole whole' l r = pull_stays before after left right (pos 0) k more whole whole' l r

pub at_least_stays : (before after : StatesView) (left right : Variable) (k : ℤ) → HasMoreEvents before after → AreWhole before → AreWhole after → IsVariable before left → IsVariable before right
    → PullStays (lens_of before) (at_least_pull before left right k) (at_least_pull after left right k)
at_least_stays before after left right k more whole whole' l r = pull_stays before after right left k (pos 0) more whole whole' r l
