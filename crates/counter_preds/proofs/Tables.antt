-- The tables that are made of values: they are those of pulls, and hold where the values do.
use Rattle.std.proofs.Common.{◌≡◌, ◌↔◌, ℕ, ◌+◌, ◌-◌, ◌<◌, ◌≤◌, min, true, ℤ, pos, ◌+ℤ◌, ◌-ℤ◌, ◌≤ℤ◌, List, [], ◌∷◌, length, map, get_or, inl, inr, ap, sym, subst, ◌∙◌, arith}
use Rattle.std.specs.Prelude.{All}
use Rattle.std.proofs.lemmas.Int.{ints}
use Rattle.std.proofs.lemmas.Bool.{cases_lt}
use Rattle.std.proofs.lemmas.List.{get_or_past, get_or-map, length-map}
use Rattle.std.proofs.lemmas.List.Elements.{All-cons, All-nil, All-head}
use Rattle.std.proofs.lemmas.List.FromFn.{length-map-range_with_len, get_or-map-range_with_len}
use Rattle.event_log.specs.declared.log.Event.{Event}
use Rattle.event_log.specs.States.{StatesView}
use Rattle.pull_system.specs.declared.pull.Pull.{Pull}
use Rattle.pull_system.specs.System.{RisesWithin, IsPull}
use Rattle.pull_system.specs.Pulls.{HoldsAt, ClosedUnder}
use Rattle.pull_system.proofs.PullLists.{first_within, first_grows}
use Rattle.pull_system.proofs.FirstNumbers.{first_reaches}
use Rattle.channel_preds.specs.Channels.{events_at}
use Rattle.counter_preds.specs.declared.values.Variable.{Variable}
use Rattle.counter_preds.specs.Counters.{AreRising, IsVariable, IsCounter, AreThere, values_of, value_at, value_within, lead_at, first_positions, at_most_pull, at_least_pull}
use Rattle.counter_preds.proofs.Tests.{le_holds, holds_le}
use Rattle.counter_preds.proofs.Along.{length-values_of, value_at-values_of}
use Rattle.counter_preds.proofs.Reaching.{reached, entry}

-- a pull whose table is made of values
abbrev pub positions_pull : ℕ → ℕ → List ℤ → ℤ → List ℤ → ℤ → Pull
positions_pull p q leads more follows extra = record { src = p; dst = q; table = first_positions leads more follows extra }

pub length-first_positions : (leads : List ℤ) (more : ℤ) (follows : List ℤ) (extra : ℤ) → length (first_positions leads more follows extra) ≡ length leads + 1
length-first_positions leads more follows extra = length-map-range_with_len (entry leads more follows extra) 0 (length leads + 1)

pub entry_at : (leads : List ℤ) (more : ℤ) (follows : List ℤ) (extra : ℤ) (x : ℕ) → x ≤ length leads
    → get_or (first_positions leads more follows extra) x 0 ≡ entry leads more follows extra x
entry_at leads more follows extra x there =
    get_or-map-range_with_len (entry leads more follows extra) 0 (length leads + 1) x x 0 (omega arith) (omega arith)

entry_within : (leads : List ℤ) (more : ℤ) (follows : List ℤ) (extra : ℤ) (x : ℕ) → entry leads more follows extra x ≤ length follows
entry_within leads more follows extra x = first_within (reached follows extra (lead_at leads x +ℤ more)) (length follows)

pub lead_rises : (leads : List ℤ) → AreRising leads → (x y : ℕ) → x ≤ y → lead_at leads x ≤ℤ lead_at leads y
lead_rises leads counts x y h = counts.rises (min x (length leads - 1)) (min y (length leads - 1)) (omega arith) (omega (arith, counts.some))

-- what has reached the larger bound has reached the smaller one
pub reached_less : (follows : List ℤ) (extra low high : ℤ) (y : ℕ) → low ≤ℤ high → reached follows extra high y ≡ true → reached follows extra low y ≡ true
reached_less follows extra low high y h has = le_holds low (value_at follows y +ℤ extra) (omega (arith, ints, h, holds_le high (value_at follows y +ℤ extra) has))

entry_rises : (leads : List ℤ) (more : ℤ) (follows : List ℤ) (extra : ℤ) → AreRising leads → (x y : ℕ) → x ≤ y
    → entry leads more follows extra x ≤ entry leads more follows extra y
entry_rises leads more follows extra counts x y h =
    let less = lead_rises leads counts x y h in
    first_grows (reached follows extra (lead_at leads x +ℤ more)) (reached follows extra (lead_at leads y +ℤ more)) (length follows) (length follows) (omega arith)
    (λ k lt has. reached_less follows extra (lead_at leads x +ℤ more) (lead_at leads y +ℤ more) k (omega (arith, ints, less)) has)

pub positions_rise : (leads : List ℤ) (more : ℤ) (follows : List ℤ) (extra : ℤ) → AreRising leads → RisesWithin (first_positions leads more follows extra) (length follows)
positions_rise leads more follows extra counts =
    let table = first_positions leads more follows extra in
    let size = length-first_positions leads more follows extra in
    record {
      rises = λ x y h there.
          omega (arith, size, entry_at leads more follows extra x (omega (arith, size)), entry_at leads more follows extra y (omega (arith, size)), entry_rises leads more follows extra counts x y h);
      within = λ x. elim (cases_lt x (length table)) [
        | inl there ↦ omega (arith, entry_at leads more follows extra x (omega (arith, size)), entry_within leads more follows extra x)
        | inr past ↦ omega (arith, get_or_past table x 0 past)
      ];
    }

-- ---- one pull

pub only : (P : Pull → Type 0) (pull : Pull) → P pull → All P (pull ∷ [])
only P pull h = All-cons P pull [] h (All-nil P)

pub positions_fit : (lens : List ℕ) (p q : ℕ) (leads : List ℤ) (more : ℤ) (follows : List ℤ) (extra : ℤ) → AreRising leads → p < length lens → q < length lens
    → length leads ≡ get_or lens p 0 + 1 → length follows ≡ get_or lens q 0 + 1
    → IsPull lens (positions_pull p q leads more follows extra)
positions_fit lens p q leads more follows extra counts source target size room =
    let rise = positions_rise leads more follows extra counts in
    record {
      source = source;
      target = target;
      size = omega (arith, length-first_positions leads more follows extra);
      table = record { rises = rise.rises; within = λ x. omega (arith, rise.within x) };
    }

pub positions_hold : (p q : ℕ) (leads : List ℤ) (more : ℤ) (follows : List ℤ) (extra : ℤ) → AreRising leads → AreRising follows → (v : List ℕ)
    → get_or v p 0 < length leads → get_or v q 0 < length follows
    → HoldsAt v (positions_pull p q leads more follows extra) ↔ ((value_at leads (get_or v p 0) +ℤ more) ≤ℤ (value_at follows (get_or v q 0) +ℤ extra))
positions_hold p q leads more follows extra counts rising v here there =
    let x = get_or v p 0 in
    let y = get_or v q 0 in
    let place : min x (length leads - 1) ≡ x = omega arith in
    let lead : lead_at leads x ≡ value_at leads x = ap (λ (i : ℕ). value_at leads i) place in
    let read = entry_at leads more follows extra x (omega arith) in
    let bound = lead_at leads x +ℤ more in
    let reaches = first_reaches (reached follows extra bound) (length follows) y there
    (λ a b h lt has. le_holds bound (value_at follows b +ℤ extra) (omega (arith, ints, holds_le bound (value_at follows a +ℤ extra) has, rising.rises a b h lt))) in (
      λ holds. subst (λ z. (z +ℤ more) ≤ℤ (value_at follows y +ℤ extra)) lead (holds_le bound (value_at follows y +ℤ extra) (reaches.0 (omega (arith, holds, read)))),
      λ enough. omega (arith, read, reaches.1 (le_holds bound (value_at follows y +ℤ extra) (subst (λ z. (z +ℤ more) ≤ℤ (value_at follows y +ℤ extra)) (sym lead) enough))),
    )

pub positions_close : (p q : ℕ) (leads : List ℤ) (more : ℤ) (follows : List ℤ) (extra : ℤ) → AreRising leads → AreRising follows → (v : List ℕ)
    → get_or v p 0 < length leads → get_or v q 0 < length follows
    → ClosedUnder (positions_pull p q leads more follows extra ∷ []) v ↔ ((value_at leads (get_or v p 0) +ℤ more) ≤ℤ (value_at follows (get_or v q 0) +ℤ extra))
positions_close p q leads more follows extra counts rising v here there =
    let pull = positions_pull p q leads more follows extra in
    let hold = positions_hold p q leads more follows extra counts rising v here there in (
      λ closed. hold.0 (All-head (HoldsAt v) pull [] closed),
      λ enough. only (HoldsAt v) pull (hold.1 enough),
    )

-- ---- the pulls of a difference

lens_at : (states : StatesView) (p : ℕ) → p < length states.events → get_or (map length states.events) p 0 ≡ length (events_at states p)
lens_at states p there = get_or-map (λ (es : List Event). length es) states.events p [] 0 there

size_of : (states : StatesView) (x : Variable) → IsVariable states x → length (values_of states x) ≡ get_or (map length states.events) x.process 0 + 1
size_of states x is = length-values_of states x ∙ ap (λ (n : ℕ). n + 1) (sym (lens_at states x.process is.process))

process_there : (states : StatesView) (x : Variable) → IsVariable states x → x.process < length (map length states.events)
process_there states x is = omega (arith, is.process, length-map states.events (λ (es : List Event). length es))

-- of one variable whose values lead, and another whose values follow
pub pull_fits : (states : StatesView) (lead follow : Variable) (more extra : ℤ) → IsVariable states lead → IsVariable states follow → IsCounter states lead → (pulls : List Pull)
    → pulls ≡ positions_pull lead.process follow.process (values_of states lead) more (values_of states follow) extra ∷ [] → All (IsPull (map length states.events)) pulls
pull_fits states lead follow more extra leads follows rising pulls is =
    let lens = map length states.events in
    subst (λ (ps : List Pull). All (IsPull lens) ps) (sym is) (only (IsPull lens) (positions_pull lead.process follow.process (values_of states lead) more (values_of states follow) extra)
    (positions_fit lens lead.process follow.process (values_of states lead) more (values_of states follow) extra rising (process_there states lead leads) (process_there states follow follows) (size_of states lead leads) (size_of states follow follows)))

pub pull_closes : (states : StatesView) (lead follow : Variable) (more extra : ℤ) → IsCounter states lead → IsCounter states follow → (v : List ℕ)
    → get_or v lead.process 0 ≤ length (events_at states lead.process) → get_or v follow.process 0 ≤ length (events_at states follow.process)
    → ClosedUnder (positions_pull lead.process follow.process (values_of states lead) more (values_of states follow) extra ∷ []) v ↔ ((value_within states lead v +ℤ more) ≤ℤ (value_within states follow v +ℤ extra))
pull_closes states lead follow more extra rising after v here there =
    let close = positions_close lead.process follow.process (values_of states lead) more (values_of states follow) extra rising after v
    (omega (arith, here, length-values_of states lead)) (omega (arith, there, length-values_of states follow)) in
    let leads = value_at-values_of states lead (get_or v lead.process 0) here in
    let follows = value_at-values_of states follow (get_or v follow.process 0) there in
    let P : ℤ → ℤ → Type 0 = λ z w. (z +ℤ more) ≤ℤ (w +ℤ extra) in (
      λ closed. subst (λ z. P z (value_within states follow v)) leads (subst (P (value_at (values_of states lead) (get_or v lead.process 0))) follows (close.0 closed)),
      λ enough. close.1 (subst (λ z. P z (value_at (values_of states follow) (get_or v follow.process 0))) (sym leads) (subst (P (value_within states lead v)) (sym follows) enough)),
    )

pub at_most_closes : (states : StatesView) (left right : Variable) (k : ℤ) → IsCounter states left → IsCounter states right → (pulls : List Pull) → pulls ≡ at_most_pull states left right k ∷ []
    → (v : List ℕ) → AreThere states left right v → ClosedUnder pulls v ↔ ((value_within states left v -ℤ value_within states right v) ≤ℤ k)
at_most_closes states left right k rising after pulls is v within =
    let close = pull_closes states left right (pos 0) k rising after v within.at_left within.at_right in
    subst (λ (ps : List Pull). ClosedUnder ps v ↔ ((value_within states left v -ℤ value_within states right v) ≤ℤ k)) (sym is)
    (λ closed. omega (arith, ints, close.0 closed), λ enough. close.1 (omega (arith, ints, enough)))

pub at_least_closes : (states : StatesView) (left right : Variable) (k : ℤ) → IsCounter states left → IsCounter states right → (pulls : List Pull) → pulls ≡ at_least_pull states left right k ∷ []
    → (v : List ℕ) → AreThere states left right v → ClosedUnder pulls v ↔ (k ≤ℤ (value_within states left v -ℤ value_within states right v))
at_least_closes states left right k rising after pulls is v within =
    let close = pull_closes states right left k (pos 0) after rising v within.at_right within.at_left in
    subst (λ (ps : List Pull). ClosedUnder ps v ↔ (k ≤ℤ (value_within states left v -ℤ value_within states right v))) (sym is)
    (λ closed. omega (arith, ints, close.0 closed), λ enough. close.1 (omega (arith, ints, enough)))
