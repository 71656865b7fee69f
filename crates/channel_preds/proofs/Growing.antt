-- Channels when more events come.
use Rattle.std.proofs.Common.{◌≡◌, ℕ, zero, suc, ◌+◌, ◌-◌, ◌<◌, ◌≤◌, min, true, List, [], ◌∷◌, ◌++◌, length, map, get_or, refl, ap, sym, subst, ◌∙◌, arith, length-append}
use Rattle.std.proofs.lemmas.Bool.{le-leb, leb-true}
use Rattle.event_log.specs.declared.log.Event.{Event}
use Rattle.event_log.specs.States.{StatesView}
use Rattle.pull_system.specs.Growth.{PullGrows, PullStays}
use Rattle.pull_system.proofs.PullLists.{first_grows, first_passes, first_least}
use Rattle.channel_preds.specs.declared.counted.Counted.{Counted}
use Rattle.channel_preds.specs.Channels.{count_of, counts_of, lead_at, events_at, sends_to}
use Rattle.channel_preds.specs.Channels.{receipts_from, channel_of, at_most_pull, at_least_pull}
use Rattle.channel_preds.specs.inside.Channels.{AreCounts}
use Rattle.channel_preds.specs.Truth.{HasMoreEvents, lens_of}
use Rattle.channel_preds.proofs.Counting.{length-counts_of, get_or-counts_of, counts_of-append, counts_are}
use Rattle.channel_preds.proofs.Reaching.{reached, entry}
use Rattle.channel_preds.proofs.Tables.{positions_pull, entry_at, reached_less}

pub lens-get_or : (ess : List (List Event)) (p : ℕ) → get_or (map length ess) p 0 ≡ length (get_or ess p [])
lens-get_or [] p = refl
lens-get_or (es ∷ ess) zero = refl
lens-get_or (es ∷ ess) (suc p) = lens-get_or ess p

-- these counts are the first of those
pub record IsFront (counts later : List ℕ) : Type 0 where
  pub shorter : length counts ≤ length later
  pub same : (a : ℕ) → a < length counts → get_or counts a 0 ≡ get_or later a 0

counts_front : (which : Counted) (events later more : List Event) → later ≡ events ++ more → IsFront (counts_of which events) (counts_of which later)
counts_front which events later more is =
    subst (λ (es : List Event). IsFront (counts_of which events) (counts_of which es)) (sym is) (record {
      shorter = omega (arith, length-counts_of which events, length-counts_of which (events ++ more), length-append events more);
      same = λ a h.
          let here : a ≤ length events = omega (arith, length-counts_of which events) in
          get_or-counts_of which events a here ∙ sym (counts_of-append which events more a here)
          ∙ sym (get_or-counts_of which (events ++ more) a (omega (arith, length-append events more)));
    })

-- the leading count from before, at the position or at its last one, is no more than the later one
lead_grows : (leads later : List ℕ) → AreCounts leads → AreCounts later → IsFront leads later → (x : ℕ) → lead_at leads (min x (length leads)) ≤ lead_at later x
lead_grows leads later counts after front x =
    let old = min (min x (length leads)) (length leads - 1) in
    let new = min x (length later - 1) in
    omega (arith, front.same old (omega (arith, counts.some)), after.rises old new (omega (arith, front.shorter, counts.some)) (omega (arith, after.some)))

positions_grow : (old lens : List ℕ) (p q : ℕ) (leads leads' : List ℕ) (more : ℕ) (follows follows' : List ℕ) (extra : ℕ) → AreCounts leads → AreCounts leads'
    → IsFront leads leads' → IsFront follows follows' → length leads ≡ get_or old p 0 + 1 → length leads' ≡ get_or lens p 0 + 1
    → PullGrows old lens (positions_pull p q leads more follows extra) (positions_pull p q leads' more follows' extra)
positions_grow old lens p q leads leads' more follows follows' extra counts counts' front back size size' = record {
  source = refl;
  target = refl;
  asks = λ x within.
      let x' = min x (get_or old p 0 + 1) in
      let here : x' ≡ min x (length leads) = omega arith in
      let less : lead_at leads x' ≤ lead_at leads' x = omega (arith, lead_grows leads leads' counts counts' front x, ap (lead_at leads) here) in
      let grows = first_grows (reached follows extra (lead_at leads x' + more)) (reached follows' extra (lead_at leads' x + more)) (length follows) (length follows') back.shorter
      (λ y lt has. le-leb _ _ (omega (arith, leb-true _ _ has, back.same y lt, less))) in
      omega (arith, entry_at leads more follows extra x' (omega arith), entry_at leads' more follows' extra x (omega arith), grows);
}

counts_size : (which : Counted) (states : StatesView) (p : ℕ) → length (counts_of which (events_at states p)) ≡ get_or (lens_of states) p 0 + 1
counts_size which states p = length-counts_of which (events_at states p) ∙ ap (λ (n : ℕ). n + 1) (sym (lens-get_or states.events p))

pub at_most_grows : (before after : StatesView) (p q k : ℕ) → HasMoreEvents before after
    → PullGrows (lens_of before) (lens_of after) (at_most_pull (channel_of before p q) k) (at_most_pull (channel_of after p q) k)
at_most_grows before after p q k more =
    let sends = sends_to p q in
    let receipts = receipts_from p q in
    positions_grow (lens_of before) (lens_of after) p q (counts_of sends (events_at before p)) (counts_of sends (events_at after p)) 0
    (counts_of receipts (events_at before q)) (counts_of receipts (events_at after q)) k
    (counts_are sends (events_at before p)) (counts_are sends (events_at after p))
    (counts_front sends (events_at before p) (events_at after p) (more.each p).0 (more.each p).1)
    (counts_front receipts (events_at before q) (events_at after q) (more.each q).0 (more.each q).1)
    (counts_size sends before p) (counts_size sends after p)

pub at_least_grows : (before after : StatesView) (p q k : ℕ) → HasMoreEvents before after
    → PullGrows (lens_of before) (lens_of after) (at_least_pull (channel_of before p q) k) (at_least_pull (channel_of after p q) k)
at_least_grows before after p q k more =
    let sends = sends_to p q in
    let receipts = receipts_from p q in
    positions_grow (lens_of before) (lens_of after) q p (counts_of receipts (events_at before q)) (counts_of receipts (events_at after q)) k
    (counts_of sends (events_at before p)) (counts_of sends (events_at after p)) 0
    (counts_are receipts (events_at before q)) (counts_are receipts (events_at after q))
    (counts_front receipts (events_at before q) (events_at after q) (more.each q).0 (more.each q).1)
    (counts_front sends (events_at before p) (events_at after p) (more.each p).0 (more.each p).1)
    (counts_size receipts before q) (counts_size receipts after q)

-- ---- pulls that stay

positions_stay : (old : List ℕ) (p q : ℕ) (leads leads' : List ℕ) (more : ℕ) (follows follows' : List ℕ) (extra : ℕ)
    → IsFront leads leads' → IsFront follows follows' → length leads ≡ get_or old p 0 + 1 → length follows ≡ get_or old q 0 + 1
    → PullStays old (positions_pull p q leads more follows extra) (positions_pull p q leads' more follows' extra)
positions_stay old p q leads leads' more follows follows' extra front back size follow_size = record {
  asks = λ x le asked.
      let at_old = entry_at leads more follows extra x (omega (arith, le)) in
      let here : min x (length leads - 1) ≡ x = omega (arith, le) in
      let there : min x (length leads' - 1) ≡ x = omega (arith, le, front.shorter) in
      let same : lead_at leads x ≡ lead_at leads' x =
      ap (λ i. get_or leads i 0) here ∙ front.same x (omega (arith, le)) ∙ ap (λ i. get_or leads' i 0) (sym there) in
      let y : ℕ = entry leads more follows extra x in
      let found : y < length follows = omega (arith, at_old, asked) in
      let has = first_passes (reached follows extra (lead_at leads x + more)) (length follows) found in
      let least = first_least (reached follows' extra (lead_at leads' x + more)) (length follows') y (omega (arith, back.shorter))
      (le-leb _ _ (omega (arith, leb-true _ _ has, back.same y found, same))) in
      omega (arith, at_old, entry_at leads' more follows' extra x (omega (arith, front.shorter, le)), least);
}

pub at_most_stays : (before after : StatesView) (p q k : ℕ) → HasMoreEvents before after
    → PullStays (lens_of before) (at_most_pull (channel_of before p q) k) (at_most_pull (channel_of after p q) k)
at_most_stays before after p q k more =
    let sends = sends_to p q in
    let receipts = receipts_from p q in
    positions_stay (lens_of before) p q (counts_of sends (events_at before p)) (counts_of sends (events_at after p)) 0
    (counts_of receipts (events_at before q)) (counts_of receipts (events_at after q)) k
    (counts_front sends (events_at before p) (events_at after p) (more.each p).0 (more.each p).1)
    (counts_front receipts (events_at before q) (events_at after q) (more.each q).0 (more.each q).1)
    (counts_size sends before p) (counts_size receipts before q)

pub at_least_stays : (before after : StatesView) (p q k : ℕ) → HasMoreEvents before after
    → PullStays (lens_of before) (at_least_pull (channel_of before p q) k) (at_least_pull (channel_of after p q) k)
at_least_stays before after p q k more =
    let sends = sends_to p q in
    let receipts = receipts_from p q in
    positions_stay (lens_of before) q p (counts_of receipts (events_at before q)) (counts_of receipts (events_at after q)) k
    (counts_of sends (events_at before p)) (counts_of sends (events_at after p)) 0
    (counts_front receipts (events_at before q) (events_at after q) (more.each q).0 (more.each q).1)
    (counts_front sends (events_at before p) (events_at after p) (more.each p).0 (more.each p).1)
    (counts_size receipts before q) (counts_size sends before p)
