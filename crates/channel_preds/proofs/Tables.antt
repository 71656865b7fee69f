-- The tables that are made of counts: they are those of pulls, and hold where the counts do.
use Rattle.std.proofs.Common.{◌≡◌, ◌↔◌, ℕ, ◌+◌, ◌-◌, ◌<◌, ◌≤◌, min, Bool, true, false, List, [], ◌∷◌, length, map, get_or, inl, inr, refl, ap, sym, subst, ◌∙◌, arith}
use Rattle.std.specs.Prelude.{nat_le, All}
use Rattle.std.specs.List.{range_with_len}
use Rattle.std.proofs.lemmas.Bool.{le-leb, leb-true, cases_lt}
use Rattle.std.proofs.lemmas.List.{get_or_past}
use Rattle.std.proofs.lemmas.List.Elements.{All-cons, All-nil, All-head}
use Rattle.std.proofs.lemmas.List.FromFn.{length-map-range_with_len, get_or-map-range_with_len}
use Rattle.pull_system.specs.declared.pull.Pull.{Pull}
use Rattle.pull_system.specs.System.{RisesWithin, IsPull}
use Rattle.pull_system.specs.Pulls.{HoldsAt, ClosedUnder, first_below}
use Rattle.pull_system.proofs.PullLists.{first_within, first_grows}
use Rattle.pull_system.proofs.FirstNumbers.{first_reaches}
use Rattle.channel_preds.specs.Channels.{ChannelView, FitsShape, IsWithinChannel, sent_at}
use Rattle.channel_preds.specs.Channels.{received_at, lead_at, first_positions, at_most_pull}
use Rattle.channel_preds.specs.Channels.{at_least_pull}
use Rattle.channel_preds.specs.inside.Channels.{AreCounts, IsChannel}
use Rattle.channel_preds.proofs.Reaching.{reached, entry}

-- a pull whose table is made of counts
abbrev pub positions_pull : ℕ → ℕ → List ℕ → ℕ → List ℕ → ℕ → Pull
positions_pull p q leads more follows extra = record { src = p; dst = q; table = first_positions leads more follows extra }

pub length-first_positions : (leads : List ℕ) (more : ℕ) (follows : List ℕ) (extra : ℕ) → length (first_positions leads more follows extra) ≡ length leads + 1
length-first_positions leads more follows extra = length-map-range_with_len (entry leads more follows extra) 0 (length leads + 1)

pub entry_at : (leads : List ℕ) (more : ℕ) (follows : List ℕ) (extra x : ℕ) → x ≤ length leads
    → get_or (first_positions leads more follows extra) x 0 ≡ entry leads more follows extra x
entry_at leads more follows extra x there =
    get_or-map-range_with_len (entry leads more follows extra) 0 (length leads + 1) x x 0 (omega arith) (omega arith)

entry_within : (leads : List ℕ) (more : ℕ) (follows : List ℕ) (extra x : ℕ) → entry leads more follows extra x ≤ length follows
entry_within leads more follows extra x = first_within (reached follows extra (lead_at leads x + more)) (length follows)

pub lead_rises : (leads : List ℕ) → AreCounts leads → (x y : ℕ) → x ≤ y → lead_at leads x ≤ lead_at leads y
lead_rises leads counts x y h = counts.rises (min x (length leads - 1)) (min y (length leads - 1)) (omega arith) (omega (arith, counts.some))

-- what has reached the larger bound has reached the smaller one
pub reached_less : (follows : List ℕ) (extra low high y : ℕ) → low ≤ high → reached follows extra high y ≡ true → reached follows extra low y ≡ true
reached_less follows extra low high y h has = le-leb _ _ (omega (arith, leb-true _ _ has))

entry_rises : (leads : List ℕ) (more : ℕ) (follows : List ℕ) (extra : ℕ) → AreCounts leads → (x y : ℕ) → x ≤ y
    → entry leads more follows extra x ≤ entry leads more follows extra y
entry_rises leads more follows extra counts x y h =
    let less = lead_rises leads counts x y h in
    first_grows (reached follows extra (lead_at leads x + more)) (reached follows extra (lead_at leads y + more)) (length follows) (length follows) (omega arith)
    (λ k lt has. reached_less follows extra _ _ k (omega (arith, less)) has)

pub positions_rise : (leads : List ℕ) (more : ℕ) (follows : List ℕ) (extra : ℕ) → AreCounts leads → RisesWithin (first_positions leads more follows extra) (length follows)
positions_rise leads more follows extra counts =
    let table = first_positions leads more follows extra in
    let size = length-first_positions leads more follows extra in
    record {
      rises = λ x y h there.
          omega (arith, size, entry_at leads more follows extra x (omega (arith, size)), entry_at leads more follows extra y (omega (arith, size)), entry_rises leads more follows extra counts x y h);
      within = λ x. elim (cases_lt x (length table)) [
        | inl there ↦ omega (arith, entry_at leads more follows extra x (omega (arith, size)), entry_within leads more follows extra x)
        | inr past ↦ omega (arith, get_or_past table x 0 past)
      ];
    }

-- ---- one pull

pub only : (P : Pull → Type 0) (pull : Pull) → P pull → All P (pull ∷ [])
only P pull h = All-cons P pull [] h (All-nil P)

pub positions_fit : (lens : List ℕ) (p q : ℕ) (leads : List ℕ) (more : ℕ) (follows : List ℕ) (extra : ℕ) → AreCounts leads → p < length lens → q < length lens
    → length leads ≡ get_or lens p 0 + 1 → length follows ≡ get_or lens q 0 + 1
    → IsPull lens (positions_pull p q leads more follows extra)
positions_fit lens p q leads more follows extra counts source target size room =
    let rise = positions_rise leads more follows extra counts in
    record {
      source = source;
      target = target;
      size = omega (arith, length-first_positions leads more follows extra);
      table = record { rises = rise.rises; within = λ x. omega (arith, rise.within x) };
    }

pub positions_hold : (p q : ℕ) (leads : List ℕ) (more : ℕ) (follows : List ℕ) (extra : ℕ) → AreCounts leads → AreCounts follows → (v : List ℕ)
    → get_or v p 0 < length leads → get_or v q 0 < length follows
    → HoldsAt v (positions_pull p q leads more follows extra) ↔ (get_or leads (get_or v p 0) 0 + more ≤ get_or follows (get_or v q 0) 0 + extra)
positions_hold p q leads more follows extra counts rising v here there =
    let x = get_or v p 0 in
    let y = get_or v q 0 in
    let place : min x (length leads - 1) ≡ x = omega arith in
    let lead : lead_at leads x ≡ get_or leads x 0 = ap (λ (i : ℕ). get_or leads i 0) place in
    let read = entry_at leads more follows extra x (omega arith) in
    let bound = lead_at leads x + more in
    let reaches = first_reaches (reached follows extra bound) (length follows) y there
    (λ a b h lt has. le-leb _ _ (omega (arith, leb-true _ _ has, rising.rises a b h lt))) in (
      λ holds. omega (arith, lead, leb-true _ _ (reaches.0 (omega (arith, holds, read)))),
      λ enough. omega (arith, read, reaches.1 (le-leb _ _ (omega (arith, lead, enough)))),
    )

pub positions_close : (p q : ℕ) (leads : List ℕ) (more : ℕ) (follows : List ℕ) (extra : ℕ) → AreCounts leads → AreCounts follows → (v : List ℕ)
    → get_or v p 0 < length leads → get_or v q 0 < length follows
    → ClosedUnder (positions_pull p q leads more follows extra ∷ []) v ↔ (get_or leads (get_or v p 0) 0 + more ≤ get_or follows (get_or v q 0) 0 + extra)
positions_close p q leads more follows extra counts rising v here there =
    let pull = positions_pull p q leads more follows extra in
    let hold = positions_hold p q leads more follows extra counts rising v here there in (
      λ closed. hold.0 (All-head (HoldsAt v) pull [] closed),
      λ enough. only (HoldsAt v) pull (hold.1 enough),
    )

-- ---- the pulls of a channel

pub at_most_fits : (channel : ChannelView) → IsChannel channel → (k : ℕ) (pulls : List Pull) → pulls ≡ at_most_pull channel k ∷ [] → (lens : List ℕ) → FitsShape lens channel
    → All (IsPull lens) pulls
at_most_fits channel are k pulls is lens fits =
    subst (λ (ps : List Pull). All (IsPull lens) ps) (sym is) (only (IsPull lens) (at_most_pull channel k)
    (positions_fit lens channel.sender channel.receiver channel.sent 0 channel.received k are.sent fits.sender fits.receiver fits.sent fits.received))

pub at_least_fits : (channel : ChannelView) → IsChannel channel → (k : ℕ) (pulls : List Pull) → pulls ≡ at_least_pull channel k ∷ [] → (lens : List ℕ) → FitsShape lens channel
    → All (IsPull lens) pulls
at_least_fits channel are k pulls is lens fits =
    subst (λ (ps : List Pull). All (IsPull lens) ps) (sym is) (only (IsPull lens) (at_least_pull channel k)
    (positions_fit lens channel.receiver channel.sender channel.received k channel.sent 0 are.received fits.receiver fits.sender fits.received fits.sent))

pub at_most_closes : (channel : ChannelView) → IsChannel channel → (k : ℕ) (pulls : List Pull) → pulls ≡ at_most_pull channel k ∷ [] → (v : List ℕ) → IsWithinChannel channel v
    → ClosedUnder pulls v ↔ (sent_at channel v ≤ received_at channel v + k)
at_most_closes channel are k pulls is v within =
    let close = positions_close channel.sender channel.receiver channel.sent 0 channel.received k are.sent are.received v within.sender within.receiver in
    subst (λ (ps : List Pull). ClosedUnder ps v ↔ (sent_at channel v ≤ received_at channel v + k)) (sym is)
    (λ closed. omega (arith, close.0 closed), λ enough. close.1 (omega arith))

pub at_least_closes : (channel : ChannelView) → IsChannel channel → (k : ℕ) (pulls : List Pull) → pulls ≡ at_least_pull channel k ∷ [] → (v : List ℕ) → IsWithinChannel channel v
    → ClosedUnder pulls v ↔ (received_at channel v + k ≤ sent_at channel v)
at_least_closes channel are k pulls is v within =
    let close = positions_close channel.receiver channel.sender channel.received k channel.sent 0 are.received are.sent v within.receiver within.sender in
    subst (λ (ps : List Pull). ClosedUnder ps v ↔ (received_at channel v + k ≤ sent_at channel v)) (sym is)
    (λ closed. omega (arith, close.0 closed), λ enough. close.1 (omega arith))
