-- The one lemma on clocks: behind a consistent cut that has all events of a process, that process may have one event more, whose
-- clock is that cut and the event itself.
use Rattle.std.proofs.Common.{◌≡◌, ℕ, ◌+◌, ◌-◌, ◌<◌, ◌≤◌, [], ◌∷◌, ◌++◌, length, get_or, sym, ap, ◌∙◌, subst, arith, inl, inr, length-append, get_or-set_same}
use Rattle.std.proofs.lemmas.Bool.{cases_eq}
use Rattle.run_model.specs.Cut.{Cut, Clocks, count, IsWithin, lengths, with_next}
use Rattle.run_model.specs.Consistent.{IsOrder, IsConsistent, clock}
use Rattle.run_model.proofs.Counts.{length-with_next, with_next_same, with_next_other, with_next_above}
use Rattle.run_model.proofs.Orders.{past_consistent}
use Rattle.causal_order.specs.Growth.{HasGrown, with_row}
use Rattle.causal_order.proofs.Growing.{count-lengths, grown_none, grown_more}
use Rattle.vector_clock.specs.Sound.{IsSound}
use Rattle.vector_clock.proofs.SoundOrders.{sound_order, order_sound, same_clock, lengths_grow, sound_along}
use Rattle.vector_clock.proofs.Growth.{next_clock, sound_more}

module _ (o : Clocks) (order : IsOrder o) (base : Cut) (i : ℕ) (consistent : IsConsistent o base) (there : i < length o) (own : count base i ≡ length (get_or o i [])) where
  abbrev row : Cut
  row = with_next base i

  abbrev next : Clocks
  next = with_row o i row

  abbrev place : ℕ
  place = length (get_or o i []) + 1

  grown : HasGrown o next
  grown = grown_more o o i row (grown_none o) there

  in_base : i < length base
  in_base = omega (arith, consistent.shaped)

  here : clock next i place ≡ row
  here = next_clock o next i row (grown_none next) there

  row_up : IsWithin base row
  row_up = with_next_above base i in_base

  last_count : count (lengths next) i ≡ place
  last_count = count-lengths next i ∙ ap length (get_or-set_same o i (get_or o i [] ++ row ∷ []) [] there) ∙ length-append (get_or o i []) (row ∷ [])

  kept_clock : (d : Cut) → IsConsistent o d → (j : ℕ) → 0 < count d j → clock next j (count d j) ≡ clock o j (count d j)
  kept_clock d k j pos = same_clock o next j (count d j) grown (pos, k.within j)

  new : IsSound next i place
  new = record {
    shaped = ap length here ∙ length-with_next base i ∙ consistent.shaped ∙ sym grown.count;
    own = ap (λ (v : Cut). count v i) here ∙ with_next_same base i in_base ∙ ap (λ n. n + 1) own;
    rises = λ lt j.
        let at : place - 1 ≡ count base i = omega (arith, own) in
        let pos : 0 < count base i = omega (arith, own) in
        omega (arith, ap (λ n. count (clock next i n) j) at, ap (λ (v : Cut). count v j) (kept_clock base consistent i pos), consistent.pasts i pos j, row_up j, ap (λ (v : Cut). count v j) here);
    named = λ j. elim (cases_eq j i) [
      | inl same ↦
          let upto : count (clock next i place) i ≤ count (lengths next) i =
          omega (arith, ap (λ (v : Cut). count v i) here, with_next_same base i in_base, own, last_count) in
          subst (λ k. count (clock next i place) k ≤ count (lengths next) k) (sym same) upto
      | inr other ↦ omega (arith, ap (λ (v : Cut). count v j) here, with_next_other base i j other, consistent.within j, lengths_grow o next grown j)
    ];
    closed = λ j other pos q.
        let same : count (clock next i place) j ≡ count base j = ap (λ (v : Cut). count v j) here ∙ with_next_other base i j other in
        let old : 0 < count base j = omega (arith, same, pos) in
        omega (arith, ap (λ n. count (clock next j n) q) same, ap (λ (v : Cut). count v q) (kept_clock base consistent j old), consistent.pasts j old q, row_up q, ap (λ (v : Cut). count v q) here);
    loopless = λ j other pos.
        let same : count (clock next i place) j ≡ count base j = ap (λ (v : Cut). count v j) here ∙ with_next_other base i j other in
        let old : 0 < count base j = omega (arith, same, pos) in
        omega (arith, ap (λ n. count (clock next j n) i) same, ap (λ (v : Cut). count v i) (kept_clock base consistent j old), consistent.pasts j old i, own);
  }

  pub next_order : IsOrder next
  next_order = sound_order next (sound_more o next i row (sound_along o next grown (order_sound o order)) there new)

  -- consistent cuts stay so
  pub next_kept : (d : Cut) → IsConsistent o d → IsConsistent next d
  next_kept d k = record {
    shaped = k.shaped ∙ sym grown.count;
    within = λ j. omega (arith, k.within j, lengths_grow o next grown j);
    pasts = λ j pos q. omega (arith, ap (λ (v : Cut). count v q) (kept_clock d k j pos), k.pasts j pos q);
  }

  -- the new clock is one
  pub next_past : IsConsistent next row
  next_past = subst (IsConsistent next) here (past_consistent next next_order i place (omega arith, omega (arith, last_count)))
