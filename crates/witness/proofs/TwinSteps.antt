-- What the tests of events answer.
use Rattle.std.proofs.Common.{◌≡◌, ℕ, zero, suc, ◌+◌, ◌<◌, ◌≤◌, Bool, true, false, List, [], ◌∷◌, length, refl, sym, ap, subst, ◌∙◌, arith, inl, inr}
use Rattle.std.specs.Prelude.{◌↔◌, IsTrue, Option, Some, None}
use Rattle.std.specs.Str.{bytes_eq}
use Rattle.std.proofs.lemmas.Bool.{cases_lt, true≢false}
use Rattle.std.proofs.lemmas.Slice.Eq.{bytes_eq-Decides}
use Rattle.run_model.specs.Cut.{Cut, Clocks, count, IsWithin, lengths}
use Rattle.run_model.specs.Consistent.{clock, IsEvent, IsConsistent}
use Rattle.run_model.specs.Sublattice.{Having}
use Rattle.run_model.specs.Slice.{Slice, Cuts, IsLeastOf}
use Rattle.run_model.specs.Witness.{Place, AreTwo, IsPlace, IsBefore, row_at, Departs, Shares}
use Rattle.run_model.proofs.Counts.{count_past}
use Rattle.pota_base.specs.declared.shape.EventId.{EventId}
use Rattle.pota_base.specs.Shape.{HasEvent}
use Rattle.slice_graph.specs.Views.{SliceView, slice_of, IsRow}
use Rattle.slice_graph.specs.Words.{filled, row_words}
use Rattle.witness.specs.Views.{place_of}
use Rattle.witness.specs.inside.Twins.{HasLaterTwin, LastHas, IsOperand, HasFinal}
use Rattle.witness.proofs.Twinned.{row_from, row_there, own_later, other_later, none_later, words_of, filled_some, filled_one}

-- ---- searches

-- ---- events whose row is not their past

place_there : (o : Clocks) (e : EventId) → HasEvent (lengths o) e → IsPlace o (place_of e)
place_there o e there = (there.first, there.last)

some_process : (o : Clocks) (v : SliceView) → IsOperand o v → 1 ≤ length v.lens
some_process o v operand = omega (arith, operand.run.shape.some, ap length operand.fits.shape)

pub departs_by : (o : Clocks) (v : SliceView) (e : EventId) (words past : List ℕ) (b : Bool) → IsOperand o v → HasEvent (lengths o) e → words ≡ row_words v e.process e.position → past ≡ clock o e.process e.position → bytes_eq words past ≡ b
    → (b ≡ true → Departs o (slice_of v) (place_of e) → ⊥) × (b ≡ false → Departs o (slice_of v) (place_of e))
departs_by o v e words past b operand there row_is past_is same =
    let place = place_of e in
    let filled_is : words ≡ filled v.lens (row_at (slice_of v) place) = row_is ∙ words_of v place there.first in
    let within : IsWithin (clock o e.process e.position) v.lens = subst (λ (l : Cut). IsWithin (clock o e.process e.position) l) (sym operand.fits.shape) (operand.run.order.named e.process e.position (place_there o e there)) in (
      λ yes departs.
          let equal : words ≡ past = (bytes_eq-Decides words past).0 (same ∙ yes) in
          departs (filled_some v.lens (row_at (slice_of v) place) (clock o e.process e.position) (some_process o v operand) within (sym filled_is ∙ equal ∙ past_is)),
      λ apart is_past.
          let equal : words ≡ past = filled_is ∙ ap (filled v.lens) is_past ∙ sym past_is in
          true≢false (sym ((bytes_eq-Decides words past).1 equal) ∙ same ∙ apart),
    )

-- ---- events that share a row

-- a least cut is within the lengths
row_is_row : (o : Clocks) (v : SliceView) (i a : ℕ) (k : Option Cut) → v.lens ≡ lengths o → length (lengths o) ≡ length o → IsLeastOf (Having (Cuts o (slice_of v)) i a) k → IsRow v.lens k
row_is_row o v i a None shape size least = tt
row_is_row o v i a (Some c) shape size least = record {
  size = least.member.0.consistent.shaped ∙ sym size ∙ sym (ap length shape);
  within = subst (λ (l : Cut). IsWithin c l) (sym shape) least.member.0.consistent.within;
}

pub shares_by : (o : Clocks) (v : SliceView) (e f : EventId) (row words : List ℕ) (b : Bool) → length (lengths o) ≡ length o → IsOperand o v → HasEvent (lengths o) e → HasEvent (lengths o) f → AreTwo (place_of e) (place_of f)
    → row ≡ row_words v e.process e.position → words ≡ row_words v f.process f.position → b ≡ bytes_eq words row → IsTrue b ↔ Shares (slice_of v) (place_of e) (place_of f)
shares_by o v e f row words b size operand et ft two row_is words_is same =
    let s = slice_of v in
    let re = row_at s (place_of e) in
    let rf = row_at s (place_of f) in
    let re_is : row ≡ filled v.lens re = row_is ∙ words_of v (place_of e) et.first in
    let rf_is : words ≡ filled v.lens rf = words_is ∙ words_of v (place_of f) ft.first in
    let er = row_is_row o v e.process e.position re operand.fits.shape size (operand.fits.stands.rows e.process e.position (place_there o e et)) in
    let fr = row_is_row o v f.process f.position rf operand.fits.shape size (operand.fits.stands.rows f.process f.position (place_there o f ft)) in (
      λ yes. (two, filled_one v.lens rf re (some_process o v operand) fr er (sym rf_is ∙ (bytes_eq-Decides words row).0 (sym same ∙ yes) ∙ re_is)),
      λ shares. same ∙ (bytes_eq-Decides words row).1 (rf_is ∙ ap (filled v.lens) shares.1 ∙ sym re_is),
    )

module _ (o : Clocks) (v : SliceView) (e : EventId) (row : List ℕ) (ready : HasFinal o v) (there : HasEvent (lengths o) e) (row_is : row ≡ row_words v e.process e.position) where
  own_row : row_from o (slice_of v) (place_of e) row
  own_row =
      let r = row_there o (slice_of v) ready.operand.fits.stands ready.final (place_of e) (place_there o e there) in
      let same : r.0 ≡ row = sym (row_is ∙ words_of v (place_of e) there.first ∙ ap (filled v.lens) r.1.0) in
      subst (row_from o (slice_of v) (place_of e)) same r.1

  pub row_within : IsWithin row v.lens
  row_within = subst (λ (l : Cut). IsWithin row l) (sym ready.operand.fits.shape) own_row.1.member.0.consistent.within

  -- the words of the last event of a process in the row
  last_words : (j : ℕ) (q : Cut) → 0 < count row j → row_from o (slice_of v) (record { process = j; position = count row j }) q → row_words v j (count row j) ≡ q
  last_words j q some rf = words_of v (record { process = j; position = count row j }) some ∙ ap (filled v.lens) rf.0

  pub later_own : e.position < count row e.process → IsTrue true ↔ HasLaterTwin o (slice_of v) (place_of e)
  later_own more = (λ yes. own_later o (slice_of v) ready.operand.fits.stands ready.final (place_of e) row own_row more, λ twin. refl)

  pub later_other : (j : ℕ) → e.process < j → LastHas v row j (place_of e) → IsTrue true ↔ HasLaterTwin o (slice_of v) (place_of e)
  later_other j behind has =
      let last : Place = record { process = j; position = count row j } in
      let q = row_there o (slice_of v) ready.operand.fits.stands ready.final last (has.0, own_row.1.member.0.consistent.within j) in (
        λ yes. other_later o (slice_of v) ready.operand.fits.stands ready.final (place_of e) row j q.0 own_row behind has.0 q.1 (omega (arith, has.1, ap (λ (w : Cut). count w e.process) (last_words j q.0 has.0 q.1))),
        λ twin. refl,
      )

  pub later_none : count row e.process ≤ e.position → (p : ℕ) → length row ≤ p → ((j : ℕ) → e.process < j → j < p → LastHas v row j (place_of e) → ⊥) → IsTrue false ↔ HasLaterTwin o (slice_of v) (place_of e)
  later_none own p all none = (
    λ yes. absurd (true≢false (sym yes)),
    λ twin. absurd (none_later o (slice_of v) ready.operand.fits.stands ready.final (place_of e) row own_row own (λ j behind some q rf has. elim (cases_lt j p) [
      | inl before ↦ none j behind before (some, omega (arith, has, ap (λ (w : Cut). count w e.process) (last_words j q some rf)))
      | inr past ↦ omega (arith, some, count_past row j (omega arith))
    ]) twin),
  )
