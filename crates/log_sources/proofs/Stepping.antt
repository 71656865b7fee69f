-- How the sources follow the bytes.
use Rattle.std.proofs.Common.{◌≡◌, ℕ, ◌+◌, ◌<◌, true, false, Option, Some, None, List, [], ◌∷◌, ◌++◌, length, refl, sym, ap, ◌∙◌, arith, inl, inr}
use Rattle.std.proofs.lemmas.Bool.{cases_Bool, lt-leb}
use Rattle.pota_base.specs.Limits.{longest_log, most_sources}
use Rattle.event_log.specs.Before.{is_ended}
use Rattle.event_log.specs.Feeding.{Past}
use Rattle.event_log.specs.Moments.{lines}
use Rattle.event_log.specs.LogEnd.{is_whole}
use Rattle.event_log.specs.Faults.{first_fault}
use Rattle.event_log.specs.declared.item.LogFault.{LogFault}
use Rattle.fault_kinds.specs.declared.merge.MergeFault.{MergeFault}
use Rattle.log_sources.specs.Sources.{Sources, of_source, turned, input_fault, join_fault, fault_behind, judged, taken, step, after}

-- ---- the next source

pub empty_open : is_whole [] ≡ false
unfolding is_ended lines
empty_open = refl

pub turned_whole : (s : Sources) → is_whole s.now ≡ true → turned s ≡ record s { before = s.before ++ s.now ∷ []; now = [] }
unfolding turned
turned_whole s whole = rw whole refl

pub turned_same : (s : Sources) → is_whole s.now ≡ false → turned s ≡ s
unfolding turned
turned_same s open_ = rw open_ refl

pub turned_open : (s : Sources) → is_whole (turned s).now ≡ false
turned_open s = elim (cases_Bool (is_whole s.now)) [
  | inl whole ↦ ap (λ (t : Sources). is_whole t.now) (turned_whole s whole) ∙ empty_open
  | inr open_ ↦ ap (λ (t : Sources). is_whole t.now) (turned_same s open_) ∙ open_
]

pub turned_fault : (s : Sources) → (turned s).fault ≡ s.fault
turned_fault s = elim (cases_Bool (is_whole s.now)) [
  | inl whole ↦ ap (λ (t : Sources). t.fault) (turned_whole s whole)
  | inr open_ ↦ ap (λ (t : Sources). t.fault) (turned_same s open_)
]

pub turned_total : (s : Sources) → (turned s).total ≡ s.total
turned_total s = elim (cases_Bool (is_whole s.now)) [
  | inl whole ↦ ap (λ (t : Sources). t.total) (turned_whole s whole)
  | inr open_ ↦ ap (λ (t : Sources). t.total) (turned_same s open_)
]

-- ---- a byte

step_stays : (s : Sources) (b : ℕ) (f : MergeFault) → s.fault ≡ Some f → step s b ≡ s
unfolding step
step_stays s b f some = rw some refl

pub step_free : (s : Sources) (b : ℕ) → s.fault ≡ None → step s b ≡ taken (turned s) b
unfolding step
step_free s b none = rw none refl

-- the next byte itself is a fault
pub taken_fault : (s : Sources) (b : ℕ) (f : MergeFault) → input_fault s ≡ Some f → taken s b ≡ record s { fault = Some f }
taken_fault s b f some = rw some refl

pub taken_byte : (s : Sources) (b : ℕ) → input_fault s ≡ None → taken s b ≡ judged s.before (b ∷ s.now) (s.total + 1)
taken_byte s b none = rw none refl

-- ---- bytes

pub after_none : (s : Sources) → after s [] ≡ s
unfolding after
after_none s = refl

pub after_next : (s : Sources) (b : ℕ) (bytes : List ℕ) → after s (b ∷ bytes) ≡ after (step s b) bytes
unfolding after
after_next s b bytes = refl

pub stays : (s : Sources) (f : MergeFault) (bytes : List ℕ) → s.fault ≡ Some f → after s bytes ≡ s
stays s f [] some = after_none s
stays s f (b ∷ bytes) some = after_next s b bytes ∙ ap (λ (t : Sources). after t bytes) (step_stays s b f some) ∙ stays s f bytes some

pub after_more : (s : Sources) (bytes more : List ℕ) → after s (bytes ++ more) ≡ after (after s bytes) more
unfolding after
after_more s [] more = refl
after_more s (b ∷ bytes) more = after_more (step s b) bytes more

-- the first byte is of the next source where this one is whole
pub after_turned : (s : Sources) (bytes : List ℕ) → s.fault ≡ None → 0 < length bytes → after s bytes ≡ after (turned s) bytes
after_turned s [] none some = absurd (omega arith)
after_turned s (b ∷ bytes) none some =
    let first : step s b ≡ taken (turned s) b = step_free s b none in
    let same : turned (turned s) ≡ turned s = turned_same (turned s) (turned_open s) in
    let second : step (turned s) b ≡ taken (turned s) b = step_free (turned s) b (turned_fault s ∙ none) ∙ ap (λ (x : Sources). taken x b) same in
    after_next s b bytes ∙ ap (λ (x : Sources). after x bytes) (first ∙ sym second) ∙ sym (after_next (turned s) b bytes)

-- ---- the fault of a source

pub behind_own : (before : List Past) (now : Past) (f : LogFault) → first_fault now ≡ Some f → fault_behind before now ≡ Some (of_source before f)
unfolding fault_behind
behind_own before now f some = rw some refl

pub behind_open : (before : List Past) (now : Past) → first_fault now ≡ None → is_whole now ≡ false → fault_behind before now ≡ None
unfolding fault_behind
behind_open before now none open_ = rw (none, open_) refl

pub behind_whole : (before : List Past) (now : Past) → first_fault now ≡ None → is_whole now ≡ true → fault_behind before now ≡ join_fault before now
unfolding fault_behind
behind_whole before now none whole = rw (none, whole) refl

-- ---- a source that goes on

pub record IsOpen (s : Sources) : Type 0 where
  pub faultless : s.fault ≡ None
  pub own : first_fault s.now ≡ None
  pub open_ : is_whole s.now ≡ false
  pub few : length s.before < most_sources

pub no_input_fault : (s : Sources) → length s.before < most_sources → s.total < longest_log → input_fault s ≡ None
unfolding input_fault
no_input_fault s few small = rw (lt-leb most_sources (length s.before) few, lt-leb longest_log s.total small) refl

pub byte_taken : (s : Sources) (b : ℕ) → IsOpen s → s.total < longest_log → step s b ≡ judged s.before (b ∷ s.now) (s.total + 1)
byte_taken s b is small =
    step_free s b is.faultless ∙ ap (λ (t : Sources). taken t b) (turned_same s is.open_) ∙ taken_byte s b (no_input_fault s is.few small)

pub same_sources : (s : Sources) (total : ℕ) (fault : Option MergeFault) → total ≡ s.total → fault ≡ s.fault → s ≡ record { before = s.before; now = s.now; total = total; fault = fault }
same_sources s total fault t f = rw (t, f) refl
