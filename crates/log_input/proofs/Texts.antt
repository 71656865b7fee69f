-- The text of one log, as it was read.
use Rattle.std.proofs.Common.{◌≡◌, ℕ, ◌≤◌, Bool, true, false, Option, Some, None, List, [], ◌++◌, length, take, drop, refl, sym, ap, subst, ◌∙◌, arith, append-nil}
use Rattle.std.specs.Option.{option_map}
use Rattle.std.proofs.lemmas.Bool.{false≢true}
use Rattle.std.proofs.lemmas.List.{take-append-drop, length-take-le}
use Rattle.std.proofs.lemmas.Option.{none-some, same_Some}
use Rattle.pota_base.specs.Limits.{longest_kept, longest_log}
use Rattle.event_log.specs.declared.item.Fed.{Fed}
use Rattle.event_log.specs.declared.item.Item.{Item}
use Rattle.event_log.specs.declared.item.LogFault.{LogFault}
use Rattle.event_log.specs.declared.log.Log.{Log}
use Rattle.event_log.specs.Faults.{FedIs, fault_of, end_fault, items, items_in}
use Rattle.event_log.specs.FittingItems.{FitFirst}
use Rattle.event_log.specs.LogText.{onto}
use Rattle.event_log.specs.Reader.{HasRead}
use Rattle.event_log.specs.declared.reader.Reader.{Reader}
use Rattle.event_log.proofs.FittingItems.{items_fit}
use Rattle.vector_clock.specs.Filled.{filled_log}
use Rattle.fault_kinds.specs.declared.refusal.Refusal.{Refusal}
use Rattle.fault_kinds.specs.declared.refusal.Refusal.TheVariants as refusal
use Rattle.input_reading.specs.declared.reading.End.{End}
use Rattle.input_reading.specs.declared.reading.End.TheVariants as end
use Rattle.log_rules.specs.Judgement.{Prefix, followed_by, Judgement, waiting, growing, finished, refused, judged}
use Rattle.log_rules.specs.Due.{Due, whole_of, fault_in, at_end}
use Rattle.log_rules.specs.Readings.{log_reading}
use Rattle.log_rules.specs.WholeLogs.{all_of}
use Rattle.log_rules.proofs.Dues.{due_stays, due_bounded}
use Rattle.log_rules.proofs.Logs.{log_due as due_of_log, due_log}
use Rattle.log_rules.proofs.Readings.{log_is_read}
use Rattle.log_trace.specs.Judging.{without_formula, IsRefused}
use Rattle.filled_log.specs.declared.filling.FilledLog.{FilledLog}
use Rattle.filled_log.specs.Filling.{HasBegun, Keeps}
use Rattle.log_input.specs.declared.form.Form.TheVariants as form
use Rattle.log_input.specs.declared.places.Places.TheVariants.{Lines}
use Rattle.log_input.specs.declared.judged.Judged.{Judged}
use Rattle.log_input.specs.declared.judged.Judged.TheVariants.{Whole, Faulty, Failed}
use Rattle.log_input.proofs.Wholes.{IsTakenOf, faultless_so}
use Rattle.log_input.specs.Readings.{log_due}
use Rattle.log_input.specs.Inputs.{IsFilled}
use Rattle.log_input.specs.inside.Judging.{HasTaken, HasTextFault, IsTextJudged, StandsAt}

-- ---- what is due of it

-- how a fault of a batch is told
abbrev as_is : LogFault → Refusal
as_is f = refusal.Log f

abbrev of_text : Option LogFault → Option Refusal
of_text fault = option_map as_is fault

kept_told : (kept : FilledLog) (j : Judgement) (fault : Option Refusal) → Keeps kept j → fault_in as_is j fault ≡ fault
kept_told kept waiting fault keeps = refl
kept_told kept (growing log since) fault keeps = refl
kept_told kept (finished log last) fault keeps = refl
kept_told kept (refused log why) fault keeps = absurd keeps

no_items : items [] ≡ []
unfolding items
no_items = refl

module _ (text : List ℕ) (fed : Fed) (is : FedIs fed [] (onto text [])) where
  pub items_are : items_in text ≡ fed.items
  items_are = is.items_are ∙ ap (λ (xs : List Item). xs ++ fed.items) no_items

  pub items_fit_first : FitFirst fed.items
  items_fit_first = subst FitFirst items_are (items_fit (onto text []))

  -- the items have this fault
  pub item_fault : (f : LogFault) → IsRefused (judged without_formula waiting fed.items) f → HasTextFault text f
  item_fault f refused_is =
      ap (λ (xs : List Item). fault_in as_is (judged without_formula waiting xs) (of_text (fault_of text))) items_are
      ∙ ap (λ (k : Judgement). fault_in as_is k (of_text (fault_of text))) refused_is.1

  module _ (kept : FilledLog) (keeps : Keeps kept (judged without_formula waiting fed.items)) where
    keeps_all : Keeps kept (judged without_formula waiting (items_in text))
    keeps_all = subst (λ (xs : List Item). Keeps kept (judged without_formula waiting xs)) (sym items_are) keeps

    -- the bytes have this fault
    pub byte_fault : (f : LogFault) → fed.fault ≡ Some f → HasTextFault text f
    byte_fault f there =
        kept_told kept (judged without_formula waiting (items_in text)) (of_text (fault_of text)) keeps_all ∙ ap of_text (sym is.fault_is ∙ there)

    pub taken : (reader : Reader) → HasRead reader (onto text []) → fed.fault ≡ None → HasTaken reader kept text
    taken reader read none = record { read = read; free = sym is.fault_is ∙ none; keeps = keeps_all }

-- ---- no byte of it has a fault

module _ (reader : Reader) (kept : FilledLog) (text : List ℕ) (h : HasTaken reader kept text) where
  abbrev j : Judgement
  j = judged without_formula waiting (items_in text)

  free_so_far : (log_due form.OneLog false text).fault ≡ None
  free_so_far = kept_told kept j (of_text (fault_of text)) h.keeps ∙ ap of_text h.free

  -- it isn't whole
  pub end_due : (f : LogFault) → end_fault (onto text []) ≡ Some f → StandsAt form.OneLog text (Faulty (refusal.Log f))
  end_due f there = kept_told kept j (of_text (end_fault (onto text []))) h.keeps ∙ ap of_text there

  module _ (whole : end_fault (onto text []) ≡ None) where
    none_due : (log_due form.OneLog true text).fault ≡ None
    none_due = kept_told kept j (of_text (end_fault (onto text []))) h.keeps ∙ ap of_text whole

    found : (log : Prefix) × ((log_due form.OneLog true text).whole ≡ Some log)
    found =
        let log = due_log (λ h. None) (λ h. []) text none_due in
        let due_is = due_of_log (λ h. None) (λ h. []) text log.0 log.1 in
        (all_of (filled_log log.0), due_is.whole)

    whole_is : whole_of j ≡ Some found.0
    whole_is = sym (ap (λ (o : Option LogFault). at_end true (of_text o) (whole_of j)) whole) ∙ found.1

    kept_whole : (k : Judgement) (log : Prefix) → Keeps kept k → whole_of k ≡ Some log → HasBegun kept log
    kept_whole waiting log keeps is = absurd (none-some log is)
    kept_whole (growing so_far since) log keeps is = absurd (none-some log is)
    kept_whole (finished so_far last) log keeps is = subst (HasBegun kept) (same_Some (followed_by so_far last) log is) keeps.0
    kept_whole (refused so_far why) log keeps is = absurd keeps

    pub has_begun : (log : Prefix) × HasBegun kept log
    has_begun = (found.0, kept_whole j found.0 h.keeps whole_is)

    pub is_filled : (log : Log) → IsTakenOf kept log → StandsAt form.OneLog text (Whole log Lines)
    is_filled log came = let is_log = came found.0 (kept_whole (judged without_formula waiting (items_in text)) found.0 h.keeps whole_is) in (
      record {
        has = record { free = none_due; whole = found.1 ∙ ap (λ (p : Prefix). Some p) (sym is_log.0) };
        log_is = faultless_so log is_log.1 is_log.2;
      },
      λ f. refl,
    )

  -- by why no more is read
  pub not_failed : (e : End) → (e ≡ end.Failed → ⊥) → (j : Judged) → StandsAt form.OneLog text j → IsTextJudged text e j
  not_failed e other (Whole log places) at = (other, at.0, at.1)
  not_failed e other (Faulty r) at = (true, λ _. other, at)
  not_failed e other Failed at = absurd at

  pub has_failed : (e : End) → e ≡ end.Failed → IsTextJudged text e Failed
  has_failed e is = (is, free_so_far)

-- a fault, for whichever reason no more is read
pub text_stops : (text : List ℕ) (e : End) (f : LogFault) → HasTextFault text f → IsTextJudged text e (Faulty (refusal.Log f))
text_stops text e f is = (false, λ t. absurd (false≢true t), is)

-- ---- a text that is too long

abbrev so_due : Bool → List ℕ → Due
so_due ended bytes = log_due form.OneLog ended bytes

long_fault : (bytes : List ℕ) → longest_kept ≤ length bytes → (f : Refusal) × ((so_due false bytes).fault ≡ Some f)
long_fault bytes long = go (so_due false bytes).fault refl
  where
    go : (o : Option Refusal) → (so_due false bytes).fault ≡ o → (f : Refusal) × ((so_due false bytes).fault ≡ Some f)
    go None is = absurd (omega (arith, due_bounded longest_log log_reading log_is_read without_formula bytes is, long))
    go (Some f) is = (f, is)

-- a fault stays, whatever follows
stays : (ended : Bool) (bytes more : List ℕ) (f : Refusal) → (so_due false bytes).fault ≡ Some f → (so_due ended (bytes ++ more)).fault ≡ Some f
stays ended bytes more f is = ap (λ (d : Due). d.fault) (due_stays longest_log log_reading log_is_read without_formula ended bytes more f is) ∙ is

stays_here : (ended : Bool) (bytes : List ℕ) (f : Refusal) → (so_due false bytes).fault ≡ Some f → (so_due ended bytes).fault ≡ Some f
stays_here ended bytes f is = subst (λ (bs : List ℕ). (so_due ended bs).fault ≡ Some f) (append-nil bytes) (stays ended bytes [] f is)

pub not_whole : (bytes : List ℕ) (log : Log) → longest_kept ≤ length bytes → IsFilled form.OneLog bytes log → ⊥
not_whole bytes log long filled =
    let f = long_fault bytes long in
    none-some f.0 (sym filled.has.free ∙ stays_here true bytes f.0 f.1)

-- it has the fault of its front
pub of_front : (bytes : List ℕ) (ended : Bool) (r : Refusal) → longest_kept ≤ length bytes → (so_due ended (take longest_kept bytes)).fault ≡ Some r → (so_due false bytes).fault ≡ Some r
of_front bytes ended r long is =
    let front_long : longest_kept ≤ length (take longest_kept bytes) = let same = length-take-le longest_kept bytes long in omega (arith, same) in
    let f = long_fault (take longest_kept bytes) front_long in
    let same : f.0 ≡ r = same_Some f.0 r (sym (stays_here ended (take longest_kept bytes) f.0 f.1) ∙ is) in
    ap (λ (bs : List ℕ). (so_due false bs).fault) (sym (take-append-drop longest_kept bytes))
    ∙ stays false (take longest_kept bytes) (drop longest_kept bytes) f.0 f.1 ∙ ap (λ (x : Refusal). Some x) same
