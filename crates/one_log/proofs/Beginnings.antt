-- What torn logs are once they were read.
use Rattle.std.proofs.Common.{◌≡◌, ℕ, ◌<◌, true, Option, Some, None, List, [], ◌∷◌, ◌++◌, length, refl, sym, ap, subst, ◌∙◌, arith, append_assoc, append-nil}
use Rattle.std.specs.Prelude.{Result, Ok, Err, IfOk}
use Rattle.std.specs.Option.{option_map}
use Rattle.std.specs.Io.KnownBytes.{IsAtEnd}
use Rattle.std.proofs.lemmas.Option.{none-some}
use Rattle.pota_base.specs.declared.fault.NoMemory.{NoMemory}
use Rattle.run_model.specs.Cut.{Cut}
use Rattle.torn_runs.proofs.Greatest.{greatest_there}
use Rattle.event_log.specs.declared.item.Item.{Item}
use Rattle.event_log.specs.declared.item.Item.TheVariants as item
use Rattle.event_log.specs.declared.item.LogFault.{LogFault}
use Rattle.event_log.specs.declared.log.Event.{Event}
use Rattle.event_log.specs.declared.log.Header.{Header}
use Rattle.event_log.specs.declared.log.Log.{Log}
use Rattle.event_log.specs.Faults.{end_fault, items_in}
use Rattle.event_log.specs.LogText.{onto, event_items, batch_items, log_items}
use Rattle.event_log.proofs.WellFormed.{fault_free_log}
use Rattle.vector_clock.specs.Events.{Events, no_events}
use Rattle.fault_kinds.specs.declared.merge.MergeFault.{MergeFault}
use Rattle.fault_kinds.specs.declared.refusal.Refusal.{Refusal}
use Rattle.fault_kinds.specs.declared.refusal.Refusal.TheVariants as refusal
use Rattle.pota_base.specs.Changes.{Change, left_by}
use Rattle.input_reading.specs.declared.kept.Kept.{Kept}
use Rattle.input_reading.specs.declared.reading.End.{End}
use Rattle.input_reading.specs.declared.reading.End.TheVariants as end
use Rattle.input_reading.specs.Intakes.{Ends, ReadsAll}
use Rattle.log_lines.specs.Reading.{choose}
use Rattle.log_merge.specs.Merging.{merged}
use Rattle.log_sources.specs.Sources.{no_sources, after, last_fault, logs_of}
use Rattle.form_readings.specs.Sources.{merged_log_of, merged_fault, merged_place}
use Rattle.log_rules.specs.Due.{Due, told, whole_of, fault_in, at_end}
use Rattle.log_rules.specs.Judgement.{Prefix, followed_by, with_clocks, Judgement, waiting, growing, finished, refused, judge, judged}
use Rattle.log_rules.specs.Readings.{items_at_end}
use Rattle.log_rules.specs.WholeLogs.{all_of}
use Rattle.log_trace.specs.Judging.{without_formula, IsRefused}
use Rattle.filled_log.specs.declared.filling.FilledLog.{FilledLog}
use Rattle.filled_log.specs.Filling.{HasBegun, Keeps}
use Rattle.torn_log.specs.declared.torn.Torn.{Torn}
use Rattle.torn_log.specs.Items.{events_in, items_upto, kept_from, left_out}
use Rattle.torn_log.specs.Needs.{needs}
use Rattle.torn_log.specs.Torn.{IsKept, IsTornOf}
use Rattle.torn_log.proofs.Keeping.{kept_append}
use Rattle.torn_text.specs.Mending.{mended}
use Rattle.torn_log.specs.Items.{with_items}
use Rattle.log_input.specs.declared.form.Form.{Form}
use Rattle.log_input.specs.declared.form.Form.TheVariants as form
use Rattle.log_input.specs.declared.places.Places.{Places}
use Rattle.log_input.specs.declared.places.Places.TheVariants.{Lines}
use Rattle.one_log.specs.declared.torn.TornInput.{TornInput}
use Rattle.one_log.specs.declared.torn.TornInput.TheVariants.{Whole, Faulty, Failed, TooLong}
use Rattle.one_log.specs.Logging.{HasTornFault, items_of, events_of, torn_due}
use Rattle.log_input.specs.Places.{place_by}
use Rattle.one_log.specs.inside.Torn.{text_refusal, AreWhole, EndsWhole, judged_upto, IsTornJudged, IsMergedTornOf, IsTornAt, StandsTornTo, HasStoodTorn}
use Rattle.log_input.proofs.Stands.{Open, Done, merged_none}
use Rattle.log_input.proofs.Wholes.{Closes, IsTakenOf, faultless_so, whole_free}
use Rattle.one_log.proofs.Kept.{kept_so}

-- ---- items that end whole

-- the header came
abbrev IsBegun : Judgement → Type 0
IsBegun waiting = ⊥
IsBegun (growing log since) = Unit {0}
IsBegun (finished log last) = Unit {0}
IsBegun (refused log why) = Unit {0}

-- so did the end, or a fault
abbrev IsEnded : Judgement → Type 0
IsEnded waiting = ⊥
IsEnded (growing log since) = ⊥
IsEnded (finished log last) = Unit {0}
IsEnded (refused log why) = Unit {0}

closed_begun : (log : Prefix) (next : Judgement) → IsBegun next → (o : Option LogFault) → IsBegun (choose o (λ f. refused (Some log) (refusal.Log f)) next)
closed_begun log next is None = is
closed_begun log next is (Some f) = tt

closed_ended : (log : Prefix) (next : Judgement) → IsEnded next → (o : Option LogFault) → IsEnded (choose o (λ f. refused (Some log) (refusal.Log f)) next)
closed_ended log next is None = is
closed_ended log next is (Some f) = tt

begun_one : (j : Judgement) (i : Item) → IsBegun j → IsBegun (judge without_formula j i)
begun_one waiting i is = absurd is
begun_one (growing log since) (item.Header h) is = tt
begun_one (growing log since) (item.Event e) is = tt
begun_one (growing log since) item.BatchEnd is =
    closed_begun log (growing (followed_by log (with_clocks log since)) []) tt (without_formula.batch log (with_clocks log since))
begun_one (growing log since) item.End is =
    closed_begun log (finished log (with_clocks log since)) tt (without_formula.batch log (with_clocks log since))
begun_one (finished log last) i is = tt
begun_one (refused log why) i is = tt

ended_one : (j : Judgement) → IsBegun j → IsEnded (judge without_formula j item.End)
ended_one waiting is = absurd is
ended_one (growing log since) is =
    closed_ended log (finished log (with_clocks log since)) tt (without_formula.batch log (with_clocks log since))
ended_one (finished log last) is = tt
ended_one (refused log why) is = tt

ended_behind : (j : Judgement) (xs : List Item) → IsBegun j → IsEnded (judged without_formula j (xs ++ item.End ∷ []))
unfolding judged
ended_behind j [] is = ended_one j is
ended_behind j (i ∷ xs) is = ended_behind (judge without_formula j i) xs (begun_one j i is)

ended_first : (h : Header) (xs : List Item) → IsEnded (judged without_formula waiting (item.Header h ∷ (xs ++ item.End ∷ [])))
unfolding judged
ended_first h xs = ended_behind (judge without_formula waiting (item.Header h)) xs tt

-- up to a cut too
kept_end : (cut : Cut) (before : Events) (xs : List Item) → kept_from cut before (xs ++ item.End ∷ []) ≡ kept_from cut before xs ++ item.End ∷ []
kept_end cut before xs = kept_append cut before xs item.End (with_items before xs) refl

ended_upto : (cut : Cut) (items : List Item) → AreWhole items → IsEnded (judged_upto cut items)
ended_upto cut items whole =
    let h = whole.0 in
    let same : items_upto cut items ≡ item.Header h ∷ (kept_from cut (no_events (length h.procs)) whole.1 ++ item.End ∷ []) =
    ap (items_upto cut) whole.2 ∙ ap (λ (xs : List Item). item.Header h ∷ xs) (kept_end cut (no_events (length h.procs)) whole.1) in
    subst (λ (xs : List Item). IsEnded (judged without_formula waiting xs)) (sym same) (ended_first h (kept_from cut (no_events (length h.procs)) whole.1))

-- ---- what is kept of them

closes_so : (kept : FilledLog) (j : Judgement) → IsEnded j → Keeps kept j → Closes kept j
closes_so kept waiting is keeps = absurd is
closes_so kept (growing log since) is keeps = absurd is
closes_so kept (finished log last) is keeps = record { log = followed_by log last; whole = refl; begun = keeps.0 }
closes_so kept (refused log why) is keeps = absurd keeps

module _ (items : List Item) (torn : Torn) (is : IsTornOf items torn) where
  judged_same : judged without_formula waiting torn.items ≡ judged_upto is.cut items
  judged_same = ap (judged without_formula waiting) is.items_are

  -- a fault of an event
  pub event_refused : (fault : Option Refusal) (places : Places) (f : LogFault) (why : Refusal) → why ≡ place_by places f
      → IsRefused (judged without_formula waiting torn.items) f → IsTornJudged items fault places (Faulty why)
  event_refused fault places f why placed refused_is = record {
    cut = is.cut;
    greatest = is.greatest;
    is = ap (λ (j : Judgement). fault_in (place_by places) j fault) (sym judged_same ∙ refused_is.1) ∙ ap (λ (x : Refusal). Some x) (sym placed);
  }

  module _ (kept : FilledLog) (keeps : Keeps kept (judged without_formula waiting torn.items)) where
    keeps_upto : Keeps kept (judged_upto is.cut items)
    keeps_upto = subst (Keeps kept) judged_same keeps

    told_as_is : (places : Places) (fault : Option Refusal) (j : Judgement) → Keeps kept j → fault_in (place_by places) j fault ≡ fault
    told_as_is places fault waiting k = refl
    told_as_is places fault (growing log since) k = refl
    told_as_is places fault (finished log last) k = refl
    told_as_is places fault (refused log why) k = absurd k

    -- a fault of the bytes
    pub bytes_refused : (fault : Option Refusal) (places : Places) (why : Refusal) → fault ≡ Some why → IsTornJudged items fault places (Faulty why)
    bytes_refused fault places why there = record {
      cut = is.cut;
      greatest = is.greatest;
      is = told_as_is places fault (judged_upto is.cut items) keeps_upto ∙ there;
    }

    module _ (whole : AreWhole items) where
      closes : Closes kept (judged_upto is.cut items)
      closes = closes_so kept (judged_upto is.cut items) (ended_upto is.cut items whole) keeps_upto

      pub begun_so : (log : Prefix) × HasBegun kept log
      begun_so = (closes.log, closes.begun)

      pub is_beginning : (fault : Option Refusal) (places : Places) → fault ≡ None → (log : Log) (left : List ℕ) → left ≡ torn.left_out
          → IsTakenOf kept log → IsTornJudged items fault places (Whole (record { log = log; left_out = left }))
      is_beginning fault places none log left left_is came = let is_log = came closes.log closes.begun in (
        none,
        record {
          cut = is.cut;
          greatest = is.greatest;
          whole = closes.whole ∙ ap (λ (p : Prefix). Some p) (sym is_log.0);
          can = kept_so log (faultless_so log is_log.1 is_log.2);
          left_out_are = left_is ∙ is.left_out_are;
        },
      )

-- ---- the items of a log end whole

ends_so : (b : List Event) (bs : List (List Event)) → (xs : List Item) × (batch_items (b ∷ bs) ≡ xs ++ item.End ∷ [])
ends_so b [] = (event_items b, refl)
ends_so b (c ∷ bs) =
    let rest = ends_so c bs in (
      event_items b ++ item.BatchEnd ∷ rest.0,
      ap (λ (xs : List Item). event_items b ++ item.BatchEnd ∷ xs) rest.1 ∙ sym (append_assoc (event_items b) (item.BatchEnd ∷ rest.0) (item.End ∷ [])),
    )

pub are_whole : (log : Log) (bs : List (List Event)) → log.batches ≡ bs → 0 < length bs → AreWhole (log_items log)
are_whole log [] is some = absurd (omega (arith, some))
are_whole log (b ∷ bs) is some =
    let ends = ends_so b bs in
    (log.header, ends.0, ap (λ (xs : List (List Event)). item.Header log.header ∷ batch_items xs) is ∙ ap (λ (xs : List Item). item.Header log.header ∷ xs) ends.1)

-- ---- the text of one log

none_of : (o : Option LogFault) → text_refusal o ≡ None → o ≡ None
none_of None is = refl
none_of (Some f) is = absurd (none-some (refusal.Log f) (sym is))

module _ (text : List ℕ) (items : List Item) (items_are : items ≡ items_in text) (fault : Option Refusal) (found : Option LogFault) (fault_is : fault ≡ text_refusal found) (found_is : found ≡ end_fault (onto text [])) where
  pub text_ends : EndsWhole items fault
  text_ends none =
      let log = fault_free_log text (sym found_is ∙ none_of found (sym fault_is ∙ none)) in
      subst AreWhole (sym log.1.items_are ∙ sym items_are) (are_whole log.0 log.0.batches refl log.1.log_is.fits.some)

  there : fault ≡ text_refusal (end_fault (onto text []))
  there = fault_is ∙ ap text_refusal found_is

  abbrev at_text : TornInput → Type 0
  at_text input = IsTornJudged (items_in text) (text_refusal (end_fault (onto text []))) Lines input

  moved : (input : TornInput) → IsTornJudged items fault Lines input → at_text input
  moved input j =
      subst (λ (o : Option Refusal). IsTornJudged (items_in text) o Lines input) there (subst (λ (xs : List Item). IsTornJudged xs fault Lines input) items_are j)

  stands : (input : TornInput) → IsTornJudged (items_in text) (text_refusal (end_fault (onto text []))) Lines input → IsTornAt form.OneLog text input
  stands (Whole b) j =
      let o = text_refusal (end_fault (onto text [])) in
      let at = judged_upto j.1.cut (items_in text) in
      record {
        has = record {
          cut = j.1.cut;
          greatest = j.1.greatest;
          free = ap (fault_in (place_by Lines) at) j.0 ∙ whole_free (place_by Lines) at (all_of b.log) j.1.whole;
          whole = ap (λ (x : Option Refusal). at_end true x (whole_of at)) j.0 ∙ j.1.whole;
        };
        can = j.1.can;
        left_out_are = j.1.left_out_are;
      }
  stands (Faulty why) j = record { cut = j.cut; greatest = j.greatest; is = j.is }
  stands Failed j = absurd j
  stands TooLong j = absurd j

  pub text_torn : (input : TornInput) → IsTornJudged items fault Lines input → IsTornAt form.OneLog text input
  text_torn input j = stands input (moved input j)

-- ---- several logs

module _ (text : List ℕ) (faultless : last_fault (after no_sources text) ≡ None) where
  none : merged_fault true text ≡ None
  none = merged_none true text faultless

  items_same : items_of form.Merged text ≡ log_items (merged_log_of text)
  items_same = ap (λ (o : Option Refusal). items_at_end true o (merged_log_of text)) none

  due_is : (cut : Cut) → torn_due form.Merged cut text ≡ told true (merged_place text) (judged_upto cut (log_items (merged_log_of text))) None
  due_is cut = ap (λ (o : Option Refusal). told true (merged_place text) (judged_upto cut (items_at_end true o (merged_log_of text))) o) none

  greatest_so : (cut : Cut) → IsKept (events_in (log_items (merged_log_of text))) cut → IsKept (events_of form.Merged text) cut
  greatest_so cut greatest = subst (λ (xs : List Item). IsKept (events_in xs) cut) (sym items_same) greatest

  pub merged_torn : (input : TornInput) → IsMergedTornOf (logs_of (after no_sources text)) input → IsTornAt form.Merged text input
  merged_torn (Whole b) j =
      let at = judged_upto j.1.cut (log_items (merged_log_of text)) in
      record {
        has = record {
          cut = j.1.cut;
          greatest = greatest_so j.1.cut j.1.greatest;
          free = ap (λ (d : Due). d.fault) (due_is j.1.cut) ∙ whole_free (merged_place text) at (all_of b.log) j.1.whole;
          whole = ap (λ (d : Due). d.whole) (due_is j.1.cut) ∙ j.1.whole;
        };
        can = j.1.can;
        left_out_are = j.1.left_out_are ∙ ap (λ (xs : List Item). left_out (events_in xs) j.1.cut) (sym items_same);
      }
  merged_torn (Faulty why) j =
      record { cut = j.cut; greatest = greatest_so j.cut j.greatest; is = ap (λ (d : Due). d.fault) (due_is j.cut) ∙ j.is }
  merged_torn Failed j = absurd j
  merged_torn TooLong j = absurd j

-- of faulty texts nothing is judged
pub merged_refused : (text : List ℕ) (f : MergeFault) → last_fault (after no_sources text) ≡ Some f → HasTornFault form.Merged text (refusal.Merge f)
unfolding judged
merged_refused text f some =
    let fault : merged_fault true text ≡ Some (refusal.Merge f) = ap (option_map (λ x. refusal.Merge x)) some in
    let greatest = greatest_there (needs (events_of form.Merged text)) in
    record {
      cut = greatest.0;
      greatest = greatest.1;
      is = ap (λ (o : Option Refusal). (told true (merged_place text) (judged_upto greatest.0 (items_at_end true o (merged_log_of text))) o).fault) fault;
    }

-- ---- the input

pub torn_so : (r : Result TornInput NoMemory) (P Q : TornInput → Type 0) → ((i : TornInput) → P i → Q i) → IfOk r P → IfOk r Q
torn_so (Ok i) P Q f h = f i h
torn_so (Err short) P Q f h = tt

module _ (form_ : Form) (s : Change) (kept : Kept) (e : End) (all : ReadsAll s (Open kept) (Done kept) [] e) (calm : (e ≡ end.Failed → ⊥) → s.faults_after ≡ s.faults_before) where
  ended_to : (bytes : List ℕ) → IsAtEnd s.after → s.faults_after ≡ s.faults_before → (i : TornInput) → IsTornAt form_ (mended bytes) i → StandsTornTo form_ s bytes i
  ended_to bytes at same (Whole b) is = (at, same, is)
  ended_to bytes at same (Faulty why) is = (at, is)
  ended_to bytes at same Failed is = absurd is
  ended_to bytes at same TooLong is = absurd is

  pub torn_ended : (text : List ℕ) → text ≡ kept.bytes → (r : Result TornInput NoMemory) → IfOk r (IsTornAt form_ (mended text)) → e ≡ end.Ended → IfOk r (HasStoodTorn form_ s)
  torn_ended text text_is (Err short) stands is = tt
  torn_ended text text_is (Ok i) stands is =
      let to = subst (Ends (left_by s) (Open kept) (Done kept) all.read) is all.to in
      record {
        read = all.read;
        consumed = all.consumed;
        to = ended_to all.read to.0 (calm (λ other. cc)) i (subst (λ (bs : List ℕ). IsTornAt form_ (mended bs) i) (text_is ∙ to.1.0) stands);
      }

  pub torn_done : e ≡ end.Done → HasStoodTorn form_ s TooLong
  torn_done is =
      let to = subst (Ends (left_by s) (Open kept) (Done kept) all.read) is all.to in
      record { read = all.read; consumed = all.consumed; to = (calm (λ other. cc), omega (arith, to.1)) }

  pub torn_failed : e ≡ end.Failed → HasStoodTorn form_ s Failed
  torn_failed is =
      let to = subst (Ends (left_by s) (Open kept) (Done kept) all.read) is all.to in
      record { read = all.read; consumed = all.consumed; to = to.0 }
