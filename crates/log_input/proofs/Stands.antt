-- What an input is once its bytes were read.
use Rattle.std.proofs.Common.{◌≡◌, ℕ, ◌+◌, ◌<◌, ◌≤◌, Bool, true, false, Option, Some, None, List, [], ◌∷◌, ◌++◌, length, take, drop, refl, sym, ap, subst, ◌∙◌, arith}
use Rattle.std.specs.Prelude.{Result, Ok, Err, IfOk, OnErr, is_some, if◌then◌else◌}
use Rattle.std.specs.Option.{option_map}
use Rattle.std.specs.Io.KnownBytes.{Consumes, IsAtEnd}
use Rattle.std.proofs.lemmas.Bool.{lt-ltb, le-ltb}
use Rattle.std.proofs.lemmas.List.{take-append-drop, length-take-le, take_all}
use Rattle.std.proofs.lemmas.Option.{none-some}
use Rattle.pota_base.specs.declared.fault.NoMemory.{NoMemory}
use Rattle.pota_base.specs.Outside.{Rose}
use Rattle.event_log.specs.declared.log.Log.{Log}
use Rattle.event_log.specs.FittingItems.{FitFrom, FitFirst}
use Rattle.event_log.specs.LogText.{EventFits, event_items, log_items}
use Rattle.event_log.specs.declared.item.Item.TheVariants as item
use Rattle.event_log.specs.declared.log.Event.{Event}
use Rattle.event_log.specs.declared.log.Header.{Header}
use Rattle.std.specs.List.{AllByRecursion}
use Rattle.pota_base.specs.Limits.{longest_kept, longest_log, most_events}
use Rattle.fault_kinds.specs.declared.import.ImportFault.{ImportFault}
use Rattle.fault_kinds.specs.declared.merge.MergeFault.{MergeFault}
use Rattle.fault_kinds.specs.declared.refusal.Refusal.{Refusal}
use Rattle.fault_kinds.specs.declared.refusal.Refusal.TheVariants as refusal
use Rattle.pota_base.specs.Changes.{Change, left_by}
use Rattle.input_reading.specs.declared.kept.Kept.{Kept}
use Rattle.input_reading.specs.declared.reading.End.{End}
use Rattle.input_reading.specs.declared.reading.End.TheVariants as end
use Rattle.input_reading.specs.Intakes.{Ends, ReadsAll, ReadsShort}
use Rattle.log_merge.specs.Merging.{merged_header, merged_events, numbered, merged_log}
use Rattle.log_merge.proofs.Fits.{merged_logs_fit}
use Rattle.log_sources.specs.declared.gathering.Gathered.{Gathered}
use Rattle.log_sources.specs.declared.gathering.Gathered.TheVariants as gathered
use Rattle.log_sources.specs.Gathering.{sources_fault, GathersTo, HasGathered}
use Rattle.log_sources.specs.Reading.{CanMerge}
use Rattle.log_sources.specs.Sources.{no_sources, after, logs_of}
use Rattle.vclog_import.specs.Faults.{fault_of}
use Rattle.vclog_import.specs.Imported.{imported}
use Rattle.vclog_import.proofs.LongTexts.{long_texts_are_faulty}
use Rattle.form_readings.specs.Clocks.{import_refusal, clocks_fault, clocks_place}
use Rattle.form_readings.specs.Sources.{merged_log_of, merged_fault, merged_place}
use Rattle.form_readings.proofs.Imports.{clocks_are_read}
use Rattle.log_rules.specs.WholeLogs.{all_of}
use Rattle.log_input.specs.declared.form.Form.TheVariants as form
use Rattle.log_input.specs.declared.places.Places.{Places}
use Rattle.log_input.specs.declared.places.Places.TheVariants.{Lines}
use Rattle.log_input.specs.Places.{place_by}
use Rattle.log_input.specs.declared.judged.Judged.{Judged}
use Rattle.log_input.specs.declared.judged.Judged.TheVariants.{Whole, Faulty, Failed}
use Rattle.log_input.specs.declared.reading.Input.{Input}
use Rattle.log_input.specs.declared.reading.Input.TheVariants as input
use Rattle.log_input.specs.Readings.{log_due}
use Rattle.log_input.specs.declared.form.Form.{Form}
use Rattle.log_input.specs.FaultyLine.{shown_line, faulty_line}
use Rattle.log_input.specs.Inputs.{IsFilled, ArePlacesOf, StandsTo, HasStood}
use Rattle.log_input.specs.inside.Judging.{IsJudged, IsMergedOf, IsTextJudged, StandsAt, AreRecordsJudged, told}
use Rattle.log_input.proofs.Lines.{nothing_shown}
use Rattle.log_input.proofs.Texts.{not_whole, of_front}
use Rattle.log_input.proofs.Wholes.{whole_due, fault_due, text_due, none_due, fits}

pub ok_so : {T : Type 0} (r : Result T NoMemory) (P Q : T → Type 0) → ((i : T) → P i → Q i) → IfOk r P → IfOk r Q
ok_so (Ok i) P Q f h = f i h
ok_so (Err none) P Q f h = tt

pub err_so : {T : Type 0} (r : Result T NoMemory) (A : Type 0) → A → OnErr r A
err_so (Ok x) A a = tt
err_so (Err none) A a = a

-- the bytes that came, of which more may matter or not
abbrev pub Open : Kept → List ℕ → Type 0
Open k bytes = (k.bytes ≡ bytes) × (length bytes < longest_kept)

abbrev pub Done : Kept → List ℕ → Type 0
Done k bytes = (k.bytes ≡ take longest_kept bytes) × (longest_kept ≤ length bytes)

pub read_short : (s : Change) (kept : Kept) (e : End) → ReadsAll s (Open kept) (Done kept) [] e → ReadsShort s
read_short s kept e all = record { read = all.read; consumed = all.consumed; later = all.later }

kept_front : (s : Change) (kept : Kept) (bytes : List ℕ) (e : End) → Ends (left_by s) (Open kept) (Done kept) bytes e → kept.bytes ≡ take longest_kept bytes
kept_front s kept bytes end.Ended ends = ends.1.0 ∙ sym (take_all longest_kept bytes (omega (arith, ends.1.1)))
kept_front s kept bytes end.Done ends = ends.0
kept_front s kept bytes end.Failed ends = ends.1.0 ∙ sym (take_all longest_kept bytes (omega (arith, ends.1.1)))

-- ---- what was judged, told with the line of its fault

-- what is told of the bytes, but for that line
abbrev pub StandsJudged : Form → Change → List ℕ → Judged → Type 0
StandsJudged form s bytes (Whole log places) = IsAtEnd s.after × (s.faults_after ≡ s.faults_before) × IsFilled form bytes log × ArePlacesOf form bytes places
StandsJudged form s bytes (Faulty r) = (ended : Bool) × (ended ≡ true → IsAtEnd s.after) × ((log_due form ended bytes).fault ≡ Some r)
StandsJudged form s bytes Failed = ((log_due form false bytes).fault ≡ None) × Rose s.faults_before s.faults_after

told_so : (form : Form) (s : Change) (bytes text : List ℕ) → ((r : Refusal) → shown_line r text ≡ faulty_line form r bytes) → (j : Judged) → StandsJudged form s bytes j → StandsTo form s bytes (told j text)
told_so form s bytes text same (Whole log places) to = to
told_so form s bytes text same (Faulty r) to = (to, same r)
told_so form s bytes text same Failed to = to

told_stood : (form : Form) (s : Change) (read text : List ℕ) → Consumes s.before s.after read → ((r : Refusal) → shown_line r text ≡ faulty_line form r read) → (j : Judged) → StandsJudged form s read j
    → (r : Result Input NoMemory) → IfOk r (λ i. i ≡ told j text) → IfOk r (HasStood form s)
told_stood form s read text consumed same j to r came = ok_so r (λ i. i ≡ told j text) (HasStood form s) (λ i is. record {
  read = read;
  consumed = consumed;
  to = subst (StandsTo form s read) (sym is) (told_so form s read text same j to);
}) came

-- ---- one log

front_long : (bytes : List ℕ) → longest_kept ≤ length bytes → longest_kept ≤ length (take longest_kept bytes)
front_long bytes long = let same = length-take-le longest_kept bytes long in omega (arith, same)

text_stands : (e : End) (s : Change) (kept : Kept) (bytes text : List ℕ) → text ≡ kept.bytes → Ends (left_by s) (Open kept) (Done kept) bytes e
    → ((e ≡ end.Failed → ⊥) → s.faults_after ≡ s.faults_before) → (j : Judged) → IsTextJudged text e j → StandsJudged form.OneLog s bytes j
text_stands end.Ended s kept bytes text is ends calm (Whole l q) j = (ends.0, calm j.0, subst (λ (bs : List ℕ). IsFilled form.OneLog bs l) (is ∙ ends.1.0) j.1, j.2)
text_stands end.Ended s kept bytes text is ends calm (Faulty r) j =
    (j.0, λ _. ends.0, subst (λ (bs : List ℕ). (log_due form.OneLog j.0 bs).fault ≡ Some r) (is ∙ ends.1.0) j.2)
text_stands end.Ended s kept bytes text is ends calm Failed j = absurd (let no = j.0 in cc)
text_stands end.Done s kept bytes text is ends calm (Whole l q) j =
    absurd (not_whole (take longest_kept bytes) l (front_long bytes ends.1) (subst (λ (bs : List ℕ). IsFilled form.OneLog bs l) (is ∙ ends.0) j.1))
text_stands end.Done s kept bytes text is ends calm (Faulty r) j =
    (false, λ e. absurd cc, of_front bytes j.0 r ends.1 (subst (λ (bs : List ℕ). (log_due form.OneLog j.0 bs).fault ≡ Some r) (is ∙ ends.0) j.2))
text_stands end.Done s kept bytes text is ends calm Failed j = absurd (let no = j.0 in cc)
text_stands end.Failed s kept bytes text is ends calm (Whole l q) j = absurd (j.0 refl)
text_stands end.Failed s kept bytes text is ends calm (Faulty r) j =
    (j.0, λ t. absurd (j.1 t refl), subst (λ (bs : List ℕ). (log_due form.OneLog j.0 bs).fault ≡ Some r) (is ∙ ends.1.0) j.2)
text_stands end.Failed s kept bytes text is ends calm Failed j =
    (subst (λ (bs : List ℕ). (log_due form.OneLog false bs).fault ≡ None) (is ∙ ends.1.0) j.1, ends.0)

pub log_stood : (s : Change) (kept : Kept) (e : End) → ReadsAll s (Open kept) (Done kept) [] e → ((e ≡ end.Failed → ⊥) → s.faults_after ≡ s.faults_before)
    → (text : List ℕ) → text ≡ kept.bytes → (j : Judged) → IsTextJudged text e j → (r : Result Input NoMemory) → IfOk r (λ i. i ≡ told j text) → IfOk r (HasStood form.OneLog s)
log_stood s kept e all calm text is j judged r came =
    told_stood form.OneLog s all.read text all.consumed (λ r. ap (shown_line r) (is ∙ kept_front s kept all.read e all.to)) j (text_stands e s kept all.read text is all.to calm j judged) r came

-- ---- records of two lines

module _ (text : List ℕ) (free : clocks_fault true text ≡ None) where
  pub import_fits : FitFirst (log_items (imported text))
  import_fits = fits clocks_fault imported clocks_place text free clocks_are_read.fit

  pub import_stands : (input : Judged) → IsJudged (imported text) Lines input → StandsAt form.Clocks text input
  import_stands (Whole l q) j =
      let due = whole_due clocks_fault imported clocks_place text free (all_of l) j.0 in
      (record { has = record { free = due.0; whole = due.1 }; log_is = j.1 }, λ f. ap (λ (p : Places). place_by p f) j.2)
  import_stands (Faulty r) j = fault_due clocks_fault imported clocks_place text free j.0 j.1 ∙ ap (λ (x : Refusal). Some x) (sym j.2)
  import_stands Failed j = absurd j

pub no_refusal : (text : List ℕ) → fault_of text ≡ None → clocks_fault true text ≡ None
no_refusal text none = ap (option_map (λ f. refusal.Import f)) none

pub import_refused : (text : List ℕ) (f : ImportFault) → fault_of text ≡ Some f → StandsAt form.Clocks text (Faulty (refusal.Import f))
import_refused text f some = text_due clocks_fault imported clocks_place text (refusal.Import f) true (ap (option_map (λ x. refusal.Import x)) some)

no_fault : (bytes : List ℕ) → length bytes < longest_kept → clocks_fault false bytes ≡ None
no_fault bytes few = ap (λ (b : Bool). if b then import_refusal bytes else None) (le-ltb longest_log (length bytes) (omega (arith, few)))

some_refusal : (fault : Option ImportFault) → is_some fault ≡ true → option_map (λ f. refusal.Import f) fault ≡ None → ⊥
some_refusal None some none = absurd cc
some_refusal (Some f) some none = absurd cc

-- a text that is too long has the fault of its front
module _ (bytes : List ℕ) (long : longest_kept ≤ length bytes) where
  faulty_front : clocks_fault true (take longest_kept bytes) ≡ None → ⊥
  faulty_front none = some_refusal (fault_of (take longest_kept bytes)) (long_texts_are_faulty (take longest_kept bytes) [] (front_long bytes long)).0 none

  same_fault : clocks_fault false bytes ≡ clocks_fault true (take longest_kept bytes)
  same_fault =
      ap (λ (b : Bool). if b then import_refusal bytes else None) (lt-ltb longest_log (length bytes) (omega (arith, long)))
      ∙ ap import_refusal (sym (take-append-drop longest_kept bytes))
      ∙ ap (option_map (λ f. refusal.Import f)) (long_texts_are_faulty (take longest_kept bytes) (drop longest_kept bytes) (front_long bytes long)).1

  front_due : (o : Option Refusal) → clocks_fault true (take longest_kept bytes) ≡ o → (j : Judged) → StandsAt form.Clocks (take longest_kept bytes) j → (s : Change) → StandsJudged form.Clocks s bytes j
  front_due None none j at s = absurd (faulty_front none)
  front_due (Some f) some (Whole l q) at s = absurd (none-some f (sym at.0.has.free ∙ text_due clocks_fault imported clocks_place (take longest_kept bytes) f true some))
  front_due (Some f) some (Faulty r) at s = (
    false,
    λ e. absurd cc,
    text_due clocks_fault imported clocks_place bytes f false (same_fault ∙ some)
        ∙ sym (text_due clocks_fault imported clocks_place (take longest_kept bytes) f true some) ∙ at,
  )
  front_due (Some f) some Failed at s = absurd at

ended_so : (s : Change) (bytes : List ℕ) (j : Judged) → IsAtEnd s.after → s.faults_after ≡ s.faults_before → StandsAt form.Clocks bytes j → StandsJudged form.Clocks s bytes j
ended_so s bytes (Whole log q) at calm is = (at, calm, is.0, is.1)
ended_so s bytes (Faulty r) at calm is = (true, λ _. at, is)
ended_so s bytes Failed at calm is = absurd is

records_stand : (e : End) (s : Change) (kept : Kept) (bytes text : List ℕ) → text ≡ kept.bytes → Ends (left_by s) (Open kept) (Done kept) bytes e
    → ((e ≡ end.Failed → ⊥) → s.faults_after ≡ s.faults_before) → (j : Judged) → AreRecordsJudged text e j → StandsJudged form.Clocks s bytes j
records_stand end.Ended s kept bytes text is ends calm j judged =
    ended_so s bytes j ends.0 (calm (λ other. cc)) (subst (λ (bs : List ℕ). StandsAt form.Clocks bs j) (is ∙ ends.1.0) judged)
records_stand end.Done s kept bytes text is ends calm j judged =
    front_due bytes ends.1 (clocks_fault true (take longest_kept bytes)) refl j (subst (λ (bs : List ℕ). StandsAt form.Clocks bs j) (is ∙ ends.0) judged) s
records_stand end.Failed s kept bytes text is ends calm j judged =
    subst (StandsJudged form.Clocks s bytes) (sym judged) (none_due clocks_fault imported clocks_place bytes (no_fault bytes ends.1.1), ends.0)

pub records_stood : (s : Change) (kept : Kept) (e : End) → ReadsAll s (Open kept) (Done kept) [] e → ((e ≡ end.Failed → ⊥) → s.faults_after ≡ s.faults_before)
    → (text : List ℕ) → text ≡ kept.bytes → (j : Judged) → AreRecordsJudged text e j → (r : Result Input NoMemory) → IfOk r (λ i. i ≡ told j text) → IfOk r (HasStood form.Clocks s)
records_stood s kept e all calm text is j judged r came =
    told_stood form.Clocks s all.read text all.consumed (λ r. ap (shown_line r) (is ∙ kept_front s kept all.read e all.to)) j (records_stand e s kept all.read text is all.to calm j judged) r came

-- ---- several logs

pub merged_none : (ended : Bool) (bytes : List ℕ) → sources_fault ended bytes ≡ None → merged_fault ended bytes ≡ None
merged_none false bytes none = ap (option_map (λ f. refusal.Merge f)) none
merged_none true bytes none = ap (option_map (λ f. refusal.Merge f)) none

pub merged_some : (ended : Bool) (bytes : List ℕ) (f : MergeFault) → sources_fault ended bytes ≡ Some f → merged_fault ended bytes ≡ Some (refusal.Merge f)
merged_some false bytes f some = ap (option_map (λ x. refusal.Merge x)) some
merged_some true bytes f some = ap (option_map (λ x. refusal.Merge x)) some

-- the merged log fits: items of one batch
fit_from : (h : Header) (n : ℕ) (es : List Event) → AllByRecursion (EventFits h) es → n + length es ≤ most_events → FitFrom h n (event_items es ++ item.End ∷ [])
fit_from h n [] each few = tt
fit_from h n (x ∷ es) each few = (each.0, omega (arith, few), fit_from h (n + 1) es each.1 (omega (arith, few)))

pub merge_fits : (logs : List Log) → CanMerge logs → FitFirst (log_items (merged_log logs))
merge_fits logs can =
    let fit = merged_logs_fit logs can.some can.each can.faultless in
    let few : 0 + length (numbered 1 (merged_events logs)) ≤ most_events = omega (arith, fit.checked.events) in
    (fit.header, fit_from (merged_header logs) 0 (numbered 1 (merged_events logs)) fit.events few)

merge_stands : (bytes : List ℕ) → merged_fault true bytes ≡ None → (input : Judged) → IsMergedOf (logs_of (after no_sources bytes)) input → StandsAt form.Merged bytes input
merge_stands bytes none (Whole l q) j =
    let due = whole_due merged_fault merged_log_of merged_place bytes none (all_of l) j.0 in
    (record { has = record { free = due.0; whole = due.1 }; log_is = j.1 }, λ f. ap (λ (p : Places). place_by p f) j.2)
merge_stands bytes none (Faulty r) j = fault_due merged_fault merged_log_of merged_place bytes none j.0 j.1 ∙ ap (λ (x : Refusal). Some x) (sym j.2)
merge_stands bytes none Failed j = absurd j

merged_at_end : (s : Change) (bytes : List ℕ) (j : Judged) → IsAtEnd s.after → s.faults_after ≡ s.faults_before → StandsAt form.Merged bytes j → StandsJudged form.Merged s bytes j
merged_at_end s bytes (Whole log q) at calm is = (at, calm, is.0, is.1)
merged_at_end s bytes (Faulty r) at calm is = (true, λ _. at, is)
merged_at_end s bytes Failed at calm is = absurd is

module _ (s : Change) (g : Gathered) (read_so : HasGathered s g) where
  pub gathered_short : ReadsShort s
  gathered_short = record { read = read_so.read; consumed = read_so.consumed; later = read_so.later }

  pub may_merge : (logs slice : List Log) → slice ≡ logs → g ≡ gathered.Logs logs → CanMerge slice
  may_merge logs slice slice_is is =
      let to = subst (GathersTo s.after s.faults_before s.faults_after read_so.read) is read_so.to in
      subst CanMerge (sym slice_is) to.1.can_merge

  pub sources_whole : (logs slice : List Log) → slice ≡ logs → g ≡ gathered.Logs logs → s.faults_after ≡ s.faults_before → (j : Judged) → IsMergedOf slice j → (none : List ℕ) → none ≡ []
      → (r : Result Input NoMemory) → IfOk r (λ i. i ≡ told j none) → IfOk r (HasStood form.Merged s)
  sources_whole logs slice slice_is is calm j judged none none_is r came =
      let to = subst (GathersTo s.after s.faults_before s.faults_after read_so.read) is read_so.to in
      told_stood form.Merged s read_so.read none read_so.consumed (λ r. ap (shown_line r) none_is ∙ nothing_shown r) j
      (merged_at_end s read_so.read j to.0 calm (merge_stands read_so.read (merged_none true read_so.read to.1.faultless) j (subst (λ (ls : List Log). IsMergedOf ls j) (slice_is ∙ to.1.are) judged))) r came

  pub sources_faulty : (f : MergeFault) → g ≡ gathered.Fault f → (none : List ℕ) → none ≡ [] → HasStood form.Merged s (input.Faulty (refusal.Merge f) none)
  sources_faulty f is none none_is =
      let to = subst (GathersTo s.after s.faults_before s.faults_after read_so.read) is read_so.to in
      record {
        read = read_so.read;
        consumed = read_so.consumed;
        to = ((to.0, to.1, text_due merged_fault merged_log_of merged_place read_so.read (refusal.Merge f) to.0 (merged_some to.0 read_so.read f to.2)), none_is);
      }

  pub sources_failed : g ≡ gathered.Failed → HasStood form.Merged s input.Failed
  sources_failed is =
      let to = subst (GathersTo s.after s.faults_before s.faults_after read_so.read) is read_so.to in
      record {
        read = read_so.read;
        consumed = read_so.consumed;
        to = (none_due merged_fault merged_log_of merged_place read_so.read (merged_none false read_so.read to.0), to.1);
      }
