-- What an input is once its bytes were read.
use Rattle.std.proofs.Common.{◌≡◌, ℕ, ◌<◌, ◌≤◌, Bool, true, false, Option, Some, None, Result, Ok, Err, List, [], length, take, drop, sym, ap, subst, ◌∙◌, arith}
use Rattle.std.specs.Prelude.{IfOk, OnErr, is_some, if◌then◌else◌}
use Rattle.std.specs.Option.{option_map}
use Rattle.std.specs.Io.KnownBytes.{IsAtEnd}
use Rattle.std.proofs.lemmas.Bool.{lt-ltb, le-ltb}
use Rattle.std.proofs.lemmas.List.{take-append-drop, length-take-le}
use Rattle.pota_base.specs.declared.fault.NoMemory.{NoMemory}
use Rattle.pota_base.specs.Limits.{longest_kept, longest_log}
use Rattle.pota_base.specs.Changes.{change_of, left_of}
use Rattle.input_reading.specs.declared.kept.Kept.{Kept}
use Rattle.input_reading.specs.declared.reading.End.{End}
use Rattle.input_reading.specs.declared.reading.End.TheVariants as end
use Rattle.input_reading.specs.Intakes.{Ends, ReadsAll, ReadsShort}
use Rattle.event_log.specs.FittingItems.{FitFirst}
use Rattle.event_log.specs.LogText.{log_items}
use Rattle.fault_kinds.specs.declared.import.ImportFault.{ImportFault}
use Rattle.vclog_import.specs.Faults.{fault_of, is_too_long}
use Rattle.vclog_import.specs.Imported.{imported}
use Rattle.vclog_import.proofs.LongTexts.{long_texts_are_faulty}
use Rattle.fault_kinds.specs.declared.refusal.Refusal.{Refusal}
use Rattle.fault_kinds.specs.declared.refusal.Refusal.TheVariants as refusal
use Rattle.log_rules.specs.Readings.{items_at_end}
use Rattle.form_readings.specs.Clocks.{import_refusal, clocks_fault}
use Rattle.form_readings.specs.Sources.{merged_log_of, merged_fault}
use Rattle.form_readings.proofs.Imports.{clocks_are_read}
use Rattle.form_readings.proofs.Merging.{sources_are_read}
use Rattle.fault_kinds.specs.declared.merge.MergeFault.{MergeFault}
use Rattle.event_log.specs.declared.log.Log.{Log}
use Rattle.log_merge.specs.Merging.{merged}
use Rattle.log_sources.specs.declared.gathering.Gathered.{Gathered}
use Rattle.log_sources.specs.declared.gathering.Gathered.TheVariants as gathered
use Rattle.log_sources.specs.Reading.{CanMerge}
use Rattle.log_sources.specs.Sources.{no_sources, after, logs_of}
use Rattle.log_sources.specs.Gathering.{sources_fault, GathersTo, Gathers}
use Rattle.whole_answers.specs.declared.places.Places.TheVariants.{Origins}
use Rattle.whole_answers.specs.declared.standing.Standing.{Standing}
use Rattle.whole_answers.specs.declared.standing.Standing.TheVariants.{Whole, Faulty, Failed}
use Rattle.whole_answers.specs.inside.Places.{place_by}
use Rattle.whole_answers.specs.inside.Standing.{clocks, sources, StandsAt, StandsTo, HasStood}
use Rattle.whole_answers.specs.inside.Checking.{CanBeChecked}

-- ---- records of two lines

-- the bytes that came, of which more may matter or not
abbrev Open : Kept → List ℕ → Type 0
Open k bytes = (k.bytes ≡ bytes) × (length bytes < longest_kept)

abbrev Done : Kept → List ℕ → Type 0
Done k bytes = (k.bytes ≡ take longest_kept bytes) × (longest_kept ≤ length bytes)

no_fault : (bytes : List ℕ) → length bytes < longest_kept → clocks_fault false bytes ≡ None
no_fault bytes few = ap (λ (b : Bool). if b then import_refusal bytes else None) (le-ltb longest_log (length bytes) (omega (arith, few)))

some_refusal : (fault : Option ImportFault) → is_some fault ≡ true → option_map (λ f. refusal.Import f) fault ≡ None → ⊥
some_refusal None some none = absurd cc
some_refusal (Some f) some none = absurd cc

-- a text that is too long has the fault of its front
module _ (bytes : List ℕ) (long : longest_kept ≤ length bytes) where
  front : List ℕ
  front = take longest_kept bytes

  front_long : longest_kept ≤ length (take longest_kept bytes)
  front_long = let same = length-take-le longest_kept bytes long in omega (arith, same)

  same_fault : import_refusal bytes ≡ import_refusal (take longest_kept bytes)
  same_fault =
      ap import_refusal (sym (take-append-drop longest_kept bytes))
      ∙ ap (option_map (λ f. refusal.Import f)) (long_texts_are_faulty (take longest_kept bytes) (drop longest_kept bytes) front_long).1

  is_long : is_too_long bytes ≡ true
  is_long = lt-ltb longest_log (length bytes) (omega (arith, long))

  done_so : (left : Option (List ℕ)) (lf lf' : ℕ) (s : Standing) → StandsAt clocks (take longest_kept bytes) s → StandsTo clocks left lf lf' bytes s
  done_so left lf lf' (Whole log places) is = absurd (some_refusal (fault_of (take longest_kept bytes)) (long_texts_are_faulty (take longest_kept bytes) [] front_long).0 is.faultless)
  done_so left lf lf' (Faulty r) is = (false, λ e. absurd cc, ap (λ (b : Bool). if b then import_refusal bytes else None) is_long ∙ same_fault ∙ is)
  done_so left lf lf' Failed is = absurd is

ended_so : (left : Option (List ℕ)) (lf lf' : ℕ) (bytes : List ℕ) (s : Standing) → IsAtEnd left → StandsAt clocks bytes s → StandsTo clocks left lf lf' bytes s
ended_so left lf lf' bytes (Whole log places) at is = (at, is)
ended_so left lf lf' bytes (Faulty r) at is = (true, λ _. at, is)
ended_so left lf lf' bytes Failed at is = absurd is

pub ok_so : (r : Result Standing NoMemory) (P Q : Standing → Type 0) → ((s : Standing) → P s → Q s) → IfOk r P → IfOk r Q
ok_so (Ok s) P Q f h = f s h
ok_so (Err none) P Q f h = tt

pub err_so : {T : Type 0} (r : Result T NoMemory) (A : Type 0) → A → OnErr r A
err_so (Ok x) A a = tt
err_so (Err none) A a = a

module _ (left left' : Option (List ℕ)) (lf lf' : ℕ) (kept : Kept) (e : End) (all : ReadsAll (change_of left left' lf lf') (Open kept) (Done kept) [] e) where
  pub read_short : ReadsShort (change_of left left' lf lf')
  read_short = record { read = all.read; consumed = all.consumed; later = all.later }

  module _ (text : List ℕ) (text_is : text ≡ kept.bytes) (r : Result Standing NoMemory) (stands : IfOk r (StandsAt clocks text)) where
    pub records_ended : e ≡ end.Ended → IfOk r (HasStood clocks left left' lf lf')
    records_ended is = ok_so r (StandsAt clocks text) (HasStood clocks left left' lf lf') (λ s h. record {
      read = all.read;
      consumed = all.consumed;
      later = all.later;
      to = let to = subst (Ends (left_of left' lf lf') (Open kept) (Done kept) all.read) is all.to in
          ended_so left' lf lf' all.read s to.0 (subst (λ (bs : List ℕ). StandsAt clocks bs s) (text_is ∙ to.1.0) h);
    }) stands

    pub records_done : e ≡ end.Done → IfOk r (HasStood clocks left left' lf lf')
    records_done is = ok_so r (StandsAt clocks text) (HasStood clocks left left' lf lf') (λ s h. record {
      read = all.read;
      consumed = all.consumed;
      later = all.later;
      to = let to = subst (Ends (left_of left' lf lf') (Open kept) (Done kept) all.read) is all.to in
          done_so all.read to.1 left' lf lf' s (subst (λ (bs : List ℕ). StandsAt clocks bs s) (text_is ∙ to.0) h);
    }) stands

  pub records_failed : e ≡ end.Failed → HasStood clocks left left' lf lf' Failed
  records_failed is =
      let to = subst (Ends (left_of left' lf lf') (Open kept) (Done kept) all.read) is all.to in
      record { read = all.read; consumed = all.consumed; later = all.later; to = (no_fault all.read to.1.1, to.0) }

-- ---- several logs

merged_none : (ended : Bool) (bytes : List ℕ) → sources_fault ended bytes ≡ None → merged_fault ended bytes ≡ None
merged_none false bytes none = ap (option_map (λ f. refusal.Merge f)) none
merged_none true bytes none = ap (option_map (λ f. refusal.Merge f)) none

merged_some : (ended : Bool) (bytes : List ℕ) (f : MergeFault) → sources_fault ended bytes ≡ Some f → merged_fault ended bytes ≡ Some (refusal.Merge f)
merged_some false bytes f some = ap (option_map (λ x. refusal.Merge x)) some
merged_some true bytes f some = ap (option_map (λ x. refusal.Merge x)) some

module _ (left left' : Option (List ℕ)) (lf lf' : ℕ) (g : Gathered) (read_so : Gathers left left' lf lf' g) where
  pub gathered_short : ReadsShort (change_of left left' lf lf')
  gathered_short = record { read = read_so.read; consumed = read_so.consumed; later = read_so.later }

  pub may_merge : (logs slice : List Log) → slice ≡ logs → g ≡ gathered.Logs logs → CanMerge slice
  may_merge logs slice slice_is is =
      let to = subst (GathersTo left' lf lf' read_so.read) is read_so.to in
      subst CanMerge (sym slice_is) to.1.can_merge

  pub sources_whole : (logs slice : List Log) → slice ≡ logs → g ≡ gathered.Logs logs → (r : Result Standing NoMemory)
      → IfOk r (λ s. s ≡ Whole (merged slice).log (Origins (merged slice).origins)) → IfOk r (HasStood sources left left' lf lf')
  sources_whole logs slice slice_is is r stands =
      let to = subst (GathersTo left' lf lf' read_so.read) is read_so.to in
      let same : slice ≡ logs_of (after no_sources read_so.read) = slice_is ∙ to.1.are in
      ok_so r (λ s. s ≡ Whole (merged slice).log (Origins (merged slice).origins)) (HasStood sources left left' lf lf') (λ s h. subst (HasStood sources left left' lf lf') (sym h) (record {
        read = read_so.read;
        consumed = read_so.consumed;
        later = read_so.later;
        to = (
          to.0,
          record {
            faultless = merged_none true read_so.read to.1.faultless;
            log_is = ap (λ (ls : List Log). (merged ls).log) same;
            placed_so = λ f. ap (λ (ls : List Log). place_by (Origins (merged ls).origins) f) same;
          },
        );
      })) stands

  pub sources_faulty : (f : MergeFault) → g ≡ gathered.Fault f → HasStood sources left left' lf lf' (Faulty (refusal.Merge f))
  sources_faulty f is =
      let to = subst (GathersTo left' lf lf' read_so.read) is read_so.to in
      record { read = read_so.read; consumed = read_so.consumed; later = read_so.later; to = (to.0, to.1, merged_some to.0 read_so.read f to.2) }

  pub sources_failed : g ≡ gathered.Failed → HasStood sources left left' lf lf' Failed
  sources_failed is =
      let to = subst (GathersTo left' lf lf' read_so.read) is read_so.to in
      record { read = read_so.read; consumed = read_so.consumed; later = read_so.later; to = (merged_none false read_so.read to.0, to.1) }

-- ---- what stands may be checked

pub clocks_can : (left left' : Option (List ℕ)) (lf lf' : ℕ) (standing : Result Standing NoMemory) → IfOk standing (HasStood clocks left left' lf lf') → CanBeChecked standing
clocks_can left left' lf lf' (Ok (Whole log places)) stood =
    let is = stood.to.1 in record {
      batch = ap (λ (l : Log). length l.batches) is.log_is;
      fits = subst (λ (l : Log). FitFirst (log_items l)) (sym is.log_is)
          (subst (λ (o : Option Refusal). FitFirst (items_at_end true o (imported stood.read))) is.faultless (clocks_are_read.fit true stood.read));
    }
clocks_can left left' lf lf' (Ok (Faulty r)) stood = tt
clocks_can left left' lf lf' (Ok Failed) stood = tt
clocks_can left left' lf lf' (Err none) stood = tt

pub sources_can : (left left' : Option (List ℕ)) (lf lf' : ℕ) (standing : Result Standing NoMemory) → IfOk standing (HasStood sources left left' lf lf') → CanBeChecked standing
sources_can left left' lf lf' (Ok (Whole log places)) stood =
    let is = stood.to.1 in record {
      batch = ap (λ (l : Log). length l.batches) is.log_is;
      fits = subst (λ (l : Log). FitFirst (log_items l)) (sym is.log_is)
          (subst (λ (o : Option Refusal). FitFirst (items_at_end true o (merged_log_of stood.read))) is.faultless (sources_are_read.fit true stood.read));
    }
sources_can left left' lf lf' (Ok (Faulty r)) stood = tt
sources_can left left' lf lf' (Ok Failed) stood = tt
sources_can left left' lf lf' (Err none) stood = tt
