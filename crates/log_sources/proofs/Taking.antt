-- What a reader of sources takes of an input, and what it tells of all of it.
use Rattle.std.proofs.Common.{◌≡◌, ℕ, ◌+◌, ◌-◌, ◌<◌, ◌≤◌, Bool, true, false, Option, Some, None, List, [], ◌++◌, length, refl, sym, ap, ◌∙◌, subst, arith, length-append}
use Rattle.std.specs.Io.KnownBytes.{IsAtEnd}
use Rattle.std.proofs.lemmas.Option.{none-some}
use Rattle.pota_base.specs.Outside.{Rose}
use Rattle.pota_base.specs.Limits.{longest_log}
use Rattle.pota_base.specs.Changes.{change_of}
use Rattle.input_reading.specs.declared.reading.End.TheVariants as end
use Rattle.input_reading.specs.Intakes.{ReadsAll}
use Rattle.fault_kinds.specs.declared.merge.MergeFault.{MergeFault}
use Rattle.log_sources.specs.declared.reader.SourceReader.{SourceReader}
use Rattle.log_sources.specs.declared.gathering.Gathered.{Gathered}
use Rattle.log_sources.specs.declared.gathering.Gathered.TheVariants.{Logs, Fault, Failed}
use Rattle.log_sources.specs.Sources.{Sources, no_sources, turned, after, last_fault}
use Rattle.log_sources.specs.Reading.{HasReadSources}
use Rattle.log_sources.specs.Gathering.{IsFaulty, GathersTo, Gathers}
use Rattle.log_sources.specs.inside.Gathering.{IsGathered}
use Rattle.log_sources.proofs.Stepping.{turned_total, after_more}
use Rattle.log_sources.proofs.Texts.{total_after, faultless_are_few, has_ended}

-- ---- the reader as it takes bytes

abbrev Open : SourceReader → List ℕ → Type 0
Open r bytes = HasReadSources r (after no_sources bytes) × ((after no_sources bytes).fault ≡ None)

abbrev Done : SourceReader → List ℕ → Type 0
Done r bytes = HasReadSources r (after no_sources bytes) × IsFaulty (after no_sources bytes)

no_bytes : after no_sources [] ≡ no_sources
unfolding after
no_bytes = refl

pub begins : (r : SourceReader) → HasReadSources r no_sources → Open r []
begins r has = (subst (HasReadSources r) (sym no_bytes) has, ap (λ (s : Sources). s.fault) no_bytes)

counted : (r : SourceReader) (bytes : List ℕ) → Open r bytes → r.total ≡ length bytes
counted r bytes open_ =
    let s = after no_sources bytes in
    let kept = (open_.0.reads open_.1).total_is ∙ turned_total s in
    let all = total_after no_sources bytes open_.1 in
    omega (arith, kept, all)

module _ (new : SourceReader) (bytes piece : List ℕ) (has : HasReadSources new (after (after no_sources bytes) piece)) (o : Option MergeFault)
    (told : o ≡ (after (after no_sources bytes) piece).fault) where
  joined : after no_sources (bytes ++ piece) ≡ after (after no_sources bytes) piece
  joined = after_more no_sources bytes piece

  has_all : HasReadSources new (after no_sources (bytes ++ piece))
  has_all = subst (HasReadSources new) (sym joined) has

  told_all : o ≡ (after no_sources (bytes ++ piece)).fault
  told_all = told ∙ ap (λ (s : Sources). s.fault) (sym joined)

  pub may_follow : (r : SourceReader) → Open r bytes → 0 < length piece → o ≡ None → Open new (bytes ++ piece) × (longest_log - new.total < longest_log - r.total)
  may_follow r open_ some none =
      let now : Open new (bytes ++ piece) = (has_all, sym told_all ∙ none) in
      let before = counted r bytes open_ in
      let after_ = counted new (bytes ++ piece) now in
      let few = faultless_are_few (bytes ++ piece) now.1 in
      let all = length-append bytes piece in
      (now, omega (arith, some, before, after_, few, all))

  pub none_matters : (f : MergeFault) → o ≡ Some f → Done new (bytes ++ piece)
  none_matters f some = (has_all, record { first = f; is = sym told_all ∙ some })

-- ---- all bytes

last_is_first : (s : Sources) (f : MergeFault) → s.fault ≡ Some f → last_fault s ≡ Some f
unfolding last_fault
last_is_first s f some = rw some refl

ended_so : (left : Option (List ℕ)) (faults faults' : ℕ) (bytes : List ℕ) (g : Gathered) → IsAtEnd left → IsGathered bytes g → GathersTo left faults faults' bytes g
ended_so left faults faults' bytes (Logs logs) at_end is = (at_end, is)
ended_so left faults faults' bytes (Fault f) at_end is = (true, λ _. at_end, is)
ended_so left faults faults' bytes Failed at_end is = absurd is

faulty_so : (left : Option (List ℕ)) (faults faults' : ℕ) (bytes : List ℕ) (g : Gathered) → IsFaulty (after no_sources bytes) → IsGathered bytes g → GathersTo left faults faults' bytes g
faulty_so left faults faults' bytes (Logs logs) faulty is = absurd (none-some faulty.first (sym is.faultless ∙ last_is_first (after no_sources bytes) faulty.first faulty.is))
faulty_so left faults faults' bytes (Fault f) faulty is = (false, λ e. absurd cc, faulty.is ∙ sym (last_is_first (after no_sources bytes) faulty.first faulty.is) ∙ is)
faulty_so left faults faults' bytes Failed faulty is = absurd is

module _ (left left' : Option (List ℕ)) (faults faults' : ℕ) (reader : SourceReader) (g : Gathered) where
  pub gathers_ended : ReadsAll (change_of left left' faults faults') (Open reader) (Done reader) [] end.Ended
      → ((bytes : List ℕ) → HasReadSources reader (after no_sources bytes) → IsGathered bytes g) → Gathers left left' faults faults' g
  gathers_ended all gathered = record { read = all.read; consumed = all.consumed; later = all.later; to = ended_so left' faults faults' all.read g all.to.0 (gathered all.read all.to.1.0) }

  pub gathers_done : ReadsAll (change_of left left' faults faults') (Open reader) (Done reader) [] end.Done
      → ((bytes : List ℕ) → HasReadSources reader (after no_sources bytes) → IsGathered bytes g) → Gathers left left' faults faults' g
  gathers_done all gathered = record { read = all.read; consumed = all.consumed; later = all.later; to = faulty_so left' faults faults' all.read g all.to.1 (gathered all.read all.to.0) }

pub gathers_failed : (left left' : Option (List ℕ)) (faults faults' : ℕ) (reader : SourceReader) → ReadsAll (change_of left left' faults faults') (Open reader) (Done reader) [] end.Failed
    → Gathers left left' faults faults' Failed
gathers_failed left left' faults faults' reader all = record { read = all.read; consumed = all.consumed; later = all.later; to = (all.to.1.1, all.to.0) }
