-- What torn logs are once they were read.
use Rattle.std.specs.Prelude.{◌≡◌, ℕ, ◌<◌, List, [], ◌∷◌, ◌++◌, length, Option, None, Some}
use Rattle.std.specs.Option.{option_map}
use Rattle.std.specs.Io.KnownBytes.{Consumes, IsAtEnd}
use Rattle.pota_base.specs.Limits.{longest_log}
use Rattle.pota_base.specs.Outside.{Rose}
use Rattle.run_model.specs.Cut.{Cut}
use Rattle.event_log.specs.declared.item.Item.{Item}
use Rattle.event_log.specs.declared.item.Item.TheVariants as item
use Rattle.event_log.specs.declared.item.LogFault.{LogFault}
use Rattle.event_log.specs.declared.log.Header.{Header}
use Rattle.event_log.specs.declared.log.Log.{Log}
use Rattle.event_log.specs.LogText.{log_items}
use Rattle.fault_kinds.specs.declared.refusal.Refusal.{Refusal}
use Rattle.fault_kinds.specs.declared.refusal.Refusal.TheVariants as refusal
use Rattle.pota_base.specs.Changes.{Change}
use Rattle.log_merge.specs.Merging.{merged}
use Rattle.log_rules.specs.Due.{whole_of, fault_in}
use Rattle.log_rules.specs.Judgement.{Judgement, judged, waiting}
use Rattle.log_rules.specs.WholeLogs.{all_of}
use Rattle.log_trace.specs.Judging.{without_formula}
use Rattle.kept_log.specs.Keeping.{CanBeKept}
use Rattle.torn_log.specs.Items.{events_in, items_upto, left_out}
use Rattle.torn_log.specs.Torn.{IsKept}
use Rattle.torn_text.specs.Mending.{mended}
use Rattle.log_input.specs.declared.form.Form.{Form}
use Rattle.log_input.specs.declared.places.Places.{Places}
use Rattle.log_input.specs.declared.places.Places.TheVariants.{Origins}
use Rattle.one_log.specs.declared.torn.Beginning.{Beginning}
use Rattle.one_log.specs.declared.torn.TornInput.{TornInput}
use Rattle.one_log.specs.declared.torn.TornInput.TheVariants.{Whole, Faulty, Failed, TooLong}
use Rattle.one_log.specs.Logging.{HasTornLog, HasTornFault, events_of}
use Rattle.log_input.specs.Places.{place_by}

abbrev pub text_refusal : Option LogFault → Option Refusal
text_refusal fault = option_map (λ f. refusal.Log f) fault

-- where there is no fault of the bytes, the items are those of a whole log
abbrev pub AreWhole : List Item → Type 0
AreWhole items = (h : Header) × (between : List Item)
    × (items ≡ item.Header h ∷ (between ++ item.End ∷ []))

abbrev pub EndsWhole : List Item → Option Refusal → Type 0
EndsWhole items fault = fault ≡ None → AreWhole items

-- ---- items

-- how the items are judged up to the cut
abbrev pub judged_upto : Cut → List Item → Judgement
judged_upto cut items = judged without_formula waiting (items_upto cut items)

-- up to the greatest cut that is logged whole the items have no fault, and this is their log
pub record IsBeginning (items : List Item) (b : Beginning) : Type 0 where
  pub cut : Cut
  pub greatest : IsKept (events_in items) cut
  pub whole : whole_of (judged_upto cut items) ≡ Some (all_of b.log)
  pub can : CanBeKept b.log
  pub left_out_are : b.left_out ≡ left_out (events_in items) cut

-- up to there this fault is due of them, and of the bytes
pub record HasFault (items : List Item) (fault : Option Refusal) (places : Places) (why : Refusal)
    : Type 0 where
  pub cut : Cut
  pub greatest : IsKept (events_in items) cut
  pub is : fault_in (place_by places) (judged_upto cut items) fault ≡ Some why

abbrev pub IsTornJudged : List Item → Option Refusal → Places → TornInput → Type 0
IsTornJudged items fault places (Whole b) = (fault ≡ None) × IsBeginning items b
IsTornJudged items fault places (Faulty why) = HasFault items fault places why
IsTornJudged items fault places Failed = ⊥
IsTornJudged items fault places TooLong = ⊥

-- the log that these are was judged so
abbrev pub IsMergedTornOf : List Log → TornInput → Type 0
IsMergedTornOf logs input =
    IsTornJudged (log_items (merged logs).log) None (Origins (merged logs).origins) input

-- ---- bytes

-- the log of the mended texts, and how many events of each process it leaves out
pub record IsTornLog (form : Form) (text : List ℕ) (b : Beginning) : Type 0 where
  pub has : HasTornLog form text (all_of b.log)
  pub can : CanBeKept b.log
  pub left_out_are : b.left_out ≡ left_out (events_of form text) has.cut

-- what mended texts are
abbrev pub IsTornAt : Form → List ℕ → TornInput → Type 0
IsTornAt form text (Whole b) = IsTornLog form text b
IsTornAt form text (Faulty why) = HasTornFault form text why
IsTornAt form text Failed = ⊥
IsTornAt form text TooLong = ⊥

-- what is told of the bytes that a source had
abbrev pub StandsTornTo : Form → Change → List ℕ → TornInput → Type 0
StandsTornTo form s bytes (Whole b) = IsAtEnd s.after
    × (s.faults_after ≡ s.faults_before) × IsTornLog form (mended bytes) b
StandsTornTo form s bytes (Faulty why) = IsAtEnd s.after × HasTornFault form (mended bytes) why
StandsTornTo form s bytes Failed = Rose s.faults_before s.faults_after
StandsTornTo form s bytes TooLong =
    (s.faults_after ≡ s.faults_before) × (longest_log < length bytes)

-- some bytes were read, and this is told of them
pub record HasStoodTorn (form : Form) (s : Change) (input : TornInput) : Type 0 where
  pub read : List ℕ
  pub consumed : Consumes s.before s.after read
  pub to : StandsTornTo form s read input
