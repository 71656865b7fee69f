-- A source that is whole and has no fault is the text of a log.
use Rattle.std.proofs.Common.{◌≡◌, Some, None, true, false, [], ◌∷◌, ◌++◌, refl, sym, ap, ◌∙◌, subst, inl, inr}
use Rattle.std.proofs.lemmas.Bool.{cases_Bool}
use Rattle.std.proofs.lemmas.List.{append-nil}
use Rattle.std.proofs.lemmas.Option.{none-some}
use Rattle.event_log.specs.Feeding.{Past}
use Rattle.event_log.specs.LogText.{onto, log_items}
use Rattle.event_log.specs.LogEnd.{is_whole}
use Rattle.event_log.specs.Faults.{first_fault, items, end_fault, placed}
use Rattle.event_log.specs.declared.item.LogCode.TheVariants as log_code
use Rattle.event_log.specs.declared.log.Log.{Log}
use Rattle.event_log.specs.Laws.{IsWellFormed, IsTextOf}
use Rattle.event_log.proofs.WellFormed.{fault_free_log}
use Rattle.log_merge.specs.Sources.{IsSource, in_one_batch}
use Rattle.log_merge.proofs.Fits.{logs_are_sources}
use Rattle.log_sources.specs.Drafts.{log_in}
use Rattle.log_sources.specs.Sources.{log_at}
use Rattle.log_sources.proofs.DraftLaws.{log_drafted}

onto_back : (xs past ys : Past) → onto (onto xs past) ys ≡ onto past (xs ++ ys)
onto_back [] past ys = refl
onto_back (x ∷ xs) past ys = onto_back xs (x ∷ past) ys

-- a past is that of its bytes
pub bytes_back : (past : Past) → onto (onto past []) [] ≡ past
bytes_back past = onto_back past [] [] ∙ append-nil past

pub end_whole : (past : Past) → first_fault past ≡ None → is_whole past ≡ true → end_fault past ≡ None
end_whole past none whole = rw (none, whole) refl

pub end_open : (past : Past) → first_fault past ≡ None → is_whole past ≡ false → end_fault past ≡ Some (placed past log_code.Truncated)
end_open past none open_ = rw (none, open_) refl

pub whole_end : (past : Past) → first_fault past ≡ None → end_fault past ≡ None → is_whole past ≡ true
whole_end past none ends = elim (cases_Bool (is_whole past)) [
  | inl whole ↦ whole
  | inr open_ ↦ absurd (none-some _ (sym ends ∙ end_open past none open_))
]

pub well_formed : (past : Past) → first_fault past ≡ None → is_whole past ≡ true → IsWellFormed (onto past [])
well_formed past none whole = ap end_fault (bytes_back past) ∙ end_whole past none whole

-- the log whose text it is
pub record WholeLog (past : Past) : Type 0 where
  pub log : Log
  pub text : IsTextOf (onto past []) log
  pub given : log_at past ≡ in_one_batch log

pub whole_log : (past : Past) → first_fault past ≡ None → is_whole past ≡ true → WholeLog past
whole_log past none whole =
    let t = fault_free_log (onto past []) (well_formed past none whole) in
    let items_are : items past ≡ log_items t.0 = ap items (sym (bytes_back past)) ∙ t.1.items_are in
    record { log = t.0; text = t.1; given = ap log_in items_are ∙ log_drafted t.0 }

pub whole_source : (past : Past) → first_fault past ≡ None → is_whole past ≡ true → IsSource (log_at past)
whole_source past none whole =
    let w = whole_log past none whole in
    subst IsSource (sym w.given) (logs_are_sources w.log w.text.log_is.fits w.text.lines_are).1
