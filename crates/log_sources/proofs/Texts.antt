-- Sources without a fault are texts of logs that can be merged.
use Rattle.std.proofs.Common.{◌≡◌, ℕ, ◌+◌, ◌<◌, ◌≤◌, true, Option, Some, None, List, map, [], ◌∷◌, ◌++◌, length, refl, sym, ap, ◌∙◌, subst, arith, inl, inr, append_assoc}
use Rattle.std.specs.Prelude.{flat_map}
use Rattle.std.specs.List.{AllByRecursion}
use Rattle.std.proofs.lemmas.Bool.{cases_Bool, le-leb, lt-leb, cases_lt}
use Rattle.std.proofs.lemmas.Grind.{flat_map-append}
use Rattle.std.proofs.lemmas.List.{append-nil, map_push, length-map, length-append}
use Rattle.std.proofs.lemmas.Option.{none-some}
use Rattle.pota_base.specs.Limits.{longest_log, most_sources}
use Rattle.event_log.specs.declared.item.LogFault.{LogFault}
use Rattle.event_log.specs.Feeding.{Past}
use Rattle.event_log.specs.LogText.{onto}
use Rattle.event_log.specs.LogEnd.{is_whole}
use Rattle.event_log.specs.Faults.{first_fault, end_fault}
use Rattle.event_log.specs.declared.log.Log.{Log}
use Rattle.event_log.specs.Laws.{IsTextOf}
use Rattle.fault_kinds.specs.declared.merge.MergeFault.{MergeFault}
use Rattle.log_merge.specs.Sources.{IsSource, in_one_batch}
use Rattle.log_merge.proofs.Fits.{logs_are_sources}
use Rattle.log_merge.proofs.OneBatch.{batches_do_not_matter}
use Rattle.log_merge.specs.Faults.{merge_fault, source_fault, fault_from, placed}
use Rattle.log_merge.proofs.Judged.{map_nothing, none_more}
use Rattle.log_sources.specs.Sources.{Sources, no_sources, of_source, log_at, turned, input_fault, join_fault, fault_behind, judged, step, after, last_fault}
use Rattle.log_sources.specs.Reading.{CanMerge}
use Rattle.log_sources.specs.Laws.{FaultlessAreFew, AreTextsOf, FaultlessAreTexts}
use Rattle.log_sources.proofs.Stepping.{empty_open, turned_whole, turned_same, turned_total, step_free, taken_fault, taken_byte, after_none, after_next, stays, behind_own, behind_whole}
use Rattle.log_sources.proofs.WholeSources.{whole_log, whole_end}

-- ---- a byte without a fault

pub record IsFineByte (s : Sources) (b : ℕ) : Type 0 where
  pub before : s.fault ≡ None
  pub input : input_fault (turned s) ≡ None
  pub next_is : step s b ≡ judged (turned s).before (b ∷ (turned s).now) ((turned s).total + 1)
  pub after_is : (step s b).fault ≡ None

-- what comes later has no fault: this byte has none
fine_byte : (s : Sources) (b : ℕ) (bytes : List ℕ) → (after s (b ∷ bytes)).fault ≡ None → IsFineByte s b
fine_byte s b bytes none = by_fault s.fault refl
  where
    later : (after (step s b) bytes).fault ≡ None
    later = ap (λ (t : Sources). t.fault) (sym (after_next s b bytes)) ∙ none

    no_fault : (t : Sources) (o : Option MergeFault) → t.fault ≡ o → (after t bytes).fault ≡ None → t.fault ≡ None
    no_fault t None e free = e
    no_fault t (Some f) e free = absurd (none-some f (sym free ∙ ap (λ (x : Sources). x.fault) (stays t f bytes e) ∙ e))

    by_input : s.fault ≡ None → (o : Option MergeFault) → input_fault (turned s) ≡ o → IsFineByte s b
    by_input free None e = record { before = free; input = e; next_is = step_free s b free ∙ taken_byte (turned s) b e; after_is = no_fault (step s b) (step s b).fault refl later }
    by_input free (Some f) e = absurd (none-some f (sym (no_fault (step s b) (step s b).fault refl later) ∙ ap (λ (x : Sources). x.fault) (step_free s b free ∙ taken_fault (turned s) b f e)))

    by_fault : (o : Option MergeFault) → s.fault ≡ o → IsFineByte s b
    by_fault None e = by_input e (input_fault (turned s)) refl
    by_fault (Some f) e = absurd (none-some f (sym none ∙ ap (λ (x : Sources). x.fault) (stays s f (b ∷ bytes) e) ∙ e))

-- ---- few bytes

pub record HasRoom (s : Sources) : Type 0 where
  pub sources : length s.before < most_sources
  pub bytes : s.total < longest_log

input_room : (s : Sources) → input_fault s ≡ None → HasRoom s
unfolding input_fault
input_room s none = elim (cases_lt (length s.before) most_sources) [
  | inr full ↦ absurd (none-some _ (sym (rw (le-leb most_sources (length s.before) full) at none)))
  | inl few ↦ elim (cases_lt s.total longest_log) [
    | inl small ↦ record { sources = few; bytes = small }
    | inr full ↦ absurd (none-some _ (sym (rw (lt-leb most_sources (length s.before) few, le-leb longest_log s.total full) at none)))
  ]
]

faultless_few : (s : Sources) (bytes : List ℕ) → s.total ≤ longest_log → (after s bytes).fault ≡ None → s.total + length bytes ≤ longest_log
faultless_few s [] small none = omega arith
faultless_few s (b ∷ bytes) small none =
    let fine = fine_byte s b bytes none in
    let room = input_room (turned s) fine.input in
    let total : (step s b).total ≡ s.total + 1 = ap (λ (t : Sources). t.total) fine.next_is ∙ ap (λ (n : ℕ). n + 1) (turned_total s) in
    let more = faultless_few (step s b) bytes (omega (arith, total, room.bytes, turned_total s)) (ap (λ (t : Sources). t.fault) (sym (after_next s b bytes)) ∙ none) in
    omega (arith, more, total)

-- all of them are counted
pub total_after : (s : Sources) (bytes : List ℕ) → (after s bytes).fault ≡ None → (after s bytes).total ≡ s.total + length bytes
total_after s [] none = let same = ap (λ (t : Sources). t.total) (after_none s) in omega (arith, same)
total_after s (b ∷ bytes) none =
    let fine = fine_byte s b bytes none in
    let total : (step s b).total ≡ s.total + 1 = ap (λ (t : Sources). t.total) fine.next_is ∙ ap (λ (n : ℕ). n + 1) (turned_total s) in
    let next = after_next s b bytes in
    let more = total_after (step s b) bytes (ap (λ (t : Sources). t.fault) (sym next) ∙ none) in
    let same = ap (λ (t : Sources). t.total) next in
    omega (arith, same, more, total)

pub faultless_are_few : FaultlessAreFew
faultless_are_few bytes none = let few : 0 + length bytes ≤ longest_log = faultless_few no_sources bytes (omega arith) none in omega arith

-- ---- texts

abbrev pub joined_text : List (List ℕ) → List ℕ
joined_text texts = flat_map (λ (text : List ℕ). text) texts

-- the bytes are texts of logs that can be merged, and those of the source that is read
pub record HasTexts (s : Sources) (bytes : List ℕ) : Type 0 where
  pub texts : List (List ℕ)
  pub logs : List Log
  pub texts_are : AreTextsOf texts logs
  pub given : map log_at s.before ≡ map in_one_batch logs
  pub text_is : bytes ≡ joined_text texts ++ onto s.now []
  pub faultless : merge_fault (map log_at s.before) ≡ None
  pub own : first_fault s.now ≡ None
  pub joins : is_whole s.now ≡ true → join_fault s.before s.now ≡ None

joined_text-push : (texts : List (List ℕ)) (text : List ℕ) → joined_text (texts ++ text ∷ []) ≡ joined_text texts ++ text
joined_text-push texts text = flat_map-append (λ (t : List ℕ). t) texts (text ∷ []) ∙ ap (λ (xs : List ℕ). joined_text texts ++ xs) (append-nil text)

no_join : (before : List Past) (now : Past) → join_fault before now ≡ None → source_fault (map log_at before) (log_at now) ≡ None
unfolding join_fault
no_join before now none = map_nothing (placed (length before + 1)) (source_fault (map log_at before) (log_at now)) none

one_text_more : (texts : List (List ℕ)) (logs : List Log) (text : List ℕ) (log : Log) → AreTextsOf texts logs → IsTextOf text log → AreTextsOf (texts ++ text ∷ []) (logs ++ log ∷ [])
one_text_more [] [] text log are is = (is, tt)
one_text_more [] (l ∷ logs) text log are is = absurd are
one_text_more (t ∷ texts) [] text log are is = absurd are
one_text_more (t ∷ texts) (l ∷ logs) text log are is = (are.0, one_text_more texts logs text log are.1 is)

logs_source : (texts : List (List ℕ)) (logs : List Log) → AreTextsOf texts logs → AllByRecursion IsSource logs
logs_source [] [] are = tt
logs_source [] (l ∷ logs) are = absurd are
logs_source (t ∷ texts) [] are = absurd are
logs_source (t ∷ texts) (l ∷ logs) are = ((logs_are_sources l are.0.log_is.fits are.0.lines_are).0, logs_source texts logs are.1)

-- the source is whole, and the next one begins
next_source : (s : Sources) (bytes : List ℕ) → HasTexts s bytes → is_whole s.now ≡ true → HasTexts (record s { before = s.before ++ s.now ∷ []; now = [] }) bytes
unfolding first_fault
next_source s bytes has whole =
    let pushed : map log_at (s.before ++ s.now ∷ []) ≡ map log_at s.before ++ log_at s.now ∷ [] = map_push log_at s.before s.now in
    let w = whole_log s.now has.own whole in
    record {
      texts = has.texts ++ onto s.now [] ∷ [];
      logs = has.logs ++ w.log ∷ [];
      texts_are = one_text_more has.texts has.logs (onto s.now []) w.log has.texts_are w.text;
      given = pushed ∙ ap (λ (ls : List Log). ls ++ log_at s.now ∷ []) has.given ∙ ap (λ (l : Log). map in_one_batch has.logs ++ l ∷ []) w.given ∙ sym (map_push in_one_batch has.logs w.log);
      text_is = has.text_is ∙ sym (joined_text-push has.texts (onto s.now [])) ∙ sym (append-nil (joined_text (has.texts ++ onto s.now [] ∷ [])));
      faultless = ap merge_fault pushed ∙ none_more (map log_at s.before) (log_at s.now) has.faultless (no_join s.before s.now (has.joins whole));
      own = refl;
      joins = λ w. absurd (cc (w, empty_open));
    }

turned_texts : (s : Sources) (bytes : List ℕ) → HasTexts s bytes → HasTexts (turned s) bytes
turned_texts s bytes has = elim (cases_Bool (is_whole s.now)) [
  | inl whole ↦ subst (λ (t : Sources). HasTexts t bytes) (sym (turned_whole s whole)) (next_source s bytes has whole)
  | inr open_ ↦ subst (λ (t : Sources). HasTexts t bytes) (sym (turned_same s open_)) has
]

own_none : (before : List Past) (now : Past) → fault_behind before now ≡ None → first_fault now ≡ None
own_none before now none = go (first_fault now) refl
  where
    go : (o : Option LogFault) → first_fault now ≡ o → first_fault now ≡ None
    go None e = e
    go (Some f) e = absurd (none-some (of_source before f) (sym none ∙ behind_own before now f e))

byte_texts : (t : Sources) (b : ℕ) (bytes : List ℕ) → HasTexts t bytes → fault_behind t.before (b ∷ t.now) ≡ None → HasTexts (judged t.before (b ∷ t.now) (t.total + 1)) (bytes ++ b ∷ [])
byte_texts t b bytes has none =
    let own = own_none t.before (b ∷ t.now) none in
    record {
      texts = has.texts;
      logs = has.logs;
      texts_are = has.texts_are;
      given = has.given;
      text_is = ap (λ (xs : List ℕ). xs ++ b ∷ []) has.text_is ∙ append_assoc (joined_text has.texts) (onto t.now []) (b ∷ []) ∙ ap (λ (xs : List ℕ). joined_text has.texts ++ xs) (sym (onto_end t.now b));
      faultless = has.faultless;
      own = own;
      joins = λ whole. sym (behind_whole t.before (b ∷ t.now) own whole) ∙ none;
    }
  where
    onto_more : (xs ys zs : List ℕ) → onto xs (ys ++ zs) ≡ onto xs ys ++ zs
    onto_more [] ys zs = refl
    onto_more (x ∷ xs) ys zs = onto_more xs (x ∷ ys) zs

    onto_end : (past : List ℕ) (c : ℕ) → onto (c ∷ past) [] ≡ onto past [] ++ c ∷ []
    onto_end past c = onto_more past [] (c ∷ [])

pub record AreSources (s : Sources) (bytes : List ℕ) : Type 0 where
  pub has : HasTexts s bytes
  pub few : length s.before < most_sources

sources_after : (s : Sources) (seen bytes : List ℕ) → AreSources s seen → (after s bytes).fault ≡ None → AreSources (after s bytes) (seen ++ bytes)
sources_after s seen [] are none = subst (λ (t : Sources). AreSources t (seen ++ [])) (sym (after_none s)) (subst (AreSources s) (sym (append-nil seen)) are)
sources_after s seen (b ∷ bytes) are none =
    let fine = fine_byte s b bytes none in
    let free : fault_behind (turned s).before (b ∷ (turned s).now) ≡ None = ap (λ (x : Sources). x.fault) (sym fine.next_is) ∙ fine.after_is in
    let next : AreSources (judged (turned s).before (b ∷ (turned s).now) ((turned s).total + 1)) (seen ++ b ∷ []) = record { has = byte_texts (turned s) b seen (turned_texts s seen are.has) free; few = (input_room (turned s) fine.input).sources } in
    let more = sources_after (step s b) (seen ++ b ∷ []) bytes (subst (λ (x : Sources). AreSources x (seen ++ b ∷ [])) (sym fine.next_is) next) (ap (λ (x : Sources). x.fault) (sym (after_next s b bytes)) ∙ none) in
    subst (λ (x : Sources). AreSources x (seen ++ b ∷ bytes)) (sym (after_next s b bytes)) (subst (AreSources (after (step s b) bytes)) (append_assoc seen (b ∷ []) bytes) more)

none_yet : AreSources no_sources []
unfolding first_fault fault_from
none_yet = record {
  has = record { texts = []; logs = []; texts_are = tt; given = refl; text_is = refl; faultless = refl; own = refl; joins = λ w. absurd (cc (w, empty_open)) };
  few = omega arith;
}

-- ---- the end of input

pub record HasEnded (s : Sources) : Type 0 where
  pub faultless : s.fault ≡ None
  pub ended : end_fault s.now ≡ None

pub has_ended : (s : Sources) → last_fault s ≡ None → HasEnded s
unfolding last_fault
has_ended s none = go s.fault refl
  where
    go : (o : Option MergeFault) → s.fault ≡ o → HasEnded s
    go None e = record { faultless = e; ended = map_nothing (of_source s.before) (end_fault s.now) (rw e at none) }
    go (Some f) e = absurd (none-some f (sym (rw e at none)))

pub faultless_are_texts : FaultlessAreTexts
faultless_are_texts bytes none =
    let ended = has_ended (after no_sources bytes) none in
    let are = sources_after no_sources [] bytes none_yet ended.faultless in
    let whole = whole_end (after no_sources bytes).now are.has.own ended.ended in
    let all = next_source (after no_sources bytes) bytes are.has whole in
    let count : length all.logs ≡ length (after no_sources bytes).before + 1 = sym (length-map all.logs in_one_batch) ∙ ap length (sym all.given) ∙ length-map ((after no_sources bytes).before ++ (after no_sources bytes).now ∷ []) log_at ∙ length-append (after no_sources bytes).before ((after no_sources bytes).now ∷ []) in
    let free : merge_fault all.logs ≡ None = sym (batches_do_not_matter all.logs).0 ∙ ap merge_fault (sym all.given) ∙ all.faultless in
    let can : CanMerge all.logs = record { some = omega (arith, count); few = omega (arith, count, are.few); each = logs_source all.texts all.logs all.texts_are; faultless = free } in
    (all.texts, all.logs, record { text_is = all.text_is ∙ append-nil (joined_text all.texts); texts_are = all.texts_are; can_merge = can; given = all.given })
