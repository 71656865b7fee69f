-- How the reader follows the sources.
use Rattle.std.proofs.Common.{◌≡◌, ℕ, ◌+◌, ◌-◌, ◌<◌, ◌≤◌, true, false, Option, Some, None, List, map, take, drop, [], ◌∷◌, ◌++◌, length, refl, sym, ap, ◌∙◌, subst, arith, inl, inr, append_assoc}
use Rattle.std.specs.Prelude.{min}
use Rattle.std.specs.List.{AllByRecursion}
use Rattle.std.specs.Option.{option_map}
use Rattle.std.proofs.Math.Seq.{drop-append_seam}
use Rattle.std.proofs.lemmas.Bool.{cases_Bool, le-leb, lt-leb}
use Rattle.std.proofs.lemmas.List.{map_push, length-map, length-append, take-append-drop, length-take-le}
use Rattle.std.proofs.lemmas.Option.{none-some}
use Rattle.pota_base.specs.Limits.{longest_log, most_sources}
use Rattle.event_log.specs.declared.item.Fed.{Fed}
use Rattle.event_log.specs.declared.item.LogFault.{LogFault}
use Rattle.event_log.specs.declared.log.Log.{Log}
use Rattle.event_log.specs.declared.reader.Reader.{Reader}
use Rattle.event_log.specs.Feeding.{Past}
use Rattle.event_log.specs.Moments.{lines}
use Rattle.event_log.specs.LogEnd.{is_whole, log_upto, behind_log}
use Rattle.event_log.specs.Faults.{first_fault, items, end_fault}
use Rattle.event_log.specs.Reader.{HasRead, ReadsLog}
use Rattle.event_log.proofs.Lists.{all_push}
use Rattle.event_log.proofs.LogEnds.{upto_byte, parted}
use Rattle.fault_kinds.specs.declared.merge.MergeCode.TheVariants as code
use Rattle.fault_kinds.specs.declared.merge.MergeFault.{MergeFault}
use Rattle.log_merge.specs.Sources.{IsSource}
use Rattle.log_merge.specs.Faults.{source_fault, placed}
use Rattle.log_merge.specs.Owners.{HasJoined}
use Rattle.log_sources.specs.declared.draft.Draft.{Draft}
use Rattle.log_sources.specs.declared.reader.SourceReader.{SourceReader}
use Rattle.log_sources.specs.Drafts.{empty_draft, with_items, log_of}
use Rattle.log_sources.specs.Sources.{Sources, no_sources, of_source, turned, input_fault, log_at, join_fault, fault_behind, judged, step, after, last_fault}
use Rattle.log_sources.specs.Reading.{ReadsOn, HasReadSources, CanMerge}
use Rattle.log_sources.specs.inside.Reading.{GoesOn, TakesBytes}
use Rattle.log_sources.proofs.DraftLaws.{items_more}
use Rattle.log_sources.proofs.OneSource.{reads_source, behind_le}
use Rattle.log_sources.proofs.Stepping.{empty_open, turned_whole, turned_same, turned_open, turned_fault, step_free, taken_fault, after_none, after_next, stays, after_more, after_turned, behind_open, behind_whole, no_input_fault, IsOpen}
use Rattle.log_sources.proofs.Texts.{has_ended}
use Rattle.log_sources.proofs.WholeSources.{end_whole, whole_end, whole_source}

-- ---- nothing read

no_items : items [] ≡ []
unfolding items
no_items = refl

no_draft : with_items empty_draft (items []) ≡ empty_draft
unfolding with_items
no_draft = ap (with_items empty_draft) no_items

no_fault : first_fault [] ≡ None
unfolding first_fault
no_fault = refl

pub nothing_read : (r : SourceReader) → r.fault ≡ None → r.between ≡ false → r.total ≡ 0 → r.sources ≡ [] → HasJoined r.joined [] → HasRead r.reader [] → r.draft ≡ empty_draft → HasReadSources r no_sources
nothing_read r fault between total sources joined log draft = record {
  fault_is = fault;
  faultless = λ _. no_fault;
  between_is = λ _. between ∙ sym empty_open;
  reads = λ _. subst (ReadsOn r) (sym (turned_same no_sources empty_open)) (record {
    faultless = no_fault;
    total_is = total;
    sources_are = sources;
    each = subst (AllByRecursion IsSource) (sym sources) tt;
    joined = subst (HasJoined r.joined) (sym sources) joined;
    log = log;
    draft_is = draft ∙ sym no_draft;
  });
}

-- ---- a fault

pub count_before : (r : SourceReader) (s : Sources) → ReadsOn r s → length r.sources ≡ length s.before
count_before r s reads = ap length reads.sources_are ∙ length-map s.before log_at

-- the reader keeps a fault behind which nothing comes
pub keeps_fault : (new : SourceReader) (now : Sources) (f : MergeFault) → now.fault ≡ Some f → new.fault ≡ Some f → HasReadSources new now
keeps_fault new now f some is = record {
  fault_is = is ∙ sym some;
  faultless = λ none. absurd (none-some f (sym none ∙ some));
  between_is = λ none. absurd (none-some f (sym none ∙ some));
  reads = λ none. absurd (none-some f (sym none ∙ some));
}

-- where the bytes lead to a fault nothing is left
pub leads_to_fault : (new : SourceReader) (s : Sources) (bytes : List ℕ) (f : MergeFault) → (after s bytes).fault ≡ Some f → new.fault ≡ Some f → GoesOn new s bytes []
leads_to_fault new s bytes f some is = record { now = after s bytes; reads = keeps_fault new (after s bytes) f some is; same = sym (after_none (after s bytes)) }

-- the next byte itself is a fault
pub input_is_fault : (r new : SourceReader) (bytes : List ℕ) (f : MergeFault) (o : Option MergeFault) → 0 < length bytes → r.fault ≡ None → ((s : Sources) → ReadsOn r s → is_whole s.now ≡ false → o ≡ input_fault s) → o ≡ Some f → new.fault ≡ Some f → TakesBytes r bytes [] new
input_is_fault r new [] f o some free judges found is s has = absurd (omega arith)
input_is_fault r new (b ∷ bytes) f o some free judges found is s has =
    let none : s.fault ≡ None = sym has.fault_is ∙ free in
    let input : input_fault (turned s) ≡ Some f = sym (judges (turned s) (has.reads none) (turned_open s)) ∙ found in
    let next : step s b ≡ record (turned s) { fault = Some f } = step_free s b none ∙ taken_fault (turned s) b f input in
    let fault : (step s b).fault ≡ Some f = ap (λ (t : Sources). t.fault) next in
    let all : after s (b ∷ bytes) ≡ step s b = after_next s b bytes ∙ stays (step s b) f bytes fault in
    leads_to_fault new s (b ∷ bytes) f (ap (λ (t : Sources). t.fault) all ∙ fault) is

-- ---- the bytes of one source

pub open_source : (r : SourceReader) (s : Sources) → HasReadSources r s → r.fault ≡ None → length r.sources < most_sources → IsOpen (turned s)
open_source r s has free few =
    let none : s.fault ≡ None = sym has.fault_is ∙ free in
    let reads = has.reads none in
    record { faultless = turned_fault s ∙ none; own = reads.faultless; open_ = turned_open s; few = omega (arith, few, count_before r (turned s) reads) }

-- what the log's reader gave of the first bytes
abbrev pub Feeds : SourceReader → Reader → List ℕ → Fed → List ℕ → Type 0
Feeds r reader piece fed rest = (past : Past) → HasRead r.reader past → ReadsLog reader piece fed rest past

module _ (r : SourceReader) (bytes piece : List ℕ) (k : ℕ) (piece_is : piece ≡ take k bytes) (some : 0 < length bytes) (free : r.fault ≡ None) (few : length r.sources < most_sources) (small : r.total + length piece ≤ longest_log) where
  front_first : (s : Sources) → HasReadSources r s → after s bytes ≡ after (after (turned s) piece) (drop k bytes)
  front_first s has =
      let none : s.fault ≡ None = sym has.fault_is ∙ free in
      let whole : bytes ≡ piece ++ drop k bytes = sym (take-append-drop k bytes) ∙ ap (λ (xs : List ℕ). xs ++ drop k bytes) (sym piece_is) in
      after_turned s bytes none some ∙ ap (after (turned s)) whole ∙ after_more (turned s) piece (drop k bytes)

  room : (s : Sources) → HasReadSources r s → (turned s).total + length piece ≤ longest_log
  room s has = omega (arith, small, (has.reads (sym has.fault_is ∙ free)).total_is)

  -- it has a fault of its own
  pub own_is_fault : (new : SourceReader) (reader : Reader) (fed : Fed) (rest : List ℕ) (x : LogFault) → Feeds r reader piece fed rest → fed.fault ≡ Some x
      → new.fault ≡ Some (record { code = code.Log x.code; source = length r.sources + 1; line = x.line }) → TakesBytes r bytes [] new
  own_is_fault new reader fed rest x feeds found is s has =
      let none : s.fault ≡ None = sym has.fault_is ∙ free in
      let reads = has.reads none in
      let read = reads_source (turned s) piece (open_source r s has free few) (room s has) in
      let fed_all = feeds (turned s).now reads.log in
      let fault : (after (turned s) piece).fault ≡ Some (of_source (turned s).before x) = read.faulty x (sym fed_all.fed_is.fault_is ∙ found) in
      let all : after s bytes ≡ after (turned s) piece = front_first s has ∙ stays (after (turned s) piece) (of_source (turned s).before x) (drop k bytes) fault in
      let told : new.fault ≡ Some (of_source (turned s).before x) = is ∙ ap (λ (n : ℕ). Some (record { code = code.Log x.code; source = n + 1; line = x.line })) (count_before r (turned s) reads) in
      leads_to_fault new s bytes (of_source (turned s).before x) (ap (λ (t : Sources). t.fault) all ∙ fault) told

  -- the source so far, with these bytes
  abbrev so_far : Sources → ℕ → Sources
  so_far s n = judged (turned s).before (log_upto (turned s).now piece) ((turned s).total + n)

  -- it has none
  pub reads_more : (new : SourceReader) (reader : Reader) (fed : Fed) (rest left : List ℕ) (n : ℕ) → Feeds r reader piece fed rest → fed.fault ≡ None → n + length rest ≡ length piece → left ≡ drop n bytes
      → ((s : Sources) → HasReadSources r s → HasReadSources new (so_far s n)) → TakesBytes r bytes left new
  reads_more new reader fed rest left n feeds none_found count left_is closes s has =
      let none : s.fault ≡ None = sym has.fault_is ∙ free in
      let reads = has.reads none in
      let read = reads_source (turned s) piece (open_source r s has free few) (room s has) in
      let fed_all = feeds (turned s).now reads.log in
      let own : first_fault (log_upto (turned s).now piece) ≡ None = sym fed_all.fed_is.fault_is ∙ none_found in
      let rest_is : rest ≡ behind_log (turned s).now piece = fed_all.rest_is none_found in
      let counted : n + length (behind_log (turned s).now piece) ≡ length piece = omega (arith, count, ap length rest_is) in
      let one : after (turned s) piece ≡ after (so_far s n) (behind_log (turned s).now piece) = read.fine n own counted in
      let left_all : left ≡ behind_log (turned s).now piece ++ drop k bytes = left_is ∙ left_bytes s n counted in
      record {
        now = so_far s n;
        reads = closes s has;
        same = front_first s has ∙ ap (λ (t : Sources). after t (drop k bytes)) one ∙ sym (after_more (so_far s n) (behind_log (turned s).now piece) (drop k bytes)) ∙ ap (after (so_far s n)) (sym left_all);
      }
    where
      left_bytes : (s : Sources) (n : ℕ) → n + length (behind_log (turned s).now piece) ≡ length piece → drop n bytes ≡ behind_log (turned s).now piece ++ drop k bytes
      left_bytes s n counted =
          let p = parted piece (turned s).now in
          let front : n ≡ length p.front = omega (arith, counted, ap length p.bytes_are, length-append p.front (behind_log (turned s).now piece)) in
          let all : bytes ≡ p.front ++ (behind_log (turned s).now piece ++ drop k bytes) = sym (take-append-drop k bytes) ∙ ap (λ (xs : List ℕ). xs ++ drop k bytes) (sym piece_is ∙ p.bytes_are) ∙ append_assoc p.front (behind_log (turned s).now piece) (drop k bytes) in
          ap (drop n) all ∙ ap (λ (m : ℕ). drop m (p.front ++ (behind_log (turned s).now piece ++ drop k bytes))) front ∙ drop-append_seam p.front (behind_log (turned s).now piece ++ drop k bytes)

-- fewer bytes are left
pub behind_less : (past bytes : List ℕ) → is_whole past ≡ false → 0 < length bytes → length (behind_log past bytes) < length bytes
behind_less past [] open_ some = absurd (omega arith)
behind_less past (b ∷ bytes) open_ some = omega (arith, ap length (upto_byte past b bytes open_).behind_is, behind_le (b ∷ past) bytes)

-- how many bytes are read at once
pub record IsCount (r : SourceReader) (bytes : List ℕ) (k : ℕ) : Type 0 where
  pub within : k ≤ length bytes
  pub some : 0 < k
  pub small : r.total + k ≤ longest_log
  pub taken : length (take k bytes) ≡ k

pub is_count : (r : SourceReader) (bytes : List ℕ) (k total : ℕ) → k ≡ min (length bytes) (longest_log - total) → total ≡ r.total → r.total < longest_log → 0 < length bytes → IsCount r bytes k
is_count r bytes k total k_is total_is room some =
    let within : k ≤ length bytes = omega arith in
    record { within = within; some = omega arith; small = omega arith; taken = length-take-le k bytes within }

-- what is left behind the source is less than what was there
pub rest_less : (r : SourceReader) (reader : Reader) (piece : List ℕ) (fed : Fed) (rest : List ℕ) (s : Sources) → HasReadSources r s → r.fault ≡ None → Feeds r reader piece fed rest → fed.fault ≡ None → 0 < length piece → length rest < length piece
rest_less r reader piece fed rest s has free feeds none_found some =
    let reads = has.reads (sym has.fault_is ∙ free) in
    let fed_all = feeds (turned s).now reads.log in
    omega (arith, ap length (fed_all.rest_is none_found), behind_less (turned s).now piece (turned_open s) some)

-- ---- the reader so far

-- the log's reader went on
pub reads_so_far : (r new : SourceReader) (reader : Reader) (piece : List ℕ) (fed : Fed) (rest : List ℕ) (n : ℕ) (s : Sources) → Feeds r reader piece fed rest → fed.fault ≡ None → new.reader ≡ reader → new.total ≡ r.total + n → new.sources ≡ r.sources → new.joined ≡ r.joined → new.draft ≡ with_items r.draft fed.items
    → ReadsOn r s → ReadsOn new (record { before = s.before; now = log_upto s.now piece; total = s.total + n; fault = s.fault })
reads_so_far r new reader piece fed rest n s feeds none_found reader_is total sources joined draft reads =
    let fed_all = feeds s.now reads.log in
    record {
      faultless = sym fed_all.fed_is.fault_is ∙ none_found;
      total_is = omega (arith, total, reads.total_is);
      sources_are = sources ∙ reads.sources_are;
      each = subst (AllByRecursion IsSource) (sym sources) reads.each;
      joined = rw (joined, sources) reads.joined;
      log = subst (λ (x : Reader). HasRead x (log_upto s.now piece)) (sym reader_is) fed_all.reads;
      draft_is = draft ∙ ap (λ (d : Draft). with_items d fed.items) reads.draft_is ∙ sym (items_more empty_draft (items s.now) fed.items) ∙ ap (with_items empty_draft) (sym fed_all.fed_is.items_are);
    }

-- the same sources with another fault
pub refaulted : (r : SourceReader) (s t : Sources) → t.before ≡ s.before → t.now ≡ s.now → t.total ≡ s.total → ReadsOn r s → ReadsOn r t
refaulted r s t before now total reads = record {
  faultless = ap first_fault now ∙ reads.faultless;
  total_is = reads.total_is ∙ sym total;
  sources_are = reads.sources_are ∙ ap (map log_at) (sym before);
  each = reads.each;
  joined = reads.joined;
  log = subst (HasRead r.reader) (sym now) reads.log;
  draft_is = reads.draft_is ∙ ap (λ (p : Past). with_items empty_draft (items p)) (sym now);
}

-- the same with another reader that keeps the same
pub same_reads : (r new : SourceReader) (s : Sources) → new.total ≡ r.total → new.sources ≡ r.sources → new.joined ≡ r.joined → new.reader ≡ r.reader → new.draft ≡ r.draft → ReadsOn r s → ReadsOn new s
same_reads r new s total sources joined reader draft reads = record {
  faultless = reads.faultless;
  total_is = total ∙ reads.total_is;
  sources_are = sources ∙ reads.sources_are;
  each = subst (AllByRecursion IsSource) (sym sources) reads.each;
  joined = rw (joined, sources) reads.joined;
  log = subst (λ (x : Reader). HasRead x s.now) (sym reader) reads.log;
  draft_is = draft ∙ reads.draft_is;
}

-- ---- the fault of the next byte

pub too_many : (r : SourceReader) (x : MergeFault) (s : Sources) → most_sources ≤ length r.sources → x ≡ record { code = code.TooManySources; source = length r.sources + 1; line = 1 } → ReadsOn r s → Some x ≡ input_fault s
unfolding input_fault
too_many r x s full x_is reads =
    let count = count_before r s reads in
    let full_before : most_sources ≤ length s.before = omega (arith, full, count) in
    rw (le-leb most_sources (length s.before) full_before) (ap (λ (y : MergeFault). Some y) x_is ∙ ap (λ (n : ℕ). Some (record { code = code.TooManySources; source = n + 1; line = 1 })) count)

pub too_long : (r : SourceReader) (x : MergeFault) (line : ℕ) (s : Sources) → length r.sources < most_sources → longest_log ≤ r.total → x ≡ record { code = code.TooLong; source = length r.sources + 1; line = line } → line ≡ length (lines s.now) + 1 → ReadsOn r s → Some x ≡ input_fault s
unfolding input_fault
too_long r x line s few full x_is line_is reads =
    let count = count_before r s reads in
    let few_before : length s.before < most_sources = omega (arith, few, count) in
    let full_now : longest_log ≤ s.total = omega (arith, full, reads.total_is) in
    rw (lt-leb most_sources (length s.before) few_before, le-leb longest_log s.total full_now) (ap (λ (y : MergeFault). Some y) x_is ∙ ap (λ (n : ℕ). Some (record { code = code.TooLong; source = n + 1; line = line })) count ∙ ap (λ (n : ℕ). Some (record { code = code.TooLong; source = length s.before + 1; line = n })) line_is)

pub has_room : (r : SourceReader) (s : Sources) → length r.sources < most_sources → r.total < longest_log → ReadsOn r s → None ≡ input_fault s
has_room r s few small reads = sym (no_input_fault s (omega (arith, few, count_before r s reads)) (omega (arith, small, reads.total_is)))

-- ---- the end of a source

-- it isn't whole
pub stays_open : (r : SourceReader) (o : Option LogFault) (s : Sources) → ReadsOn r s → r.fault ≡ None → r.between ≡ false → o ≡ end_fault s.now → (x : LogFault) → o ≡ Some x → HasReadSources r (judged s.before s.now s.total)
stays_open r o s reads free within ends x some =
    let open_ : is_whole s.now ≡ false = elim (cases_Bool (is_whole s.now)) [
      | inl whole ↦ absurd (none-some x (sym (end_whole s.now reads.faultless whole) ∙ sym ends ∙ some))
      | inr is_open ↦ is_open
    ] in
    let fault : fault_behind s.before s.now ≡ None = behind_open s.before s.now reads.faultless open_ in
    record {
      fault_is = free ∙ sym fault;
      faultless = λ _. reads.faultless;
      between_is = λ _. within ∙ sym open_;
      reads = λ _. subst (ReadsOn r) (sym (turned_same (judged s.before s.now s.total) open_)) (refaulted r s (judged s.before s.now s.total) refl refl refl reads);
    }

module _ (r : SourceReader) (log : Log) (s : Sources) (reads : ReadsOn r s) (ends : end_fault s.now ≡ None) (log_is : log ≡ log_of r.draft) where
  abbrev whole : is_whole s.now ≡ true
  whole = whole_end s.now reads.faultless ends

  log_there : log ≡ log_at s.now
  log_there = log_is ∙ ap log_of reads.draft_is

  pub is_source : IsSource log
  is_source = subst IsSource (sym log_there) (whole_source s.now reads.faultless whole)

  fault_there : fault_behind s.before s.now ≡ option_map (placed (length r.sources + 1)) (source_fault r.sources log)
  unfolding join_fault
  fault_there = behind_whole s.before s.now reads.faultless whole ∙ ap (λ (n : ℕ). option_map (placed (n + 1)) (source_fault (map log_at s.before) (log_at s.now))) (sym (count_before r s reads)) ∙ ap (λ (ls : List Log). option_map (placed (length r.sources + 1)) (source_fault ls (log_at s.now))) (sym reads.sources_are) ∙ ap (λ (l : Log). option_map (placed (length r.sources + 1)) (source_fault r.sources l)) (sym log_there)

  -- it can't be joined
  pub not_joined : (new : SourceReader) (f : MergeFault) → option_map (placed (length r.sources + 1)) (source_fault r.sources log) ≡ Some f → new.fault ≡ Some f → HasReadSources new (judged s.before s.now s.total)
  not_joined new f some is = keeps_fault new (judged s.before s.now s.total) f (fault_there ∙ some) is

  -- it is joined
  pub is_joined : (new : SourceReader) → source_fault r.sources log ≡ None → HasJoined new.joined (r.sources ++ log ∷ []) → new.sources ≡ r.sources ++ log ∷ [] → new.fault ≡ None → new.between ≡ true → new.total ≡ r.total → HasRead new.reader [] → new.draft ≡ empty_draft
      → HasReadSources new (judged s.before s.now s.total)
  is_joined new none joined sources free between total reader draft =
      let fault : fault_behind s.before s.now ≡ None = fault_there ∙ ap (option_map (placed (length r.sources + 1))) none in
      let sources_are : new.sources ≡ map log_at (s.before ++ s.now ∷ []) = sources ∙ ap (λ (ls : List Log). ls ++ log ∷ []) reads.sources_are ∙ ap (λ (l : Log). map log_at s.before ++ l ∷ []) log_there ∙ sym (map_push log_at s.before s.now) in
      record {
        fault_is = free ∙ sym fault;
        faultless = λ _. reads.faultless;
        between_is = λ _. between ∙ sym whole;
        reads = λ _. subst (ReadsOn new) (sym (turned_whole (judged s.before s.now s.total) whole)) (record {
          faultless = no_fault;
          total_is = total ∙ reads.total_is;
          sources_are = sources_are;
          each = subst (AllByRecursion IsSource) (sym sources) (all_push IsSource r.sources log reads.each is_source);
          joined = subst (HasJoined new.joined) (sym sources) joined;
          log = reader;
          draft_is = draft ∙ sym no_draft;
        });
      }

-- ---- pieces

pub then_takes : (a b c : SourceReader) (bytes middle left : List ℕ) → TakesBytes a bytes middle b → TakesBytes b middle left c → TakesBytes a bytes left c
then_takes a b c bytes middle left first second s has =
    let one = first s has in
    let two = second one.now one.reads in
    record { now = two.now; reads = two.reads; same = one.same ∙ two.same }

-- nothing is left of the piece
pub all_taken : (old new : SourceReader) (piece left : List ℕ) → TakesBytes old piece left new → length left ≡ 0 → (s : Sources) → HasReadSources old s → HasReadSources new (after s piece)
all_taken old new piece [] takes none s has =
    let g = takes s has in
    subst (HasReadSources new) (sym (g.same ∙ after_none g.now)) g.reads
all_taken old new piece (b ∷ left) takes none s has = absurd (omega arith)

-- nothing comes behind a fault
pub fault_taken : (old new : SourceReader) (piece left : List ℕ) (f : MergeFault) → TakesBytes old piece left new → new.fault ≡ Some f → (s : Sources) → HasReadSources old s → HasReadSources new (after s piece)
fault_taken old new piece left f takes some s has =
    let g = takes s has in
    subst (HasReadSources new) (sym (g.same ∙ stays g.now f left (sym g.reads.fault_is ∙ some))) g.reads

-- ---- the end of input

pub last_is_fault : (r : SourceReader) (f : MergeFault) → r.fault ≡ Some f → (s : Sources) → HasReadSources r s → r.fault ≡ last_fault s
unfolding last_fault
last_is_fault r f some s has =
    let fault : s.fault ≡ Some f = sym has.fault_is ∙ some in
    rw fault some

pub last_is_whole : (r : SourceReader) → r.fault ≡ None → r.between ≡ true → (s : Sources) → HasReadSources r s → None ≡ last_fault s
unfolding last_fault
last_is_whole r free between s has =
    let none : s.fault ≡ None = sym has.fault_is ∙ free in
    let whole : is_whole s.now ≡ true = sym (has.between_is none) ∙ between in
    let own : first_fault s.now ≡ None = has.faultless none in
    let ends : end_fault s.now ≡ None = end_whole s.now own whole in
    rw (none, ends) refl

pub last_is_open : (r : SourceReader) (o : Option LogFault) → r.fault ≡ None → r.between ≡ false → ((past : Past) → HasRead r.reader past → o ≡ end_fault past)
    → (s : Sources) → HasReadSources r s → option_map (λ (x : LogFault). record { code = code.Log x.code; source = length r.sources + 1; line = x.line }) o ≡ last_fault s
unfolding last_fault
last_is_open r o free within judges s has =
    let none : s.fault ≡ None = sym has.fault_is ∙ free in
    let open_ : is_whole s.now ≡ false = sym (has.between_is none) ∙ within in
    let reads = subst (ReadsOn r) (turned_same s open_) (has.reads none) in
    let o_is : o ≡ end_fault s.now = judges s.now reads.log in
    let place : length r.sources ≡ length s.before = count_before r s reads in
    rw none (ap (λ (n : ℕ). option_map (λ (x : LogFault). record { code = code.Log x.code; source = n + 1; line = x.line }) o) place ∙ ap (option_map (of_source s.before)) o_is)

-- ---- the logs

pub logs_are : (r : SourceReader) (s : Sources) → HasReadSources r s → last_fault s ≡ None → (r.sources ≡ map log_at (s.before ++ s.now ∷ [])) × CanMerge r.sources
logs_are r s has none =
    let ended = has_ended s none in
    let whole : is_whole s.now ≡ true = whole_end s.now (has.faultless ended.faultless) ended.ended in
    let reads = subst (ReadsOn r) (turned_whole s whole) (has.reads ended.faultless) in
    let count : length r.sources ≡ length s.before + 1 = ap length reads.sources_are ∙ length-map (s.before ++ s.now ∷ []) log_at ∙ length-append s.before (s.now ∷ []) in
    (reads.sources_are, record { some = omega (arith, count); few = reads.joined.few; each = reads.each; faultless = reads.joined.judged.none })
