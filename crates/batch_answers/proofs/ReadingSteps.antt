-- How reading follows what is due.
use Rattle.std.proofs.Common.{◌≡◌, ℕ, ◌-◌, ◌<◌, ◌≤◌, Bool, true, false, Option, Some, None, Result, Ok, Err, List, [], ◌++◌, length, take, length-append, refl, sym, ap, subst, ◌∙◌, arith, append-nil}
use Rattle.std.specs.Option.{option_map}
use Rattle.std.specs.Io.KnownBytes.{Appends, Consumes, IsAtEnd, Keeps}
use Rattle.std.proofs.KnownBytes.{Appends-nil, Appends-trans, Consumes-nil, Consumes-trans}
use Rattle.std.proofs.lemmas.List.{length-take-le}
use Rattle.pota_base.specs.Outside.{Rose}
use Rattle.pota_base.specs.Limits.{longest_kept}
use Rattle.pota_base.specs.Changes.{behind_of, change_of, counts_of}
use Rattle.event_log.specs.declared.item.Fed.{Fed}
use Rattle.event_log.specs.declared.item.Item.{Item}
use Rattle.event_log.specs.declared.item.LogFault.{LogFault}
use Rattle.event_log.specs.declared.reader.Reader.{Reader}
use Rattle.event_log.specs.Faults.{FedIs, first_fault, items, items_in, fault_of, end_fault}
use Rattle.event_log.specs.FittingItems.{FitFirst}
use Rattle.event_log.specs.LogText.{onto}
use Rattle.event_log.specs.Reader.{HasRead}
use Rattle.event_log.proofs.FaultLaws.{free_small}
use Rattle.event_log.proofs.FittingItems.{items_fit}
use Rattle.event_log.proofs.Lists.{onto-append, length-onto}
use Rattle.fault_kinds.specs.declared.refusal.Refusal.{Refusal}
use Rattle.fault_kinds.specs.declared.refusal.Refusal.TheVariants as refusal
use Rattle.log_rules.specs.Passage.{passage_of}
use Rattle.log_rules.specs.Judgement.{Prefix, Judgement, waiting, growing, finished, refused, judged}
use Rattle.log_rules.specs.Readings.{text_fault}
use Rattle.log_rules.specs.Due.{closed_of, placed, fault_in, told}
use Rattle.log_rules.specs.Reported.{reported}
use Rattle.log_rules.proofs.Items.{judged-append}
use Rattle.log_rules.proofs.Readings.{log_is_read}
use Rattle.log_answers.specs.Asking.{asking_of, progress_of}
use Rattle.log_answers.specs.PassedOn.{Says, Aim, rules_of}
use Rattle.log_answers.specs.PassedOn.{IsCheckOf, IsFree, MayFollow}
use Rattle.log_answers.specs.PassedOn.{ReportedLog}
use Rattle.log_answers.proofs.PassedOn.{follows_all}
use Rattle.log_answers.specs.declared.stop.StopCause.{StopCause}
use Rattle.log_answers.specs.declared.stop.StopCause.TheVariants as causes
use Rattle.log_answers.specs.declared.stop.Stop.{Stop}
use Rattle.batch_answers.specs.declared.reading.Turn.{Turn}
use Rattle.batch_answers.specs.declared.reading.Turn.TheVariants as turn
use Rattle.log_answers.specs.Checking.{closed_in, AreReportsFor, HasFrontOf, Stands, StopsIn}
use Rattle.log_answers.specs.Checking.{TakesItems}
use Rattle.batch_answers.specs.Reading.{due_in, judgement_in, IsWhole, StopsAt, HasReadLog}
use Rattle.batch_answers.specs.inside.Reading.{HasJudged, TellsDue, PieceTo, TakesPiece, Finishes, judging_of}
use Rattle.batch_answers.specs.inside.Reading.{TurnsTo, Turns}
use Rattle.log_answers.proofs.Items.{closed_more, texts_as, part_of_more, front_of_more}

-- ---- what is told of a judgement

-- while more may come, or behind a fault of the text, the closed batches alone have reports
-- how a fault of a batch is told
abbrev Place : Type 0
Place = LogFault → Refusal

pub reported_open : (place : Place) (each : Bool) (j : Judgement) (fault : Option Refusal)
    → reported each (told false place j fault) ≡ closed_in each j
reported_open place false j fault = refl
reported_open place true j fault = append-nil (closed_of j)

pub reported_faulty : (place : Place) (each ended : Bool) (j : Judgement) (f : Refusal)
    → reported each (told ended place j (Some f)) ≡ closed_in each j
reported_faulty place false false j f = refl
reported_faulty place false true j f = refl
reported_faulty place true false j f = append-nil (closed_of j)
reported_faulty place true true j f = append-nil (closed_of j)

-- a judgement without a fault has that of the bytes, or none
pub free_told : (place : Place) (j : Judgement) (fault : Option Refusal) → IsFree j → fault_in place j fault ≡ fault
free_told place waiting fault free = refl
free_told place (growing log since) fault free = refl
free_told place (finished log last) fault free = refl
free_told place (refused log why) fault free = absurd free

pub refused_told : (place : Place) (j : Judgement) (log : Option Prefix) (why : Refusal) (fault : Option Refusal)
    → j ≡ refused log why → fault_in place j fault ≡ Some (placed place why)
refused_told place j log why fault is = ap (λ (k : Judgement). fault_in place k fault) is

-- the text of a log has its own lines
abbrev pub as_is : LogFault → Refusal
as_is f = refusal.Log f

pub placed_as_is : (why : Refusal) → placed as_is why ≡ why
placed_as_is (refusal.Formula f) = refl
placed_as_is (refusal.Log f) = refl
placed_as_is (refusal.Import f) = refl
placed_as_is (refusal.Merge f) = refl

-- a fault of the text of a log, as a refusal
abbrev pub of_text : Option LogFault → Option Refusal
of_text fault = option_map as_is fault

module _ {X : Type 0} {P : X → Type 0} (says : Says X P) (aim : Aim) (each : Bool) where
  -- ---- more bytes

  pub grows : (bytes more : List ℕ) → (rest : List Prefix)
      × (closed_in each (judgement_in aim (bytes ++ more)) ≡ closed_in each (judgement_in aim bytes) ++ rest)
  grows bytes more =
      let others = log_is_read.items_stay false bytes more in
      let j = judgement_in aim bytes in
      let grown = closed_more each (rules_of aim) j others.0 in (
        grown.0,
        ap (λ (xs : List Item). closed_in each (judged (rules_of aim) waiting xs)) others.1
            ∙ ap (closed_in each) (judged-append (rules_of aim) waiting (items_in bytes) others.0) ∙ grown.1,
      )

  -- ---- a stop at items, and one behind them

  pub items_stop : (f : StopCause) (n of of' : ℕ) (bytes text : List ℕ) (left : Option (List ℕ)) (lf lf' : ℕ)
      → StopsIn f n (counts_of of of') (asking_of aim each) (judgement_in aim bytes) text
      → StopsAt f n (behind_of left lf lf' of of') (asking_of aim each) (passage_of bytes text)
  items_stop f n of of' bytes text left lf lf' stop = go f stop
    where
      j : Judgement
      j = judgement_in aim bytes

      open_ : reported each (due_in aim false bytes) ≡ closed_in each (judgement_in aim bytes)
      open_ = reported_open as_is each (judgement_in aim bytes) (of_text (fault_of bytes))

      go : (g : StopCause) → StopsIn g n (counts_of of of') (asking_of aim each) (judgement_in aim bytes) text
          → StopsAt g n (behind_of left lf lf' of of') (asking_of aim each) (passage_of bytes text)
      go (causes.Refused r) h = (
        false,
        λ e. absurd (cc),
        record {
          fault = refused_told as_is (judgement_in aim bytes) h.log r (of_text (fault_of bytes)) h.is ∙ ap (λ (x : Refusal). Some x) (placed_as_is r);
          count = h.count;
          texts = texts_as aim _ _ text open_ h.texts;
        },
      )
      go causes.Write h = (
        part_of_more aim (closed_in each (judgement_in aim bytes)) [] _ text n (open_ ∙ sym (append-nil (closed_in each (judgement_in aim bytes)))) h.0,
        h.1,
      )
      go causes.Memory h = front_of_more aim (closed_in each (judgement_in aim bytes)) [] _ text n (open_ ∙ sym (append-nil (closed_in each (judgement_in aim bytes)))) h
      go causes.Read h = absurd h

  -- a fault of the text behind all items
  pub text_stops : (ended : Bool) (bytes text : List ℕ) (f : LogFault) (check : ReportedLog X P) → text_fault ended bytes ≡ Some f
      → Stands says aim each check (judgement_in aim bytes) text
      → TellsDue (asking_of aim each) ended (passage_of bytes text) (Some (refusal.Log f)) check.log.intake.batches
  text_stops ended bytes text f check some stands =
      let j = judgement_in aim bytes in
      record {
        fault = ap (λ (o : Option LogFault). fault_in as_is j (of_text o)) some ∙ free_told as_is j (Some (refusal.Log f)) stands.check_is.log.free;
        count = stands.check_is.log.intake.batches;
        texts = texts_as aim _ _ text (ap (λ (o : Option LogFault). reported each (told ended as_is j (of_text o))) some ∙ reported_faulty as_is each ended j (refusal.Log f)) stands.texts;
      }

  -- no fault so far
  pub nothing_told : (bytes text : List ℕ) (check : ReportedLog X P) → fault_of bytes ≡ None
      → Stands says aim each check (judgement_in aim bytes) text → TellsDue (asking_of aim each) false (passage_of bytes text) None check.log.intake.batches
  nothing_told bytes text check none stands =
      let j = judgement_in aim bytes in
      record {
        fault = ap (λ (o : Option LogFault). fault_in as_is j (of_text o)) none ∙ free_told as_is j None stands.check_is.log.free;
        count = stands.check_is.log.intake.batches;
        texts = texts_as aim _ _ text (reported_open as_is each j (of_text (fault_of bytes))) stands.texts;
      }

  -- ---- one piece

  module _ (r new : Reader) (check : ReportedLog X P) (bytes piece text : List ℕ) (fed : Fed)
      (known : HasJudged (judging_of says r check) (asking_of aim each) (passage_of bytes text))
      (read : (past : List ℕ) → HasRead r past → FedIs fed past (onto piece past) × HasRead new (onto piece past)) where
    past_is : onto (bytes ++ piece) [] ≡ onto piece (onto bytes [])
    past_is = onto-append bytes piece []

    pub piece_follows : MayFollow (judgement_in aim bytes) fed.items
    piece_follows =
        let f = (read (onto bytes []) known.read).0 in
        follows_all (rules_of aim) waiting (items_in bytes) fed.items (subst FitFirst f.items_are (items_fit (onto piece (onto bytes []))))

    pub judgement_now : judgement_in aim (bytes ++ piece) ≡ judged (rules_of aim) (judgement_in aim bytes) fed.items
    judgement_now =
        let f = (read (onto bytes []) known.read).0 in
        ap (judged (rules_of aim) waiting) (ap items past_is ∙ f.items_are) ∙ judged-append (rules_of aim) waiting (items_in bytes) fed.items

    fault_now : fault_of (bytes ++ piece) ≡ fed.fault
    fault_now = ap first_fault past_is ∙ sym (read (onto bytes []) known.read).0.fault_is

    module _ (held held' : Option (List ℕ)) (of of' : ℕ) (now : ReportedLog X P) where
      abbrev Took : {T : Type 0} → Result T Stop → Type 0
      Took {T} result = TakesItems {T = T} (change_of held held' of of') says (asking_of aim each) now (progress_of (judged (rules_of aim) (judgement_in aim bytes) fed.items) text) result

      -- a stop at an item
      pub piece_stops : {T : Type 0} (stop : Stop) → Took {T = T} (Err stop)
          → TakesPiece (change_of held held' of of') (judging_of says new now) (asking_of aim each) (passage_of (bytes ++ piece) text) (Err stop)
      piece_stops stop took = record {
        written = took.written;
        wrote = took.wrote;
        later = took.later;
        to = λ left lf lf'. items_stop stop.cause stop.batches of of' (bytes ++ piece) (text ++ took.written) left lf lf'
            (subst (λ (k : Judgement). StopsIn stop.cause stop.batches (counts_of of of') (asking_of aim each) k (text ++ took.written)) (sym judgement_now) took.to);
      }

      stands_now : {T : Type 0} (x : T) → (took : Took (Ok x)) → Stands says aim each now (judgement_in aim (bytes ++ piece)) (text ++ took.written)
      stands_now x took = subst (λ (k : Judgement). Stands says aim each now k (text ++ took.written)) (sym judgement_now) took.to

      -- a fault behind the items
      pub piece_faults : {T : Type 0} (x : T) (f : LogFault) (stop : Stop) → Took (Ok x) → fed.fault ≡ Some f
          → stop ≡ record { batches = now.log.intake.batches; cause = causes.Refused (refusal.Log f) }
          → TakesPiece (change_of held held' of of') (judging_of says new now) (asking_of aim each) (passage_of (bytes ++ piece) text) (Err stop)
      piece_faults x f stop took some is = record {
        written = took.written;
        wrote = took.wrote;
        later = took.later;
        to = λ left lf lf'. subst (λ (s : Stop). StopsAt s.cause s.batches (behind_of left lf lf' of of') (asking_of aim each) (passage_of (bytes ++ piece) (text ++ took.written))) (sym is)
            (false, λ e. absurd (cc), text_stops false (bytes ++ piece) (text ++ took.written) f now (fault_now ∙ some) (stands_now x took));
      }

      -- no fault
      pub piece_passes : {T : Type 0} (x : T) → Took (Ok x) → fed.fault ≡ None
          → TakesPiece (change_of held held' of of') (judging_of says new now) (asking_of aim each) (passage_of (bytes ++ piece) text) (Ok turn.More)
      piece_passes x took none = record {
        written = took.written;
        wrote = took.wrote;
        later = took.later;
        to = λ left lf lf'. record {
          read = subst (HasRead new) (sym past_is) (read (onto bytes []) known.read).1;
          free = fault_now ∙ none;
          stands = stands_now x took;
        };
      }

  -- there was no memory for the items of the piece
  pub piece_short : (held : Option (List ℕ)) (of : ℕ) (r new : Reader) (check now : ReportedLog X P) (bytes piece text : List ℕ) (stop : Stop)
      → HasJudged (judging_of says r check) (asking_of aim each) (passage_of bytes text) → stop ≡ record { batches = 0; cause = causes.Memory }
      → TakesPiece (change_of held held of of) (judging_of says new now) (asking_of aim each) (passage_of (bytes ++ piece) text) (Err stop)
  piece_short held of r new check now bytes piece text stop known is = record {
    written = [];
    wrote = Appends-nil held;
    later = omega arith;
    to = λ left lf lf'. subst (λ (s : Stop). StopsAt s.cause s.batches (behind_of left lf lf' of of) (asking_of aim each) (passage_of (bytes ++ piece) (text ++ []))) (sym is) front;
  }
    where
      front : HasFrontOf aim (reported each (due_in aim false (bytes ++ piece))) (text ++ []) 0
      front =
          let grown = grows bytes piece in
          record {
            front = closed_in each (judgement_in aim bytes);
            rest = grown.0;
            are = reported_open as_is each (judgement_in aim (bytes ++ piece)) (of_text (fault_of (bytes ++ piece))) ∙ grown.1;
            texts = subst (AreReportsFor aim (closed_in each (judgement_in aim bytes))) (sym (append-nil text)) known.stands.texts;
            count = refl;
          }

  -- ---- the end

  pub ends : (r : Reader) (check : ReportedLog X P) (bytes text : List ℕ) (of : ℕ) (o : Option LogFault) → HasJudged (judging_of says r check) (asking_of aim each) (passage_of bytes text)
      → ((past : List ℕ) → HasRead r past → o ≡ end_fault past) → o ≡ None → Finishes of says (asking_of aim each) check (passage_of bytes text) (Ok turn.End)
  ends r check bytes text of o known finishes none =
      record { free = sym (finishes (onto bytes []) known.read) ∙ none; stands = known.stands }

  pub end_faults : (r : Reader) (check : ReportedLog X P) (bytes text : List ℕ) (of : ℕ) (o : Option LogFault) (f : LogFault) (stop : Stop) → HasJudged (judging_of says r check) (asking_of aim each) (passage_of bytes text)
      → ((past : List ℕ) → HasRead r past → o ≡ end_fault past) → o ≡ Some f → stop ≡ record { batches = check.log.intake.batches; cause = causes.Refused (refusal.Log f) }
      → Finishes of says (asking_of aim each) check (passage_of bytes text) (Err stop)
  end_faults r check bytes text of o f stop known finishes some is left lf lf' ended =
      subst (λ (s : Stop). StopsAt s.cause s.batches (behind_of left lf lf' of of) (asking_of aim each) (passage_of bytes text)) (sym is)
      (true, λ e. ended, text_stops true bytes text f check (sym (finishes (onto bytes []) known.read) ∙ some) known.stands)

  -- ---- one turn

  module _ (left left' held held' : Option (List ℕ)) (lf lf' of of' : ℕ) (bytes text : List ℕ) (r : Reader) (check : ReportedLog X P) where
    more_to : (read t : List ℕ) → 0 < length read → (result : Result Turn Stop) → PieceTo (behind_of left' lf lf' of of') (judging_of says r check) (asking_of aim each) (passage_of (bytes ++ read) t) result
        → TurnsTo (behind_of left' lf lf' of of') (judging_of says r check) (asking_of aim each) (passage_of bytes t) read result
    more_to read t some (Ok turn.More) f = (some, f)
    more_to read t some (Ok turn.End) f = absurd f
    more_to read t some (Err stop) f = f

    -- some bytes were there
    pub turn_more : (room : List ℕ) (count : ℕ) (result : Result Turn Stop) → (count ≡ 0 → ⊥) → count ≤ length room → Consumes left left' (take count room) → lf ≤ lf'
        → TakesPiece (change_of held held' of of') (judging_of says r check) (asking_of aim each) (passage_of (bytes ++ take count room) text) result
        → Turns (change_of left left' lf lf') (change_of held held' of of') (judging_of says r check) (asking_of aim each) (passage_of bytes text) result
    turn_more room count result some within consumed later f = record {
      read = take count room;
      written = f.written;
      consumed = consumed;
      wrote = f.wrote;
      log_later = later;
      out_later = f.later;
      to = more_to (take count room) (text ++ f.written) (omega (arith, some, length-take-le count room within)) result (f.to left' lf lf');
    }

  module _ (left left' held : Option (List ℕ)) (lf lf' of : ℕ) (bytes text : List ℕ) (r : Reader) (check : ReportedLog X P) where
    end_to : (read : List ℕ) → read ≡ [] → (result : Result Turn Stop) → IsAtEnd left' → Finishes of says (asking_of aim each) check (passage_of bytes text) result
        → TurnsTo (behind_of left' lf lf' of of) (judging_of says r check) (asking_of aim each) (passage_of bytes (text ++ [])) read result
    end_to read none result ended f =
        subst (λ (xs : List ℕ). TurnsTo (behind_of left' lf lf' of of) (judging_of says r check) (asking_of aim each) (passage_of bytes (text ++ [])) xs result) (sym none)
        (subst (λ (t : List ℕ). TurnsTo (behind_of left' lf lf' of of) (judging_of says r check) (asking_of aim each) (passage_of bytes t) [] result) (sym (append-nil text)) (go result f))
      where
        same : bytes ≡ bytes ++ []
        same = sym (append-nil bytes)

        go : (x : Result Turn Stop) → Finishes of says (asking_of aim each) check (passage_of bytes text) x → TurnsTo (behind_of left' lf lf' of of) (judging_of says r check) (asking_of aim each) (passage_of bytes text) [] x
        go (Ok turn.More) h = absurd h
        go (Ok turn.End) h = (ended, subst (λ (xs : List ℕ). IsWhole says aim each check xs text) same h)
        go (Err stop) h = subst (λ (xs : List ℕ). StopsAt stop.cause stop.batches (behind_of left' lf lf' of of) (asking_of aim each) (passage_of xs text)) same (h left' lf lf' ended)

    -- nothing more was there
    pub turn_ends : (room : List ℕ) (count : ℕ) (result : Result Turn Stop) → count ≡ 0 → 0 < length room → Consumes left left' (take count room) × (count ≡ 0 → 0 < length room → IsAtEnd left') → lf ≤ lf'
        → Finishes of says (asking_of aim each) check (passage_of bytes text) result → Turns (change_of left left' lf lf') (change_of held held of of) (judging_of says r check) (asking_of aim each) (passage_of bytes text) result
    turn_ends room count result none some consumed later f =
        let nothing : take count room ≡ [] = ap (λ (n : ℕ). take n room) none in
        record {
          read = take count room;
          written = [];
          consumed = consumed.0;
          wrote = Appends-nil held;
          log_later = later;
          out_later = omega arith;
          to = end_to (take count room) nothing result (consumed.1 none some) f;
        }

    keeps_consumes : (old new : Option (List ℕ)) → Keeps old new → Consumes old new []
    keeps_consumes None new h = tt
    keeps_consumes (Some xs) None h = absurd h
    keeps_consumes (Some xs) (Some ys) h = sym h

    -- the read failed
    pub turn_fails : (stop : Stop) → HasJudged (judging_of says r check) (asking_of aim each) (passage_of bytes text) → Keeps left left' → lf ≤ lf' → Rose lf lf'
        → stop ≡ record { batches = check.log.intake.batches; cause = causes.Read } → Turns (change_of left left' lf lf') (change_of held held of of) (judging_of says r check) (asking_of aim each) (passage_of bytes text) (Err stop)
    turn_fails stop known keeps later rose is =
        let now : TellsDue (asking_of aim each) false (passage_of (bytes ++ []) (text ++ [])) None check.log.intake.batches =
        subst (λ (xs : List ℕ). TellsDue (asking_of aim each) false (passage_of xs (text ++ [])) None check.log.intake.batches) (sym (append-nil bytes))
        (subst (λ (t : List ℕ). TellsDue (asking_of aim each) false (passage_of bytes t) None check.log.intake.batches) (sym (append-nil text)) (nothing_told bytes text check known.free known.stands)) in
        record {
          read = [];
          written = [];
          consumed = keeps_consumes left left' keeps;
          wrote = Appends-nil held;
          log_later = later;
          out_later = omega arith;
          to = subst (λ (s : Stop). StopsAt s.cause s.batches (behind_of left' lf lf' of of) (asking_of aim each) (passage_of (bytes ++ []) (text ++ []))) (sym is) (now, rose);
        }

  -- ---- all turns

  -- what stands between two turns
  pub record Going (left left' held held' : Option (List ℕ)) (lf lf' of of' : ℕ) (r : Reader) (check : ReportedLog X P) : Type 0 where
    pub bytes : List ℕ
    pub text : List ℕ
    pub consumed : Consumes left left' bytes
    pub wrote : Appends held held' text
    pub log_later : lf ≤ lf'
    pub out_later : of ≤ of'
    pub judged_so : HasJudged (judging_of says r check) (asking_of aim each) (passage_of bytes text)

  total_is : (r : Reader) (check : ReportedLog X P) (bytes text : List ℕ) → HasJudged (judging_of says r check) (asking_of aim each) (passage_of bytes text) → r.feeder.total ≡ length bytes
  total_is r check bytes text known =
      let fed = known.read.feeds (known.read.fault_is ∙ known.free) in
      fed.counts.total_is ∙ length-onto bytes [] ∙ omega arith

  nothing_closed : (e : Bool) → AreReportsFor aim (closed_in e waiting) []
  nothing_closed false = refl
  nothing_closed true = refl

  pub starts : (left held : Option (List ℕ)) (lf of : ℕ) (r : Reader) (check : ReportedLog X P) → HasRead r [] → IsCheckOf says aim check waiting
      → Going left left held held lf lf of of r check
  unfolding first_fault items judged
  starts left held lf of r check read is = record {
    bytes = [];
    text = [];
    consumed = Consumes-nil left;
    wrote = Appends-nil held;
    log_later = omega arith;
    out_later = omega arith;
    judged_so = record { read = read; free = refl; stands = record { check_is = is; texts = nothing_closed each } };
  }

  module _ (left now held held_now : Option (List ℕ)) (lf lf_now of of_now : ℕ) (r : Reader) (check : ReportedLog X P) (h : Going left now held held_now lf lf_now of of_now r check)
      (left' held' : Option (List ℕ)) (lf' of' : ℕ) (r' : Reader) (check' : ReportedLog X P) where
    abbrev Turned : Result Turn Stop → Type 0
    Turned result = Turns (change_of now left' lf_now lf') (change_of held_now held' of_now of') (judging_of says r' check') (asking_of aim each) (passage_of h.bytes h.text) result

    pub goes_on : (x : Turn) → x ≡ turn.More → Turned (Ok x) → Going left left' held held' lf lf' of of' r' check'
    goes_on x is turned =
        let t : Turned (Ok turn.More) = subst (λ (y : Turn). Turned (Ok y)) is turned in
        record {
          bytes = h.bytes ++ t.read;
          text = h.text ++ t.written;
          consumed = Consumes-trans left now left' h.bytes t.read h.consumed t.consumed;
          wrote = Appends-trans held held_now held' h.text t.written h.wrote t.wrote;
          log_later = omega (arith, h.log_later, t.log_later);
          out_later = omega (arith, h.out_later, t.out_later);
          judged_so = t.to.1;
        }

    pub nearer : (x : Turn) → x ≡ turn.More → Turned (Ok x) → longest_kept - r'.feeder.total < longest_kept - r.feeder.total
    nearer x is turned =
        let t : Turned (Ok turn.More) = subst (λ (y : Turn). Turned (Ok y)) is turned in
        let before = total_is r check h.bytes h.text h.judged_so in
        let after = total_is r' check' (h.bytes ++ t.read) (h.text ++ t.written) t.to.1 in
        let limit = free_small (onto (h.bytes ++ t.read) []) t.to.1.free in
        omega (arith, before, after, limit, length-onto (h.bytes ++ t.read) [], length-append h.bytes t.read, t.to.0)

    stopped_at : (f : StopCause) (n : ℕ) (bytes text : List ℕ) → StopsAt f n (behind_of left' lf_now lf' of_now of') (asking_of aim each) (passage_of bytes text) → StopsAt f n (behind_of left' lf lf' of of') (asking_of aim each) (passage_of bytes text)
    stopped_at (causes.Refused r) n bytes text k = k
    stopped_at causes.Read n bytes text k = (k.0, let e = k.1 in omega (arith, e, h.log_later))
    stopped_at causes.Write n bytes text k = (k.0, let e = k.1 in omega (arith, e, h.out_later))
    stopped_at causes.Memory n bytes text k = k

    pub turns_end : {T : Type 0} (y : T) (x : Turn) → x ≡ turn.End → Turned (Ok x) → HasReadLog (change_of left left' lf lf') (change_of held held' of of') says (asking_of aim each) check' (Ok y)
    turns_end y x is turned =
        let t : Turned (Ok turn.End) = subst (λ (z : Turn). Turned (Ok z)) is turned in
        record {
          read = h.bytes ++ t.read;
          written = h.text ++ t.written;
          consumed = Consumes-trans left now left' h.bytes t.read h.consumed t.consumed;
          wrote = Appends-trans held held_now held' h.text t.written h.wrote t.wrote;
          log_later = omega (arith, h.log_later, t.log_later);
          out_later = omega (arith, h.out_later, t.out_later);
          to = t.to;
        }

    pub turns_stop : {T : Type 0} (stop : Stop) → Turned (Err stop) → HasReadLog {T = T} (change_of left left' lf lf') (change_of held held' of of') says (asking_of aim each) check' (Err stop)
    turns_stop stop t = record {
      read = h.bytes ++ t.read;
      written = h.text ++ t.written;
      consumed = Consumes-trans left now left' h.bytes t.read h.consumed t.consumed;
      wrote = Appends-trans held held_now held' h.text t.written h.wrote t.wrote;
      log_later = omega (arith, h.log_later, t.log_later);
      out_later = omega (arith, h.out_later, t.out_later);
      to = stopped_at stop.cause stop.batches (h.bytes ++ t.read) (h.text ++ t.written) t.to;
    }

  -- no memory for the room
  pub no_room : {T : Type 0} (left held : Option (List ℕ)) (lf of : ℕ) (check : ReportedLog X P) (stop : Stop) → IsCheckOf says aim check waiting
      → stop ≡ record { batches = 0; cause = causes.Memory } → HasReadLog {T = T} (change_of left left lf lf) (change_of held held of of) says (asking_of aim each) check (Err stop)
  unfolding items judged
  no_room left held lf of check stop is memory = record {
    read = [];
    written = [];
    consumed = Consumes-nil left;
    wrote = Appends-nil held;
    log_later = omega arith;
    out_later = omega arith;
    to = subst (λ (s : Stop). StopsAt s.cause s.batches (behind_of left lf lf of of) (asking_of aim each) (passage_of [] [])) (sym memory) (record {
      front = [];
      rest = reported each (due_in aim false []);
      are = refl;
      texts = refl;
      count = refl;
    });
  }

-- what stands between two turns, for whatever the check is of
pub record GoingSoFar {X : Type 0} {P : X → Type 0} (says : Says X P) (left left' held held' : Option (List ℕ)) (lf lf' of of' : ℕ)
    (each each_now : Bool) (first : ReportedLog X P) (r : Reader) (check : ReportedLog X P) (room : List ℕ) : Type 0 where
  pub each_is : each_now ≡ each
  pub some : 0 < length room
  pub going : (aim : Aim) → IsCheckOf says aim first waiting → Going says aim each left left' held held' lf lf' of of' r check

module _ {X : Type 0} {P : X → Type 0} (says : Says X P) (left held : Option (List ℕ)) (lf of : ℕ) (each : Bool) (first : ReportedLog X P) where
  pub begins : (r : Reader) (room : List ℕ) → HasRead r [] → 0 < length room
      → GoingSoFar says left left held held lf lf of of each each first r first room
  begins r room read some =
      record { each_is = refl; some = some; going = λ aim is. starts says aim each left held lf of r first read is }

  module _ (now held_now : Option (List ℕ)) (lf_now of_now : ℕ) (each_now : Bool) (r : Reader) (check : ReportedLog X P) (room : List ℕ)
      (h : GoingSoFar says left now held held_now lf lf_now of of_now each each_now first r check room) where
    pub may_turn : (aim : Aim) × IsCheckOf says aim first waiting
        → (aim : Aim) × (bytes : List ℕ) × (text : List ℕ) × HasJudged (judging_of says r check) (asking_of aim each_now) (passage_of bytes text)
    may_turn known =
        let g = h.going known.0 known.1 in
        (known.0, g.bytes, g.text, subst (λ (e : Bool). HasJudged (judging_of says r check) (asking_of known.0 e) (passage_of g.bytes g.text)) (sym h.each_is) g.judged_so)

    module _ (left' held' : Option (List ℕ)) (lf' of' : ℕ) (each' : Bool) (r' : Reader) (check' : ReportedLog X P) (same : each' ≡ each_now) where
      abbrev TurnsIt : Result Turn Stop → Type 0
      TurnsIt result = (aim : Aim) (bytes text : List ℕ) → HasJudged (judging_of says r check) (asking_of aim each_now) (passage_of bytes text)
          → Turns (change_of now left' lf_now lf') (change_of held_now held' of_now of') (judging_of says r' check') (asking_of aim each_now) (passage_of bytes text) result

      turned : (result : Result Turn Stop) → TurnsIt result → (aim : Aim) → (is : IsCheckOf says aim first waiting)
          → Turns (change_of now left' lf_now lf') (change_of held_now held' of_now of') (judging_of says r' check') (asking_of aim each) (passage_of (h.going aim is).bytes (h.going aim is).text) result
      turned result turns aim is =
          let g = h.going aim is in
          subst (λ (e : Bool). Turns (change_of now left' lf_now lf') (change_of held_now held' of_now of') (judging_of says r' check') (asking_of aim e) (passage_of g.bytes g.text) result) h.each_is
          (turns aim g.bytes g.text (subst (λ (e : Bool). HasJudged (judging_of says r check) (asking_of aim e) (passage_of g.bytes g.text)) (sym h.each_is) g.judged_so))

      pub turns_on : (x : Turn) (room' : List ℕ) → length room' ≡ length room → x ≡ turn.More → TurnsIt (Ok x)
          → GoingSoFar says left left' held held' lf lf' of of' each each' first r' check' room'
      turns_on x room' long is turns = record {
        each_is = same ∙ h.each_is;
        some = omega (arith, long, h.some);
        going = λ aim known. goes_on says aim each left now held held_now lf lf_now of of_now r check (h.going aim known) left' held' lf' of' r' check' x is (turned (Ok x) turns aim known);
      }

      pub turns_nearer : (x : Turn) → x ≡ turn.More → TurnsIt (Ok x) → (aim : Aim) × IsCheckOf says aim first waiting
          → longest_kept - r'.feeder.total < longest_kept - r.feeder.total
      turns_nearer x is turns known =
          nearer says known.0 each left now held held_now lf lf_now of of_now r check (h.going known.0 known.1) left' held' lf' of' r' check' x is (turned (Ok x) turns known.0 known.1)

      pub reads_all : {T : Type 0} (y : T) (x : Turn) → x ≡ turn.End → TurnsIt (Ok x) → (aim : Aim) → IsCheckOf says aim first waiting
          → HasReadLog (change_of left left' lf lf') (change_of held held' of of') says (asking_of aim each) check' (Ok y)
      reads_all y x is turns aim known =
          turns_end says aim each left now held held_now lf lf_now of of_now r check (h.going aim known) left' held' lf' of' r' check' y x is (turned (Ok x) turns aim known)

      pub reads_stop : {T : Type 0} (stop : Stop) → TurnsIt (Err stop) → (aim : Aim) → IsCheckOf says aim first waiting
          → HasReadLog {T = T} (change_of left left' lf lf') (change_of held held' of of') says (asking_of aim each) check' (Err stop)
      reads_stop stop turns aim known =
          turns_stop says aim each left now held held_now lf lf_now of of_now r check (h.going aim known) left' held' lf' of' r' check' stop (turned (Err stop) turns aim known)
