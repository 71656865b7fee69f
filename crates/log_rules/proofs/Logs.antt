-- What is due of the text of a log.
use Rattle.std.proofs.Common.{◌≡◌, ℕ, ◌<◌, ◌≤◌, true, Option, Some, None, List, [], ◌∷◌, ◌++◌, length, refl, sym, ap, subst, ◌∙◌, arith, append_assoc, append-nil, length-append}
use Rattle.std.specs.List.{AllByRecursion}
use Rattle.std.specs.Option.{option_map}
use Rattle.std.proofs.lemmas.Option.{none-some}
use Rattle.rctl_grammar.specs.declared.fault.FormulaFault.{FormulaFault}
use Rattle.event_log.specs.declared.item.LogFault.{LogFault}
use Rattle.event_log.specs.declared.item.Item.{Item}
use Rattle.event_log.specs.declared.log.Header.{Header}
use Rattle.event_log.specs.declared.log.Event.{Event}
use Rattle.event_log.specs.declared.log.Log.{Log}
use Rattle.event_log.specs.Laws.{IsLog, IsWellFormed}
use Rattle.event_log.specs.LogText.{onto, lines_of, log_text, header_lines, batch_lines, closing_line, event_lines, text_of, event_items, closing_item, batch_items, log_items, HasVarLines, lined}
use Rattle.event_log.specs.Faults.{end_fault, items_in}
use Rattle.event_log.specs.States.{with_batch}
use Rattle.event_log.proofs.Appends.{text_of-append}
use Rattle.event_log.proofs.Lists.{all_onto}
use Rattle.event_log.proofs.Texts.{lines-text}
use Rattle.event_log.proofs.Plain.{log_plain}
use Rattle.event_log.proofs.Narrow.{IsNarrow, log_narrow}
use Rattle.event_log.proofs.WellFormed.{fault_free_log, log_fault_free}
use Rattle.vector_clock.specs.Events.{no_events}
use Rattle.vector_clock.specs.Faults.{batch_fault, batches_fault}
use Rattle.vector_clock.specs.Filled.{filled_batches, filled_log}
use Rattle.vector_clock.proofs.FilledBatches.{length-filled}
use Rattle.fault_kinds.specs.declared.refusal.Refusal.{Refusal}
use Rattle.fault_kinds.specs.declared.refusal.Refusal.TheVariants as refusal
use Rattle.counter_preds.specs.declared.values.Variable.{Variable}
use Rattle.counter_preds.specs.Falls.{fall_fault, behind_batch}
use Rattle.log_rules.specs.Judgement.{Prefix, followed_by, events_of, states_of, with_clocks, clock_fault, fault_behind, Rules, with_rules, Judgement, waiting, growing, finished, refused, opened, closing, judged}
use Rattle.log_rules.specs.Readings.{log_reading}
use Rattle.log_rules.specs.Due.{after_each, prefixes, placed, fault_in, told, due}
use Rattle.log_rules.specs.SoFar.{counted}
use Rattle.log_rules.specs.WholeLogs.{first_fall, IsLogFor, IsDueOfLog}
use Rattle.log_rules.proofs.Items.{prefix_at, refused-stays, after_each-push}
use Rattle.log_rules.proofs.Dues.{text_free}
use Rattle.log_rules.proofs.Orders.{with_batches-push, chosen_none}
use Rattle.log_rules.proofs.Readings.{text_none}

-- ---- the items of batches

judged-events : (rules : Rules) (log : Prefix) (since es : List Event) (rest : List Item)
    → judged rules (growing log since) (event_items es ++ rest)
    ≡ judged rules (growing log (since ++ es)) rest
unfolding judged
judged-events rules log since [] rest =
    ap (λ (xs : List Event). judged rules (growing log xs) rest) (sym (append-nil since))
judged-events rules log since (e ∷ es) rest =
    judged-events rules log (since ++ e ∷ []) es rest
    ∙ ap (λ (xs : List Event). judged rules (growing log xs) rest) (append_assoc since (e ∷ []) es)

-- what the end of a batch leads to, where it has no fault; the batch is filled
abbrev next_of : Prefix → List Event → List (List Event) → Judgement
next_of log b [] = finished log b
next_of log b (c ∷ bs) = growing (followed_by log b) []

closes : (rules : Rules) (log : Prefix) (b : List Event) (bs : List (List Event)) (rest : List Item)
    → judged rules (growing log b) (closing_item bs ∷ rest)
    ≡ judged rules (closing rules log (with_clocks log b) (next_of log (with_clocks log b) bs)) rest
unfolding judged
closes rules log b [] rest = refl
closes rules log b (c ∷ bs) rest = refl

pub judged-batch : (rules : Rules) (log : Prefix) (b : List Event) (bs : List (List Event))
    → judged rules (growing log []) (batch_items (b ∷ bs))
    ≡ judged rules (closing rules log (with_clocks log b) (next_of log (with_clocks log b) bs)) (batch_items bs)
judged-batch rules log b bs =
    judged-events rules log [] b (closing_item bs ∷ batch_items bs)
    ∙ closes rules log b bs (batch_items bs)

pub judged-none : (rules : Rules) (j : Judgement) → judged rules j [] ≡ j
unfolding judged
judged-none rules j = refl

-- ---- batches without a fault are all closed

-- the last batch was closed behind the others, all filled
record Closed (h : Header) (batches : List (List Event)) (j : Judgement) : Type 0 where
  before : List (List Event)
  last : List Event
  is : j ≡ finished (prefix_at h before) last
  all : before ++ last ∷ [] ≡ batches

module _ (names : Header → Option FormulaFault) (counters : Header → List Variable) (h : Header) where
  abbrev rules : Rules
  rules = with_rules names counters

  -- the events of filled batches, and one more that is filled behind them
  abbrev events : List (List Event) → List (List Event)
  events done = events_of (prefix_at h done)

  abbrev full : List (List Event) → List Event → List Event
  full done b = with_clocks (prefix_at h done) b

  abbrev falls : List (List Event) → List Event → Option LogFault
  falls done b = fall_fault (states_of (prefix_at h done)) (counters h) b

  -- batches behind filled ones have no fault
  record Free (done bs : List (List Event)) : Type 0 where
    ordered : batches_fault (events done) (filled_batches (events done) bs) ≡ None
    rising : first_fall (states_of (prefix_at h done)) (counters h) (filled_batches (events done) bs) ≡ None

  free_behind : (done : List (List Event)) (b : List Event) → falls done b ≡ None → batch_fault (events done) b ≡ None
      → fault_behind (counters h) (prefix_at h done) b ≡ None
  free_behind done b rises free = rw rises free

  one_closed : (done : List (List Event)) (b : List Event) (next : Judgement)
      → fault_behind (counters h) (prefix_at h done) b ≡ None
      → closing rules (prefix_at h done) b next ≡ next
  one_closed done b next free = rw free refl

  -- the events of filled batches, with one more
  done_more : (done : List (List Event)) (b : List Event)
      → events (done ++ b ∷ []) ≡ with_batch (events done) b
  done_more done b = with_batches-push (no_events (length h.procs)) done b

  -- what is filled behind so many events has no fault
  abbrev NoFault : List (List Event) → List (List Event) → Type 0
  NoFault ess bs = batches_fault ess (filled_batches ess bs) ≡ None

  abbrev NoFall : List (List Event) → List (List Event) → Type 0
  NoFall ess bs = first_fall (record { header = h; events = ess }) (counters h) (filled_batches ess bs) ≡ None

  free_more : (done : List (List Event)) (b : List Event) (bs : List (List Event))
      → NoFault (with_batch (events done) b) bs → NoFall (with_batch (events done) b) bs
      → Free (done ++ b ∷ []) bs
  free_more done b bs ordered rising =
      let more = sym (done_more done b) in
      record { ordered = subst (λ (ess : List (List Event)). NoFault ess bs) more ordered; rising = subst (λ (ess : List (List Event)). NoFall ess bs) more rising }

  all_closed : (done : List (List Event)) (b : List Event) (bs : List (List Event)) → Free done (b ∷ bs)
      → Closed h (done ++ filled_batches (events done) (b ∷ bs)) (judged rules (growing (prefix_at h done) []) (batch_items (b ∷ bs)))
  unfolding batches_fault filled_batches first_fall
  all_closed done b [] free =
      let last = full done b in
      let ordered = chosen_none (batch_fault (events done) last) None free.ordered in
      let rising = chosen_none (falls done last) None free.rising in
      record {
        before = done;
        last = last;
        is = judged-batch rules (prefix_at h done) b []
            ∙ judged-none rules (closing rules (prefix_at h done) last (finished (prefix_at h done) last))
            ∙ one_closed done last (finished (prefix_at h done) last) (free_behind done last rising.0 ordered.0);
        all = refl;
      }
  all_closed done b (c ∷ bs) free =
      let last = full done b in
      let after = with_batch (events done) last in
      let ordered = chosen_none (batch_fault (events done) last) (batches_fault after (filled_batches after (c ∷ bs))) free.ordered in
      let rising = chosen_none (falls done last) (first_fall (behind_batch (states_of (prefix_at h done)) last) (counters h) (filled_batches after (c ∷ bs))) free.rising in
      let others = all_closed (done ++ last ∷ []) c bs (free_more done last (c ∷ bs) ordered.1 rising.1) in
      let next : Judgement = growing (prefix_at h (done ++ last ∷ [])) [] in
      record {
        before = others.before;
        last = others.last;
        is = judged-batch rules (prefix_at h done) b (c ∷ bs)
            ∙ ap (λ (j : Judgement). judged rules j (batch_items (c ∷ bs))) (one_closed done last next (free_behind done last rising.0 ordered.0))
            ∙ others.is;
        all = others.all ∙ append_assoc done (last ∷ []) (filled_batches (events (done ++ last ∷ [])) (c ∷ bs))
            ∙ ap (λ (xs : List (List Event)). done ++ last ∷ filled_batches xs (c ∷ bs)) (done_more done last);
      }

  -- ---- batches that are not refused have no fault

  abbrev IsTaken : Judgement → Type 0
  IsTaken j = (log : Option Prefix) (why : Refusal) → j ≡ refused log why → ⊥

  -- one more in front of those without a fault
  free_one : (done : List (List Event)) (b : List Event) (bs : List (List Event))
      → fault_behind (counters h) (prefix_at h done) (full done b) ≡ None → Free (done ++ full done b ∷ []) bs → Free done (b ∷ bs)
  unfolding batches_fault filled_batches first_fall
  free_one done b bs free rest =
      let last = full done b in
      let parts = chosen_none (falls done last) (clock_fault (prefix_at h done) last) free in
      let more = done_more done last in
      record {
        ordered = rw parts.1 (subst (λ (ess : List (List Event)). NoFault ess bs) more rest.ordered);
        rising = rw parts.0 (subst (λ (ess : List (List Event)). NoFall ess bs) more rest.rising);
      }

  free_none : (done : List (List Event)) → Free done []
  unfolding batches_fault filled_batches first_fall
  free_none done = record { ordered = refl; rising = refl }

  none_refused : (done bs : List (List Event))
      → IsTaken (judged rules (growing (prefix_at h done) []) (batch_items bs)) → Free done bs
  none_refused done [] taken = free_none done
  none_refused done (b ∷ bs) taken = go (fault_behind (counters h) (prefix_at h done) (full done b)) refl bs taken (none_refused (done ++ full done b ∷ []) bs)
    where
      go : (o : Option LogFault) → fault_behind (counters h) (prefix_at h done) (full done b) ≡ o → (cs : List (List Event))
          → IsTaken (judged rules (growing (prefix_at h done) []) (batch_items (b ∷ cs)))
          → (IsTaken (judged rules (growing (prefix_at h (done ++ full done b ∷ [])) []) (batch_items cs)) → Free (done ++ full done b ∷ []) cs)
          → Free done (b ∷ cs)
      go (Some f) is cs taken rest =
          let stop : closing rules (prefix_at h done) (full done b) (next_of (prefix_at h done) (full done b) cs) ≡ refused (Some (prefix_at h done)) (refusal.Log f) = rw is refl in
          absurd (taken (Some (prefix_at h done)) (refusal.Log f) (judged-batch rules (prefix_at h done) b cs
          ∙ ap (λ (j : Judgement). judged rules j (batch_items cs)) stop
          ∙ refused-stays rules (Some (prefix_at h done)) (refusal.Log f) (batch_items cs)))
      go None is [] taken rest = free_one done b [] is (free_none (done ++ full done b ∷ []))
      go None is (c ∷ cs) taken rest =
          let next : Judgement = growing (prefix_at h (done ++ full done b ∷ [])) [] in
          let same : judged rules (growing (prefix_at h done) []) (batch_items (b ∷ c ∷ cs)) ≡ judged rules next (batch_items (c ∷ cs)) =
          judged-batch rules (prefix_at h done) b (c ∷ cs)
          ∙ ap (λ (j : Judgement). judged rules j (batch_items (c ∷ cs))) (one_closed done (full done b) next is) in
          free_one done b (c ∷ cs) is (rest (λ log why e. taken log why (same ∙ e)))

-- ---- whole logs

module _ (names : Header → Option FormulaFault) (counters : Header → List Variable) (log : Log) where
  judged-log : judged (with_rules names counters) waiting (log_items log)
      ≡ judged (with_rules names counters) (opened (with_rules names counters) log.header) (batch_items log.batches)
  unfolding judged
  judged-log = refl

  opened_log : names log.header ≡ None → opened (with_rules names counters) log.header ≡ growing (prefix_at log.header []) []
  opened_log known = rw known refl

  begun : names log.header ≡ None → judged (with_rules names counters) waiting (log_items log)
      ≡ judged (with_rules names counters) (growing (prefix_at log.header []) []) (batch_items log.batches)
  begun known =
      judged-log ∙ ap (λ (j : Judgement). judged (with_rules names counters) j (batch_items log.batches)) (opened_log known)

  log_closed : names log.header ≡ None → Free names counters log.header [] log.batches → 0 < length log.batches
      → Closed log.header (filled_log log).batches (judged (with_rules names counters) waiting (log_items log))
  log_closed known free some =
      subst (Closed log.header (filled_log log).batches) (sym (begun known)) (go log.batches free some)
    where
      go : (bs : List (List Event)) → Free names counters log.header [] bs → 0 < length bs
          → Closed log.header (filled_batches (no_events (length log.header.procs)) bs) (judged (with_rules names counters) (growing (prefix_at log.header []) []) (batch_items bs))
      go [] free some = absurd (omega (arith, some))
      go (b ∷ bs) free some = all_closed names counters log.header [] b bs free

  record Taken : Type 0 where
    known : names log.header ≡ None
    free : Free names counters log.header [] log.batches

  taken_log : IsTaken names counters log.header (judged (with_rules names counters) waiting (log_items log)) → Taken
  taken_log taken = go (names log.header) refl
    where
      go : (o : Option FormulaFault) → names log.header ≡ o → Taken
      go None known = record {
        known = known;
        free = none_refused names counters log.header [] log.batches (λ past why e. taken past why (begun known ∙ e));
      }
      go (Some f) is =
          let stop : opened (with_rules names counters) log.header ≡ refused None (refusal.Formula f) = rw is refl in
          absurd (taken None (refusal.Formula f) (judged-log
          ∙ ap (λ (j : Judgement). judged (with_rules names counters) j (batch_items log.batches)) stop
          ∙ refused-stays (with_rules names counters) None (refusal.Formula f) (batch_items log.batches)))

-- ---- the number of batches

lines_long : (h : Header) (bs : List (List Event))
    → length bs ≤ length (text_of (batch_lines h bs))
lines_long h [] = omega arith
lines_long h (b ∷ bs) =
    let rest = text_of (closing_line bs ∷ batch_lines h bs) in
    omega (
      arith,
      lines_long h bs,
      ap length (text_of-append (event_lines h b) (closing_line bs ∷ batch_lines h bs)),
      length-append (text_of (event_lines h b)) rest,
      length-append (closing_line bs) (10 ∷ text_of (batch_lines h bs)),
    )

counted_all : (log : Log) → IsLog log → counted (filled_log log).batches ≡ length log.batches
counted_all log is =
    omega (
      arith,
      length-filled (no_events (length log.header.procs)) log.batches,
      is.small,
      lines_long log.header log.batches,
      ap length (text_of-append (header_lines log.header) (batch_lines log.header log.batches)),
      length-append (text_of (header_lines log.header)) (text_of (batch_lines log.header log.batches)),
    )

-- ---- the text

pub reads_back : (log : Log) → IsLog log → IsWellFormed (log_text log) × (items_in (log_text log) ≡ log_items (lined log))
reads_back log is =
    log_fault_free log is (subst (λ (ls : List (List ℕ)). AllByRecursion IsNarrow ls) (sym (lines-text log (log_plain log is.fits))) (all_onto IsNarrow (lines_of log) [] (log_narrow log is.fits) tt))

-- a log that has its lines
lined_same : (log : Log) → HasVarLines log.header → lined log ≡ log
lined_same log lines =
    let made : List ℕ → Log = λ ns. record { header = record { version = log.header.version; procs = log.header.procs; vars = log.header.vars; var_lines = ns }; batches = log.batches } in
    ap made (sym lines)

-- what is told of a log whose last batch was closed
told_closed : (place : LogFault → Refusal) (log : Log) → IsLog log → (j : Judgement) → Closed log.header (filled_log log).batches j → IsDueOfLog log (told true place j None)
told_closed place log is j closed =
    let p = prefix_at log.header closed.before in
    let due_is : IsDueOfLog log (told true place (finished p closed.last) None) = record {
      whole = ap (λ (bs : List (List Event)). Some (prefix_at log.header bs)) closed.all;
      each = ap (λ (bs : List (List Event)). prefixes p ++ prefix_at log.header bs ∷ []) (sym closed.all)
          ∙ sym (after_each-push log.header [] closed.before closed.last)
          ∙ ap (after_each log.header []) closed.all;
      batches = ap counted closed.all ∙ counted_all log is;
      fault = refl;
    } in
    subst (λ (k : Judgement). IsDueOfLog log (told true place k None)) (sym closed.is) due_is

-- how the text's faults of batches are told
abbrev as_is : LogFault → Refusal
as_is f = refusal.Log f

module _ (names : Header → Option FormulaFault) (counters : Header → List Variable) (bytes : List ℕ) where
  pub log_due : (log : Log) → IsLogFor names counters bytes log → IsDueOfLog log (due log_reading (with_rules names counters) true bytes)
  log_due log l =
      let rules = with_rules names counters in
      let back = reads_back log l.is in
      let items : items_in bytes ≡ log_items log = ap items_in l.spelled ∙ back.1 ∙ ap log_items (lined_same log l.lines) in
      let free : end_fault (onto bytes []) ≡ None = ap (λ (x : List ℕ). end_fault (onto x [])) l.spelled ∙ back.0 in
      let closed = log_closed names counters log l.named (record { ordered = l.ordered; rising = l.rising }) l.is.fits.some in
      let same : due log_reading rules true bytes ≡ told true as_is (judged rules waiting (log_items log)) None =
      ap (λ (f : Option LogFault). told true as_is (judged rules waiting (items_in bytes)) (option_map as_is f)) free
      ∙ ap (λ (xs : List Item). told true as_is (judged rules waiting xs) None) items in
      subst (IsDueOfLog log) (sym same) (told_closed as_is log l.is (judged rules waiting (log_items log)) closed)

  not_refused : (j : Judgement) (fault : Option Refusal) → fault_in as_is j fault ≡ None
      → (log : Option Prefix) (why : Refusal) → j ≡ refused log why → ⊥
  not_refused j fault none log why e =
      none-some (placed as_is why) (sym (subst (λ (k : Judgement). fault_in as_is k fault ≡ None) e none))

  pub due_log : (due log_reading (with_rules names counters) true bytes).fault ≡ None → (log : Log) × IsLogFor names counters bytes log
  due_log h =
      let rules = with_rules names counters in
      let j : Judgement = judged rules waiting (items_in bytes) in
      let fault = option_map as_is (end_fault (onto bytes [])) in
      let ended = text_none (end_fault (onto bytes [])) (text_free as_is j fault h) in
      let found = fault_free_log bytes ended in
      let log = found.0 in
      let taken = not_refused j fault h in
      let known = taken_log names counters log (λ past why e. taken past why (ap (judged rules waiting) found.1.items_are ∙ e)) in (
        log,
        record {
          is = found.1.log_is;
          lines = found.1.lines_are;
          spelled = found.1.text_is;
          ordered = known.free.ordered;
          rising = known.free.rising;
          named = known.known;
        },
      )
