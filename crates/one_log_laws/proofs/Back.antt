-- What was written is read again as the log that it is the text of.
use Rattle.std.proofs.Common.{◌≡◌, ℕ, zero, suc, ◌≤◌, Bool, true, false, Option, Some, None, List, [], ◌∷◌, ◌++◌, length, map, refl, sym, ap, subst, ◌∙◌, arith}
use Rattle.std.specs.Prelude.{if◌then◌else◌}
use Rattle.std.specs.List.{AllByRecursion}
use Rattle.std.proofs.lemmas.List.{length-append}
use Rattle.std.proofs.lemmas.Option.{same_Some}
use Rattle.run_model.specs.Run as run
use Rattle.torn_runs.proofs.Greatest.{greatest_is_cut}
use Rattle.torn_log.specs.Needs.{needs}
use Rattle.pota_base.specs.Limits.{longest_log}
use Rattle.event_log.specs.declared.item.LogFault.{LogFault}
use Rattle.event_log.specs.declared.log.Binding.{Binding}
use Rattle.event_log.specs.declared.log.Event.{Event}
use Rattle.event_log.specs.declared.log.Log.{Log}
use Rattle.event_log.specs.LogText.{event_count, log_text}
use Rattle.event_log.specs.States.{StatesView, opened, with_batch, with_batches, event_of, variable_of, processes_of}
use Rattle.vector_clock.specs.Events.{Events, no_events}
use Rattle.vector_clock.specs.Faults.{batch_fault, log_fault}
use Rattle.vector_clock.specs.Filled.{filled_log}
use Rattle.clock_laws.specs.Joined.{as_one}
use Rattle.clock_laws.proofs.Joined.{joined_none, joined_events, all_append}
use Rattle.counter_preds.specs.Falls.{behind_batch}
use Rattle.counter_preds.proofs.Staying.{none_without}
use Rattle.log_lines.specs.Reading.{choose}
use Rattle.log_merge.specs.Sources.{all_events}
use Rattle.kept_names.specs.declared.names.Names.{Names}
use Rattle.kept_names.specs.Words.{are_none}
use Rattle.kept_log.specs.Kept.{kept_log}
use Rattle.kept_log.specs.Named.{names_of}
use Rattle.log_rules.specs.Judgement.{Prefix}
use Rattle.log_rules.specs.SoFar.{trace_so_far}
use Rattle.log_rules.specs.WholeLogs.{first_fall, IsLogFor, all_of}
use Rattle.log_rules.proofs.Logs.{log_due as due_of_log}
use Rattle.one_log.specs.declared.asking.Asked.{Asked}
use Rattle.log_input.specs.declared.form.Form.TheVariants as form
use Rattle.one_log.specs.Logging.{batches_by, kept_of, one_log, asked_text, events_of, IsLogOf}
use Rattle.log_input.specs.Readings.{HasLog}
use Rattle.one_log_laws.specs.Laws.{as_it_is, WrittenAgainItIsTheSame, ItIsReadAsItWasWritten, ItTellsOfTheSameRun, OneTextIsWritten, NoGreaterBeginningIsLogged}
use Rattle.one_log_laws.specs.inside.Lines.{without_line, without_lines, as_read}
use Rattle.one_log_laws.proofs.Few.{IsSmall}
use Rattle.one_log_laws.proofs.Fine.{IsPlaced, IsFine}
use Rattle.one_log_laws.proofs.Folded.{as_log, kept_fine, kept_small}
use Rattle.one_log_laws.proofs.Items.{of_items, one_alone, fine_so, small_so}
use Rattle.one_log_laws.proofs.Lines.{batches_none, batches_cons, batches_on}
use Rattle.one_log_laws.proofs.Numbered.{bare, same_text, log_fits, faultless, filled_already}

-- ---- in one batch

as_one_is : (bs : List (List Event)) → all_events bs ≡ as_one bs
as_one_is [] = refl
as_one_is (b ∷ bs) = ap (λ (es : List Event). b ++ es) (as_one_is bs)

count_all : (bs : List (List Event)) → length (all_events bs) ≡ event_count bs
count_all [] = refl
count_all (b ∷ bs) = omega (arith, length-append b (all_events bs), count_all bs)

all_of_them : (P : Event → Type 0) (bs : List (List Event)) → AllByRecursion (AllByRecursion P) bs → AllByRecursion P (all_events bs)
all_of_them P [] each = tt
all_of_them P (b ∷ bs) each = all_append P b (all_events bs) each.0 (all_of_them P bs each.1)

abbrev pub in_batches : Bool → Prefix → Prefix
in_batches one log = record log { batches = batches_by one log.batches }

fine_by : (one : Bool) (log : Prefix) → IsFine log → IsFine (in_batches one log)
fine_by false log fine = fine
fine_by true log fine = record {
  header = fine.header;
  each = (
    subst (λ (n : ℕ). AllByRecursion (IsPlaced log.header n) (all_events log.batches)) (let same : event_count log.batches ≡ event_count (all_events log.batches ∷ []) = omega (arith, count_all log.batches) in same)
        (all_of_them (IsPlaced log.header (event_count log.batches)) log.batches fine.each),
    tt,
  );
  faultless = batches_cons (no_events (length log.header.procs)) (all_events log.batches) []
      (subst (λ (es : List Event). batch_fault (no_events (length log.header.procs)) es ≡ None) (sym (as_one_is log.batches)) (joined_none (no_events (length log.header.procs)) log.batches fine.faultless))
      (batches_none (with_batch (no_events (length log.header.procs)) (all_events log.batches)));
}

small_by : (one : Bool) (log : Prefix) → IsSmall log → IsSmall (in_batches one log)
small_by false log small = small
small_by true log small = record { some = omega arith; few = omega (arith, small.few, count_all log.batches) }

-- ---- its text is read

no_fall : (s : StatesView) (bs : List (List Event)) → first_fall s [] bs ≡ None
unfolding first_fall
no_fall s [] = refl
no_fall s (b ∷ bs) = ap (λ (o : Option LogFault). choose o (λ f. Some f) (first_fall (behind_batch s b) [] bs)) (none_without s b) ∙ no_fall (behind_batch s b) bs

module _ (log : Prefix) (fine : IsFine log) (small : IsSmall log) (text : List ℕ) (text_is : text ≡ log_text (one_log false log)) (short : length text ≤ longest_log) where
  spelled : text ≡ log_text (as_read log)
  spelled = text_is ∙ sym (same_text log)

  is_log : IsLogFor (λ h. None) (λ h. []) text (as_read log)
  is_log = record {
    is = record { fits = log_fits log fine small; small = subst (λ (t : List ℕ). length t ≤ longest_log) spelled short };
    lines = refl;
    spelled = spelled;
    ordered = ap log_fault (filled_already log fine small) ∙ faultless log fine small;
    rising = no_fall (opened (as_read log).header) (filled_log (as_read log)).batches;
    named = refl;
  }

  has_back : HasLog form.OneLog text (all_of (as_read log))
  has_back =
      let is = due_of_log (λ h. None) (λ h. []) text (as_read log) is_log in
      record { free = is.fault; whole = is.whole ∙ ap (λ (l : Log). Some (all_of l)) (filled_already log fine small) }

  is_back : IsLogOf as_it_is text text
  is_back = record { log = all_of (as_read log); has = has_back; text_is = spelled; short = short }

-- where nothing is named all is kept
pub all_is_kept : (names : Names) (log : Prefix) → are_none names ≡ true → kept_of names log ≡ log
all_is_kept names log none =
    ap (λ (b : Bool). if b then log else all_of (kept_log (record { header = log.header; batches = log.batches }) (names_of names))) none

pub some_is_kept : (names : Names) (log : Prefix) → are_none names ≡ false → kept_of names log ≡ all_of (kept_log (as_log log) (names_of names))
some_is_kept names log some = ap (λ (b : Bool). if b then log else all_of (kept_log (as_log log) (names_of names))) some

-- what is named of a log can be read again where the log can
kept_is : (names : Names) (log : Prefix) → IsFine log → IsSmall log → IsFine (kept_of names log) × IsSmall (kept_of names log)
kept_is names log fine small = go (are_none names)
  where
    given : Bool → Prefix
    given none = if none then log else all_of (kept_log (as_log log) (names_of names))

    go : (none : Bool) → IsFine (given none) × IsSmall (given none)
    go true = (fine, small)
    go false = (kept_fine log fine small (names_of names), kept_small log fine small (names_of names))

module _ (asked : Asked) (input text : List ℕ) (w : IsLogOf asked input text) where
  abbrev kept : Prefix
  kept = kept_of asked.names w.log

  kept_so : IsFine (kept_of asked.names w.log) × IsSmall (kept_of asked.names w.log)
  kept_so =
      let of = of_items asked.flags.torn asked.flags.form input w.log w.has in
      kept_is asked.names w.log (fine_so w.log of) (small_so w.log of)

  abbrev given : Prefix
  given = in_batches asked.flags.one_batch (kept_of asked.names w.log)

  given_fine : IsFine (in_batches asked.flags.one_batch (kept_of asked.names w.log))
  given_fine = fine_by asked.flags.one_batch kept kept_so.0

  given_small : IsSmall (in_batches asked.flags.one_batch (kept_of asked.names w.log))
  given_small = small_by asked.flags.one_batch kept kept_so.1

  again : IsLogOf as_it_is text text
  again = is_back given given_fine given_small text w.text_is w.short

  has_written : HasLog form.OneLog text (all_of (as_read (in_batches asked.flags.one_batch (kept_of asked.names w.log))))
  has_written = has_back given given_fine given_small text w.text_is w.short

  -- where nothing is named
  pub has_given : are_none asked.names ≡ true → HasLog form.OneLog text (all_of (as_read (in_batches asked.flags.one_batch w.log)))
  has_given all =
      subst (λ (p : Prefix). HasLog form.OneLog text (all_of (as_read (in_batches asked.flags.one_batch p)))) (all_is_kept asked.names w.log all) has_written

pub written_again_it_is_the_same : WrittenAgainItIsTheSame
written_again_it_is_the_same asked input text w = again asked input text w

-- ---- its run

-- a run knows no lines
pub no_lines : (names : List (List ℕ)) (vars : List (List Binding)) (events : Events) → processes_of names vars (without_lines events) ≡ processes_of names vars events
no_lines [] vars events = refl
no_lines (n ∷ names) [] events = refl
no_lines (n ∷ names) (v ∷ vars) [] = refl
no_lines (n ∷ names) (v ∷ vars) (es ∷ events) =
    ap (λ (xs : List run.Event). record { name = n; variables = map variable_of v; events = xs } ∷ processes_of names vars (without_lines events)) (same es)
    ∙ ap (λ (t : run.Trace). record { name = n; variables = map variable_of v; events = map event_of es } ∷ t) (no_lines names vars events)
  where
    same : (xs : List Event) → map event_of (map without_line xs) ≡ map event_of xs
    same [] = refl
    same (x ∷ xs) = ap (λ (ys : List run.Event). event_of x ∷ ys) (same xs)

pub none_bare : (n : ℕ) → without_lines (no_events n) ≡ no_events n
none_bare zero = refl
none_bare (suc n) = ap (λ (xs : Events). [] ∷ xs) (none_bare n)

same_bare : (n : ℕ) (bs cs : List (List Event)) → without_lines bs ≡ without_lines cs → without_lines (with_batches (no_events n) bs) ≡ without_lines (with_batches (no_events n) cs)
same_bare n bs cs same =
    sym (batches_on (no_events n) bs) ∙ ap (with_batches (without_lines (no_events n))) same ∙ batches_on (no_events n) cs

read_run : (log : Prefix) → trace_so_far (as_read log).header (as_read log).batches ≡ trace_so_far log.header log.batches
read_run log =
    let n = length log.header.procs in
    sym (no_lines log.header.procs log.header.vars (with_batches (no_events n) (as_read log).batches))
    ∙ ap (processes_of log.header.procs log.header.vars) (sym (same_bare n log.batches (as_read log).batches (bare _ log.batches)))
    ∙ no_lines log.header.procs log.header.vars (with_batches (no_events n) log.batches)

pub batched_run : (one : Bool) (log : Prefix) → trace_so_far log.header (batches_by one log.batches) ≡ trace_so_far log.header log.batches
batched_run false log = refl
batched_run true log =
    let n = length log.header.procs in
    ap (processes_of log.header.procs log.header.vars)
    (ap (with_batch (no_events n)) (as_one_is log.batches) ∙ joined_events (no_events n) log.batches)

pub it_tells_of_the_same_run : ItTellsOfTheSameRun
it_tells_of_the_same_run asked input text all w log back has has_text =
    let given : Prefix = in_batches asked.flags.one_batch w.log in
    let back_is : all_of (as_read given) ≡ back = same_Some (all_of (as_read given)) back (sym (has_given asked input text w all).whole ∙ has_text.whole) in
    let log_is : w.log ≡ log = one_alone asked.flags.torn asked.flags.form input w.log log w.has has in
    ap (λ (p : Prefix). trace_so_far p.header p.batches) (sym back_is) ∙ read_run given ∙ batched_run asked.flags.one_batch w.log
    ∙ ap (λ (p : Prefix). trace_so_far p.header p.batches) log_is

-- reading the text gives the run of the log that was written
pub it_is_read_as_it_was_written : ItIsReadAsItWasWritten
it_is_read_as_it_was_written asked input text w back has_text =
    let given : Prefix = in_batches asked.flags.one_batch (kept_of asked.names w.log) in
    let back_is : all_of (as_read given) ≡ back = same_Some (all_of (as_read given)) back (sym (has_written asked input text w).whole ∙ has_text.whole) in
    ap (λ (p : Prefix). trace_so_far p.header p.batches) (sym back_is) ∙ read_run given

-- ---- it is one alone

pub one_text_is_written : OneTextIsWritten
one_text_is_written asked input text other w v =
    w.text_is ∙ ap (asked_text asked) (one_alone asked.flags.torn asked.flags.form input w.log v.log w.has v.has) ∙ sym v.text_is

pub no_greater_beginning_is_logged : NoGreaterBeginningIsLogged
no_greater_beginning_is_logged f text log has run begins order = (greatest_is_cut (needs (events_of f text)) run has.cut begins order).0 has.greatest
