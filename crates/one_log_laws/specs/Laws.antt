-- Laws of what is written, as statements.
use Rattle.std.specs.Prelude.{◌≡◌, ◌↔◌, ℕ, true, false, List}
use Rattle.run_model.specs.Cut.{Cut, Clocks}
use Rattle.run_model.specs.Consistent.{IsConsistent, IsOrder}
use Rattle.run_model.specs.Formula.{Formula}
use Rattle.run_model.specs.Meaning.{Sat}
use Rattle.run_model.specs.Run.{Watches, clocks_of, run_of}
use Rattle.run_model.specs.Sublattice.{IsGreatest}
use Rattle.torn_runs.specs.Torn.{IsBeginning}
use Rattle.torn_runs.specs.Laws.{IsLoggedCut}
use Rattle.torn_log.specs.Needs.{needs}
use Rattle.kept_runs.specs.Kept.{kept_cut}
use Rattle.kept_runs.specs.Naming.{AreNamed}
use Rattle.kept_names.specs.Words.{no_names, are_none}
use Rattle.kept_log.specs.Named.{names_of}
use Rattle.event_log.specs.declared.log.Log.{Log}
use Rattle.event_log.specs.States.{trace_of_log}
use Rattle.log_rules.specs.Judgement.{Prefix}
use Rattle.log_rules.specs.SoFar.{trace_so_far}
use Rattle.one_log.specs.declared.asking.Asked.{Asked}
use Rattle.log_input.specs.declared.form.Form.{Form}
use Rattle.log_input.specs.declared.form.Form.TheVariants as form
use Rattle.log_input.specs.Readings.{HasLog}
use Rattle.one_log.specs.Logging.{HasLogBy, HasTornLog, IsLogOf, events_of}
use Rattle.one_log.specs.Logging.{kept_of, one_log}

-- one log is read, and its batches stay
abbrev pub as_it_is : Asked
as_it_is = record {
  flags = record { form = form.OneLog; one_batch = false; torn = false };
  names = no_names;
}

-- what was written has no fault, and written again it is the same bytes
abbrev pub WrittenAgainItIsTheSame : Type 0
WrittenAgainItIsTheSame = (asked : Asked) (input text : List ℕ)
    → IsLogOf asked input text → IsLogOf as_it_is text text

-- the log that was read, and the one whose text was written of it (`text_is`)
abbrev pub read_log : {asked : Asked} {input text : List ℕ} → IsLogOf asked input text → Log
read_log w = record { header = w.log.header; batches = w.log.batches }

abbrev pub written_log : {asked : Asked} {input text : List ℕ} → IsLogOf asked input text → Log
written_log {asked} w = one_log asked.flags.one_batch (kept_of asked.names w.log)

-- reading what was written gives the run of the log whose text it is
abbrev pub ItIsReadAsItWasWritten : Type 0
ItIsReadAsItWasWritten = (asked : Asked) (input text : List ℕ) (w : IsLogOf asked input text)
    (back : Prefix) → HasLog form.OneLog text back
    → trace_so_far back.header back.batches ≡ trace_of_log (written_log w)

-- all of it is asked for
abbrev pub IsAll : Asked → Type 0
IsAll asked = are_none asked.names ≡ true

-- the run of the log that is written of all is that of the log that was read
abbrev pub ItTellsOfTheSameRun : Type 0
ItTellsOfTheSameRun = (asked : Asked) (input text : List ℕ) → IsAll asked
    → IsLogOf asked input text → (log back : Prefix)
    → HasLogBy asked.flags.torn asked.flags.form input log → HasLog form.OneLog text back
    → trace_so_far back.header back.batches ≡ trace_so_far log.header log.batches

-- one text alone is the log that is asked for
abbrev pub OneTextIsWritten : Type 0
OneTextIsWritten = (asked : Asked) (input text other : List ℕ) → IsLogOf asked input text
    → IsLogOf asked input other → text ≡ other

-- Where torn logs have the first events of each process of a run, by what each event stands on, the
-- cut up to which their log goes is the greatest consistent cut of the run among the logged events.
abbrev pub NoGreaterBeginningIsLogged : Type 0
NoGreaterBeginningIsLogged = (f : Form) (text : List ℕ) (log : Prefix)
    (has : HasTornLog f text log) (run : Clocks) → IsBeginning (needs (events_of f text)) run
    → IsOrder run → IsGreatest (IsLoggedCut (needs (events_of f text)) run) has.cut

-- ---- what is named alone

-- A formula whose names are among those that are kept, without EX, is as true at a consistent cut
-- of the run that was read as at the kept events of that cut in the run that was written.
abbrev pub FormulasStayAsTrue : Type 0
FormulasStayAsTrue = (asked : Asked) (input text : List ℕ) (w : IsLogOf asked input text)
    → are_none asked.names ≡ false → (watches : Watches)
    → (f : Formula) → AreNamed (names_of asked.names) f
    → (c : Cut) → IsConsistent (clocks_of (trace_of_log (read_log w))) c
    → Sat (run_of (trace_of_log (read_log w)) watches) f c
    ↔ Sat (run_of (trace_of_log (written_log w)) watches) f
    (kept_cut (trace_of_log (read_log w)) (names_of asked.names) c)
