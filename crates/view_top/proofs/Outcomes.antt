-- What an outcome says of an input that is read no further.
use Rattle.std.proofs.Common.{◌≡◌, ℕ, false, Option, Some, None, List, [], refl, sym, subst, inl, inr}
use Rattle.std.specs.Prelude.{Result, Ok, Err, IfOk, IfErr, MatchResult}
use Rattle.std.proofs.lemmas.Bool.{false≢true}
use Rattle.std.specs.Io.KnownBytes.{IsAtEnd}
use Rattle.pota_base.specs.Outside.{Rose}
use Rattle.pota_base.specs.Changes.{behind_of, change_of, counts_of, left_of}
use Rattle.event_log.specs.declared.item.LogFault.{LogFault}
use Rattle.event_log.specs.Faults.{end_fault}
use Rattle.event_log.specs.LogText.{onto}
use Rattle.event_log.specs.Reader.{HasRead}
use Rattle.input_reading.specs.declared.reading.End.{End}
use Rattle.input_reading.specs.declared.reading.End.TheVariants as end
use Rattle.input_reading.specs.Intakes.{Ends, ReadsAll}
use Rattle.view_top.specs.declared.asking.View.{View}
use Rattle.view_top.specs.declared.fault.Fault.{Fault}
use Rattle.view_top.specs.declared.fault.Fault.TheVariants as fault
use Rattle.view_top.specs.declared.input.Input.{Input}
use Rattle.view_top.specs.Asking.{view_asked}
use Rattle.trace_growth.specs.Growing.{TraceView}
use Rattle.view_top.specs.Viewing.{log_in, IsAnswer, IsViewIn, Says, HasViewed}
use Rattle.view_top.specs.inside.Inputs.{IsOpen, IsDone, EndsBy, HasCome, IsViewBehind, NoReportIn, NoViewIn, WritesOf, PutsView}
use Rattle.view_top.proofs.Whole.{free_so_far, here, view_behind, no_report}

-- nothing is read behind a fault of the log, nor behind too many bytes
pub done_by : (input : Input) (o : Option LogFault) (bytes : List ℕ) → input.fault ≡ o → IsDone input bytes → EndsBy input o bytes
done_by input o bytes same done = subst (λ (x : Option LogFault). EndsBy input x bytes) same done

pub full : (input : Input) (bytes : List ℕ) → EndsBy input None bytes → NoViewIn end.Done bytes fault.TooLong
full input bytes done = (refl, free_so_far input.reader input.log bytes input.behind done.0, done.1)

pub faulty : (input : Input) (f : LogFault) (bytes : List ℕ) → EndsBy input (Some f) bytes → NoViewIn end.Done bytes (fault.Log f)
faulty input f bytes due = (false, λ no. absurd (false≢true no), due false)

-- ---- the view

pub open_at : (e : End) (input : Input) (bytes : List ℕ) → e ≡ end.Ended → HasCome e input bytes → IsOpen input bytes
open_at e input bytes is come = subst (λ (x : End). HasCome x input bytes) is come

pub failed : (e : End) (input : Input) (bytes : List ℕ) → e ≡ end.Failed → HasCome e input bytes → NoViewIn e bytes fault.Read
failed e input bytes is come =
    let known = subst (λ (x : End). HasCome x input bytes) is come in
    (is, free_so_far input.reader input.log bytes input.behind known.log)

pub stopped : (e : End) (input : Input) (bytes : List ℕ) (f : Fault) → e ≡ end.Done → ((all : List ℕ) → IsDone input all → NoViewIn end.Done all f) → HasCome e input bytes → NoViewIn e bytes f
stopped e input bytes f is why come =
    subst (λ (x : End). NoViewIn x bytes f) (sym is) (why bytes (subst (λ (x : End). HasCome x input bytes) is come))

module _ (input : Input) (e : End) (is : e ≡ end.Ended) (trace : TraceView) (some : input.log.trace ≡ Some trace) (ends : (past : List ℕ) → HasRead input.reader past → None ≡ end_fault past)
    (bytes : List ℕ) (come : HasCome e input bytes) where
  abbrev known : IsOpen input bytes
  known = open_at e input bytes is come

  over : end_fault (onto (log_in bytes) []) ≡ None
  over = sym (ends (onto (log_in bytes) []) known.log.read)

  pub here_so : trace.spent ≡ false
  here_so = here input.reader input.log bytes input.behind known.log over trace some

  view_so : (asked : View) (shown : List ℕ) → IsViewBehind asked trace.states input.behind shown → (e ≡ end.Ended) × IsViewIn asked bytes shown
  view_so asked shown came = (is, view_behind input.reader input.log bytes input.behind known.log over trace some asked shown came)

  no_view_so : (f : Fault) → NoReportIn trace.states input.behind f → NoViewIn e bytes f
  no_view_so f came = no_report input.reader input.log bytes input.behind known.log over trace some e f is came

module _ (input : Input) (e : End) (is : e ≡ end.Ended) (trace : TraceView) (some : input.log.trace ≡ Some trace) (ends : (past : List ℕ) → HasRead input.reader past → None ≡ end_fault past)
    (asked : View) where
  views_by : (r : Result (List ℕ) Fault) → MatchResult r (IsViewBehind asked trace.states input.behind) (NoReportIn trace.states input.behind)
      → IfOk r (λ (shown : List ℕ). (bytes : List ℕ) → HasCome e input bytes → (e ≡ end.Ended) × IsViewIn asked bytes shown)
  views_by (Ok shown) came = λ bytes come. view_so input e is trace some ends bytes come asked shown came
  views_by (Err f) came = tt

  no_views_by : (r : Result (List ℕ) Fault) → MatchResult r (IsViewBehind asked trace.states input.behind) (NoReportIn trace.states input.behind)
      → IfErr r (λ (f : Fault). (bytes : List ℕ) → HasCome e input bytes → NoViewIn e bytes f)
  no_views_by (Ok shown) came = tt
  no_views_by (Err f) came = λ bytes come. no_view_so input e is trace some ends bytes come f came

  module _ (text : List ℕ) (same : text ≡ input.behind) (r : Result (List ℕ) Fault) (came : MatchResult r (IsViewBehind asked trace.states text) (NoReportIn trace.states text)) where
    at_behind : MatchResult r (IsViewBehind asked trace.states input.behind) (NoReportIn trace.states input.behind)
    at_behind = subst (λ (t : List ℕ). MatchResult r (IsViewBehind asked trace.states t) (NoReportIn trace.states t)) same came

    pub views : IfOk r (λ (shown : List ℕ). (bytes : List ℕ) → HasCome e input bytes → (e ≡ end.Ended) × IsViewIn asked bytes shown)
    views = views_by r at_behind

    pub no_views : IfErr r (λ (f : Fault). (bytes : List ℕ) → HasCome e input bytes → NoViewIn e bytes f)
    no_views = no_views_by r at_behind

-- ---- the call

pub has_come : (left' : Option (List ℕ)) (lf lf' : ℕ) (input : Input) (bytes : List ℕ) (e : End) → Ends (left_of left' lf lf') (IsOpen input) (IsDone input) bytes e → HasCome e input bytes
has_come left' lf lf' input bytes end.Ended came = came.1
has_come left' lf lf' input bytes end.Done came = came
has_come left' lf lf' input bytes end.Failed came = came.1

module _ (left' : Option (List ℕ)) (lf lf' of of' : ℕ) (words : List (List ℕ)) (asked : View) (asks : view_asked words ≡ Some asked) (input : Input) (bytes written : List ℕ) where
  abbrev Came : End → Type 0
  Came e = Ends (left_of left' lf lf') (IsOpen input) (IsDone input) bytes e

  abbrev SaysSo : Option Fault → Type 0
  SaysSo f = Says f (behind_of left' lf lf' of of') words bytes written

  at_end : (e : End) → Came e → e ≡ end.Ended → IsAtEnd left'
  at_end e came is = (subst Came is came).0

  rose : (e : End) → Came e → e ≡ end.Failed → Rose lf lf'
  rose e came is = (subst Came is came).0

  answered : (e : End) (shown : List ℕ) → Came e → e ≡ end.Ended → IsViewIn asked bytes shown → IsAnswer left' words bytes shown
  answered e shown came is view = record { asked = asked; asks = asks; ended = at_end e came is; view = view }

  unread : (e : End) (f : Fault) → Came e → written ≡ [] → NoViewIn e bytes f → SaysSo (Some f)
  unread e fault.Usage came none why = absurd why
  unread e (fault.Log f) came none why = (none, why.0, λ is. at_end e came (why.1 is), why.2)
  unread e fault.NoReport came none why = (none, at_end e came why.0, why.1)
  unread e (fault.Report f) came none why = (none, at_end e came why.0, why.1)
  unread e fault.TooLong came none why = (none, why.1, why.2)
  unread e fault.OtherLog came none why = (none, at_end e came why.0, why.1)
  unread e fault.Read came none why = (none, why.1, rose e came why.0)
  unread e fault.Write came none why = absurd why
  unread e fault.Memory came none why = none

  says_so : (e : End) (f : Option Fault) → Came e → WritesOf asked e bytes (counts_of of of') written f → SaysSo f
  says_so e None came to = answered e written came to.0 to.1
  says_so e (Some f) came (inl to) = unread e f came to.0 to.1
  says_so e (Some f) came (inr to) =
      subst (λ (x : Fault). SaysSo (Some x)) (sym to.0) (to.2, answered e to.2 came to.1 to.3, to.4, to.5)

pub viewed : (left left' held held' : Option (List ℕ)) (lf lf' of of' : ℕ) (words : List (List ℕ)) (asked : View) → view_asked words ≡ Some asked → (input : Input) (e : End) (f : Option Fault)
    → ReadsAll (change_of left left' lf lf') (IsOpen input) (IsDone input) [] e → ((bytes : List ℕ) → HasCome e input bytes → PutsView asked e bytes (change_of held held' of of') f) → HasViewed (change_of left left' lf lf') (change_of held held' of of') words f
viewed left left' held held' lf lf' of of' words asked asks input e f all puts =
    let put = puts all.read (has_come left' lf lf' input all.read e all.to) in
    record {
      read = all.read;
      written = put.written;
      consumed = all.consumed;
      wrote = put.wrote;
      says = says_so left' lf lf' of of' words asked asks input all.read put.written e f all.to put.to;
    }
