-- A text that was scanned, and then its clocks.
use Rattle.std.proofs.Common.{◌≡◌, ℕ, Bool, true, false, Option, Some, None, Err, List, [], ◌∷◌, ◌++◌, refl, sym, ap, subst, ◌∙◌}
use Rattle.std.specs.Prelude.{unwrap_or, if◌then◌else◌}
use Rattle.std.specs.List.{AllByRecursion}
use Rattle.pota_base.specs.declared.fault.Refused.{Refused}
use Rattle.pota_base.specs.declared.fault.Refused.TheVariants.{Fault, NoMemory}
use Rattle.log_lines.specs.Reading.{choose}
use Rattle.event_log.specs.declared.log.Event.{Event}
use Rattle.event_log.specs.declared.log.Header.{Header}
use Rattle.event_log.specs.declared.log.Log.{Log}
use Rattle.fault_kinds.specs.declared.import.ImportCode.TheVariants as code
use Rattle.fault_kinds.specs.declared.import.ImportFault.{ImportFault}
use Rattle.vclog_import.specs.declared.scanning.Scan.{Scan}
use Rattle.vclog_import.specs.Lines.{Record}
use Rattle.vclog_import.specs.Hosts.{hosts_of}
use Rattle.vclog_import.specs.Faults.{first_of, is_bad, number_fault, unknown_fault, end_fault, host_fault, earlier, judged, fault_of, IfFault}
use Rattle.vclog_import.specs.Imported.{header_of, events_from, imported}
use Rattle.vclog_import.specs.inside.Reading.{records}
use Rattle.vclog_import.specs.inside.Scans.{plain_fault, until, first_bad_clock, hosts_in, IsFine}
use Rattle.vclog_import.specs.inside.Scans.{fault_with, IsScan}
use Rattle.vclog_import.proofs.Firsts.{two_scans, until_all}
use Rattle.vclog_import.proofs.Fits.{AllQuiet, all_quiet}

-- the fault by both scans
by_scans : (text : List ℕ) → fault_of text ≡ choose (choose (first_bad_clock (until plain_fault [] (judged text))) (λ (f : ImportFault). Some f) (first_of plain_fault [] (judged text))) (λ (f : ImportFault). Some f) (choose (end_fault text) (λ (f : ImportFault). Some f) (host_fault (judged text)))
by_scans text = ap (λ (o : Option ImportFault). choose o (λ (f : ImportFault). Some f) (choose (end_fault text) (λ (f : ImportFault). Some f) (host_fault (judged text)))) (two_scans [] (judged text))

pub faulty : (text : List ℕ) (s : Scan) (f : ImportFault) (bad : Option ImportFault) → IsScan text s → s.fault ≡ Some f → bad ≡ first_bad_clock (records s.lines.items) → fault_of text ≡ Some (unwrap_or bad f)
faulty text s f bad is found read =
    by_scans text
    ∙ ap (λ (o : Option ImportFault). choose (choose o (λ (g : ImportFault). Some g) (first_of plain_fault [] (judged text))) (λ (g : ImportFault). Some g) (choose (end_fault text) (λ (g : ImportFault). Some g) (host_fault (judged text)))) (sym (read ∙ ap first_bad_clock is.lines_are))
    ∙ go bad (first_of plain_fault [] (judged text)) (end_fault text) (host_fault (judged text)) (sym is.fault_is ∙ found)
  where
    go : (b p e h : Option ImportFault) → choose p (λ (g : ImportFault). Some g) e ≡ Some f → choose (choose b (λ (g : ImportFault). Some g) p) (λ (g : ImportFault). Some g) (choose e (λ (g : ImportFault). Some g) h) ≡ Some (unwrap_or b f)
    go (Some x) p e h is_f = refl
    go None (Some x) e h is_f = is_f
    go None None (Some x) h is_f = is_f
    go None None None h is_f = absurd cc

-- a scan without a fault
module _ (text : List ℕ) (s : Scan) (is : IsScan text s) (none : s.fault ≡ None) where
  parts : (first_of plain_fault [] (judged text) ≡ None) × (end_fault text ≡ None)
  parts = go (first_of plain_fault [] (judged text)) (end_fault text) refl refl (sym is.fault_is ∙ none)
    where
      go : (p e : Option ImportFault) → first_of plain_fault [] (judged text) ≡ p → end_fault text ≡ e → choose p (λ (g : ImportFault). Some g) e ≡ None → (first_of plain_fault [] (judged text) ≡ None) × (end_fault text ≡ None)
      go (Some x) e ps es h = absurd cc
      go None (Some x) ps es h = absurd cc
      go None None ps es h = (ps, es)

  pub all_lines : records s.lines.items ≡ judged text
  all_lines = is.lines_are ∙ until_all plain_fault [] (judged text) parts.0

  pub lines_fine : AllByRecursion IsFine (records s.lines.items)
  lines_fine = subst (AllByRecursion IsFine) (sym all_lines) (go [] (judged text) (all_quiet plain_fault [] (judged text) parts.0))
    where
      one : (before : List Record) (r : Record) (b : Bool) → is_bad r ≡ b → (if b then Some code.BadHostLine else number_fault before r) ≡ None → IsFine r
      one before r true bad e = absurd cc
      one before r false fine e = fine

      go : (before rs : List Record) → AllQuiet plain_fault before rs → AllByRecursion IsFine rs
      go before [] all = tt
      go before (r ∷ rs) all = (one before r (is_bad r) refl all.0, go (before ++ r ∷ []) rs all.1)

  pub fault_left : fault_of text ≡ fault_with s.clash (records s.lines.items)
  fault_left =
      by_scans text
      ∙ ap (λ (o : Option ImportFault). choose (choose (first_bad_clock (until plain_fault [] (judged text))) (λ (g : ImportFault). Some g) o) (λ (g : ImportFault). Some g) (choose (end_fault text) (λ (g : ImportFault). Some g) (host_fault (judged text)))) parts.0
      ∙ ap (λ (o : Option ImportFault). choose (choose (first_bad_clock (until plain_fault [] (judged text))) (λ (g : ImportFault). Some g) None) (λ (g : ImportFault). Some g) (choose o (λ (g : ImportFault). Some g) (host_fault (judged text)))) parts.1
      ∙ plain (first_bad_clock (until plain_fault [] (judged text))) (host_fault (judged text))
      ∙ ap (λ (rs : List Record). choose (first_bad_clock rs) (λ (g : ImportFault). Some g) (host_fault (judged text))) (until_all plain_fault [] (judged text) parts.0)
      ∙ ap (λ (rs : List Record). choose (first_bad_clock rs) (λ (g : ImportFault). Some g) (host_fault rs)) (sym all_lines)
      ∙ ap (λ (o : Option ImportFault). choose (first_bad_clock (records s.lines.items)) (λ (g : ImportFault). Some g) (earlier o (first_of (unknown_fault (hosts_of (records s.lines.items))) [] (records s.lines.items)))) (sym (is.fine none).clash_is)
    where
      plain : (b h : Option ImportFault) → choose (choose b (λ (g : ImportFault). Some g) None) (λ (g : ImportFault). Some g) h ≡ choose b (λ (g : ImportFault). Some g) h
      plain None h = refl
      plain (Some x) h = refl

  pub hosts_left : hosts_in s.hosts.items ≡ hosts_of (records s.lines.items)
  hosts_left = (is.fine none).hosts_are

  pub log_is : (header : Header) (events : List Event) (batches : List (List Event)) → header ≡ header_of (hosts_in s.hosts.items) → events ≡ events_from (hosts_of (records s.lines.items)) [] (records s.lines.items) → batches ≡ events ∷ [] → record { header = header; batches = batches } ≡ imported text
  log_is header events batches header_is events_are batches_are =
      ap (λ (h : Header). record { header = h; batches = batches }) (header_is ∙ ap header_of hosts_left)
      ∙ ap (λ (bs : List (List Event)). record { header = header_of (hosts_of (records s.lines.items)); batches = bs }) (batches_are ∙ ap (λ (es : List Event). es ∷ []) events_are)
      ∙ ap (λ (rs : List Record). record { header = header_of (hosts_of rs); batches = events_from (hosts_of rs) [] rs ∷ [] }) all_lines

-- a fault is handed on
pub carried : (r : Refused ImportFault) (x y : Option ImportFault) → y ≡ x → IfFault {T = List Event} (Err r) (λ f. x ≡ Some f) → IfFault {T = Log} (Err r) (λ f. y ≡ Some f)
carried (Fault f) x y same fault = same ∙ fault
carried NoMemory x y same fault = tt
