-- A log that reading gives can be spelled.
use Rattle.std.proofs.Common.{ℕ, ◌+◌, ◌<◌, List, [], ◌∷◌, length}
use Rattle.std.specs.List.{AllByRecursion}
use Rattle.event_log.specs.Laws.{IsLog}
use Rattle.event_log.specs.LogText.{KindFits, KindWithin, EventFits, EventsFit, BatchesFit}
use Rattle.event_log.specs.declared.log.Kind.{Kind}
use Rattle.event_log.specs.declared.log.Kind.TheVariants as kind
use Rattle.event_log.specs.declared.log.Event.{Event}
use Rattle.event_log.specs.declared.log.Header.{Header}
use Rattle.event_log.specs.declared.log.Log.{Log}
use Rattle.log_writing.specs.Spelling.{CanBeSpelled, BatchesCanBeSpelled, HasText}

peer_there : (procs process : ℕ) (k : Kind) → KindFits procs process k → KindWithin procs k
peer_there procs process kind.Internal fits = tt
peer_there procs process (kind.Send to id) fits = fits.0
peer_there procs process (kind.Receive sender id) fits = fits.0

event_spelled : (h : Header) (e : Event) → EventFits h e → CanBeSpelled h e
event_spelled h e fits = record {
  process = fits.process;
  peer = peer_there (length h.procs) e.process e.kind fits.kind;
  assigns = fits.assigns;
}

events_spelled : (h : Header) (line : ℕ) (es : List Event) → EventsFit h line es → AllByRecursion (CanBeSpelled h) es
events_spelled h line [] fits = tt
events_spelled h line (e ∷ es) fits = (event_spelled h e fits.0.0, events_spelled h (line + 1) es fits.1)

batches_spelled : (h : Header) (line : ℕ) (bs : List (List Event)) → BatchesFit h line bs → BatchesCanBeSpelled h bs
batches_spelled h line [] fits = tt
batches_spelled h line (b ∷ rest) fits = (events_spelled h line b fits.0, batches_spelled h (line + length b + 1) rest fits.1)

pub log_has_text : (log : Log) → IsLog log → HasText log
log_has_text log is = record {
  version = is.fits.header.version;
  vars = is.fits.header.all;
  events = batches_spelled log.header _ log.batches is.fits.batches;
}
