-- The log that is asked for has a text too.
use Rattle.std.proofs.Common.{◌≡◌, Bool, true, false, List, [], ◌∷◌, ◌++◌, refl, sym, subst, ◌∙◌, inl}
use Rattle.std.specs.Prelude.{if◌then◌else◌}
use Rattle.std.specs.List.{AllByRecursion}
use Rattle.event_log.specs.declared.log.Event.{Event}
use Rattle.event_log.specs.declared.log.Header.{Header}
use Rattle.event_log.specs.declared.log.Log.{Log}
use Rattle.log_merge.specs.Sources.{all_events}
use Rattle.log_rules.specs.WholeLogs.{all_of}
use Rattle.log_writing.specs.Spelling.{CanBeSpelled, BatchesCanBeSpelled, HasText}
use Rattle.one_log.specs.Logging.{batches_by, one_log}

-- of another version of the header
abbrev first : Header → Header
first h = record h { version = 1 }

spelled_first : (h : Header) (es : List Event) → AllByRecursion (CanBeSpelled h) es → AllByRecursion (CanBeSpelled (first h)) es
spelled_first h [] each = tt
spelled_first h (e ∷ es) each = (record { process = each.0.process; peer = each.0.peer; assigns = each.0.assigns }, spelled_first h es each.1)

all_first : (h : Header) (bs : List (List Event)) → BatchesCanBeSpelled h bs → BatchesCanBeSpelled (first h) bs
all_first h [] each = tt
all_first h (b ∷ bs) each = (spelled_first h b each.0, all_first h bs each.1)

-- in one batch
spelled_behind : (h : Header) (b rest : List Event) → AllByRecursion (CanBeSpelled h) b → AllByRecursion (CanBeSpelled h) rest → AllByRecursion (CanBeSpelled h) (b ++ rest)
spelled_behind h [] rest each more = more
spelled_behind h (e ∷ b) rest each more = (each.0, spelled_behind h b rest each.1 more)

spelled_all : (h : Header) (bs : List (List Event)) → BatchesCanBeSpelled h bs → AllByRecursion (CanBeSpelled h) (all_events bs)
spelled_all h [] each = tt
spelled_all h (b ∷ bs) each = spelled_behind h b (all_events bs) each.0 (spelled_all h bs each.1)

spelled_by : (one : Bool) (h : Header) (bs : List (List Event)) → BatchesCanBeSpelled h bs → BatchesCanBeSpelled h (batches_by one bs)
spelled_by false h bs each = each
spelled_by true h bs each = (spelled_all h bs each, tt)

pub has_text : (one : Bool) (log : Log) → HasText log → HasText (one_log one (all_of log))
has_text one log has = record {
  version = inl refl;
  vars = has.vars;
  events = spelled_by one (first log.header) log.batches (all_first log.header log.batches has.events);
}

-- the batches that come, as they were given
pub has_text_of : (one : Bool) (log : Log) (given : List (List Event)) → given ≡ batches_by one log.batches → HasText log → HasText (record { header = record log.header { version = 1 }; batches = given })
has_text_of one log given is has = subst (λ (bs : List (List Event)). HasText (record { header = record log.header { version = 1 }; batches = bs })) (sym is) (has_text one log has)

-- ---- one by one
