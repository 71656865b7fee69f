use Rattle.std.proofs.Common.{◌≡◌, [], ◌∷◌, ◌≤◌, length, List, pos, refl, arith, ◌*◌, length-append, inl}
use Rattle.event_log.specs.declared.log.Binding.{Binding}
use Rattle.event_log.specs.declared.log.Header.{Header}
use Rattle.event_log.specs.declared.log.Kind.TheVariants as kind
use Rattle.event_log.specs.declared.log.Assign.{Assign}
use Rattle.event_log.specs.declared.log.Event.{Event}
use Rattle.event_log.specs.declared.log.Log.{Log}
use Rattle.event_log.specs.LogText.{HeaderFits, LogFits, EventFits, BindingFits, lines_of, text_of}
use Rattle.std.specs.List.{AllByRecursion}
use Rattle.event_log.specs.Before.{Line}
use Rattle.event_log.proofs.Narrow.{IsNarrow, log_narrow}
use Rattle.event_log.specs.Laws.{IsLog}
use Rattle.run_tests.proofs.logs.small_log.Goals as goal

abbrev binding : Binding
binding = record { name = 120 ∷ []; value = pos 0 }

abbrev assign : Assign
assign = record { variable = 0; value = pos 1 }

abbrev event : Event
event = record { process = 0; line = 4; clock = 1 ∷ []; kind = kind.Internal; assigns = assign ∷ [] }

abbrev header : Header
header = record { version = 1; procs = (80 ∷ []) ∷ []; vars = (binding ∷ []) ∷ []; var_lines = 3 ∷ [] }

abbrev small : Log
small = record { header = header; batches = (event ∷ []) ∷ [] }

binding_fits : BindingFits binding
binding_fits = record { name = refl; value = omega (arith) }

header_fits : HeaderFits header
header_fits = record {
  version = inl refl;
  procs = record { some = omega (arith); few = omega (arith); each = (refl, tt); distinct = refl };
  all = refl;
  vars = (record { few = omega (arith); each = (binding_fits, tt); distinct = refl }, tt);
}

event_fits : EventFits header event
event_fits = record {
  process = omega (arith);
  width = inl refl;
  clock = (omega (arith), tt);
  kind = tt;
  few = omega (arith);
  assigns = (record { variable = omega (arith); value = omega (arith) }, tt);
  distinct = refl;
}

log_fits : LogFits small
log_fits = record { header = header_fits; some = omega (arith); batches = (((event_fits, refl), tt), tt); few = omega (arith) }

narrow_text : (lines : List Line) → AllByRecursion IsNarrow lines → length (text_of lines) ≤ 4097 * length lines
narrow_text [] all = omega (arith)
narrow_text (line ∷ lines) all = omega (arith, length-append line (10 ∷ text_of lines), all.0, narrow_text lines all.1)

five_lines : length (lines_of small) ≡ 5
five_lines = refl

is_log : IsLog small
is_log = record { fits = log_fits; small = omega (arith, narrow_text (lines_of small) (log_narrow small log_fits), five_lines) }

pub returns : goal.returns
returns g c =
    rw (c.in_ok-one-3.ensures) (rw (c.in_ok-one-5.ensures) (rw (c.in_ok-one-6.ensures) (rw (c.in_ok-one-8.ensures) (rw (c.in_ok-one-7.ensures) (rw (c.in_ok-one-4.ensures)
    (rw (c.in_ok-one.ensures) (rw (c.in_ok-one-2.ensures) (rw (c.in_ok-process.ensures) (rw (c.in_ok-variable.ensures) is_log)))))))))
