-- Each line of a log has at most 4,096 bytes.
use Rattle.std.proofs.Common.{◌≡◌, true, ℕ, ℤ, pos, negsuc, suc, ◌+◌, ◌*◌, ◌^◌, ◌<◌, ◌≤◌, List, [], ◌∷◌, ◌++◌, length, arith, length-append}
use Rattle.std.specs.Prelude.{FitsSigned}
use Rattle.std.specs.Int.{w64}
use Rattle.std.specs.List.{AllByRecursion}
use Rattle.std.specs.Fmt.{decimal, signed_decimal}
use Rattle.std.proofs.lemmas.Int.{ints}
use Rattle.std.proofs.lemmas.Fmt.{length-decimal-le}
use Rattle.pota_base.specs.Limits.{longest_line, most_processes}
use Rattle.log_lines.specs.Names.{Name, is_name}
use Rattle.log_lines.specs.Spelling.{NamedValue, ValueFits, Action, Internal, Send, Receive, ActionFits, EventLine, EventLineFits, VarsLine, VarsLineFits, names_text, values_text, clock_rest, clock_text, event_clock_text, action_text, vars_line, event_line}
use Rattle.log_lines.proofs.WordLaws.{name_parts}
use Rattle.event_log.specs.declared.log.Binding.{Binding}
use Rattle.event_log.specs.declared.log.Header.{Header}
use Rattle.event_log.specs.declared.log.Event.{Event}
use Rattle.event_log.specs.declared.log.Log.{Log}
use Rattle.event_log.specs.Before.{Line}
use Rattle.event_log.specs.LogText.{values_of, line_of, vars_lines, header_lines, event_lines, closing_line, batch_lines, lines_of, BindingsFit, HeaderFits, EventsFit, BatchesFit, LogFits}
use Rattle.event_log.proofs.Lists.{all_append}
use Rattle.event_log.proofs.EventLaws.{line_fits, clock_few}
use Rattle.event_log.proofs.WriteLaws.{vars_fit}

abbrev pub IsNarrow : Line → Type 0
IsNarrow l = length l ≤ longest_line

names_narrow : (ns : List Name) → AllByRecursion (λ n. is_name n ≡ true) ns → length (names_text ns) ≤ 65 * length ns
names_narrow [] fits = omega arith
names_narrow (n ∷ ns) fits = omega (arith, length-append n (names_text ns), (name_parts n fits.0).few, names_narrow ns fits.1)

signed_narrow : (z : ℤ) → FitsSigned w64 z → length (signed_decimal z) ≤ 20
signed_narrow (pos n) fits =
    let small : n < 2 ^ 63 = omega (arith, ints) in
    length-decimal-le 20 n (omega arith) (omega arith) (omega arith)
signed_narrow (negsuc n) fits =
    let small : suc n ≤ 2 ^ 63 = omega (arith, ints) in
    omega (arith, length-decimal-le 19 (suc n) (omega arith) (omega arith) (omega arith))

values_narrow : (vs : List NamedValue) → AllByRecursion ValueFits vs → length (values_text vs) ≤ 86 * length vs
values_narrow [] fits = omega arith
values_narrow (v ∷ vs) fits = omega (arith, length-append v.name (61 ∷ (signed_decimal v.value ++ values_text vs)), length-append (signed_decimal v.value) (values_text vs), (name_parts v.name fits.0.name).few, signed_narrow v.value fits.0.value, values_narrow vs fits.1)

clock_rest_narrow : (ns : List ℕ) → AllByRecursion (λ n. n < 2 ^ 32) ns → length (clock_rest ns) ≤ 11 * length ns
clock_rest_narrow [] fits = omega arith
clock_rest_narrow (n ∷ ns) fits = omega (arith, length-append (decimal n) (clock_rest ns), length-decimal-le 10 n (omega arith) (omega (arith, fits.0)) (omega (arith, fits.0)), clock_rest_narrow ns fits.1)

clock_narrow : (ns : List ℕ) → AllByRecursion (λ n. n < 2 ^ 32) ns → length (clock_text ns) ≤ 11 * length ns
clock_narrow [] fits = omega arith
clock_narrow (n ∷ ns) fits = omega (arith, length-append (decimal n) (clock_rest ns), length-decimal-le 10 n (omega arith) (omega (arith, fits.0)) (omega (arith, fits.0)), clock_rest_narrow ns fits.1)

event_clock_narrow : (ns : List ℕ) → AllByRecursion (λ n. n < 2 ^ 32) ns → length (event_clock_text ns) ≤ 11 * length ns + 1
event_clock_narrow [] fits = omega arith
event_clock_narrow (n ∷ ns) fits = omega (arith, clock_narrow (n ∷ ns) fits)

action_narrow : (a : Action) → ActionFits a → length (action_text a) ≤ 90
action_narrow Internal fits = omega arith
action_narrow (Send to id) fits = omega (arith, length-append to (32 ∷ decimal id), (name_parts to fits.0).few, length-decimal-le 20 id (omega arith) (omega (arith, fits.1)) fits.1)
action_narrow (Receive sender id) fits = omega (arith, length-append sender (32 ∷ decimal id), (name_parts sender fits.0).few, length-decimal-le 20 id (omega arith) (omega (arith, fits.1)) fits.1)

event_narrow : (e : EventLine) → EventLineFits e → length e.clock ≤ most_processes → IsNarrow (event_line e)
event_narrow e fits few =
    let rest = action_text e.action ++ values_text e.assigns in
    omega (
      arith,
      length-append e.actor (32 ∷ (event_clock_text e.clock ++ 32 ∷ rest)),
      length-append (event_clock_text e.clock) (32 ∷ rest),
      length-append (action_text e.action) (values_text e.assigns),
      (name_parts e.actor fits.actor).few,
      event_clock_narrow e.clock fits.clock,
      action_narrow e.action fits.action,
      values_narrow e.assigns fits.assigns.each,
      fits.assigns.few,
      few,
    )

vars_narrow : (v : VarsLine) → VarsLineFits v → IsNarrow (vars_line v)
vars_narrow v fits = omega (arith, length-append v.process (values_text v.variables), (name_parts v.process fits.process).few, values_narrow v.variables fits.variables.each, fits.variables.few)

vars_lines_narrow : (procs : List Name) (vars : List (List Binding)) → AllByRecursion (λ n. is_name n ≡ true) procs → AllByRecursion BindingsFit vars → AllByRecursion IsNarrow (vars_lines procs vars)
vars_lines_narrow procs [] names fits = tt
vars_lines_narrow [] (v ∷ vars) names fits = tt
vars_lines_narrow (p ∷ procs) ([] ∷ vars) names fits = vars_lines_narrow procs vars names.1 fits.1
vars_lines_narrow (p ∷ procs) ((b ∷ bs) ∷ vars) names fits = (vars_narrow (record { process = p; variables = values_of (b ∷ bs) }) (vars_fit p b bs names.0 fits.0), vars_lines_narrow procs vars names.1 fits.1)

header_narrow : (h : Header) → HeaderFits h → AllByRecursion IsNarrow (header_lines h)
header_narrow h fits = (omega arith, (omega (arith, names_narrow h.procs fits.procs.each, fits.procs.few), vars_lines_narrow h.procs h.vars fits.procs.each fits.vars))

events_narrow : (h : Header) (line : ℕ) (es : List Event) → HeaderFits h → EventsFit h line es → AllByRecursion IsNarrow (event_lines h es)
events_narrow h line [] header fits = tt
events_narrow h line (e ∷ es) header fits = (event_narrow (line_of h e) (line_fits h e header fits.0.0) (omega (arith, clock_few h e fits.0.0, header.procs.few)), events_narrow h (line + 1) es header fits.1)

closing_narrow : (rest : List (List Event)) → IsNarrow (closing_line rest)
closing_narrow [] = omega arith
closing_narrow (b ∷ rest) = omega arith

batches_narrow : (h : Header) (line : ℕ) (bs : List (List Event)) → HeaderFits h → BatchesFit h line bs → AllByRecursion IsNarrow (batch_lines h bs)
batches_narrow h line [] header fits = tt
batches_narrow h line (b ∷ rest) header fits = all_append IsNarrow (event_lines h b) (closing_line rest ∷ batch_lines h rest) (events_narrow h line b header fits.0) (closing_narrow rest, batches_narrow h (line + length b + 1) rest header fits.1)

pub log_narrow : (log : Log) → LogFits log → AllByRecursion IsNarrow (lines_of log)
log_narrow log fits = all_append IsNarrow (header_lines log.header) (batch_lines log.header log.batches) (header_narrow log.header fits.header) (batches_narrow log.header (length (header_lines log.header) + 1) log.batches fits.header fits.batches)
