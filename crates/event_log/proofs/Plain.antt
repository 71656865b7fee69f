-- No line of a log holds a line feed.
use Rattle.std.proofs.Common.{◌≡◌, ℕ, ℤ, pos, negsuc, suc, ◌+◌, ◌%◌, ◌^◌, ◌<◌, true, false, List, [], ◌∷◌, ◌++◌, length, refl, sym, subst, arith, inl, inr}
use Rattle.std.specs.Prelude.{◌==◌, FitsSigned}
use Rattle.std.specs.Int.{w64}
use Rattle.std.specs.List.{AllByRecursion, list_all}
use Rattle.std.specs.Fmt.{decimal, signed_decimal}
use Rattle.std.proofs.lemmas.Int.{ints}
use Rattle.std.proofs.lemmas.Bool.{ne_eqb, and_parts}
use Rattle.std.proofs.lemmas.Bool.Decides.{nat_tests}
use Rattle.std.proofs.lemmas.Fmt.{decimal_by_steps}
use Rattle.log_lines.specs.Names.{Name, is_name, is_name_byte}
use Rattle.log_lines.specs.Spelling.{NamedValue, ValueFits, Action, Internal, Send, Receive, ActionFits, EventLine, EventLineFits, VarsLine, VarsLineFits, names_text, values_text, clock_rest, clock_text, event_clock_text, action_text, vars_line, event_line}
use Rattle.log_lines.proofs.WordLaws.{name_parts}
use Rattle.event_log.specs.declared.log.Binding.{Binding}
use Rattle.event_log.specs.declared.log.Header.{Header}
use Rattle.event_log.specs.declared.log.Event.{Event}
use Rattle.event_log.specs.declared.log.Log.{Log}
use Rattle.event_log.specs.LogText.{values_of, line_of, vars_lines, header_lines, event_lines, closing_line, batch_lines, lines_of, BindingsFit, HeaderFits, EventsFit, BatchesFit, LogFits}
use Rattle.event_log.proofs.Lists.{all_append}
use Rattle.event_log.proofs.EventLaws.{line_fits}
use Rattle.event_log.specs.Before.{heading_of, IsVersion}
use Rattle.event_log.specs.Moments.{IsPlainByte, HasNoFeed}
use Rattle.event_log.proofs.WriteLaws.{vars_fit}

-- no number, name, list of either or clock has a line feed
pub decimal_plain : (n : ℕ) → n < 2 ^ 64 → HasNoFeed (decimal n)
decimal_plain n fits = decimal_by_steps (λ _ ds. HasNoFeed ds)
    (λ k low. (ne_eqb (48 + k) 10 (omega arith), tt))
    (λ k ds big ih. all_append IsPlainByte ds ((48 + k % 10) ∷ []) ih (ne_eqb (48 + k % 10) 10 (omega arith), tt))
    n fits

pub signed_plain : (z : ℤ) → FitsSigned w64 z → HasNoFeed (signed_decimal z)
signed_plain (pos n) fits = decimal_plain n (omega (arith, ints))
signed_plain (negsuc n) fits = (refl, decimal_plain (suc n) (omega (arith, ints)))

name_byte_plain : (b : ℕ) → is_name_byte b ≡ true → (b == 10) ≡ false
name_byte_plain b h = grind (arith, nat_tests)

bytes_plain : (bytes : List ℕ) → list_all is_name_byte bytes ≡ true → HasNoFeed bytes
bytes_plain [] h = tt
bytes_plain (b ∷ bs) h = let p = and_parts (is_name_byte b) (list_all is_name_byte bs) h in (name_byte_plain b p.0, bytes_plain bs p.1)

pub name_plain : (n : Name) → is_name n ≡ true → HasNoFeed n
name_plain n h = bytes_plain n (name_parts n h).bytes

pub names_plain : (ns : List Name) → AllByRecursion (λ n. is_name n ≡ true) ns → HasNoFeed (names_text ns)
names_plain [] fits = tt
names_plain (n ∷ ns) fits = (refl, all_append IsPlainByte n (names_text ns) (name_plain n fits.0) (names_plain ns fits.1))

pub values_plain : (vs : List NamedValue) → AllByRecursion ValueFits vs → HasNoFeed (values_text vs)
values_plain [] fits = tt
values_plain (v ∷ vs) fits = (refl, all_append IsPlainByte v.name (61 ∷ (signed_decimal v.value ++ values_text vs)) (name_plain v.name fits.0.name) (refl, all_append IsPlainByte (signed_decimal v.value) (values_text vs) (signed_plain v.value fits.0.value) (values_plain vs fits.1)))

clock_rest_plain : (ns : List ℕ) → AllByRecursion (λ n. n < 2 ^ 32) ns → HasNoFeed (clock_rest ns)
clock_rest_plain [] fits = tt
clock_rest_plain (n ∷ ns) fits = (refl, all_append IsPlainByte (decimal n) (clock_rest ns) (decimal_plain n (omega (arith, fits.0))) (clock_rest_plain ns fits.1))

pub clock_plain : (ns : List ℕ) → AllByRecursion (λ n. n < 2 ^ 32) ns → HasNoFeed (clock_text ns)
clock_plain [] fits = tt
clock_plain (n ∷ ns) fits = all_append IsPlainByte (decimal n) (clock_rest ns) (decimal_plain n (omega (arith, fits.0))) (clock_rest_plain ns fits.1)

event_clock_plain : (ns : List ℕ) → AllByRecursion (λ n. n < 2 ^ 32) ns → HasNoFeed (event_clock_text ns)
event_clock_plain [] fits = (refl, tt)
event_clock_plain (n ∷ ns) fits = clock_plain (n ∷ ns) fits

action_plain : (a : Action) → ActionFits a → HasNoFeed (action_text a)
action_plain Internal fits = (refl, (refl, (refl, tt)))
action_plain (Send to id) fits = (refl, (refl, (refl, (refl, (refl, all_append IsPlainByte to (32 ∷ decimal id) (name_plain to fits.0) (refl, decimal_plain id fits.1))))))
action_plain (Receive sender id) fits = (refl, (refl, (refl, (refl, (refl, all_append IsPlainByte sender (32 ∷ decimal id) (name_plain sender fits.0) (refl, decimal_plain id fits.1))))))

event_plain : (e : EventLine) → EventLineFits e → HasNoFeed (event_line e)
event_plain e fits = (
  refl,
  (
    refl,
    (
      refl,
      all_append IsPlainByte e.actor (32 ∷ (event_clock_text e.clock ++ 32 ∷ (action_text e.action ++ values_text e.assigns))) (name_plain e.actor fits.actor) (
        refl,
        all_append IsPlainByte (event_clock_text e.clock) (32 ∷ (action_text e.action ++ values_text e.assigns)) (event_clock_plain e.clock fits.clock)
            (refl, all_append IsPlainByte (action_text e.action) (values_text e.assigns) (action_plain e.action fits.action) (values_plain e.assigns fits.assigns.each)),
      ),
    ),
  ),
)

vars_plain : (v : VarsLine) → VarsLineFits v → HasNoFeed (vars_line v)
vars_plain v fits = (refl, (refl, (refl, (refl, (refl, all_append IsPlainByte v.process (values_text v.variables) (name_plain v.process fits.process) (values_plain v.variables fits.variables.each))))))

vars_lines_plain : (procs : List Name) (vars : List (List Binding)) → AllByRecursion (λ n. is_name n ≡ true) procs → AllByRecursion BindingsFit vars → AllByRecursion HasNoFeed (vars_lines procs vars)
vars_lines_plain procs [] names fits = tt
vars_lines_plain [] (v ∷ vars) names fits = tt
vars_lines_plain (p ∷ procs) ([] ∷ vars) names fits = vars_lines_plain procs vars names.1 fits.1
vars_lines_plain (p ∷ procs) ((b ∷ bs) ∷ vars) names fits = (vars_plain (record { process = p; variables = values_of (b ∷ bs) }) (vars_fit p b bs names.0 fits.0), vars_lines_plain procs vars names.1 fits.1)

heading_plain : (n : ℕ) → IsVersion n → HasNoFeed (heading_of n)
heading_plain n (inl one) = subst (λ (k : ℕ). HasNoFeed (heading_of k)) (sym one) (refl, (refl, (refl, (refl, (refl, (refl, (refl, (refl, (refl, (refl, tt))))))))))
heading_plain n (inr two) = subst (λ (k : ℕ). HasNoFeed (heading_of k)) (sym two) (refl, (refl, (refl, (refl, (refl, (refl, (refl, (refl, (refl, (refl, tt))))))))))

header_plain : (h : Header) → HeaderFits h → AllByRecursion HasNoFeed (header_lines h)
header_plain h fits = (heading_plain h.version fits.version, ((refl, (refl, (refl, (refl, (refl, names_plain h.procs fits.procs.each))))), vars_lines_plain h.procs h.vars fits.procs.each fits.vars))

events_plain : (h : Header) (line : ℕ) (es : List Event) → HeaderFits h → EventsFit h line es → AllByRecursion HasNoFeed (event_lines h es)
events_plain h line [] header fits = tt
events_plain h line (e ∷ es) header fits = (event_plain (line_of h e) (line_fits h e header fits.0.0), events_plain h (line + 1) es header fits.1)

closing_plain : (rest : List (List Event)) → HasNoFeed (closing_line rest)
closing_plain [] = (refl, (refl, (refl, tt)))
closing_plain (b ∷ rest) = (refl, (refl, (refl, (refl, (refl, tt)))))

batches_plain : (h : Header) (line : ℕ) (bs : List (List Event)) → HeaderFits h → BatchesFit h line bs → AllByRecursion HasNoFeed (batch_lines h bs)
batches_plain h line [] header fits = tt
batches_plain h line (b ∷ rest) header fits = all_append HasNoFeed (event_lines h b) (closing_line rest ∷ batch_lines h rest) (events_plain h line b header fits.0) (closing_plain rest, batches_plain h (line + length b + 1) rest header fits.1)

pub log_plain : (log : Log) → LogFits log → AllByRecursion HasNoFeed (lines_of log)
log_plain log fits = all_append HasNoFeed (header_lines log.header) (batch_lines log.header log.batches) (header_plain log.header fits.header) (batches_plain log.header (length (header_lines log.header) + 1) log.batches fits.header fits.batches)
