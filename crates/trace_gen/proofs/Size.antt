-- The text of the log that is made is small enough.
use Rattle.std.proofs.Common.{◌≡◌, ℕ, zero, suc, ◌+◌, ◌*◌, ◌^◌, ◌<◌, ◌≤◌, true, List, [], ◌∷◌, ◌++◌, length, map, replicate, refl, sym, subst, arith, inl, inr, length-append}
use Rattle.std.specs.Fmt.{decimal, digits}
use Rattle.std.specs.Prelude.{nat_lt}
use Rattle.std.specs.List.{AllByRecursion}
use Rattle.std.proofs.lemmas.Bool.{and_parts, ltb-true}
use Rattle.std.proofs.lemmas.Fmt.{length-decimal-le}
use Rattle.pota_base.specs.Limits.{longest_log, longest_name, most_events, most_processes}
use Rattle.log_lines.specs.Names.{Name, is_name, is_name_start}
use Rattle.log_lines.specs.Spelling.{names_text, values_text, clock_rest, event_clock_text, action_text, event_line, procs_line, vars_line, end_line}
use Rattle.event_log.specs.declared.log.Assign.{Assign}
use Rattle.event_log.specs.declared.log.Header.{Header}
use Rattle.event_log.specs.declared.log.Kind.{Kind}
use Rattle.event_log.specs.declared.log.Kind.TheVariants as kind
use Rattle.event_log.specs.Before.{Line, heading_of}
use Rattle.event_log.specs.LogText.{name_at, named, values_of, action_of, line_of, vars_lines, header_lines, event_lines, batch_lines, text_of, log_text, KindFits}
use Rattle.event_log.specs.Numbers.{variables_at}
use Rattle.event_log.specs.States.{with_event}
use Rattle.vector_clock.specs.Events.{Events, no_events}
use Rattle.trace_gen.specs.Words.{word, first_state, next_state}
use Rattle.trace_gen.specs.Making.{Processes, seen_is, made}
use Rattle.trace_gen.specs.Generated.{name_of, names_from, opening, header_of, events_from, at_rest, generated, generated_events}
use Rattle.trace_gen.proofs.Steps.{Going}
use Rattle.trace_gen.proofs.Choices.{HasAssigns, IsMadeWell, made_well}
use Rattle.trace_gen.proofs.Clear.{start_going}
use Rattle.trace_gen.proofs.Fits.{event_width, event_fits, vars_at}
use Rattle.trace_gen.proofs.Naming.{names_are}

-- ---- parts of a line

name_short : (name : Name) → is_name name ≡ true → length name ≤ longest_name
name_short [] h = omega arith
name_short (b ∷ rest) h =
    let parts = and_parts (is_name_start b) _ h in
    let short = and_parts (nat_lt (length rest) longest_name) _ parts.1 in
    omega (arith, ltb-true (length rest) longest_name short.0)

short_at : (names : List Name) (i : ℕ) → AllByRecursion (λ name. is_name name ≡ true) names → length (name_at names i) ≤ longest_name
short_at [] i all = omega arith
short_at (n ∷ names) zero all = name_short n all.0
short_at (n ∷ names) (suc i) all = short_at names i all.1

number_short : (n : ℕ) → n < 2 ^ 64 → length (decimal n) ≤ 20
number_short n low = length-decimal-le 20 n (omega arith) (omega arith) low

rest_short : (c : List ℕ) → AllByRecursion (λ n. n < 2 ^ 32) c → length (clock_rest c) ≤ 21 * length c
rest_short [] all = omega arith
rest_short (n ∷ c) all = omega (arith, length-append (decimal n) (clock_rest c), number_short n (omega (arith, all.0)), rest_short c all.1)

clock_short : (c : List ℕ) → AllByRecursion (λ n. n < 2 ^ 32) c → length (event_clock_text c) ≤ 21 * length c + 1
clock_short [] all = omega arith
clock_short (n ∷ c) all = omega (arith, length-append (decimal n) (clock_rest c), number_short n (omega (arith, all.0)), rest_short c all.1)

peer_short : (name : Name) (id : ℕ) → length name ≤ longest_name → id < 2 ^ 64 → length (name ++ 32 ∷ decimal id) ≤ 85
peer_short name id short low = omega (arith, length-append name (32 ∷ decimal id), number_short id low, short)

action_short : (names : List Name) (n i : ℕ) (k : Kind) → AllByRecursion (λ name. is_name name ≡ true) names → KindFits n i k → length (action_text (action_of names k)) ≤ 90
action_short names n i kind.Internal all fits = omega arith
action_short names n i (kind.Send to id) all fits = omega (arith, peer_short (name_at names to) id (short_at names to all) fits.2)
action_short names n i (kind.Receive sender id) all fits = omega (arith, peer_short (name_at names sender) id (short_at names sender all) fits.2)

assigns_short : (k : ℕ) (assigns : List Assign) → k < most_events → HasAssigns k assigns → length (values_text (map (named opening) assigns)) ≤ 60
assigns_short k assigns limit has = elim has.are [
  | inl is ↦ subst Short (sym is) (omega (arith, length-append (decimal has.n) [], number_short has.n (omega (arith, has.n_low))))
  | inr is ↦
      let seen : length (values_text (map (named opening) (seen_is has.seen ∷ []))) ≤ 30 =
      omega (arith, length-append (decimal has.seen) [], number_short has.seen (omega (arith, has.seen_low))) in
      subst Short (sym is) (omega (arith, length-append (decimal has.n) (values_text (map (named opening) (seen_is has.seen ∷ []))), number_short has.n (omega (arith, has.n_low)), seen))
]
  where
    Short : List Assign → Type 0
    Short list = length (values_text (map (named opening) list)) ≤ 60

-- ` n=0 seen=0`
opening_text : length (values_text (values_of opening)) ≡ 11
unfolding digits
opening_text = refl

-- ---- lines

joined : (actor clock action values : List ℕ) → length (actor ++ 32 ∷ (clock ++ 32 ∷ (action ++ values))) ≡ length actor + length clock + length action + length values + 2
joined actor clock action values =
    omega (arith, length-append actor (32 ∷ (clock ++ 32 ∷ (action ++ values))), length-append clock (32 ∷ (action ++ values)), length-append action values)

line_more : (line : Line) (lines : List Line) → length (text_of (line ∷ lines)) ≡ length line + 1 + length (text_of lines)
line_more line lines = omega (arith, length-append line (10 ∷ text_of lines))

text_both : (xs ys : List Line) → length (text_of (xs ++ ys)) ≡ length (text_of xs) + length (text_of ys)
text_both [] ys = omega arith
text_both (x ∷ xs) ys = omega (arith, line_more x (xs ++ ys), line_more x xs, text_both xs ys)

names_short : (i n : ℕ) → AllByRecursion (λ name. is_name name ≡ true) (names_from i n) → length (names_text (names_from i n)) ≤ 65 * n
names_short i zero all = omega arith
names_short i (suc n) all = omega (arith, length-append (name_of i) (names_text (names_from (i + 1) n)), name_short (name_of i) all.0, names_short (i + 1) n all.1)

vars_short : (i n : ℕ) → AllByRecursion (λ name. is_name name ≡ true) (names_from i n) → length (text_of (vars_lines (names_from i n) (replicate n opening))) ≤ 120 * n
vars_short i zero all = omega arith
vars_short i (suc n) all =
    let name = name_of i in
    let line : length (vars_line (record { process = name; variables = values_of opening })) ≤ 100 = omega (arith, length-append name (values_text (values_of opening)), name_short name all.0, opening_text) in
    omega (arith, line_more (vars_line (record { process = name; variables = values_of opening })) (vars_lines (names_from (i + 1) n) (replicate n opening)), line, vars_short (i + 1) n all.1)

module _ (procs : ℕ) (some : 1 ≤ procs) (few : procs ≤ most_processes) where
  abbrev h : Header
  h = header_of procs

  event_short : (before : Events) (k w : ℕ) (ps : Processes) → k < most_events → IsMadeWell procs before k (made procs k w ps) → length (event_line (line_of h (made procs k w ps).event)) ≤ 1000
  event_short before k w ps limit well =
      let e = (made procs k w ps).event in
      let fits = event_fits procs some few before k w ps limit well in
      let all = names_are 0 procs (omega arith) in
      let values : length (values_text (map (named (variables_at h.vars e.process)) e.assigns)) ≤ 60 =
      subst (λ vars. length (values_text (map (named vars) e.assigns)) ≤ 60) (sym (vars_at procs some few e.process well.there)) (assigns_short k e.assigns limit well.assigns) in
      omega (
        arith,
        joined (name_at h.procs e.process) (event_clock_text e.clock) (action_text (action_of h.procs e.kind)) (values_text (map (named (variables_at h.vars e.process)) e.assigns)),
        short_at h.procs e.process all,
        clock_short e.clock fits.clock,
        event_width procs some few before k w ps well,
        action_short h.procs (length h.procs) e.process e.kind all fits.kind,
        values,
      )

  events_short : (n k s : ℕ) (before : Events) (ps : Processes) → k + n ≤ most_events → Going procs before k ps → length (text_of (event_lines h (events_from procs k n s ps))) ≤ 1001 * n
  unfolding events_from
  events_short zero k s before ps limit going = omega arith
  events_short (suc n) k s before ps limit going =
      let x = made procs k (word s) ps in
      let well = made_well procs before k (word s) ps some going in
      omega (
        arith,
        line_more (event_line (line_of h x.event)) (event_lines h (events_from procs (k + 1) n (next_state s) x.processes)),
        event_short before k (word s) ps (omega arith) well,
        events_short n (k + 1) (next_state s) (with_event before x.event) x.processes (omega arith) well.goes,
      )

  pub log_small : (seed events : ℕ) → events ≤ most_events → length (log_text (generated seed procs events)) ≤ longest_log
  log_small seed events limit =
      let all = names_are 0 procs (omega arith) in
      let es = generated_events seed procs events in
      let header : length (text_of (header_lines h)) ≤ 12 + (6 + 65 * procs) + 120 * procs =
      omega (arith, line_more (heading_of 1) (procs_line h.procs ∷ vars_lines h.procs h.vars), line_more (procs_line h.procs) (vars_lines h.procs h.vars), names_short 0 procs all, vars_short 0 procs all) in
      let body : length (text_of (batch_lines h (es ∷ []))) ≤ 1001 * events + 4 =
      omega (arith, text_both (event_lines h es) (end_line ∷ []), line_more end_line [], events_short events 0 (first_state seed) (no_events procs) (at_rest procs) (omega arith) (start_going procs)) in
      omega (arith, text_both (header_lines h) (batch_lines h (es ∷ [])), header, body)
