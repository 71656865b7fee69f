-- What atoms ask of cuts.
use Rattle.std.proofs.Common.{◌≡◌, ℕ, ◌+◌, ◌<◌, ◌≤◌, Bool, true, false, List, [], ◌∷◌, length, map, get_or, All, ℤ, ◌-ℤ◌, ◌≤ℤ◌, Option, Some, None, refl, sym, ◌∙◌, ap, subst, arith}
use Rattle.std.specs.Prelude.{◌↔◌, IsTrue, ◌==◌, unwrap_or, pos, neg_ℤ, ◌^◌, FitsSigned}
use Rattle.std.specs.Int.{w128}
use Rattle.std.proofs.lemmas.Int.{ints, fits_signed_from_abs}
use Rattle.std.proofs.Math.ListN.{get_or-map}
use Rattle.std.proofs.lemmas.List.{length-map}
use Rattle.event_log.specs.declared.log.Binding.{Binding}
use Rattle.event_log.specs.declared.log.Event.{Event}
use Rattle.trace_growth.specs.PassedOn.{clocks_of}
use Rattle.std.proofs.lemmas.Bool.Decides.{Decides-eqb}
use Rattle.run_model.specs.Cut.{Cut, Clocks, count, initial, lengths}
use Rattle.run_model.specs.Consistent.{IsConsistent}
use Rattle.run_model.specs.Meaning.{Sat}
use Rattle.run_model.proofs.Counts.{count-initial}
use Rattle.run_model.proofs.Orders.{initial_consistent}
use Rattle.event_log.specs.States.{StatesView}
use Rattle.trace_growth.specs.Growing.{IsTrace}
use Rattle.pull_system.specs.declared.pull.Pull.{Pull}
use Rattle.pull_system.specs.System.{IsPull}
use Rattle.pull_system.specs.Pulls.{ClosedUnder}
use Rattle.rctl_parts.specs.Exprs.{Expr}
use Rattle.rctl_parts.specs.Pieces.{Atom, Piece, atom, temporal, local, at_most, at_least, never, diff_at_most, diff_at_least}
use Rattle.rctl_parts.specs.MadeFor.{AtomFits, LocalFits, ExprFits, VariableFits}
use Rattle.rctl_parts.specs.Spelled.{atom_formula, numbered_name, variable_at}
use Rattle.local_preds.specs.LocalPulls.{constant_pulls_of}
use Rattle.local_preds.specs.LocalRuns.{constant_truth, FitsProcess}
use Rattle.local_preds.specs.Rows.{IsReadableAt, truths_of}
use Rattle.local_preds.specs.LocalPulls.{local_pull}
use Rattle.local_preds.proofs.Expressions.{fitting_readable, constant_readable, same_constant}
use Rattle.local_preds.proofs.RowSteps.{length-truths}
use Rattle.local_preds.proofs.Meaning.{local_means, constant_means, truth_at_cut}
use Rattle.local_preds.proofs.Truths.{constant_closes}
use Rattle.channel_preds.specs.Channels.{ChannelView, channel_of, FitsShape, IsWithinChannel}
use Rattle.channel_preds.specs.Channels.{sent_at, received_at, count_of, counts_of, sends_to}
use Rattle.channel_preds.specs.Channels.{receipts_from, events_at, at_most_pull, at_least_pull}
use Rattle.channel_preds.specs.declared.counted.Counted.{Counted}
use Rattle.channel_preds.specs.Truth.{lens_of}
use Rattle.std.proofs.lemmas.List.FromFn.{get_or-map-range_with_len}
use Rattle.channel_preds.proofs.Meaning.{at_most_means, at_least_means}
use Rattle.part_pulls.specs.declared.observed.Observed.{Observed}
use Rattle.part_pulls.specs.Observing.{Reading, AreAnswers, clocks_seen, lens_seen, run_seen, names_seen, scope_seen, AreFull}
use Rattle.part_pulls.specs.Systems.{is_atom, pulls_of_atom, IsAtomOf}
use Rattle.part_pulls.specs.Counters.{AllRise, counter, counters_of_atom}
use Rattle.part_pulls.proofs.Rising.{none_rise, left_rises, right_rises}
use Rattle.counter_preds.specs.declared.values.Variable.{Variable}
use Rattle.counter_preds.specs.Counters.{IsVariable, AreCounters, AreThere, value_in, value_within}
use Rattle.counter_preds.specs.Truth as counters
use Rattle.counter_preds.proofs.Meaning as counter_meaning
use Rattle.event_log.specs.Numbers.{binding_names}
use Rattle.run_model.specs.Run.{Name}
use Rattle.run_model.specs.Formula.{Difference, LessOrEqual, GreaterOrEqual}

counted : (events : List (List Event)) → map length (clocks_of events) ≡ map length events
counted [] = refl
counted (es ∷ events) = simp (length-map, counted events)

-- the lengths of the processes are those of their events
pub lens_same : (seen : Observed) → IsTrace seen.trace.states → lens_seen seen ≡ lens_of seen.trace.states
unfolding lengths
lens_same seen trace = ap (λ (o : Clocks). map length o) trace.clocks ∙ counted seen.trace.states.events

-- a process of the header has its list of events
pub there : (seen : Observed) → IsTrace seen.trace.states → (p : ℕ) → p < length (map length seen.trace.states.header.vars) → p < length seen.trace.states.events
there seen trace p h =
    omega (arith, trace.whole.events, trace.whole.header.vars, length-map seen.trace.states.header.vars (λ (vs : List Binding). length vs))

pub fits_process : (seen : Observed) (p : ℕ) (e : Expr) → ExprFits (get_or (map length seen.trace.states.header.vars) p 0) seen.watch_process p e
    → FitsProcess seen.trace.states seen.watch_process p e
fits_process seen p e h =
    subst (λ (n : ℕ). ExprFits n seen.watch_process p e) (get_or-map (λ (vs : List Binding). length vs) seen.trace.states.header.vars p []) h

few_constant : (lens : List ℕ) (value : Bool) → length (constant_pulls_of lens value) ≤ 1
few_constant lens true = omega arith
few_constant lens false = omega arith

pub few_pulls : (seen : Observed) (a : Atom) → length (pulls_of_atom seen a) ≤ 1
few_pulls seen (local None e) = few_constant (lens_of seen.trace.states) (constant_truth e)
few_pulls seen (local (Some p) e) = omega arith
few_pulls seen (at_most p q k) = omega arith
few_pulls seen (at_least p q k) = omega arith
few_pulls seen never = few_constant (lens_of seen.trace.states) false
few_pulls seen (diff_at_most p x q y k) = omega arith
few_pulls seen (diff_at_least p x q y k) = omega arith

first_within : (seen : Observed) → IsTrace seen.trace.states → (c : Cut) → IsConsistent (clocks_seen seen) c → count c 0 ≤ count (lens_of seen.trace.states) 0
first_within seen trace c consistent = subst (λ (lens : List ℕ). count c 0 ≤ count lens 0) (lens_same seen trace) (consistent.within 0)

-- the variable of a number is there, and its name is the header's
pub is_variable : (seen : Observed) → IsTrace seen.trace.states → (p x : ℕ) → VariableFits (scope_seen seen) p x → IsVariable seen.trace.states (counter p x)
is_variable seen trace p x fits = record {
  process = there seen trace p fits.0;
  variable = subst (λ (n : ℕ). x < n) (get_or-map (λ (vs : List Binding). length vs) seen.trace.states.header.vars p []) fits.1;
}

-- so of both sides of a difference, which never fall
pub are_counters : (seen : Observed) → IsTrace seen.trace.states → (left right : Variable) → VariableFits (scope_seen seen) left.process left.number → VariableFits (scope_seen seen) right.process right.number
    → AllRise seen (left ∷ right ∷ []) → AreCounters seen.trace.states left right
are_counters seen trace left right fits other rise = record {
  left = is_variable seen trace left.process left.number fits;
  right = is_variable seen trace right.process right.number other;
  left_rises = left_rises seen left right rise;
  right_rises = right_rises seen left right rise;
}

pub variable_name : (seen : Observed) (reading : Reading) (p x : ℕ) → variable_at (names_seen seen reading) p x ≡ counters.variable_of seen.trace.states (counter p x)
variable_name seen reading p x = ap (λ (names : List Name). numbered_name names x) (get_or-map binding_names seen.trace.states.header.vars p [])

-- an atom's pulls are closed at a consistent cut exactly where it is true there
pub meaning : (seen : Observed) → IsTrace seen.trace.states → (a : Atom) → AtomFits (scope_seen seen) a → AllRise seen (counters_of_atom a) → (reading : Reading) → AreAnswers seen reading
    → (c : Cut) → IsConsistent (clocks_seen seen) c → ClosedUnder (pulls_of_atom seen a) c ↔ Sat (run_seen seen reading) (atom_formula (names_seen seen reading) a) c
meaning seen trace (local None e) fits rise reading are c consistent =
    constant_means (run_seen seen reading) (names_seen seen reading) (lens_of seen.trace.states) e fits c (first_within seen trace c consistent)
meaning seen trace (local (Some p) e) fits rise reading are c consistent =
    local_means seen.trace.states reading.watches reading.watch_names seen.watch_process seen.watch_rows p e trace.whole (there seen trace p fits.1) (fits_process seen p e fits.2) (are.each p) c consistent
meaning seen trace (at_most p q k) fits rise reading are c consistent = at_most_means seen.trace.states reading.watches p q k trace.whole (there seen trace p fits.0) (there seen trace q fits.1) c consistent
meaning seen trace (at_least p q k) fits rise reading are c consistent =
    at_least_means seen.trace.states reading.watches p q k trace.whole (there seen trace p fits.0) (there seen trace q fits.1) (trace.run.receipts reading.watches) c consistent
meaning seen trace never fits rise reading are c consistent =
    let closes = constant_closes (lens_of seen.trace.states) false c (first_within seen trace c consistent) in
    (λ h. closes.0 h, λ h. closes.1 h)
meaning seen trace (diff_at_most p x q y k) fits rise reading are c consistent =
    let names = names_seen seen reading in
    let P : Name → Name → Type 0 = λ left right. ClosedUnder (pulls_of_atom seen (diff_at_most p x q y k)) c ↔ Sat (run_seen seen reading) (Difference (numbered_name names.processes p) left (numbered_name names.processes q) right LessOrEqual k) c in
    subst (λ (left : Name). P left (variable_at names q y)) (sym (variable_name seen reading p x))
    (subst (λ (right : Name). P (counters.variable_of seen.trace.states (counter p x)) right) (sym (variable_name seen reading q y))
    (counter_meaning.at_most_means seen.trace.states reading.watches (counter p x) (counter q y) k trace.whole (is_variable seen trace p x fits.0) (is_variable seen trace q y fits.1)
    (left_rises seen (counter p x) (counter q y) rise) (right_rises seen (counter p x) (counter q y) rise) c consistent))
meaning seen trace (diff_at_least p x q y k) fits rise reading are c consistent =
    let names = names_seen seen reading in
    let P : Name → Name → Type 0 = λ left right. ClosedUnder (pulls_of_atom seen (diff_at_least p x q y k)) c ↔ Sat (run_seen seen reading) (Difference (numbered_name names.processes p) left (numbered_name names.processes q) right GreaterOrEqual k) c in
    subst (λ (left : Name). P left (variable_at names q y)) (sym (variable_name seen reading p x))
    (subst (λ (right : Name). P (counters.variable_of seen.trace.states (counter p x)) right) (sym (variable_name seen reading q y))
    (counter_meaning.at_least_means seen.trace.states reading.watches (counter p x) (counter q y) k trace.whole (is_variable seen trace p x fits.0) (is_variable seen trace q y fits.1)
    (left_rises seen (counter p x) (counter q y) rise) (right_rises seen (counter p x) (counter q y) rise) c consistent))

pub atom_is : (seen : Observed) → IsTrace seen.trace.states → (a : Atom) → AtomFits (scope_seen seen) a → AllRise seen (counters_of_atom a) → (pulls : List Pull) (truth : Bool) → pulls ≡ pulls_of_atom seen a
    → All (IsPull (lens_of seen.trace.states)) pulls → IsTrue truth ↔ ClosedUnder pulls (initial (clocks_seen seen)) → IsAtomOf seen a pulls truth
atom_is seen trace a fits rise pulls truth own fit first = record {
  own = own;
  fit = subst (λ (lens : List ℕ). All (IsPull lens) pulls) (sym (lens_same seen trace)) fit;
  few = subst (λ (list : List Pull). length list ≤ 1) (sym own) (few_pulls seen a);
  meaning = means;
  at_first = λ reading are.
      let is = means reading are (initial (clocks_seen seen)) (initial_consistent (clocks_seen seen)) in
      (λ h. is.0 (first.0 h), λ h. first.1 (is.1 h));
}
  where
    means : (reading : Reading) → AreAnswers seen reading → (c : Cut) → IsConsistent (clocks_seen seen) c → ClosedUnder pulls c ↔ Sat (run_seen seen reading) (atom_formula (names_seen seen reading) a) c
    means reading are c consistent =
        subst (λ (list : List Pull). ClosedUnder list c ↔ Sat (run_seen seen reading) (atom_formula (names_seen seen reading) a) c) (sym own) (meaning seen trace a fits rise reading are c consistent)

-- a part that is no operator is an atom
pub atom_of : (p : Piece) → is_atom p ≡ true → (a : Atom) × (p ≡ atom a)
atom_of (atom a) h = (a, refl)
atom_of (temporal operator ps) h = absurd (cc)

-- what is known of an atom is known of whatever atom the part is
pub for_atom : (seen : Observed) (p : Piece) (b : Atom) (pulls : List Pull) (truth : Bool) → p ≡ atom b → IsAtomOf seen b pulls truth → (a : Atom) → p ≡ atom a → IsAtomOf seen a pulls truth
for_atom seen p b pulls truth is h a same = let e : b ≡ a = cc in subst (λ (c : Atom). IsAtomOf seen c pulls truth) e h

-- ---- local parts

-- the process of a local part, or process 0 where it has none, has what the expression reads
pub readable : (seen : Observed) → AreFull seen → (process : Option ℕ) (e : Expr) → LocalFits (scope_seen seen) process e
    → IsReadableAt seen.trace.states (unwrap_or process 0) seen.watch_rows e
readable seen full None e fits = constant_readable _ _ seen.watch_rows e fits
readable seen full (Some p) e fits = fitting_readable _ _ seen.watch_process seen.watch_rows p e (fits_process seen p e fits.2) (full.each p)

first_item : (row : List Bool) (b : Bool) → b ≡ get_or row 0 b → 0 < length row → get_or row 0 false ≡ b
first_item [] b h some = absurd (omega arith)
first_item (x ∷ row) b h some = sym h

-- the initial cut is within any lengths
none_at_first : (o : Clocks) (lens : List ℕ) (p : ℕ) → get_or (initial o) p 0 ≤ get_or lens p 0
none_at_first o lens p = omega (arith, count-initial o p)

pub local_some : (seen : Observed) → IsTrace seen.trace.states → (p : ℕ) (e : Expr) → LocalFits (scope_seen seen) (Some p) e → (row : List Bool)
    → row ≡ truths_of seen.trace.states p seen.watch_rows e → (pulls : List Pull) → pulls ≡ local_pull p row ∷ [] → All (IsPull (lens_of seen.trace.states)) pulls
    → ((v : List ℕ) → get_or v p 0 ≤ get_or (lens_of seen.trace.states) p 0 → ClosedUnder pulls v ↔ (get_or row (get_or v p 0) false ≡ true))
    → (truth : Bool) → truth ≡ get_or row 0 truth → IsAtomOf seen (local (Some p) e) pulls truth
local_some seen trace p e fits row row_is pulls own fit closed truth first =
    let o = clocks_seen seen in
    let some : 0 < length row = omega (arith, ap length row_is, length-truths seen.trace.states p seen.watch_rows e) in
    let start : get_or row (get_or (initial o) p 0) false ≡ truth = ap (λ i. get_or row i false) (count-initial o p) ∙ first_item row truth first some in
    let here = closed (initial o) (none_at_first o (lens_of seen.trace.states) p) in
    atom_is seen trace (local (Some p) e) fits (none_rise seen) pulls truth (own ∙ ap (λ r. local_pull p r ∷ []) row_is) fit
    (λ h. here.1 (start ∙ h), λ h. sym start ∙ here.0 h)

pub local_none : (seen : Observed) → IsTrace seen.trace.states → (e : Expr) → LocalFits (scope_seen seen) None e → (row : List Bool)
    → row ≡ truths_of seen.trace.states 0 seen.watch_rows e → (truth : Bool) → truth ≡ get_or row 0 truth → (pulls : List Pull)
    → pulls ≡ constant_pulls_of (lens_of seen.trace.states) truth → All (IsPull (lens_of seen.trace.states)) pulls
    → ((v : List ℕ) → get_or v 0 0 ≤ get_or (lens_of seen.trace.states) 0 0 → ClosedUnder pulls v ↔ (truth ≡ true)) → IsAtomOf seen (local None e) pulls truth
local_none seen trace e fits row row_is truth first pulls own fit closed =
    let o = clocks_seen seen in
    let some : 0 < length row = omega (arith, ap length row_is, length-truths seen.trace.states 0 seen.watch_rows e) in
    let truth_is : truth ≡ constant_truth e =
    sym (first_item row truth first some) ∙ ap (λ r. get_or r 0 false) row_is ∙ truth_at_cut seen.trace.states 0 seen.watch_rows e 0 (omega arith) ∙ same_constant _ _ _ _ e fits in
    let here = closed (initial o) (none_at_first o (lens_of seen.trace.states) 0) in
    atom_is seen trace (local None e) fits (none_rise seen) pulls truth (own ∙ ap (constant_pulls_of (lens_of seen.trace.states)) truth_is) fit (λ h. here.1 h, λ h. here.0 h)

pub never_is : (seen : Observed) → IsTrace seen.trace.states → (pulls : List Pull) → pulls ≡ constant_pulls_of (lens_of seen.trace.states) false
    → All (IsPull (lens_of seen.trace.states)) pulls → IsAtomOf seen never pulls false
never_is seen trace pulls own fit =
    let o = clocks_seen seen in
    let P : List Pull → Type 0 = λ list. IsTrue false ↔ ClosedUnder list (initial o) in
    let closes = constant_closes (lens_of seen.trace.states) false (initial o) (none_at_first o (lens_of seen.trace.states) 0) in
    atom_is seen trace never tt (none_rise seen) pulls false own fit (subst P (sym own) (λ h. closes.1 h, λ h. closes.0 h))

-- ---- channels

-- nothing is sent and nothing received at the initial cut
pub record IsQuiet (channel : ChannelView) (v : List ℕ) : Type 0 where
  pub within : IsWithinChannel channel v
  pub sent : sent_at channel v ≡ 0
  pub received : received_at channel v ≡ 0

no_count : (which : Counted) (events : List Event) → get_or (counts_of which events) 0 0 ≡ 0
no_count which events = get_or-map-range_with_len (count_of which events) 0 (length events + 1) 0 0 0 (omega arith) (omega arith)

pub quiet_at_first : (o : Clocks) (states : StatesView) (p q : ℕ) (lens : List ℕ) → FitsShape lens (channel_of states p q) → IsQuiet (channel_of states p q) (initial o)
quiet_at_first o states p q lens fits = record {
  within = record { sender = omega (arith, count-initial o p, fits.sent); receiver = omega (arith, count-initial o q, fits.received) };
  sent = ap (λ i. get_or (channel_of states p q).sent i 0) (count-initial o p) ∙ no_count (sends_to p q) (events_at states p);
  received = ap (λ i. get_or (channel_of states p q).received i 0) (count-initial o q) ∙ no_count (receipts_from p q) (events_at states q);
}

pub at_most_is : (seen : Observed) → IsTrace seen.trace.states → (p q k : ℕ) → AtomFits (scope_seen seen) (at_most p q k) → (channel : ChannelView)
    → channel ≡ channel_of seen.trace.states p q → FitsShape (lens_of seen.trace.states) channel → (pulls : List Pull) → pulls ≡ at_most_pull channel k ∷ []
    → All (IsPull (lens_of seen.trace.states)) pulls → ((v : List ℕ) → IsWithinChannel channel v → ClosedUnder pulls v ↔ (sent_at channel v ≤ received_at channel v + k))
    → IsAtomOf seen (at_most p q k) pulls true
at_most_is seen trace p q k fits channel channel_is shape pulls own fit closed =
    let o = clocks_seen seen in
    let quiet : IsQuiet channel (initial o) =
    subst (λ (c : ChannelView). IsQuiet c (initial o)) (sym channel_is) (quiet_at_first o seen.trace.states p q (lens_of seen.trace.states) (subst (FitsShape (lens_of seen.trace.states)) channel_is shape)) in
    let here = closed (initial o) quiet.within in
    let sent = quiet.sent in
    atom_is seen trace (at_most p q k) fits (none_rise seen) pulls true (own ∙ ap (λ c. at_most_pull c k ∷ []) channel_is) fit (λ h. here.1 (omega arith), λ h. refl)

pub at_least_is : (seen : Observed) → IsTrace seen.trace.states → (p q k : ℕ) → AtomFits (scope_seen seen) (at_least p q k) → (channel : ChannelView)
    → channel ≡ channel_of seen.trace.states p q → FitsShape (lens_of seen.trace.states) channel → (pulls : List Pull) → pulls ≡ at_least_pull channel k ∷ []
    → All (IsPull (lens_of seen.trace.states)) pulls → ((v : List ℕ) → IsWithinChannel channel v → ClosedUnder pulls v ↔ (received_at channel v + k ≤ sent_at channel v))
    → (truth : Bool) → truth ≡ (k == 0) → IsAtomOf seen (at_least p q k) pulls truth
at_least_is seen trace p q k fits channel channel_is shape pulls own fit closed truth truth_is =
    let o = clocks_seen seen in
    let quiet : IsQuiet channel (initial o) =
    subst (λ (c : ChannelView). IsQuiet c (initial o)) (sym channel_is) (quiet_at_first o seen.trace.states p q (lens_of seen.trace.states) (subst (FitsShape (lens_of seen.trace.states)) channel_is shape)) in
    let here = closed (initial o) quiet.within in
    let sent = quiet.sent in
    let received = quiet.received in
    let zero_is = Decides-eqb k 0 in
    atom_is seen trace (at_least p q k) fits (none_rise seen) pulls truth (own ∙ ap (λ c. at_least_pull c k ∷ []) channel_is) fit (
      λ h. let z : k ≡ 0 = zero_is.0 (sym truth_is ∙ h) in here.1 (omega arith),
      λ h. let low = here.0 h in truth_is ∙ zero_is.1 (omega arith),
    )

-- ---- differences

-- a bound has room in 128 bits
pub bound_fits : (k : ℤ) → neg_ℤ (pos (2 ^ 64)) ≤ℤ k → k ≤ℤ pos (2 ^ 64) → FitsSigned w128 k
bound_fits k low high = fits_signed_from_abs w128 k (omega (arith, ints, low, high))

-- at the initial cut the values are those of the header
value_first : (seen : Observed) (x : Variable) → value_within seen.trace.states x (initial (clocks_seen seen)) ≡ value_in seen.trace.states x 0
value_first seen x = ap (value_in seen.trace.states x) (count-initial (clocks_seen seen) x.process)

none_past : (seen : Observed) (left right : Variable) → AreThere seen.trace.states left right (initial (clocks_seen seen))
none_past seen left right = record {
  at_left = omega (arith, count-initial (clocks_seen seen) left.process);
  at_right = omega (arith, count-initial (clocks_seen seen) right.process);
}

first_difference : (seen : Observed) (left right : Variable)
    → (value_within seen.trace.states left (initial (clocks_seen seen)) -ℤ value_within seen.trace.states right (initial (clocks_seen seen))) ≡ (value_in seen.trace.states left 0 -ℤ value_in seen.trace.states right 0)
first_difference seen left right =
    ap (λ (z : ℤ). z -ℤ value_within seen.trace.states right (initial (clocks_seen seen))) (value_first seen left) ∙ ap (λ (z : ℤ). value_in seen.trace.states left 0 -ℤ z) (value_first seen right)

pub diff_at_most_is : (seen : Observed) → IsTrace seen.trace.states → (left right : Variable) (k : ℤ) → AtomFits (scope_seen seen) (diff_at_most left.process left.number right.process right.number k)
    → AllRise seen (left ∷ right ∷ []) → (pulls : List Pull) → pulls ≡ counters.at_most_pulls seen.trace.states left right k → All (IsPull (lens_of seen.trace.states)) pulls
    → ((v : List ℕ) → AreThere seen.trace.states left right v → ClosedUnder pulls v ↔ ((value_within seen.trace.states left v -ℤ value_within seen.trace.states right v) ≤ℤ k))
    → (truth : Bool) → IsTrue truth ↔ ((value_in seen.trace.states left 0 -ℤ value_in seen.trace.states right 0) ≤ℤ k) → IsAtomOf seen (diff_at_most left.process left.number right.process right.number k) pulls truth
diff_at_most_is seen trace left right k fits rise pulls own fit closed truth first =
    let here = closed (initial (clocks_seen seen)) (none_past seen left right) in
    let same = first_difference seen left right in
    atom_is seen trace (diff_at_most left.process left.number right.process right.number k) fits rise pulls truth own fit
    (λ h. here.1 (subst (λ z. z ≤ℤ k) (sym same) (first.0 h)), λ h. first.1 (subst (λ z. z ≤ℤ k) same (here.0 h)))

pub diff_at_least_is : (seen : Observed) → IsTrace seen.trace.states → (left right : Variable) (k : ℤ) → AtomFits (scope_seen seen) (diff_at_least left.process left.number right.process right.number k)
    → AllRise seen (left ∷ right ∷ []) → (pulls : List Pull) → pulls ≡ counters.at_least_pulls seen.trace.states left right k → All (IsPull (lens_of seen.trace.states)) pulls
    → ((v : List ℕ) → AreThere seen.trace.states left right v → ClosedUnder pulls v ↔ (k ≤ℤ (value_within seen.trace.states left v -ℤ value_within seen.trace.states right v)))
    → (truth : Bool) → IsTrue truth ↔ (k ≤ℤ (value_in seen.trace.states left 0 -ℤ value_in seen.trace.states right 0)) → IsAtomOf seen (diff_at_least left.process left.number right.process right.number k) pulls truth
diff_at_least_is seen trace left right k fits rise pulls own fit closed truth first =
    let here = closed (initial (clocks_seen seen)) (none_past seen left right) in
    let same = first_difference seen left right in
    atom_is seen trace (diff_at_least left.process left.number right.process right.number k) fits rise pulls truth own fit
    (λ h. here.1 (subst (λ z. k ≤ℤ z) (sym same) (first.0 h)), λ h. first.1 (subst (λ z. k ≤ℤ z) same (here.0 h)))
