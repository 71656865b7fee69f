-- What an operator makes of two sets that have the same consistent cuts, and what it means.
use Rattle.std.proofs.Common.{◌≡◌, ℕ, ◌<◌, List, [], ◌∷◌, length, sym, ◌∙◌, ap, subst, arith}
use Rattle.std.specs.Prelude.{◌↔◌}
use Rattle.std.proofs.lemmas.List.{length-map}
use Rattle.event_log.specs.declared.log.Event.{Event}
use Rattle.event_log.proofs.NameNumbers.{names_are, number_again}
use Rattle.run_model.specs.Cut.{Cut, Clocks, lengths, with_next}
use Rattle.run_model.specs.Consistent.{IsConsistent, IsPath}
use Rattle.run_model.specs.Sublattice.{AllIn}
use Rattle.run_model.specs.Operators.{EfHolds, AgHolds, EgHolds, ExHolds}
use Rattle.run_model.specs.Formula.{Formula}
use Rattle.run_model.specs.Meaning.{Sat}
use Rattle.run_model.specs.Run as run
use Rattle.run_model.proofs.Counts.{length-lengths}
use Rattle.trace_growth.specs.Growing.{IsTrace}
use Rattle.rctl_grammar.specs.declared.tree.Operator.{Operator}
use Rattle.rctl_grammar.specs.declared.tree.Operator.TheVariants as operator
use Rattle.rctl_parts.specs.MadeFor.{OperatorFits}
use Rattle.rctl_parts.specs.Spelled.{numbered_name, operated}
use Rattle.part_pulls.specs.declared.observed.Observed.{Observed}
use Rattle.part_pulls.specs.Observing.{Reading, clocks_seen, run_seen, names_seen, scope_seen}
use Rattle.part_pulls.specs.Operating.{Operated, FitsProcesses}
use Rattle.part_pulls.proofs.Atoms.{there, lens_same}

-- both ends of a path are consistent
path_ends : (o : Clocks) (c : Cut) (es : List Cut) (d : Cut) → IsPath o c es d → IsConsistent o d
path_ends o c [] d path = subst (IsConsistent o) path.1 path.0
path_ends o c (e ∷ es) d path = path_ends o e es d path.2

-- each cut of a path is consistent
all_same : (o : Clocks) (A B : Cut → Type 0) → ((c : Cut) → IsConsistent o c → A c → B c) → (c : Cut) (es : List Cut) (d : Cut) → IsPath o c es d → AllIn A c es → AllIn B c es
all_same o A B same c [] d path all = same c path.0 all
all_same o A B same c (e ∷ es) d path all = (same c path.0 all.0, all_same o A B same e es d path.2 all.1)

pub some_time_same : (o : Clocks) (A B : Cut → Type 0) → ((c : Cut) → IsConsistent o c → A c → B c) → (c : Cut) → EfHolds o A c → EfHolds o B c
some_time_same o A B same c (es, d, path, here) = (es, d, path, same d (path_ends o c es d path) here)

pub each_time_same : (o : Clocks) (A B : Cut → Type 0) → ((c : Cut) → IsConsistent o c → A c → B c) → (c : Cut) → AgHolds o A c → AgHolds o B c
each_time_same o A B same c each es d path = all_same o A B same c es d path (each es d path)

pub staying_same : (o : Clocks) (A B : Cut → Type 0) → ((c : Cut) → IsConsistent o c → A c → B c) → (c : Cut) → EgHolds o A c → EgHolds o B c
staying_same o A B same c (es, path, all) = (es, path, all_same o A B same c es (lengths o) path all)

pub next_time_same : (o : Clocks) (i : ℕ) (A B : Cut → Type 0) → ((c : Cut) → IsConsistent o c → A c → B c) → (c : Cut) → ExHolds o i A c → ExHolds o i B c
next_time_same o i A B same c (there, path, here) = (there, path, same (with_next c i) (path_ends o c (with_next c i ∷ []) (with_next c i) path) here)

-- the operator makes the same of both
pub operated_same : (o : Clocks) (kind : Operator) (A B : Cut → Type 0) → ((c : Cut) → IsConsistent o c → A c → B c) → (c : Cut) → Operated kind o A c → Operated kind o B c
operated_same o operator.Ef A B same c h = some_time_same o A B same c h
operated_same o operator.Ag A B same c h = each_time_same o A B same c h
operated_same o operator.Eg A B same c h = staying_same o A B same c h
operated_same o (operator.Ex process) A B same c h = next_time_same o process A B same c h
operated_same o operator.Af A B same c h = absurd h
operated_same o operator.Ax A B same c h = absurd h

-- the name of a process's number stands for the process
number_is : (seen : Observed) → IsTrace seen.trace.states → (reading : Reading) (p : ℕ) → p < length seen.trace.states.events
    → (run_seen seen reading).process (numbered_name (names_seen seen reading).processes p) ≡ p
number_is seen trace reading p there =
    let whole = trace.whole in
    ap (run.number_of (numbered_name (names_seen seen reading).processes p)) (names_are seen.trace.states whole.header.vars whole.events)
    ∙ number_again seen.trace.states.header.procs p whole.header.distinct (omega (arith, whole.events, there))

-- over a set that has the consistent cuts at which a formula is true, it is true exactly where the formula with the operator is
pub operated_means : (seen : Observed) → IsTrace seen.trace.states → (kind : Operator) (f : Formula) (A : Cut → Type 0) → OperatorFits (scope_seen seen) kind → (reading : Reading)
    → ((d : Cut) → IsConsistent (clocks_seen seen) d → A d ↔ Sat (run_seen seen reading) f d) → (c : Cut)
    → Operated kind (clocks_seen seen) A c ↔ Sat (run_seen seen reading) (operated (names_seen seen reading) kind f) c
operated_means seen trace kind f A fits reading same c = by_operator kind fits
  where
    to : (d : Cut) → IsConsistent (clocks_seen seen) d → A d → Sat (run_seen seen reading) f d
    to d consistent h = (same d consistent).0 h

    from : (d : Cut) → IsConsistent (clocks_seen seen) d → Sat (run_seen seen reading) f d → A d
    from d consistent h = (same d consistent).1 h

    over : (o : Operator) → Operated o (clocks_seen seen) A c ↔ Operated o (clocks_seen seen) (Sat (run_seen seen reading) f) c
    over o = (operated_same (clocks_seen seen) o A (Sat (run_seen seen reading) f) to c, operated_same (clocks_seen seen) o (Sat (run_seen seen reading) f) A from c)

    by_operator : (o : Operator) → OperatorFits (scope_seen seen) o → Operated o (clocks_seen seen) A c ↔ Sat (run_seen seen reading) (operated (names_seen seen reading) o f) c
    by_operator operator.Ef h = over operator.Ef
    by_operator operator.Ag h = over operator.Ag
    by_operator operator.Eg h = over operator.Eg
    by_operator (operator.Ex process) h =
        let number = number_is seen trace reading process (there seen trace process h) in
        let both = over (operator.Ex process) in (
          λ w. subst (λ (i : ℕ). ExHolds (clocks_seen seen) i (Sat (run_seen seen reading) f) c) (sym number) (both.0 w),
          λ w. both.1 (subst (λ (i : ℕ). ExHolds (clocks_seen seen) i (Sat (run_seen seen reading) f) c) number w),
        )
    by_operator operator.Af h = absurd h
    by_operator operator.Ax h = absurd h

-- the process of EX is one of the run's
pub processes_fit : (seen : Observed) → IsTrace seen.trace.states → (o : Operator) → OperatorFits (scope_seen seen) o → FitsProcesses (length (clocks_seen seen)) o
processes_fit seen trace operator.Ef h = tt
processes_fit seen trace operator.Ag h = tt
processes_fit seen trace operator.Eg h = tt
processes_fit seen trace (operator.Ex process) h =
    omega (arith, there seen trace process h, length-lengths (clocks_seen seen), ap length (lens_same seen trace), length-map seen.trace.states.events (λ (es : List Event). length es))
processes_fit seen trace operator.Af h = absurd h
processes_fit seen trace operator.Ax h = absurd h
