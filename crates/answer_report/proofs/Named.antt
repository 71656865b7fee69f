-- The name of a process's number stands for the process.
use Rattle.std.proofs.Common.{◌≡◌, ℕ, ◌≤◌, true, List, [], ◌∷◌, length, refl, sym, ◌∙◌, ap, subst, arith, inl, inr}
use Rattle.std.specs.Prelude.{◌⊎◌}
use Rattle.std.specs.List.{AllByRecursion}
use Rattle.std.proofs.lemmas.Bool.{cases_lt, false≢true}
use Rattle.std.proofs.lemmas.List.{get_or_past}
use Rattle.run_model.specs.Cut.{Clocks}
use Rattle.run_model.specs.Run.{Name, number_of}
use Rattle.run_model.specs.Slice.{Slice}
use Rattle.run_model.specs.Witness as W
use Rattle.run_model.specs.Witness.{ExistsNext, IsCanonical}
use Rattle.pota_names.specs.Names.{is_name}
use Rattle.event_log.specs.States.{AreWhole}
use Rattle.event_log.proofs.NameNumbers.{names_are, number_again}
use Rattle.trace_growth.specs.Growing.{IsTrace}
use Rattle.vector_clock.proofs.Growth.{length-clocks_of}
use Rattle.rctl_parts.specs.Spelled.{numbered_name}
use Rattle.part_pulls.specs.declared.observed.Observed.{Observed}
use Rattle.part_pulls.specs.Observing.{Reading, clocks_seen, run_seen, names_seen}

-- of so many processes both numbers are that of one, or neither is that of any
abbrev pub AreOfOneProcess : ℕ → ℕ → ℕ → Type 0
AreOfOneProcess count p q = (p ≡ q) ⊎ ((count ≤ p) × (count ≤ q))

-- no process has the empty name
nameless : (names : List Name) → AllByRecursion (λ n. is_name n ≡ true) names → number_of [] names ≡ length names
nameless [] spelled = refl
nameless ([] ∷ names) spelled = absurd (false≢true spelled.0)
nameless ((b ∷ name) ∷ names) spelled = let rest = nameless names spelled.1 in omega (arith, rest)

pub named : (seen : Observed) → IsTrace seen.trace.states → (reading : Reading) → AllByRecursion (λ n. is_name n ≡ true) seen.trace.states.header.procs
    → (p : ℕ) → AreOfOneProcess (length (clocks_seen seen)) p ((run_seen seen reading).process (numbered_name (names_seen seen reading).processes p))
named seen trace reading spelled p = elim (cases_lt p (length names)) [
  | inl there ↦ inl (sym (number_is ∙ number_again names p whole.header.distinct there))
  | inr past ↦
      let none : numbered_name names p ≡ [] = get_or_past names p [] past in
      let number = number_is ∙ ap (λ name. number_of name names) none ∙ nameless names spelled in
      inr (omega (arith, past, count), omega (arith, number, count))
]
  where
    names : List Name
    names = seen.trace.states.header.procs

    whole : AreWhole seen.trace.states
    whole = trace.whole

    number_is : (run_seen seen reading).process (numbered_name names p) ≡ number_of (numbered_name names p) names
    number_is = ap (number_of (numbered_name names p)) (names_are seen.trace.states whole.header.vars whole.events)

    count : length (clocks_seen seen) ≡ length names
    count = ap length trace.clocks ∙ length-clocks_of seen.trace.states.events ∙ whole.events

-- ---- the witness of the next event

neither_next : (o : Clocks) (s : Slice) (p q : ℕ) → length o ≤ p → length o ≤ q → (w : W.Witness) → IsCanonical o s (ExistsNext p) w → IsCanonical o s (ExistsNext q) w
neither_next o s p q before behind _ (W.IsCanonical.reaches_next first) = absurd (omega (arith, first.0, before))
neither_next o s p q before behind _ (W.IsCanonical.never_next none) = W.IsCanonical.never_next (λ first. omega (arith, first.0, behind))

-- the witness for a number is that for another of the process
pub same_next : (o : Clocks) (s : Slice) (p q : ℕ) → AreOfOneProcess (length o) p q → (w : W.Witness) → IsCanonical o s (ExistsNext p) w → IsCanonical o s (ExistsNext q) w
same_next o s p q (inl same) w is = subst (λ (i : ℕ). IsCanonical o s (ExistsNext i) w) same is
same_next o s p q (inr none) w is = neither_next o s p q none.0 none.1 w is
