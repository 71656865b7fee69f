-- How a worked example is proved: by computing the listing.
use Rattle.std.proofs.Common.{◌≡◌, ℕ, zero, suc, ◌<◌, ◌↔◌, Bool, true, false, ◌&&◌, MatchBool, List, [], ◌∷◌, length, get_or, Contains, Some, None, refl, sym, subst, inl, inr, arith}
use Rattle.std.proofs.lemmas.Bool.{both_ways, and_parts, false≢true}
use Rattle.run_model.specs.Cut.{Cut, initial}
use Rattle.run_model.specs.Run.{Trace, Run, clocks_of}
use Rattle.run_model.specs.Formula.{Formula, Truth, Comparison, Watched, InTransit, Empty, Difference, Not, And, Or, Temporal, Next, Until, Formulas, Nil, Cons}
use Rattle.run_model.specs.Consistent.{IsOrder, IsConsistent}
use Rattle.run_model.specs.Sublattice.{IsSublattice, Smallest, given}
use Rattle.run_model.specs.Meaning.{IsRun, Family}
use Rattle.run_model.specs.Class.{is_conjunctive, IsKeptFor, AreKeptFor, IsRegularIn}
use Rattle.run_model.specs.Slice.{Edge, IsLeastOf, IsPrintedAs, edges_of}
use Rattle.run_model.specs.Worked.{stable, run_with_watch, HasVerdict, HasSlice, HasNoSlice}
use Rattle.run_model.proofs.Orders.{initial_consistent}
use Rattle.meaning_laws.proofs.RegularLemmas.{regular_closed}
use Rattle.run_model.proofs.TraceLemmas.{run_of_order}
use Rattle.meaning_laws.proofs.Listing.{IsIn, consistent_cuts, listed_consistent, consistent_listed, holds, holds_reads}
use Rattle.meaning_laws.proofs.ListedSlices.{ordered, ordered_is, least_listed, greatest_listed, family, listed_slice, listed_stands, listed_prints, closed_prints}

-- a formula without differences asks nothing of its run
abbrev mutual
  pub asks_nothing : Formula → Bool
  asks_nothing (Truth b) = true
  asks_nothing (Comparison process variable relation side) = true
  asks_nothing (Watched process watch) = true
  asks_nothing (InTransit sender receiver relation k) = true
  asks_nothing (Empty sender receiver) = true
  asks_nothing (Difference p x q y relation k) = false
  asks_nothing (Not f) = asks_nothing f
  asks_nothing (And fs) = all_ask_nothing fs
  asks_nothing (Or fs) = all_ask_nothing fs
  asks_nothing (Temporal operator f) = asks_nothing f
  asks_nothing (Next process f) = asks_nothing f
  asks_nothing (Until all left right) = asks_nothing left && asks_nothing right

  pub all_ask_nothing : Formulas → Bool
  all_ask_nothing Nil = true
  all_ask_nothing (Cons f fs) = asks_nothing f && all_ask_nothing fs

mutual
  pub kept_anyhow : (r : Run) (f : Formula) → asks_nothing f ≡ true → IsKeptFor r f
  kept_anyhow r (Truth b) h = tt
  kept_anyhow r (Comparison process variable relation side) h = tt
  kept_anyhow r (Watched process watch) h = tt
  kept_anyhow r (InTransit sender receiver relation k) h = tt
  kept_anyhow r (Empty sender receiver) h = tt
  kept_anyhow r (Difference p x q y relation k) h = absurd (false≢true h)
  kept_anyhow r (Not f) h = kept_anyhow r f h
  kept_anyhow r (And fs) h = all_kept_anyhow r fs h
  kept_anyhow r (Or fs) h = all_kept_anyhow r fs h
  kept_anyhow r (Temporal operator f) h = kept_anyhow r f h
  kept_anyhow r (Next process f) h = kept_anyhow r f h
  kept_anyhow r (Until all left right) h = let both = and_parts (asks_nothing left) (asks_nothing right) h in (kept_anyhow r left both.0, kept_anyhow r right both.1)

  all_kept_anyhow : (r : Run) (fs : Formulas) → all_ask_nothing fs ≡ true → AreKeptFor r fs
  all_kept_anyhow r Nil h = tt
  all_kept_anyhow r (Cons f fs) h = let both = and_parts (asks_nothing f) (all_ask_nothing fs) h in (kept_anyhow r f both.0, all_kept_anyhow r fs both.1)

-- regular in whichever run
abbrev pub is_regular_anyhow : Formula → Bool
is_regular_anyhow f = is_conjunctive true f && asks_nothing f

pub regular_anyhow : (r : Run) (f : Formula) → is_regular_anyhow f ≡ true → IsRegularIn r f
regular_anyhow r f h = let both = and_parts (is_conjunctive true f) (asks_nothing f) h in record { form = both.0; kept = kept_anyhow r f both.1 }

pub verdict_by_listing : (trace : Trace) (f : Formula) (verdict : Bool) → ordered (clocks_of trace) ≡ true → holds (run_with_watch trace) (consistent_cuts (run_with_watch trace).clocks) f (initial (run_with_watch trace).clocks) ≡ verdict → HasVerdict trace f verdict
verdict_by_listing trace f true o h = (holds_reads (run_with_watch trace) (ordered_is (clocks_of trace) o) f (initial (clocks_of trace)) (initial_consistent (clocks_of trace))).0 h
verdict_by_listing trace f false o h = λ t. both_ways (holds (run_with_watch trace) (consistent_cuts (run_with_watch trace).clocks) f (initial (run_with_watch trace).clocks)) h ((holds_reads (run_with_watch trace) (ordered_is (clocks_of trace) o) f (initial (clocks_of trace)) (initial_consistent (clocks_of trace))).1 t)

shown_prints : (r : Run) (f : Formula) (low high : Cut) (edges : List Edge) → (is_conjunctive true f ≡ true → IsSublattice r.clocks (Family r f)) → IsPrintedAs r.clocks (Smallest (Family r f)) low high edges → (b : Bool) → is_conjunctive true f ≡ b → IsPrintedAs r.clocks (λ c. MatchBool b (Family r f c) (Smallest (Family r f) c)) low high edges
shown_prints r f low high edges closed k true e = closed_prints r f low high edges (closed e) k
shown_prints r f low high edges closed k false e = k

pub slice_by_listing : (trace : Trace) (f : Formula) (low high : Cut) (edges : List Edge) → ordered (clocks_of trace) ≡ true → asks_nothing f ≡ true
    → least_listed (family (run_with_watch trace) f) ≡ Some low → greatest_listed (family (run_with_watch trace) f) ≡ Some high → edges ≡ edges_of (clocks_of trace) (listed_slice (run_with_watch trace) f) high
    → HasSlice trace f low high edges
slice_by_listing trace f low high edges o asks e g h =
    let order = ordered_is (clocks_of trace) o in
    shown_prints (run_with_watch trace) f low high edges (λ t. regular_closed (run_with_watch trace) (run_of_order trace (λ name states. stable states) order) f (record { form = t; kept = kept_anyhow (run_with_watch trace) f asks })) (listed_prints (run_with_watch trace) order f low high edges e g h) (is_conjunctive true f) refl

nothing_listed : (r : Run) → IsOrder r.clocks → (f : Formula) → least_listed (family r f) ≡ None → (c : Cut) → Smallest (Family r f) c → ⊥
nothing_listed r order f e c h = subst (IsLeastOf (Smallest (Family r f))) e (listed_stands r order f).bottom c h

shown_nowhere : (r : Run) (f : Formula) → ((c : Cut) → Smallest (Family r f) c → ⊥) → (b : Bool) (c : Cut) → MatchBool b (Family r f c) (Smallest (Family r f) c) → ⊥
shown_nowhere r f none true c h = none c (given h)
shown_nowhere r f none false c h = none c h

pub no_slice_by_listing : (trace : Trace) (f : Formula) → ordered (clocks_of trace) ≡ true → least_listed (family (run_with_watch trace) f) ≡ None → HasNoSlice trace f
no_slice_by_listing trace f o e c h = shown_nowhere (run_with_watch trace) f (nothing_listed (run_with_watch trace) (ordered_is (clocks_of trace) o) f e) (is_conjunctive true f) c h

pub run_by_listing : (trace : Trace) → ordered (clocks_of trace) ≡ true → IsRun (run_with_watch trace)
run_by_listing trace o = run_of_order trace (λ name states. stable states) (ordered_is (clocks_of trace) o)

in_contains : (c : Cut) (cs : List Cut) → IsIn c cs → Contains cs c
in_contains c [] h = absurd h
in_contains c (d ∷ ds) h = elim h [
  | inl e ↦ (0, omega arith, sym e)
  | inr k ↦ let w = in_contains c ds k in (suc w.0, omega (arith, w.1), w.2)
]

contains_in : (c : Cut) (cs : List Cut) (k : ℕ) → k < length cs → get_or cs k c ≡ c → IsIn c cs
contains_in c [] k l e = absurd (omega (arith, l))
contains_in c (d ∷ ds) zero l e = inl (sym e)
contains_in c (d ∷ ds) (suc k) l e = inr (contains_in c ds k (omega (arith, l)) e)

pub cuts_by_listing : (trace : Trace) (cs : List Cut) → consistent_cuts (clocks_of trace) ≡ cs → (c : Cut) → IsConsistent (clocks_of trace) c ↔ Contains cs c
cuts_by_listing trace cs e c = (
  λ k. in_contains c cs (subst (IsIn c) e (listed_consistent (clocks_of trace) c k)),
  λ h. consistent_listed (clocks_of trace) c (subst (IsIn c) (sym e) (contains_in c cs h.0 h.1 h.2)),
)
