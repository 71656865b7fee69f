-- All instances, one after the other, and what their tally says.
use Rattle.std.proofs.Common.{◌≡◌, ◌↔◌, ℕ, zero, suc, ◌+◌, ◌*◌, ◌≤◌, ◌==◌, Bool, true, false, not, IsTrue, List, [], ◌∷◌, ◌++◌, length, Option, None, Some, if◌then◌else◌, cond, inl, inr, refl, sym, ap, ◌∙◌, subst, arith, append_assoc, length-append}
use Rattle.std.specs.List.{AllByRecursion, AllZip, filter}
use Rattle.run_model.specs.Run.{Watches}
use Rattle.part_pulls.specs.declared.observed.Observed.{Observed}
use Rattle.pota_base.specs.declared.fault.Refused.{Refused}
use Rattle.pota_base.specs.declared.fault.Refused.TheVariants as refused
use Rattle.pota_base.specs.Limits.{most_instances, most_processes}
use Rattle.question_text.specs.declared.head.Span.{Span}
use Rattle.asked_instances.specs.Instances.{AreInstances, IsInstance, IsKnownAs, Source, pairs_asked, pairs_below, pairs_of, pairs_with, singles_below, text_for}
use Rattle.asked_instances.specs.declared.asking.Instance.{Instance}
use Rattle.asked_instances.specs.declared.asking.Pair.{Pair}
use Rattle.instance_outcomes.specs.Answers.{AreKnown, CanBeAsked, HoldsFor, IsAnswered, IsFirstStop, IsKnownIn, IsStopOf, IsTally, Refuses}
use Rattle.instance_outcomes.specs.Tallies.{IsTallyOf, fails}
use Rattle.instance_outcomes.specs.declared.asking.InstanceFault.{InstanceFault}
use Rattle.instance_outcomes.specs.declared.tallied.Answered.{Answered}
use Rattle.instance_outcomes.specs.declared.tallied.Tally.{Tally}

-- ---- one more

zip_behind : (seen : Observed) (is : List Instance) (answers : List Answered) (i : Instance) (a : Answered) → AllZip (IsAnswered seen) is answers → IsAnswered seen i a
    → AllZip (IsAnswered seen) (is ++ i ∷ []) (answers ++ a ∷ [])
zip_behind seen [] [] i a each one = (one, tt)
zip_behind seen [] (b ∷ answers) i a each one = absurd each
zip_behind seen (j ∷ is) [] i a each one = absurd each
zip_behind seen (j ∷ is) (b ∷ answers) i a each one = (each.0, zip_behind seen is answers i a each.1 one)

can_each : (seen : Observed) (is : List Instance) (answers : List Answered) → AllZip (IsAnswered seen) is answers → AllByRecursion CanBeAsked is
can_each seen [] answers each = tt
can_each seen (i ∷ is) [] each = absurd each
can_each seen (i ∷ is) (a ∷ answers) each = (each.0.can, can_each seen is answers each.1)

as_many : (seen : Observed) (is : List Instance) (answers : List Answered) → AllZip (IsAnswered seen) is answers → length answers ≡ length is
as_many seen [] [] each = refl
as_many seen [] (a ∷ answers) each = absurd each
as_many seen (i ∷ is) [] each = absurd each
as_many seen (i ∷ is) (a ∷ answers) each = ap suc (as_many seen is answers each.1)

pub tally_more : (seen : Observed) (is : List Instance) (i : Instance) (a : Answered) (t u : Tally) → IsTally seen is t → IsAnswered seen i a
    → ((before : List Answered) → IsTallyOf before t → IsTallyOf (before ++ a ∷ []) u) → IsTally seen (is ++ i ∷ []) u
tally_more seen is i a t u so one more = record {
  answers = so.answers ++ a ∷ [];
  each = zip_behind seen is so.answers i a so.each one;
  counted = more so.answers so.counted;
}

pub asked_of_them : (seen : Observed) (is : List Instance) (t : Tally) → IsTally seen is t → t.asked ≡ length is
asked_of_them seen is t so = so.counted.asked ∙ as_many seen is so.answers so.each

known_behind : (before : List Instance) (i : Instance) (behind : List Instance) (P : Instance → Type 0) → AllByRecursion P (before ++ i ∷ behind) → P i
known_behind [] i behind P all = all.0
known_behind (j ∷ before) i behind P all = known_behind before i behind P all.1

pub next_of : (all yielded rest : List Instance) (i : Instance) (behind : List Instance) → all ≡ yielded ++ rest → rest ≡ i ∷ behind → all ≡ yielded ++ i ∷ behind
next_of all yielded rest i behind are is = are ∙ ap (λ l. yielded ++ l) is

pub joined : (all yielded : List Instance) (i : Instance) (behind : List Instance) → all ≡ yielded ++ i ∷ behind → all ≡ (yielded ++ i ∷ []) ++ behind
joined all yielded i behind are = are ∙ sym (append_assoc yielded (i ∷ []) behind)

pub few_before : (all before : List Instance) (i : Instance) (behind : List Instance) → all ≡ before ++ i ∷ behind → length all ≤ most_instances → length before + 1 ≤ most_instances
few_before all before i behind are few = omega (arith, ap length are, length-append before (i ∷ behind), few)

pub stops_first : (seen : Observed) (all before : List Instance) (i : Instance) (behind : List Instance) (t : Tally) (stop : Refused InstanceFault) → all ≡ before ++ i ∷ behind → IsTally seen before t
    → Refuses stop (IsStopOf i) → Refuses stop (IsFirstStop all)
stops_first seen all before i behind t (refused.Fault f) are so is =
    record { before = before; here = i; behind = behind; among = are; each = can_each seen before so.answers so.each; stops = is }
stops_first seen all before i behind t refused.NoMemory are so is = is

-- ---- what the tally says

none_by : (seen : Observed) (watches : Watches) (i : Instance) (is : List Instance) (a : Answered) (failing : List Answered) (b : Bool) → a.outcome.holds ≡ b → (IsTrue a.outcome.holds → HoldsFor seen watches i)
    → (length failing ≡ 0 → AllByRecursion (HoldsFor seen watches) is) → length (cond (not b) (a ∷ failing) failing) ≡ 0 → AllByRecursion (HoldsFor seen watches) (i ∷ is)
none_by seen watches i is a failing true is_so here rest none = (here is_so, rest none)
none_by seen watches i is a failing false is_so here rest none = absurd (omega (arith, none))

none_fail : (seen : Observed) (watches : Watches) (is : List Instance) (answers : List Answered) → AllZip (IsAnswered seen) is answers → length (filter fails answers) ≡ 0
    → AllByRecursion (HoldsFor seen watches) is
none_fail seen watches [] answers each none = tt
none_fail seen watches (i ∷ is) [] each none = absurd each
none_fail seen watches (i ∷ is) (a ∷ answers) each none =
    none_by seen watches i is a (filter fails answers) a.outcome.holds refl (each.0.holds watches).0 (none_fail seen watches is answers each.1) none

held_by : (a : Answered) (failing : List Answered) (b : Bool) → IsTrue b → length failing ≡ 0 → length (cond (not b) (a ∷ failing) failing) ≡ 0
held_by a failing true holds rest = rest
held_by a failing false holds rest = absurd cc

each_holds : (seen : Observed) (watches : Watches) (is : List Instance) (answers : List Answered) → AllZip (IsAnswered seen) is answers → AllByRecursion (HoldsFor seen watches) is
    → length (filter fails answers) ≡ 0
each_holds seen watches [] [] each all = refl
each_holds seen watches [] (a ∷ answers) each all = absurd each
each_holds seen watches (i ∷ is) [] each all = absurd each
each_holds seen watches (i ∷ is) (a ∷ answers) each all =
    held_by a (filter fails answers) a.outcome.holds ((each.0.holds watches).1 all.0) (each_holds seen watches is answers each.1 all.1)

pub none_fails : (seen : Observed) (is : List Instance) (t : Tally) → IsTally seen is t → (watches : Watches) → (t.fails ≡ 0) ↔ AllByRecursion (HoldsFor seen watches) is
none_fails seen is t so watches = (
  λ none. none_fail seen watches is so.answers so.each (sym so.counted.failing ∙ none),
  λ all. so.counted.failing ∙ each_holds seen watches is so.answers so.each all,
)

-- ---- the instances of a question over processes

instance_known : (s : Source) (p : Pair) (i : Instance) → s.watches ≡ [] → IsInstance s p i → IsKnownIn s.header i
instance_known s p i none is =
    subst (λ text. IsKnownAs s.header [] text i.question) (sym is.text) (subst (λ ws. IsKnownAs s.header ws (text_for s p) i.question) none is.known)

pub known : (s : Source) (ps : List Pair) (is : List Instance) → s.watches ≡ [] → AreInstances s ps is → AreKnown s.header is
known s [] [] none are = tt
known s [] (i ∷ is) none are = absurd are
known s (p ∷ ps) [] none are = tt
known s (p ∷ ps) (i ∷ is) none (inl both) = (instance_known s p i none both.0, known s ps is none both.1)
known s (p ∷ ps) (i ∷ is) none (inr both) = known s ps (i ∷ is) none both.1

no_more : (s : Source) (ps : List Pair) (is : List Instance) → AreInstances s ps is → length is ≤ length ps
no_more s [] [] are = omega arith
no_more s [] (i ∷ is) are = absurd are
no_more s (p ∷ ps) [] are = omega arith
no_more s (p ∷ ps) (i ∷ is) (inl both) = let rest = no_more s ps is both.1 in omega arith
no_more s (p ∷ ps) (i ∷ is) (inr both) = let rest = no_more s ps (i ∷ is) both.1 in omega arith

one_at_most : (same : Bool) (first second : ℕ) → length {A = Pair} (if same then [] else record { first = first; second = Some second } ∷ []) ≤ 1
one_at_most true first second = omega arith
one_at_most false first second = omega arith

with_few : (first count : ℕ) → length (pairs_with first count) ≤ count
with_few first zero = omega arith
with_few first (suc second) = omega (arith, with_few first second, one_at_most (first == second) first second, length-append {A = Pair} (pairs_with first second) (if first == second then [] else record { first = first; second = Some second } ∷ []))

below_few : (procs count : ℕ) → procs ≤ most_processes → length (pairs_below procs count) ≤ most_processes * count
below_few procs zero few = omega arith
below_few procs (suc first) few = omega (arith, few, below_few procs first few, with_few first procs, length-append (pairs_below procs first) (pairs_with first procs))

singles_few : (count : ℕ) → length (singles_below count) ≤ count
singles_few zero = omega arith
singles_few (suc first) = omega (arith, singles_few first, length-append {A = Pair} (singles_below first) (record { first = first; second = None } ∷ []))

pairs_few : (second : Option Span) (procs : ℕ) → procs ≤ most_processes → length (pairs_of second procs) ≤ most_instances
pairs_few None procs few = omega (arith, few, singles_few procs)
pairs_few (Some second) procs few = omega (arith, few, below_few procs procs few)

pub few : (s : Source) (is : List Instance) → length s.header.procs ≤ most_processes → AreInstances s (pairs_asked s) is → length is ≤ most_instances
few s is procs are = omega (arith, no_more s (pairs_asked s) is are, pairs_few s.over.second (length s.header.procs) procs)
