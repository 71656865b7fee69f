-- The pairs of processes that are asked about, and one more text behind the others.
use Rattle.std.proofs.Common.{◌≡◌, ℕ, zero, suc, ◌<◌, ◌≤◌, ◌==◌, Bool, true, false, if◌then◌else◌, inl, inr, List, [], ◌∷◌, ◌++◌, Some, sym, subst, arith}
use Rattle.std.specs.List.{AllByRecursion}
use Rattle.event_log.proofs.Lists.{all_append}
use Rattle.pota_base.specs.declared.fault.Refused.{Refused}
use Rattle.pota_base.specs.declared.fault.Refused.TheVariants as refused
use Rattle.question_forms.specs.Questions.{IsQuestionFault, Refuses}
use Rattle.question_forms.specs.declared.question.QuestionFault.{QuestionFault}
use Rattle.asked_instances.specs.declared.asking.Pair.{Pair}
use Rattle.asked_instances.specs.declared.asking.Instance.{Instance}
use Rattle.asked_instances.specs.Instances.{Source, AreInstances, IsInstance, HasNone, IsFirstFault, IsReadable, pairs_with, pairs_below, singles_below, text_for}
use Rattle.asked_instances.specs.inside.Adding.{AddsFor, CanName}

one_can : (procs first second : ℕ) (same : Bool) → first < procs → second < procs
    → AllByRecursion (CanName procs) (if same then [] else record { first = first; second = Some second } ∷ [])
one_can procs first second true low high = tt
one_can procs first second false low high = (record { first = low; second = high }, tt)

with_can : (procs first count : ℕ) → first < procs → count ≤ procs → AllByRecursion (CanName procs) (pairs_with first count)
with_can procs first zero low few = tt
with_can procs first (suc second) low few =
    all_append (CanName procs) (pairs_with first second) _ (with_can procs first second low (omega (arith, few))) (one_can procs first second (first == second) low (omega (arith, few)))

below_can : (procs count : ℕ) → count ≤ procs → AllByRecursion (CanName procs) (pairs_below procs count)
below_can procs zero few = tt
below_can procs (suc first) few =
    all_append (CanName procs) (pairs_below procs first) _ (below_can procs first (omega (arith, few))) (with_can procs first procs (omega (arith, few)) (omega arith))

singles_can : (procs count : ℕ) → count ≤ procs → AllByRecursion (CanName procs) (singles_below count)
singles_can procs zero few = tt
singles_can procs (suc first) few =
    all_append (CanName procs) (singles_below first) _ (singles_can procs first (omega (arith, few))) (record { first = omega (arith, few); second = tt }, tt)

-- the processes that are asked about are among them
pub each_can : (procs : ℕ) (pairs : List Pair) → pairs ≡ singles_below procs → AllByRecursion (CanName procs) pairs
each_can procs pairs is = subst (AllByRecursion (CanName procs)) (sym is) (singles_can procs procs (omega arith))

pub two_can : (procs : ℕ) (pairs : List Pair) → pairs ≡ pairs_below procs procs → AllByRecursion (CanName procs) pairs
two_can procs pairs is = subst (AllByRecursion (CanName procs)) (sym is) (below_can procs procs (omega arith))

-- ---- one pair more

some_more : (s : Source) (ps : List Pair) (is : List Instance) (p : Pair) (i : Instance) → AreInstances s ps is → IsInstance s p i → AreInstances s (ps ++ p ∷ []) (is ++ i ∷ [])
some_more s [] [] p i all one = inl (one, tt)
some_more s [] (j ∷ is) p i all one = absurd all
some_more s (q ∷ ps) [] p i all one = inr (all.0, some_more s ps [] p i all.1 one)
some_more s (q ∷ ps) (j ∷ is) p i (inl both) one = inl (both.0, some_more s ps is p i both.1 one)
some_more s (q ∷ ps) (j ∷ is) p i (inr both) one = inr (both.0, some_more s ps (j ∷ is) p i both.1 one)

none_more : (s : Source) (ps : List Pair) (is : List Instance) (p : Pair) → AreInstances s ps is → HasNone s p → AreInstances s (ps ++ p ∷ []) is
none_more s [] [] p all none = (none, tt)
none_more s [] (j ∷ is) p all none = absurd all
none_more s (q ∷ ps) [] p all none = (all.0, none_more s ps [] p all.1 none)
none_more s (q ∷ ps) (j ∷ is) p (inl both) none = inl (both.0, none_more s ps is p both.1 none)
none_more s (q ∷ ps) (j ∷ is) p (inr both) none = inr (both.0, none_more s ps (j ∷ is) p both.1 none)

pub one_more : (s : Source) (ps : List Pair) (before after : List Instance) (p : Pair) → AreInstances s ps before → AddsFor s p before after → AreInstances s (ps ++ p ∷ []) after
one_more s ps before after p all (inl some) = subst (AreInstances s (ps ++ p ∷ [])) (sym some.2) (some_more s ps before p some.0 all some.1)
one_more s ps before after p all (inr none) = subst (AreInstances s (ps ++ p ∷ [])) (sym none.1) (none_more s ps before p all none.0)

-- ---- the first fault

behind_instance : (s : Source) (p : Pair) (i : Instance) → IsInstance s p i → IsReadable (text_for s p)
behind_instance s p i is = (i.question, is.known.read)

behind_none : (s : Source) (p : Pair) → HasNone s p → IsReadable (text_for s p)
behind_none s p none = (none.0, none.1)

pub fault_behind : (s : Source) (ps : List Pair) (is : List Instance) (p : Pair) (rest : List Pair) (f : QuestionFault) → AreInstances s ps is → IsQuestionFault (text_for s p) f
    → IsFirstFault s (ps ++ p ∷ rest) f
fault_behind s [] is p rest f all fault = inl fault
fault_behind s (q ∷ ps) [] p rest f all fault = inr (behind_none s q all.0, fault_behind s ps [] p rest f all.1 fault)
fault_behind s (q ∷ ps) (j ∷ is) p rest f (inl both) fault = inr (behind_instance s q j both.0, fault_behind s ps is p rest f both.1 fault)
fault_behind s (q ∷ ps) (j ∷ is) p rest f (inr both) fault = inr (behind_none s q both.0, fault_behind s ps (j ∷ is) p rest f both.1 fault)

pub refuses_more : (stop : Refused QuestionFault) (P Q : QuestionFault → Type 0) → ((f : QuestionFault) → P f → Q f) → Refuses stop P → Refuses stop Q
refuses_more (refused.Fault f) P Q more is = more f is
refuses_more refused.NoMemory P Q more is = is
