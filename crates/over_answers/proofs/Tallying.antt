-- The tallies of questions over processes, one after the other.
use Rattle.std.proofs.Common.{◌≡◌, ℕ, zero, suc, ◌+◌, ◌≤◌, ◌<◌, List, [], ◌∷◌, ◌++◌, length, map, take, Option, None, ap, sym, subst, ◌∙◌, arith}
use Rattle.std.specs.List.{slice_index_or}
use Rattle.std.proofs.lemmas.List.{length-map}
use Rattle.pota_base.specs.declared.fault.Refused.{Refused}
use Rattle.pota_base.specs.declared.fault.Refused.TheVariants as refused
use Rattle.part_pulls.specs.declared.observed.Observed.{Observed}
use Rattle.question_instances.specs.declared.over.Over.{Over}
use Rattle.instance_outcomes.specs.declared.over.OverStop.{OverStop}
use Rattle.ask_questions.proofs.Lists.{paired-length, paired-push}
use Rattle.ask_questions.proofs.Words.{at_here, take_here}
use Rattle.over_answers.specs.declared.answering.NumberedStop.{NumberedStop}
use Rattle.over_answers.specs.declared.answering.Tallied.{Tallied}
use Rattle.over_answers.specs.Tallies.{AreNamedBy, AreTallies, IsComeTo, IsFirstStop, IsNamedBy, IsStopOf, Refuses}
use Rattle.over_answers.specs.inside.Answering.{RefusesOne, numbered_stop}

-- ---- the names at an index

pub as_many : {S : Type 0} (f : S → List ℕ) (items : List S) (overs : List (Option Over)) (i : ℕ) → AreNamedBy (map f items) overs → i < length items → i < length overs
as_many f items overs i named here = omega (arith, here, paired-length IsNamedBy (map f items) overs named, length-map items f)

pub named_at : {S : Type 0} (f : S → List ℕ) (items : List S) (overs : List (Option Over)) (i : ℕ) (d : S) (text : List ℕ) → AreNamedBy (map f items) overs → i < length items → d ≡ slice_index_or items i d → text ≡ f d
    → IsNamedBy text (slice_index_or overs i None)
named_at f [] overs i d text named here is of = absurd (omega (arith, here))
named_at f (x ∷ xs) [] i d text named here is of = absurd named
named_at f (x ∷ xs) (y ∷ ys) zero d text named here is of = subst (λ (t : List ℕ). IsNamedBy t y) (sym (of ∙ ap f is)) named.0
named_at f (x ∷ xs) (y ∷ ys) (suc i) d text named here is of = named_at f xs ys i d text named.1 (omega (arith, here)) is of

-- ---- one question more

-- each text of a list is the text f of an item
module _ {S : Type 0} (f : S → List ℕ) (items : List S) (i : ℕ) (seen : Observed) (ts : List (Option Tallied)) (so_far : AreTallies seen (map f (take i items)) ts) (d : S) (text : List ℕ) (here : i < length items)
    (is : d ≡ slice_index_or items i d) (of : text ≡ f d) where
  pub one_more : (t : Option Tallied) (made : List (Option Tallied)) → IsComeTo seen text t → made ≡ ts ++ t ∷ [] → AreTallies seen (map f (take (i + 1) items)) made
  one_more t made come are =
      subst (AreTallies seen (map f (take (i + 1) items))) (sym are)
      (subst (λ (texts : List (List ℕ)). AreTallies seen texts (ts ++ t ∷ [])) (sym (take_here f items i d text here is of))
      (paired-push (IsComeTo seen) (map f (take i items)) ts text t so_far come))

  pub stopped : (stop : Refused OverStop) (made : Refused NumberedStop) → made ≡ numbered_stop i stop → RefusesOne stop (IsStopOf seen text) → Refuses made (IsFirstStop seen (map f items))
  stopped (refused.Fault g) made are stops =
      subst (λ (r : Refused NumberedStop). Refuses r (IsFirstStop seen (map f items))) (sym are)
      (record {
        before = map f (take i items);
        text = text;
        at = at_here f items i d text here is of;
        tallies = ts;
        tallied = so_far;
        stops = stops;
      })
  stopped refused.NoMemory made are stops =
      subst (λ (r : Refused NumberedStop). Refuses r (IsFirstStop seen (map f items))) (sym are) _
