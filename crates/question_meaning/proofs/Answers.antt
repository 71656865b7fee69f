-- How each question is answered.
use Rattle.std.proofs.Common.{◌↔◌, List, inl, inr}
use Rattle.run_model.specs.Cut.{Cut, lengths, initial}
use Rattle.run_model.specs.Run.{Run}
use Rattle.run_model.specs.Consistent.{IsConsistent, IsOrder}
use Rattle.run_model.specs.Formula.{Formula, Not, Temporal, Ef, Ag, Eg}
use Rattle.run_model.specs.Meaning.{Sat}
use Rattle.run_model.specs.Class.{SatDisjuncts}
use Rattle.meaning_laws.proofs.DecisionLemmas.{decide_sat}
use Rattle.run_model.proofs.Orders.{initial_consistent, final_consistent}
use Rattle.meaning_laws.proofs.OperatorLemmas.{path_to_final}
use Rattle.question_meaning.specs.declared.form.Form.{Form}
use Rattle.question_meaning.specs.declared.form.Form.TheVariants as form
use Rattle.question_meaning.specs.Question.{Never, Can, Always, Surely, AtEnd, Plain, Holds}
use Rattle.question_meaning.specs.Asking.{question, asked_formula, asked, MeanAt, AreFor, IsAnswered}
use Rattle.question_meaning.proofs.Operators.{reached, reach, throughout, each_time_throughout, final_from, from_final, staying_goes, misses, meets_or_misses, met, meets_first, meets_last}
use Rattle.question_meaning.proofs.Disjuncts.{some_asked, asked_some, each_asked, staying_asked, final_asked, plain_asked, asked_plain}

-- ---- by sets of cuts

-- EF of the set at the initial cut, by the disjuncts that are asked
can_be : (r : Run) → IsOrder r.clocks → (ds : List (List Formula)) (g : Formula) → MeanAt r ds g →
    ((c : Cut) × IsConsistent r.clocks c × Sat r g c) ↔ SatDisjuncts r (asked form.Can ds) (initial r.clocks)
can_be r order ds g mean = (
  λ w. asked_some r ds (initial r.clocks) (reach r.clocks order (SatDisjuncts r ds) w.0 w.1 ((mean w.0 w.1).1 w.2)),
  λ h. let w = reached r.clocks (SatDisjuncts r ds) (some_asked r ds (initial r.clocks) h) in (w.0, w.1, (mean w.0 w.1).0 w.2),
)

-- each consistent cut satisfies f, where none satisfies its negation
none_against : (r : Run) → IsOrder r.clocks → (f : Formula) → Holds r (Never (Not f)) → Holds r (Always f)
none_against r order f none c k = elim (decide_sat r order f c k) [
  | inl s ↦ s
  | inr lacks ↦ absurd (none c k lacks)
]

-- each path meets f, where none stays outside it
none_outside : (r : Run) → IsOrder r.clocks → (f : Formula) → (Sat r (Temporal Eg (Not f)) (initial r.clocks) → ⊥) → Holds r (Surely f)
none_outside r order f lacks es p = elim (meets_or_misses r.clocks (Sat r f) (λ c k. decide_sat r order f c k) (initial r.clocks) es (lengths r.clocks) p) [
  | inl m ↦ m
  | inr all ↦ absurd (lacks (es, p, all))
]

each_meets : (r : Run) (f : Formula) → Holds r (Surely f) → Sat r (Temporal Eg (Not f)) (initial r.clocks) → ⊥
each_meets r f each w = misses (Sat r f) (initial r.clocks) w.0 w.2 (each w.0 w.1)

-- ---- each form

pub answered : (r : Run) → IsOrder r.clocks → (form : Form) (f : Formula) (ds : List (List Formula)) → MeanAt r ds (asked_formula form f) → AreFor form ds →
    Holds r (question form f) ↔ IsAnswered r form ds
answered r order form.Never f ds mean one = (
  λ none h. let w = (can_be r order ds f mean).1 h in none w.0 w.1 w.2,
  λ lacks c k s. lacks ((can_be r order ds f mean).0 (c, k, s)),
)
answered r order form.Can f ds mean one = can_be r order ds f mean
answered r order form.Always f ds mean one = (
  λ all. (each_asked r ds one (initial r.clocks)).1 (each_time_throughout r.clocks (SatDisjuncts r ds) (λ c k. (mean c k).1 (all c k)) (initial r.clocks)),
  λ h c k. (mean c k).0 (throughout r.clocks order (SatDisjuncts r ds) ((each_asked r ds one (initial r.clocks)).0 h) c k),
)
answered r order form.AlwaysByNegation f ds mean one = (
  λ all h. let w = (can_be r order ds (Not f) mean).1 h in w.2 (all w.0 w.1),
  λ lacks. none_against r order f (λ c k s. lacks ((can_be r order ds (Not f) mean).0 (c, k, s))),
)
answered r order form.Surely f ds mean one = (
  λ each h. each_meets r f each (staying_goes r.clocks (SatDisjuncts r ds) (Sat r (Not f)) (λ c k s. (mean c k).0 s) (initial r.clocks) ((staying_asked r ds one (initial r.clocks)).0 h)),
  λ lacks. none_outside r order f (λ w. lacks ((staying_asked r ds one (initial r.clocks)).1 (staying_goes r.clocks (Sat r (Not f)) (SatDisjuncts r ds) (λ c k s. (mean c k).1 s) (initial r.clocks) w))),
)
answered r order form.AtEnd f ds mean one =
    let last = final_consistent r.clocks order in (
      λ h. (final_asked r ds one (initial r.clocks)).1 (from_final r.clocks order (SatDisjuncts r ds) ((mean (lengths r.clocks) last).1 h)),
      λ h. (mean (lengths r.clocks) last).0 (final_from r.clocks order (SatDisjuncts r ds) ((final_asked r ds one (initial r.clocks)).0 h)),
    )
answered r order form.Plain f ds mean one =
    let first = mean (initial r.clocks) (initial_consistent r.clocks) in
    (λ h. plain_asked r ds (initial r.clocks) (first.1 h), λ h. first.0 (asked_plain r ds (initial r.clocks) h))

-- ---- by one formula of the language

pub never_is : (r : Run) → IsOrder r.clocks → (f : Formula) → Holds r (Never f) ↔ (Sat r (Temporal Ef f) (initial r.clocks) → ⊥)
never_is r order f = (
  λ none h. let w = reached r.clocks (Sat r f) h in none w.0 w.1 w.2,
  λ lacks c k s. lacks (reach r.clocks order (Sat r f) c k s),
)

pub can_is : (r : Run) → IsOrder r.clocks → (f : Formula) → Holds r (Can f) ↔ Sat r (Temporal Ef f) (initial r.clocks)
can_is r order f = (λ w. reach r.clocks order (Sat r f) w.0 w.1 w.2, reached r.clocks (Sat r f))

pub always_is : (r : Run) → IsOrder r.clocks → (f : Formula) → Holds r (Always f) ↔ Sat r (Temporal Ag f) (initial r.clocks)
always_is r order f = (λ all. each_time_throughout r.clocks (Sat r f) all (initial r.clocks), throughout r.clocks order (Sat r f))

pub always_negated : (r : Run) → IsOrder r.clocks → (f : Formula) → Holds r (Always f) ↔ Holds r (Never (Not f))
always_negated r order f = (λ all c k lacks. lacks (all c k), none_against r order f)

pub surely_is : (r : Run) → IsOrder r.clocks → (f : Formula) → Holds r (Surely f) ↔ (Sat r (Temporal Eg (Not f)) (initial r.clocks) → ⊥)
surely_is r order f = (each_meets r f, none_outside r order f)

pub at_end_is : (r : Run) → IsOrder r.clocks → (f : Formula) → Holds r (AtEnd f) ↔ Sat r (Temporal Ag (Temporal Ef f)) (initial r.clocks)
at_end_is r order f = (from_final r.clocks order (Sat r f), final_from r.clocks order (Sat r f))

-- ---- which imply which

pub plain_surely : (r : Run) (f : Formula) → Holds r (Plain f) → Holds r (Surely f)
plain_surely r f h es p = meets_first (Sat r f) (initial r.clocks) es h

pub at_end_surely : (r : Run) (f : Formula) → Holds r (AtEnd f) → Holds r (Surely f)
at_end_surely r f h es p = meets_last r.clocks (Sat r f) (initial r.clocks) es (lengths r.clocks) p h

pub surely_can : (r : Run) → IsOrder r.clocks → (f : Formula) → Holds r (Surely f) → Holds r (Can f)
surely_can r order f each =
    let p = path_to_final r.clocks order (initial r.clocks) (initial_consistent r.clocks) in
    met r.clocks (Sat r f) (initial r.clocks) p.0 (lengths r.clocks) p.1 (each p.0 p.1)
