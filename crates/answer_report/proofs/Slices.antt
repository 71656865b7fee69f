-- The text of the slice of an answer is that of the set that is shown.
use Rattle.std.proofs.Common.{Bool, true, false, List, Option, Some, None}
use Rattle.std.specs.Prelude.{◌↔◌}
use Rattle.run_model.specs.Cut.{Cut, Clocks}
use Rattle.run_model.specs.Run.{Run}
use Rattle.run_model.specs.Formula.{Formula}
use Rattle.run_model.specs.Consistent.{IsOrder, IsConsistent}
use Rattle.run_model.specs.Sublattice.{Smallest, given}
use Rattle.run_model.specs.Slice as model
use Rattle.run_model.specs.Slice.{Cuts, StandsFor, IsLeastOf, IsPrintedAs, IsTextOf}
use Rattle.run_model.specs.Meaning.{IsRun, Sat, Family}
use Rattle.run_model.specs.Class.{disjuncts, IsKeptFor, Shown}
use Rattle.meaning_laws.proofs.DisjunctLemmas.{disjuncts_mean}
use Rattle.meaning_laws.proofs.JoinLemmas.{smallest_closed, smallest_wider}
use Rattle.meaning_laws.proofs.ShownLemmas.{shown_smallest}
use Rattle.run_model.proofs.SliceLemmas.{exact_slice, stands_same}
use Rattle.rctl_parts.specs.Pieces.{Piece}
use Rattle.rctl_parts.specs.Spelled.{part_formulas, disjunction_of}
use Rattle.rctl_parts.proofs.Spelling.{disjuncts_spelled, spelled_disjuncts}
use Rattle.rctl_class.specs.Classed.{EachAlike}
use Rattle.rctl_class.proofs.Alike.{alike_disjuncts_mean}
use Rattle.slice_graph.specs.Views.{slice_of}
use Rattle.report.specs.declared.report.SliceText.{SliceText}
use Rattle.run_report.specs.Reports.{text_seen, IsSliceShown}
use Rattle.part_pulls.specs.declared.observed.Observed.{Observed}
use Rattle.conjunctions.specs.declared.answer.Answer.{Answer}
use Rattle.part_pulls.specs.Observing.{Reading, AreAnswers, clocks_seen, run_seen, names_seen}
use Rattle.conjunctions.specs.Answering.{IsAnswer}
use Rattle.answer_report.specs.inside.Showing.{IsSliceTold}

-- ---- the text of a slice

text_same : (o : Clocks) (A B : Cut → Type 0) → ((c : Cut) → A c ↔ B c) → (text : model.SliceText) → IsTextOf o A text → IsTextOf o B text
text_same o A B same text h = by text.bounds h
  where
    by : (bounds : Option (Cut × Cut)) → IsTextOf o A (record { bounds = bounds; edges = text.edges }) → IsTextOf o B (record { bounds = bounds; edges = text.edges })
    by None h = (h.0, λ c k. h.1 c ((same c).1 k))
    by (Some bounds) h = record {
      slice = h.slice;
      stands = stands_same o h.slice A B same h.stands;
      least = record { member = (same bounds.0).0 h.least.member; least = λ c k. h.least.least c ((same c).1 k) };
      greatest = record { member = (same bounds.1).0 h.greatest.member; greatest = λ c k. h.greatest.greatest c ((same c).1 k) };
      listed = h.listed;
    }

-- ---- what is shown

-- the parts are true together where the formula is
pub same_truth : (seen : Observed) (reading : Reading) → IsOrder (clocks_seen seen) → (ds : List (List Piece)) (f : Formula) → EachAlike (part_formulas (names_seen seen reading) ds) (disjuncts true f)
    → (c : Cut) → IsConsistent (clocks_seen seen) c → Sat (run_seen seen reading) (disjunction_of (names_seen seen reading) ds) c ↔ Sat (run_seen seen reading) f c
same_truth seen reading order ds f alike c k =
    let r = run_seen seen reading in
    let names = names_seen seen reading in
    let parts = alike_disjuncts_mean r order (part_formulas names ds) (disjuncts true f) c k alike in
    let formula = disjuncts_mean r order f c k in (
      λ h. formula.0 (parts.0 (spelled_disjuncts r names ds c h)),
      λ h. disjuncts_spelled r names ds c (parts.1 (formula.1 h)),
    )

-- the cuts of the answer's slice are those that are shown
cuts_shown : (seen : Observed) (reading : Reading) → IsRun (run_seen seen reading) → AreAnswers seen reading → (ds : List (List Piece)) (answer : Answer) → IsAnswer seen ds answer
    → (f : Formula) → EachAlike (part_formulas (names_seen seen reading) ds) (disjuncts true f) → IsKeptFor (run_seen seen reading) f → (c : Cut) → Cuts (clocks_seen seen) (slice_of answer.slice) c ↔ Shown (run_seen seen reading) f c
cuts_shown seen reading run are ds answer is f alike kept c =
    let exact = exact_slice o spelled (smallest_closed o run.order (Family r g) (λ d m. m.0)) (slice_of answer.slice) (is.stands reading are) c in
    let shown = shown_smallest r run f kept c in (
      λ h. shown.1 (smallest_wider (Family r g) (Family r f) (λ d m. given (m.0, (same d m.0).0 m.1)) c (exact.1 h)),
      λ h. exact.0 (smallest_wider (Family r f) (Family r g) (λ d m. given (m.0, (same d m.0).1 m.1)) c (shown.0 h)),
    )
  where
    o : Clocks
    o = clocks_seen seen

    r : Run
    r = run_seen seen reading

    g : Formula
    g = disjunction_of (names_seen seen reading) ds

    spelled : Cut → Type 0
    spelled = Smallest (Family r g)

    same : (d : Cut) → IsConsistent o d → Sat r g d ↔ Sat r f d
    same = same_truth seen reading run.order ds f alike

pub slice_shown : (seen : Observed) (reading : Reading) → IsRun (run_seen seen reading) → AreAnswers seen reading → (ds : List (List Piece)) (answer : Answer) → IsAnswer seen ds answer
    → (f : Formula) → EachAlike (part_formulas (names_seen seen reading) ds) (disjuncts true f) → IsKeptFor (run_seen seen reading) f → (wanted : Bool) (text : Option SliceText)
    → IsSliceTold wanted (clocks_seen seen) answer.slice text → IsSliceShown wanted (run_seen seen reading) f text
slice_shown seen reading run are ds answer is f alike kept true (Some text) h =
    text_same (clocks_seen seen) (Cuts (clocks_seen seen) (slice_of answer.slice)) (Shown (run_seen seen reading) f) (cuts_shown seen reading run are ds answer is f alike kept) (text_seen text) h
slice_shown seen reading run are ds answer is f alike kept true None h = absurd h
slice_shown seen reading run are ds answer is f alike kept false text h = h
