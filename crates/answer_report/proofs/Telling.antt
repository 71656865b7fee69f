-- The witnesses of an answer are those of the formulas of its parts.
use Rattle.std.proofs.Common.{◌≡◌, Bool, true, false, List, [], ◌∷◌, refl, sym, ◌∙◌, arith}
use Rattle.std.specs.List.{AllByRecursion}
use Rattle.std.proofs.lemmas.Bool.{false≢true}
use Rattle.run_model.specs.Cut.{initial}
use Rattle.run_model.specs.Run.{Run}
use Rattle.run_model.specs.Formula.{Formula}
use Rattle.pota_names.specs.Names.{is_name}
use Rattle.trace_growth.specs.Growing.{IsTrace}
use Rattle.rctl_class.specs.Classed as class
use Rattle.rctl_class.specs.Classed.{MeanTheSame, Head, HaveOneHead, head_of, Alike, PartsAlike, EachAlike}
use Rattle.rctl_parts.specs.Pieces.{Piece}
use Rattle.rctl_parts.specs.Spelled.{Names, part_formulas}
use Rattle.rctl_parts.proofs.Spelling.{disjuncts_spelled, spelled_disjuncts}
use Rattle.report_lines.specs.declared.kinds.WitnessText.{WitnessText}
use Rattle.part_pulls.specs.declared.observed.Observed.{Observed}
use Rattle.part_pulls.specs.Observing.{Reading, AreAnswers, clocks_seen, run_seen, names_seen}
use Rattle.conjunctions.specs.declared.answer.Answer.{Answer}
use Rattle.conjunctions.specs.Answering.{IsAnswer}
use Rattle.answer_report.specs.Told.{AreWitnessesOf}
use Rattle.answer_report.specs.inside.Choosing.{chosen}
use Rattle.answer_report.specs.inside.Showing.{TellAll}
use Rattle.answer_report.proofs.Named.{named}
use Rattle.answer_report.proofs.Parts.{IsReadIn}
use Rattle.answer_report.proofs.Texts.{texts_of_true, texts_of_false}

-- ---- each formula is like itself

means_itself : (f : Formula) → MeanTheSame f f
means_itself f = λ r order c consistent. (λ h. h, λ h. h)

one_head : (h : Head) → HaveOneHead h h
one_head class.bare = tt
one_head (class.operated o f) = (refl, means_itself f)
one_head (class.stepped p f) = (refl, means_itself f)

parts_alike : (fs : List Formula) → PartsAlike fs fs
parts_alike [] = tt
parts_alike (f ∷ fs) = (record { head = one_head (head_of f); meaning = means_itself f }, parts_alike fs)

each_alike : (ds : List (List Formula)) → EachAlike ds ds
each_alike [] = tt
each_alike (d ∷ ds) = (parts_alike d, each_alike ds)

-- ---- the witnesses

pub told : (seen : Observed) → IsTrace seen.trace.states → AllByRecursion (λ n. is_name n ≡ true) seen.trace.states.header.procs → (answer : Answer) (ws : List WitnessText)
    → TellAll (clocks_seen seen) (chosen answer.truth answer.parts) ws → (reading : Reading) → AreAnswers seen reading → (ds : List (List Piece)) → IsAnswer seen ds answer
    → AreWitnessesOf (run_seen seen reading) (part_formulas (names_seen seen reading) ds) answer.truth ws
told seen trace spelled answer ws tells reading are ds is = by answer.truth refl tells
  where
    r : Run
    r = run_seen seen reading

    names : Names
    names = names_seen seen reading

    known : IsReadIn seen reading
    known = record { order = (trace.run.run reading.watches).order; are = are; named = named seen trace reading spelled }

    by : (b : Bool) → answer.truth ≡ b → TellAll (clocks_seen seen) (chosen b answer.parts) ws → AreWitnessesOf r (part_formulas names ds) b ws
    by true e told = texts_of_true seen reading known 1 ds answer.parts is.parts (part_formulas names ds) (each_alike (part_formulas names ds))
        (spelled_disjuncts r names ds (initial (clocks_seen seen)) ((is.truth reading are).0 e)) ws told
    by false e told = texts_of_false seen reading known 0 1 (omega arith) ds answer.parts is.parts (part_formulas names ds) (each_alike (part_formulas names ds))
        (λ sat. absurd (false≢true (sym e ∙ (is.truth reading are).1 (disjuncts_spelled r names ds (initial (clocks_seen seen)) sat)))) ws told
