-- The end of a loop over the parts.
use Rattle.std.proofs.Common.{◌≡◌, ℕ, ◌≤◌, List, [], ◌++◌, length, drop, sym, ◌∙◌, ap, subst, append-nil}
use Rattle.std.proofs.lemmas.List.{drop_all}
use Rattle.conjunctions.specs.declared.answer.PartAnswer.{PartAnswer}
use Rattle.run_model.specs.Cut.{Clocks}
use Rattle.report_lines.specs.declared.kinds.WitnessText.{WitnessText}
use Rattle.answer_report.specs.inside.Showing.{TellAll}

-- once the witnesses of what is left are behind those that are there, all are told
abbrev pub Completes : Clocks → List PartAnswer → List PartAnswer → List WitnessText → Type 0
Completes o all left ws = (more : List WitnessText) → TellAll o left more → TellAll o all (ws ++ more)

-- nothing is left
pub completed : (o : Clocks) (all : List PartAnswer) (choose : List PartAnswer → List PartAnswer) → choose [] ≡ [] → (parts : List PartAnswer) (i : ℕ) (ws : List WitnessText)
    → length parts ≤ i → Completes o all (choose (drop i parts)) ws → TellAll o all ws
completed o all choose empty parts i ws past so_far =
    let none = ap choose (drop_all i parts past) ∙ empty in
    subst (TellAll o all) (append-nil ws) (so_far [] (subst (λ (left : List PartAnswer). TellAll o left []) (sym none) tt))
