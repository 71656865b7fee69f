use Rattle.std.proofs.Common.{◌≡◌, ℕ, true, List, refl, sym, ◌∙◌, ap, subst}
use Rattle.std.specs.List.{AllByRecursion}
use Rattle.run_model.specs.Cut.{Clocks}
use Rattle.pota_names.specs.Names.{is_name}
use Rattle.event_log.specs.declared.log.Header.{Header}
use Rattle.conjunctions.specs.declared.answer.PartAnswer.{PartAnswer}
use Rattle.conjunctions.specs.Answering.{all_places}
use Rattle.answer_report.specs.inside.Choosing.{chosen}
use Rattle.answer_report.specs.inside.Showing.{HasOperand, TellAll}
use Rattle.answer_report.proofs.Parts.{operands_fit}
use Rattle.answer_report.proofs.Telling.{told}
use Rattle.answer_report.proofs.told.witnesses_of.Goals as goal

pub witnesses_told-requires : goal.witnesses_told-requires
witnesses_told-requires c =
    let seen = c.args.seen.now in
    let order = c.order-order.ensures.order ∙ sym c.order-order.ensures.trace.clocks in
    let fit = operands_fit seen (all_places 1 c.requires.answer.0) c.args.answer.now.parts c.requires.answer.1.parts in
    subst (AllByRecursion (HasOperand c.order-order.result.now)) (sym c.as_slice-2.ensures) (subst (λ (o : Clocks). AllByRecursion (HasOperand o) c.args.answer.now.parts) (sym order) fit)

pub returns : goal.returns
returns c = λ reading are ds is.
    let seen = c.args.seen.now in
    let answer = c.args.answer.now in
    let order = c.order-order.ensures.order ∙ sym c.order-order.ensures.trace.clocks in
    let names = c.as_slice.ensures ∙ ap (λ (h : Header). h.procs) c.header.ensures in
    let spelled = subst (AllByRecursion (λ (n : List ℕ). is_name n ≡ true)) names c.read_names.ensures in
    let tells = subst (λ (o : Clocks). TellAll o (chosen answer.truth answer.parts) c.in_ok-witnesses.witnesses) order
    (subst (λ (parts : List PartAnswer). TellAll c.order-order.result.now (chosen answer.truth parts) c.in_ok-witnesses.witnesses) c.as_slice-2.ensures (c.in_ok-witnesses.ensures.wanted refl)) in
    told seen c.order-order.ensures.trace spelled answer c.in_ok-witnesses.witnesses tells reading are ds is
