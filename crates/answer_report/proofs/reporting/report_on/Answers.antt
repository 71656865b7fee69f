use Rattle.std.proofs.Common.{◌≡◌, ℕ, ◌<◌, ◌^◌, true, List, sym, ◌∙◌, ap, subst, refl, arith}
use Rattle.std.specs.Prelude.{IfSome}
use Rattle.std.specs.List.{AllByRecursion}
use Rattle.run_model.specs.Cut.{Clocks, lengths}
use Rattle.pota_base.specs.Shape.{IsShape}
use Rattle.pota_names.specs.Names.{is_name}
use Rattle.event_log.specs.declared.log.Header.{Header}
use Rattle.report.specs.Spelling.{SliceFits}
use Rattle.conjunctions.specs.declared.answer.PartAnswer.{PartAnswer}
use Rattle.conjunctions.specs.Answering.{all_places}
use Rattle.answer_report.specs.inside.Choosing.{chosen}
use Rattle.answer_report.specs.inside.Showing.{HasOperand, IsSliceTold, TellAll}
use Rattle.answer_report.proofs.Parts.{operands_fit}
use Rattle.answer_report.proofs.Said.{says}
use Rattle.answer_report.proofs.Formed.{formed}
use Rattle.answer_report.proofs.reporting.report_on.Goals as goal

pub witnesses_told-requires : goal.witnesses_told-requires
witnesses_told-requires c =
    let seen = c.args.seen.now in
    let order = c.order-order.ensures.order ∙ sym c.order-order.ensures.trace.clocks in
    let fit = operands_fit seen (all_places 1 c.requires.answer.0) c.args.answer.now.parts c.requires.answer.1.parts in
    subst (AllByRecursion (HasOperand c.order-order.result.now)) (sym c.as_slice-parts.ensures) (subst (λ (o : Clocks). AllByRecursion (HasOperand o) c.args.answer.now.parts) (sym order) fit)

pub returns-clause-says : goal.returns-clause-says
returns-clause-says c =
    let seen = c.args.seen.now in
    let answer = c.args.answer.now in
    let order = c.order-order.ensures.order ∙ sym c.order-order.ensures.trace.clocks in
    let names = c.in_ok-copy_names.ensures.copies ∙ c.as_slice.ensures ∙ ap (λ (h : Header). h.procs) c.header.ensures in
    let spelled = subst (AllByRecursion (λ (n : List ℕ). is_name n ≡ true)) names c.in_ok-copy_names.ensures.names in
    says seen c.order-order.ensures.trace spelled answer c.args.shown c.args.text.now _ (record {
      number = c.batches.ensures;
      lengths_are = c.in_ok-cut_of.ensures ∙ c.lens.ensures.lens ∙ c.shape.ensures.lens ∙ ap lengths order;
      formula = c.in_ok-copy_text.ensures;
      verdict = refl;
      slice = subst (λ (o : Clocks). IsSliceTold c.args.shown.slice o answer.slice c.in_ok-slice.slice) order c.in_ok-slice.ensures.told;
      witnesses = λ on. subst (λ (o : Clocks). TellAll o (chosen answer.truth answer.parts) c.in_ok-witnesses.witnesses) order
          (subst (λ (parts : List PartAnswer). TellAll c.order-order.result.now (chosen answer.truth parts) c.in_ok-witnesses.witnesses) c.as_slice-parts.ensures (c.in_ok-witnesses.ensures.wanted on));
      unwanted = c.in_ok-witnesses.ensures.unwanted;
    })

pub returns-clause-formed : goal.returns-clause-formed
returns-clause-formed c = λ canonical some.
    let seen = c.args.seen.now in
    let answer = c.args.answer.now in
    let trace = c.order-order.ensures.trace in
    let order = c.order-order.ensures.order ∙ sym trace.clocks in
    let small : seen.trace.batches < 2 ^ 32 = omega (arith, c.batches.ensures) in
    let names = c.as_slice.ensures ∙ ap (λ (h : Header). h.procs) c.header.ensures in
    formed seen trace (subst (λ (o : Clocks). IsShape (lengths o)) order c.shape.ensures.shape) c.requires.answer.0 answer c.requires.answer.1 small some c.args.shown c.args.text.now _ (record {
      number = c.batches.ensures;
      lengths_are = c.in_ok-cut_of.ensures ∙ c.lens.ensures.lens ∙ c.shape.ensures.lens ∙ ap lengths order;
      formula = c.in_ok-copy_text.ensures;
      verdict = refl;
      slice = subst (λ (o : Clocks). IsSliceTold c.args.shown.slice o answer.slice c.in_ok-slice.slice) order c.in_ok-slice.ensures.told;
      witnesses = λ on. subst (λ (o : Clocks). TellAll o (chosen answer.truth answer.parts) c.in_ok-witnesses.witnesses) order
          (subst (λ (parts : List PartAnswer). TellAll c.order-order.result.now (chosen answer.truth parts) c.in_ok-witnesses.witnesses) c.as_slice-parts.ensures (c.in_ok-witnesses.ensures.wanted on));
      unwanted = c.in_ok-witnesses.ensures.unwanted;
    }) (c.in_ok-copy_names.ensures.copies ∙ names) (subst (AllByRecursion (λ (n : List ℕ). is_name n ≡ true)) (c.in_ok-copy_names.ensures.copies ∙ names) c.in_ok-copy_names.ensures.names)
    (subst (λ (o : Clocks). IfSome c.in_ok-slice.slice (SliceFits (lengths o))) order c.in_ok-slice.ensures.fits) canonical
