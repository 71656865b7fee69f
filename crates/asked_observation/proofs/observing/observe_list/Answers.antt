use Rattle.std.proofs.Common.{List, sym, subst, arith}
use Rattle.std.proofs.lemmas.List.{length-map}
use Rattle.question_meaning.specs.declared.form.Form.{Form}
use Rattle.rctl_class.specs.NamedParts.{pieces_of}
use Rattle.rctl_names.specs.Resolving.{scope_of}
use Rattle.rctl_parts.specs.MadeFor.{AreMadeFor}
use Rattle.rctl_parts.specs.Pieces.{disjuncts_of}
use Rattle.asked_list.specs.Lists.{asked_each}
use Rattle.asked_list.proofs.Added.{some}
use Rattle.asked_answers.proofs.Listed.{made}
use Rattle.asked_observation.proofs.observing.observe_list.Goals as goal

pub resolve-requires-clause-disjuncts : goal.resolve-requires-clause-disjuncts
resolve-requires-clause-disjuncts g c = some c.args.list c.requires.list (omega (arith, length-map c.args.list.classed.disjuncts pieces_of, c.requires.some))

pub observe_asked-requires-clause-made : goal.observe_asked-requires-clause-made
observe_asked-requires-clause-made g c =
    let header = c.args.header in
    let resolved = c.in-Ok.resolved in
    subst (λ (fs : List Form). AreMadeFor (scope_of header resolved.watch_process) (asked_each fs (disjuncts_of resolved.disjuncts))) (sym c.as_slice.ensures)
    (made c.args.list c.requires.list header c.args.names.now resolved c.in-Ok.ensures)
