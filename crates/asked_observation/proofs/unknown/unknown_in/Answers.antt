use Rattle.std.proofs.Common.{List, ap, ◌∙◌}
use Rattle.asked_list.specs.declared.list.Listed.{Listed}
use Rattle.asked_observation.specs.Observed.{unknown_from}
use Rattle.rctl_names.specs.Numbers.{known_in}
use Rattle.rctl_names.specs.Seen.{names_of}
use Rattle.asked_observation.proofs.Fronts.{few_of, named_in, some_there}
use Rattle.asked_observation.proofs.unknown.unknown_in.Goals as goal

pub first_of-requires-clause-few : goal.first_of-requires-clause-few
first_of-requires-clause-few c =
    few_of c.args.list c.requires.list (some_there (known_in (names_of c.args.header.now c.args.names.now)) c.args.list.classed.disjuncts c.args.fault c.requires.unknown)

pub returns : goal.returns
returns c =
    let found = c.in_ok-found.found in
    named_in (known_in (names_of c.args.header.now c.args.names.now)) c.args.list found.before found.fault c.named.result c.in_ok-found.ensures
    (c.named.ensures ∙ ap (λ (ls : List Listed). unknown_from 1 found.before found.fault ls) c.as_slice.ensures)
