use Rattle.std.proofs.lemmas.List.{length-map}
use Rattle.event_log.specs.declared.log.Binding.{Binding}
use Rattle.event_log.specs.Numbers.{binding_names, variables_at}
use Rattle.kept_log.proofs.InHeader.{place_or_len}
use Rattle.kept_log.proofs.names.variable_number.Goals as goal

pub returns : goal.returns
returns c =
    let bs = variables_at c.args.header.now.vars c.args.process in
    let many = length-map bs (λ (b : Binding). b.name) in
    let e = place_or_len (binding_names bs) c.args.name.now in
    cc (many, e)
