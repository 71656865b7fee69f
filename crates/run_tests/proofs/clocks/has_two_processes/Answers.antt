use Rattle.std.proofs.Common.{◌∙◌, ap, sym, length}
use Rattle.std.proofs.lemmas.Bool.{eqb-true}
use Rattle.causal_order.proofs.Growing.{length-lengths}
use Rattle.run_tests.proofs.clocks.has_two_processes.Goals as goal

pub returns : goal.returns
returns c = λ two. sym (length-lengths c.args.order.now) ∙ sym (ap length c.shape.ensures.lens) ∙ sym c.procs.ensures.count ∙ eqb-true c.procs.result 2 two
