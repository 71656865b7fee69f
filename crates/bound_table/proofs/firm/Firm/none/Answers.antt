use Rattle.std.proofs.Common.{◌∙◌, ap, get_or, length}
use Rattle.pota_base.specs.Limits.{most_processes}
use Rattle.bound_table.specs.Firm.{FirmView}
use Rattle.bound_table.proofs.Own.{length-zeros, get_or-zeros}
use Rattle.bound_table.proofs.firm.Firm.none.Goals as goal

pub returns-clause-firsts : goal.returns-clause-firsts
returns-clause-firsts c = λ p. ap (λ (f : FirmView). get_or f.firsts p 0) c.new.ensures ∙ get_or-zeros (length c.args.shape.now) most_processes p

pub returns-clause-size : goal.returns-clause-size
returns-clause-size c =
    ap (λ (f : FirmView). length f.firsts) c.new.ensures ∙ length-zeros (length c.args.shape.now) most_processes c.procs-procs.ensures.shape.few
