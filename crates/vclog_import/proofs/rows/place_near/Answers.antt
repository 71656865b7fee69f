use Rattle.std.proofs.Common.{sym, ◌∙◌}
use Rattle.vclog_import.proofs.Filling.{near_is}
use Rattle.vclog_import.proofs.rows.place_near.Goals as goal

pub returns-then-eq-clause-place : goal.returns-then-eq-clause-place
returns-then-eq-clause-place c = near_is c.args.hosts.now c.args.near c.args.key.now _ c.requires c.if-near-hosts.true (sym c.eq.ensures ∙ c.if-eq.true)
