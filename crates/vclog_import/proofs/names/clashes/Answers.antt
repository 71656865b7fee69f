use Rattle.std.proofs.Common.{sym, ◌∙◌}
use Rattle.vclog_import.specs.Hosts.{Host, do_clash}
use Rattle.vclog_import.proofs.LineLists.{any_here, any_later, any_none}
use Rattle.vclog_import.proofs.names.clashes.Goals as goal

pub returns-then-branch : goal.returns-then-branch
returns-then-branch c = sym (c.loop-other.invariant ∙ any_here (λ (h : Host). do_clash h c.args.host.now) c.args.hosts.now c.loop-other.other-index _ c.loop-other-test.true (sym c.in_ok-do_clash.ensures ∙ c.if-branch.true))

pub loop-other-preserved : goal.loop-other-preserved
loop-other-preserved c = c.loop-other.invariant ∙ any_later (λ (h : Host). do_clash h c.args.host.now) c.args.hosts.now c.loop-other.other-index _ c.loop-other-test.true (sym c.in_ok-do_clash.ensures ∙ c.if-branch.false)

pub returns : goal.returns
returns c = sym (c.loop-other.invariant ∙ any_none (λ (h : Host). do_clash h c.args.host.now) c.args.hosts.now c.loop-other.other-index c.loop-other-test.false)
