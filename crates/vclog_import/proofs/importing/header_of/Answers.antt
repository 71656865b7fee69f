use Rattle.std.proofs.Common.{refl, ap, ◌∙◌, List, ℕ, ◌++◌, ◌∷◌, [], arith}
use Rattle.event_log.specs.declared.log.Binding.{Binding}
use Rattle.vclog_import.proofs.LineLists.{named_at, host_more, all_hosts}
use Rattle.vclog_import.proofs.importing.header_of.Goals as goal

pub process_name-requires : goal.process_name-requires
process_name-requires c = named_at c.args.hosts.now c.loop-host.host-index _ c.requires c.loop-host-test.true

pub loop-host-init : goal.loop-host-init
loop-host-init c = record { version_is = refl; procs_are = c.new.ensures; vars_are = c.new-2.ensures; lines_are = c.new-3.ensures }

pub loop-host-preserved : goal.loop-host-preserved
loop-host-preserved c =
    let old = c.loop-host.header in
    host_more old _ c.args.hosts.now c.loop-host.host-index _ c.loop-host.invariant c.loop-host-test.true refl
    (c.in_ok-push.ensures.ok ∙ ap (λ (name : List ℕ). old.procs ++ name ∷ []) c.in_ok-process_name.ensures)
    (c.in_ok-push-2.ensures.ok ∙ ap (λ (bindings : List Binding). old.vars ++ bindings ∷ []) c.in_ok-counting.ensures)
    c.in_ok-push-3.ensures.ok

pub returns : goal.returns
returns c = all_hosts c.loop-host.header c.args.hosts.now c.loop-host.host-index c.loop-host.invariant (omega (arith, c.loop-host-test.false, c.loop-host.auto.host-index-end))
