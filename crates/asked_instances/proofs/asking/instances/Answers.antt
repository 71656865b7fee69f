use Rattle.std.proofs.Common.{rules, ◌≡◌, ◌++◌, ℕ, suc, ◌+◌, List, ◌∷◌, None, take, drop, slice_index_or, sym, ap, subst, ◌∙◌, arith}
use Rattle.std.proofs.Math.Seq.{take-suc, drop-cons}
use Rattle.std.proofs.lemmas.List.{take-append-drop}
use Rattle.asked_instances.specs.Instances.{AreInstances, IsFirstFault, Source, pairs_asked, source_of}
use Rattle.asked_instances.specs.declared.asking.Pair.{Pair}
use Rattle.asked_instances.proofs.Pairs.{one_more, fault_behind, refuses_more}
use Rattle.asked_instances.proofs.asking.instances.Goals as goal

pub loop-pair-preserved : goal.loop-pair-preserved
loop-pair-preserved c =
    let s : Source = source_of c.args.asked.now in
    let items : List Pair = c.as_slice-pair-items.result.now in
    let none : Pair = record { first = 0; second = None } in
    let more : c.loop-pair.pair-index + 1 ≡ suc c.loop-pair.pair-index = omega arith in
    subst (λ ps. AreInstances s ps c.push_for.new.instances) (sym (ap (λ n. take n items) more ∙ take-suc items c.loop-pair.pair-index none c.loop-pair-test.true))
    (one_more s (take c.loop-pair.pair-index items) c.loop-pair.instances c.push_for.new.instances (slice_index_or items c.loop-pair.pair-index none) c.loop-pair.invariant c.in-Ok.ensures.adds)

pub returns-in-Err-clause-fault : goal.returns-in-Err-clause-fault
returns-in-Err-clause-fault c =
    let s : Source = source_of c.args.asked.now in
    let items : List Pair = c.as_slice-pair-items.result.now in
    let none : Pair = record { first = 0; second = None } in
    let k : ℕ = c.loop-pair.pair-index in
    let all : items ≡ pairs_asked s = search rules in
    let e : take k items ++ slice_index_or items k none ∷ drop (suc k) items ≡ items = ap (λ r. take k items ++ r) (sym (drop-cons items k none c.loop-pair-test.true)) ∙ take-append-drop k items in
    refuses_more c.in-Err.stop _ _ (λ f h. subst (λ ps. IsFirstFault s ps f) (e ∙ all) (fault_behind s (take k items) c.loop-pair.instances (slice_index_or items k none) (drop (suc k) items) f c.loop-pair.invariant h)) c.in-Err.ensures.fault
