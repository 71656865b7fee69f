use Rattle.std.proofs.Common.{◌≡◌, length, sym, ◌∙◌, ap, subst}
use Rattle.run_model.specs.Cut.{initial}
use Rattle.run_model.specs.Slice.{Slice, Cuts}
use Rattle.run_model.proofs.Counts.{length-lengths}
use Rattle.temporal_slice.specs.PassedOn.{slice_of}
use Rattle.part_pulls.proofs.Firsts.{start_is}
use Rattle.part_pulls.proofs.operator.has_initial.Goals as goal

pub returns : goal.returns
returns c = λ o fits.
    let s : Slice = slice_of c.args.slice.now in
    let size : c.procs.result ≡ length o = c.procs.ensures.count ∙ ap length c.shape.ensures.lens ∙ ap length fits.shape ∙ length-lengths o in
    let start : c.in_ok-start.start ≡ initial o = start_is o c.procs.result c.in_ok-start.start size c.in_ok-start.ensures in
    let has = c.has.ensures.cuts o fits in
    (λ h. subst (Cuts o s) start (has.0 h), λ h. has.1 (subst (Cuts o s) (sym start) h))
