use Rattle.std.proofs.Common.{◌≡◌, length, sym, ◌∙◌, ap, subst, arith}
use Rattle.std.specs.Prelude.{set}
use Rattle.run_model.specs.Cut.{Cut, initial, with_next}
use Rattle.run_model.specs.Slice.{Slice, Cuts}
use Rattle.run_model.proofs.Counts.{length-lengths}
use Rattle.temporal_slice.specs.PassedOn.{slice_of}
use Rattle.part_pulls.proofs.Firsts.{first_is}
use Rattle.part_pulls.proofs.operator.has_first.Goals as goal

pub returns : goal.returns
returns c = λ o fits.
    let s : Slice = slice_of c.args.slice.now in
    let process = c.args.process in
    let width : length c.args.slice.now.lens ≡ length o = ap length fits.shape ∙ length-lengths o in
    let size : c.procs.result ≡ length o = c.procs.ensures.count ∙ ap length c.shape-shape.ensures.lens ∙ width in
    let first : c.set.new.self ≡ with_next (initial o) process = first_is o c.procs.result process c.set.new.self size (c.set.ensures ∙ ap (λ (cut : Cut). set cut process 1) c.in_ok-first.ensures) in
    let has = c.has.ensures.cuts o fits in
    (λ h. (omega (arith, c.requires, width), subst (Cuts o s) first (has.0 h)), λ h. has.1 (subst (Cuts o s) (sym first) h.1))
