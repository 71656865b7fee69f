use Rattle.std.proofs.Common.{◌≡◌, ◌++◌}
use Rattle.event_log.specs.LogText.{text_of}
use Rattle.report.specs.Spelling.{lines_of_slice, lines_of_witnesses}
use Rattle.report.proofs.WriteSteps.{slice_named, witnesses_named, report_put}
use Rattle.report.proofs.writing.write_report.Goals as goal

pub put_slice_part-requires : goal.put_slice_part-requires
put_slice_part-requires c =
    let r = c.args.report.now in
    rw c.as_slice-procs.ensures (slice_named r.procs r.lengths c.requires.run r.slice c.requires.slice)

pub put_witnesses-requires : goal.put_witnesses-requires
put_witnesses-requires c =
    let r = c.args.report.now in
    rw (c.as_slice-procs.ensures, c.as_slice.ensures) (witnesses_named r.procs r.lengths c.requires.run r.witnesses c.requires.witnesses)

pub returns : goal.returns
returns c =
    let r = c.args.report.now in
    let slice : c.put_slice_part.new.out ≡ c.in_ok-out.out ++ text_of (lines_of_slice r.procs r.slice) = rw c.as_slice-procs.ensures at c.in_ok-put_slice_part.ensures in
    let witnesses : c.put_witnesses.new.out ≡ c.put_slice_part.new.out ++ text_of (lines_of_witnesses r.procs r.witnesses) = rw (c.as_slice-procs.ensures, c.as_slice.ensures) at c.in_ok-put_witnesses.ensures in
    report_put r c.in_ok-out.out c.put_slice_part.new.out c.put_witnesses.new.out c.extend_from_slice.new.self c.in_ok-out.ensures slice witnesses c.in_ok-extend_from_slice.ensures.ok
