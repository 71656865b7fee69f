use Rattle.std.specs.Prelude.{map, string_bytes}
use Rattle.pota_base.specs.Changes.{of_source}
use Rattle.log_rules.specs.WholeLogs.{all_of}
use Rattle.one_log.proofs.Written.{whole, refused, failed, short, calm_so}
use Rattle.std.proofs.Common.{[]}
use Rattle.one_log.proofs.Kept.{kept_so}
use Rattle.one_log.proofs.top.log_whole.Goals as goal

pub put_log-requires : goal.put_log-requires
put_log-requires g c =
    let stood = rw c.in-Ok-Whole.field-0-is at c.in-Ok-Whole.ensures.reads in
    kept_so c.in-Ok-Whole.log stood.to.2.log_is

pub returns-in-Ok-Whole-clause-logged : goal.returns-in-Ok-Whole-clause-logged
returns-in-Ok-Whole-clause-logged g c =
    whole (map string_bytes c.args.words.now) c.args.asked.now c.requires.asks (of_source g.S.Source c.args.input.now c.read_input.new.source) (g.O.Sink.held c.args.out.now) (g.O.Sink.faults c.args.out.now) c.requires.plain
    c.in-Ok-Whole.log c.in-Ok-Whole.places (rw c.in-Ok-Whole.field-0-is at c.in-Ok-Whole.ensures.reads) (g.O.Sink.held c.put_log.new.out) (g.O.Sink.faults c.put_log.new.out) c.put_log.result c.put_log.ensures

pub returns-in-Ok-Whole-clause-calm : goal.returns-in-Ok-Whole-clause-calm
returns-in-Ok-Whole-clause-calm g c =
    let stood = rw c.in-Ok-Whole.field-0-is at c.in-Ok-Whole.ensures.reads in
    calm_so (map string_bytes c.args.words.now) c.args.asked.now (all_of c.in-Ok-Whole.log) (g.O.Sink.held c.args.out.now) (g.O.Sink.held c.put_log.new.out) (g.O.Sink.faults c.args.out.now) (g.O.Sink.faults c.put_log.new.out)
    (g.S.Source.faults c.args.input.now) (g.S.Source.faults c.read_input.new.source) stood.to.1 c.put_log.result c.put_log.ensures

pub returns-in-Ok-Faulty-clause-logged : goal.returns-in-Ok-Faulty-clause-logged
returns-in-Ok-Faulty-clause-logged g c =
    refused (map string_bytes c.args.words.now) c.args.asked.now c.requires.asks (of_source g.S.Source c.args.input.now c.read_input.new.source) (g.O.Sink.held c.args.out.now) (g.O.Sink.faults c.args.out.now) c.requires.plain c.in-Ok-Faulty.refusal c.in-Ok-Faulty.line (rw c.in-Ok-Faulty.field-0-is at c.in-Ok-Faulty.ensures.reads)

pub returns-in-Ok-Failed-clause-logged : goal.returns-in-Ok-Failed-clause-logged
returns-in-Ok-Failed-clause-logged g c =
    failed (map string_bytes c.args.words.now) c.args.asked.now c.requires.asks (of_source g.S.Source c.args.input.now c.read_input.new.source) (g.O.Sink.held c.args.out.now) (g.O.Sink.faults c.args.out.now) c.requires.plain (rw c.in-Ok-Failed.field-0-is at c.in-Ok-Failed.ensures.reads)

pub returns-in-Err-clause-logged : goal.returns-in-Err-clause-logged
returns-in-Err-clause-logged g c = short (map string_bytes c.args.words.now) (of_source g.S.Source c.args.input.now c.read_input.new.source) (g.O.Sink.held c.args.out.now) (g.O.Sink.faults c.args.out.now) [] c.in-Err.ensures.short
