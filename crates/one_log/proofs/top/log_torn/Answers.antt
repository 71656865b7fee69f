use Rattle.std.specs.Prelude.{map, string_bytes}
use Rattle.pota_base.specs.Changes.{of_source}
use Rattle.one_log.proofs.Words.{never_torn}
use Rattle.one_log.proofs.Written.{torn_whole}
use Rattle.one_log.proofs.top.log_torn.Goals as goal

pub read_torn-requires : goal.read_torn-requires
read_torn-requires g c = never_torn (map string_bytes c.args.words.now) c.args.asked.now c.requires.asks c.requires.torn

pub returns-in-Ok-Whole-clause-logged : goal.returns-in-Ok-Whole-clause-logged
returns-in-Ok-Whole-clause-logged g c =
    torn_whole (map string_bytes c.args.words.now) c.args.asked.now c.requires.asks (of_source g.S.Source c.args.input.now c.read_torn.new.source) (g.O.Sink.held c.args.out.now) (g.O.Sink.faults c.args.out.now) c.requires.torn
    c.in-Ok-Whole.begun (rw c.in-Ok-Whole.field-0-is at c.in-Ok-Whole.ensures.reads) (g.O.Sink.held c.put_beginning.new.out) (g.O.Sink.faults c.put_beginning.new.out) c.put_beginning.result.fault c.put_beginning.result.left_out
    c.put_beginning.ensures.puts c.put_beginning.ensures.lines
