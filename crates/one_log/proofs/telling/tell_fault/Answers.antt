use Rattle.std.specs.Prelude.{map, string_bytes}
use Rattle.std.proofs.Common.{Some, sym, subst}
use Rattle.pota_base.specs.Changes.{change_of}
use Rattle.fault_line.specs.Lines.{Told, line_by}
use Rattle.fault_line.specs.declared.fault.Fault.{Fault as Shared}
use Rattle.one_log.specs.declared.fault.Fault.{Fault}
use Rattle.one_log.specs.Faults.{line_of, program}
use Rattle.one_log.proofs.telling.tell_fault.Goals as goal

pub returns-in-Usage : goal.returns-in-Usage
returns-in-Usage g c =
    subst (λ (f : Fault). Told (change_of (g.D.Sink.held c.args.diag.now) (g.D.Sink.held c.put.new.diag) (g.D.Sink.faults c.args.diag.now) (g.D.Sink.faults c.put.new.diag)) (line_of (map string_bytes c.args.words.now) (Some f)))
    (sym c.in-Usage.is) c.put.ensures

pub returns-in-Refused : goal.returns-in-Refused
returns-in-Refused g c =
    subst (λ (f : Fault). Told (change_of (g.D.Sink.held c.args.diag.now) (g.D.Sink.held c.put_shared.new.diag) (g.D.Sink.faults c.args.diag.now) (g.D.Sink.faults c.put_shared.new.diag)) (line_of (map string_bytes c.args.words.now) (Some f)))
    (sym c.in-Refused.is)
    (subst (λ (f : Shared). Told (change_of (g.D.Sink.held c.args.diag.now) (g.D.Sink.held c.put_shared.new.diag) (g.D.Sink.faults c.args.diag.now) (g.D.Sink.faults c.put_shared.new.diag)) (line_by program (Some f)))
    c.of_refusal.ensures c.put_shared.ensures)

pub returns-in-TooLong : goal.returns-in-TooLong
returns-in-TooLong g c =
    subst (λ (f : Fault). Told (change_of (g.D.Sink.held c.args.diag.now) (g.D.Sink.held c.put-in-TooLong.new.diag) (g.D.Sink.faults c.args.diag.now) (g.D.Sink.faults c.put-in-TooLong.new.diag)) (line_of (map string_bytes c.args.words.now) (Some f)))
    (sym c.in-TooLong.is) c.put-in-TooLong.ensures

pub returns-in-Read : goal.returns-in-Read
returns-in-Read g c =
    subst (λ (f : Fault). Told (change_of (g.D.Sink.held c.args.diag.now) (g.D.Sink.held c.put_shared-in-Read.new.diag) (g.D.Sink.faults c.args.diag.now) (g.D.Sink.faults c.put_shared-in-Read.new.diag)) (line_of (map string_bytes c.args.words.now) (Some f)))
    (sym c.in-Read.is) c.put_shared-in-Read.ensures

pub returns-in-Write : goal.returns-in-Write
returns-in-Write g c =
    subst (λ (f : Fault). Told (change_of (g.D.Sink.held c.args.diag.now) (g.D.Sink.held c.put_shared-in-Write.new.diag) (g.D.Sink.faults c.args.diag.now) (g.D.Sink.faults c.put_shared-in-Write.new.diag)) (line_of (map string_bytes c.args.words.now) (Some f)))
    (sym c.in-Write.is) c.put_shared-in-Write.ensures

pub returns-in-Memory : goal.returns-in-Memory
returns-in-Memory g c =
    subst (λ (f : Fault). Told (change_of (g.D.Sink.held c.args.diag.now) (g.D.Sink.held c.put_shared-in-Memory.new.diag) (g.D.Sink.faults c.args.diag.now) (g.D.Sink.faults c.put_shared-in-Memory.new.diag)) (line_of (map string_bytes c.args.words.now) (Some f)))
    (sym c.in-Memory.is) c.put_shared-in-Memory.ensures
