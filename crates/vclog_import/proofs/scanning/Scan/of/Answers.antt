use Rattle.std.proofs.Common.{sym, ◌∙◌, ap, refl, ℕ}
use Rattle.std.specs.Prelude.{◌==◌}
use Rattle.vclog_import.specs.inside.Reading.{record_of}
use Rattle.vclog_import.proofs.ScanSteps.{scanning_more, scan_faulty, scan_ends}
use Rattle.vclog_import.proofs.scanning.Scan.of.Goals as goal

pub returns-in-Some-2 : goal.returns-in-Some-2
returns-in-Some-2 c = scan_faulty c.args.text.now c.lines.scan _ c.lines.left c.next.new.self (record_of c.in-Some.line) c.in-Some-2.code c.lines.invariant c.in-Some.ensures.some c.in_ok-code.ensures.lines (sym c.in_ok-code.ensures.fault ∙ c.in-Some-2.is) refl

pub lines-preserved : goal.lines-preserved
lines-preserved c = scanning_more c.args.text.now c.lines.scan c.add.new.self c.lines.left c.next.new.self (record_of c.in-Some.line) c.lines.invariant c.in-Some.ensures.some c.in_ok-code.ensures.lines (sym c.in_ok-code.ensures.fault ∙ c.in_default-2.is) (c.in_ok-code.ensures.fine c.in_default-2.is)

pub returns : goal.returns
returns c =
    scan_ends c.args.text.now c.lines.scan _ c.lines.left c.next.new.self c.is_empty.result c.lines.invariant c.in_default.ensures.none refl refl refl
    (c.is_empty.ensures ∙ ap (λ (n : ℕ). n == 0) c.lines.scan.lines.ok.0) c.end_fault-scan.ensures
