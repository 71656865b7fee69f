use mathlib.Core.Bool.{beq}
use Rattle.std.proofs.Common.{Bool, Some, sym, subst}
use Rattle.std.specs.Bool.{OnFalse}
use Rattle.std.specs.Option.{option_eq}
use Rattle.certificate_lines.specs.declared.line.Line.{Line}
use Rattle.certificate_text.specs.Taking.{NoneFollows}
use Rattle.certificate.specs.Following.{Follows}
use Rattle.certificate.proofs.OneSlice.{verdict_refused}
use Rattle.certificate.proofs.taking.take_line.Goals as goal

pub returns-in_ok-found-in-Verdict-clause-refused : goal.returns-in_ok-found-in-Verdict-clause-refused
returns-in_ok-found-in-Verdict-clause-refused g c =
    let v = c.args.nodes.now in
    let found = c.in_ok-found-in-Verdict.found in
    let told = c.in-Verdict.told in
    subst (λ (same : Bool). OnFalse same (NoneFollows Follows v c.args.line)) (sym c.eq.ensures)
    (subst (λ (said : Line). OnFalse (option_eq beq found (Some told)) (NoneFollows Follows v said)) (sym c.in-Verdict.is)
    (verdict_refused v c.conclude.new.self found told c.in_ok-found-in-Verdict.ensures.allowed c.in_ok-found-in-Verdict.ensures.truth))
