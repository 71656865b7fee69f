use Rattle.std.proofs.Common.{◌≡◌, refl, ap, ◌∙◌, Bool, []}
use Rattle.vclog_import.specs.Lines.{lines_in}
use Rattle.vclog_import.specs.inside.Reading.{lines_left}
use Rattle.vclog_import.proofs.LineSteps.{takes_whole, takes_last, ends_lines, no_whole_line, nothing_left, some_bytes, no_bytes}
use Rattle.vclog_import.proofs.host_lines.HostLines.next_line.Goals as goal
use Rattle.vclog_import.proofs.host_lines.HostLines.next_line.Goals.{else-self-via-then-self+else-not-is_empty, else-self-via-else-self}

pub returns-in-Some-clause-some : goal.returns-in-Some-clause-some
returns-in-Some-clause-some c = takes_whole c.args.self.now _ c.in-Some.line.now c.in-Some.rest.now c.in-Some.ensures.some.0 c.in-Some.ensures.some.1 refl refl refl refl

pub returns-then-not-is_empty-clause-some : goal.returns-then-not-is_empty-clause-some
returns-then-not-is_empty-clause-some c =
    takes_last c.args.self.now _ c.in-None.ensures.none (some_bytes c.args.self.now.rest.now c.is_empty.result c.is_empty.ensures c.if-not-is_empty.true) c.if-self.true refl refl refl refl

pub returns-else-self-clause-none : goal.returns-else-self-clause-none
returns-else-self-clause-none c =
    let rest = c.args.self.now.rest.now in
    let none : lines_left c.args.self.now ≡ [] = elim c.else-self.branch [
      | else-self-via-then-self+else-not-is_empty w ↦ nothing_left c.args.self.now.unfinished rest (no_bytes rest w.is_empty.result w.is_empty.ensures w.if-not-is_empty.false)
      | else-self-via-else-self w ↦ ap (λ (u : Bool). lines_in u rest) w.if-self.false ∙ no_whole_line rest c.in-None.ensures.none
    ] in
    ends_lines c.args.self.now _ c.in-None.ensures.none none refl refl refl refl
