use Rattle.std.proofs.Common.{◌≡◌, ◌++◌, ◌∷◌, [], List, ℕ, ap, ◌∙◌}
use Rattle.std.specs.Prelude.{codes}
use Rattle.std.specs.Fmt.{decimal}
use Rattle.log_lines.specs.Names.{Name}
use Rattle.event_log.specs.declared.log.Header.{Header}
use Rattle.event_log.specs.LogText.{name_at}
use Rattle.view_parts.proofs.Each.{puts_more, puts_last}
use Rattle.view_text.specs.Transit.{in_transit}
use Rattle.view_text.proofs.transit.put_channel_row.Goals as goal

pub returns : goal.returns
returns c =
    let s = c.args.states.now in
    let p = c.args.sender in
    let q = c.args.receiver in
    let out = c.args.out.now in
    let procs : c.as_slice-procs.result.now ≡ s.header.procs = c.as_slice-procs.ensures ∙ ap (λ (h : Header). h.procs) c.header.ensures.header in
    let from = c.name_at.ensures ∙ ap (λ (names : List Name). name_at names p) procs in
    let to = c.name_at-2.ensures ∙ ap (λ (names : List Name). name_at names q) procs in
    let a = codes "       there  intransit(" in
    let b = name_at s.header.procs p in
    let d = codes "," in
    let e = name_at s.header.procs q in
    let f = codes ") = " in
    let g = decimal (in_transit s c.args.cut.now p q) in
    let sender = c.in_ok-extend_from_slice-2.ensures.ok ∙ ap (λ (x : List ℕ). c.extend_from_slice.new.self ++ x) from in
    let receiver = c.in_ok-extend_from_slice-3.ensures.ok ∙ ap (λ (x : List ℕ). c.push.new.self ++ x) to in
    let number = c.in_ok-put_u64.ensures.ok ∙ ap (λ (n : ℕ). c.extend_from_slice-4.new.self ++ decimal n) (c.from.ensures ∙ c.in_transit.ensures) in
    let two = puts_more out a b c.extend_from_slice.new.self c.extend_from_slice-2.new.self c.in_ok-extend_from_slice.ensures.ok sender in
    let three = puts_more out (a ++ b) d c.extend_from_slice-2.new.self c.push.new.self two c.in_ok-push.ensures.ok in
    let four = puts_more out (a ++ b ++ d) e c.push.new.self c.extend_from_slice-3.new.self three receiver in
    let five = puts_more out (a ++ b ++ d ++ e) f c.extend_from_slice-3.new.self c.extend_from_slice-4.new.self four c.in_ok-extend_from_slice-4.ensures.ok in
    let six = puts_more out (a ++ b ++ d ++ e ++ f) g c.extend_from_slice-4.new.self c.put_u64.new.out five number in
    puts_last c.push-2.result out (a ++ b ++ d ++ e ++ f ++ g) (10 ∷ []) c.put_u64.new.out c.push-2.new.self six c.push-2.ensures.ok
