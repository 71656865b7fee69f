use Rattle.std.proofs.Common.{◌≡◌, ◌++◌, ◌∷◌, [], List, ℕ, ap, ◌∙◌}
use Rattle.std.specs.Prelude.{codes}
use Rattle.view_parts.proofs.Each.{puts_more, puts_last}
use Rattle.view_parts.specs.Parts.{event_at, place_text, line_text, kind_text, assigns_text}
use Rattle.log_lines.specs.Spelling.{clock_text}
use Rattle.event_log.specs.declared.log.Event.{Event}
use Rattle.view_picture.proofs.marks.put_title.Goals as goal

pub returns : goal.returns
returns c =
    let out = c.args.out.now in
    let s = c.args.states.now in
    let e = c.args.event in
    let clocked = ap clock_text (c.as_slice.ensures ∙ ap (λ (x : Event). x.clock) c.event_at.ensures) in
    let a0 = codes "<title>" in
    let a1 = line_text s e in
    let a2 = codes ": " in
    let a3 = place_text s.header.procs e in
    let a4 = codes " " in
    let a5 = kind_text s e in
    let a6 = assigns_text s e in
    let a7 = codes " clock " in
    let a8 = clock_text (event_at s e).clock in
    let a9 = codes "</title>" ++ 10 ∷ [] in
    let f0 : c.extend_from_slice.new.self ≡ out ++ a0 = c.in_ok-extend_from_slice.ensures.ok in
    let f1 : c.put_line_of.new.out ≡ out ++ (a0 ++ a1) = puts_more out (a0) a1 c.extend_from_slice.new.self c.put_line_of.new.out f0 c.in_ok-put_line_of.ensures in
    let f2 : c.extend_from_slice-2.new.self ≡ out ++ (a0 ++ a1 ++ a2) = puts_more out (a0 ++ a1) a2 c.put_line_of.new.out c.extend_from_slice-2.new.self f1 c.in_ok-extend_from_slice-2.ensures.ok in
    let f3 : c.put_place.new.out ≡ out ++ (a0 ++ a1 ++ a2 ++ a3) = puts_more out (a0 ++ a1 ++ a2) a3 c.extend_from_slice-2.new.self c.put_place.new.out f2 c.in_ok-put_place.ensures in
    let f4 : c.extend_from_slice-3.new.self ≡ out ++ (a0 ++ a1 ++ a2 ++ a3 ++ a4) = puts_more out (a0 ++ a1 ++ a2 ++ a3) a4 c.put_place.new.out c.extend_from_slice-3.new.self f3 c.in_ok-extend_from_slice-3.ensures.ok in
    let f5 : c.put_kind.new.out ≡ out ++ (a0 ++ a1 ++ a2 ++ a3 ++ a4 ++ a5) = puts_more out (a0 ++ a1 ++ a2 ++ a3 ++ a4) a5 c.extend_from_slice-3.new.self c.put_kind.new.out f4 c.in_ok-put_kind.ensures in
    let f6 : c.put_assigns.new.out ≡ out ++ (a0 ++ a1 ++ a2 ++ a3 ++ a4 ++ a5 ++ a6) = puts_more out (a0 ++ a1 ++ a2 ++ a3 ++ a4 ++ a5) a6 c.put_kind.new.out c.put_assigns.new.out f5 c.in_ok-put_assigns.ensures in
    let f7 : c.extend_from_slice-4.new.self ≡ out ++ (a0 ++ a1 ++ a2 ++ a3 ++ a4 ++ a5 ++ a6 ++ a7) = puts_more out (a0 ++ a1 ++ a2 ++ a3 ++ a4 ++ a5 ++ a6) a7 c.put_assigns.new.out c.extend_from_slice-4.new.self f6 c.in_ok-extend_from_slice-4.ensures.ok in
    let f8 : c.put_clock.new.out ≡ out ++ (a0 ++ a1 ++ a2 ++ a3 ++ a4 ++ a5 ++ a6 ++ a7 ++ a8) = puts_more out (a0 ++ a1 ++ a2 ++ a3 ++ a4 ++ a5 ++ a6 ++ a7) a8 c.extend_from_slice-4.new.self c.put_clock.new.out f7 (c.in_ok-put_clock.ensures ∙ ap (λ (x : List ℕ). c.extend_from_slice-4.new.self ++ x) (clocked)) in
    puts_last c.extend_from_slice-5.result out (a0 ++ a1 ++ a2 ++ a3 ++ a4 ++ a5 ++ a6 ++ a7 ++ a8) a9 c.put_clock.new.out c.extend_from_slice-5.new.self f8 c.extend_from_slice-5.ensures.ok
