use Rattle.std.proofs.Common.{ℕ, List, [], ◌∷◌, ◌++◌, ap, map, drop, ◌∙◌, refl}
use Rattle.std.specs.Prelude.{codes}
use Rattle.ask_faults.specs.Lines.{shown, there_text}
use Rattle.ask_faults.proofs.Pieces.{last_as, more, there_some}
use Rattle.ask_faults.proofs.lines.put_there.Goals as goal

pub returns : goal.returns
returns c =
    let out = c.args.out.now in
    let label = codes "pota_ask: there: " in
    let rest = drop c.args.place c.args.text.now in
    last_as c.push.result out (label ++ map shown c.front.result.now) (10 ∷ []) (label ++ there_text rest) (10 ∷ []) c.put_shown.new.out c.push.new.self
    (more out label (map shown c.front.result.now) c.extend_from_slice.new.self c.put_shown.new.out c.in_ok-extend_from_slice.ensures.ok c.in_ok-put_shown.ensures)
    (ap (λ (l : List ℕ). label ++ l) (there_some c.behind-rest.result.now c.front.result.now c.if-rest-eq0.false c.front.ensures ∙ ap there_text c.behind-rest.ensures)) c.push.ensures.ok refl
