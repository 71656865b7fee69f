use Rattle.std.proofs.Common.{ℕ, List, ◌++◌, ap, ◌∙◌}
use Rattle.std.specs.Prelude.{codes}
use Rattle.std.specs.Fmt.{decimal}
use Rattle.fault_line.specs.FaultText.{merge_code_text}
use Rattle.fault_line.proofs.Telling.{six_texts}
use Rattle.fault_line.proofs.line.put_merge_fault.Goals as goal

pub returns-clause-text : goal.returns-clause-text
returns-clause-text c =
    six_texts c.args.line.now c.push.new.self c.push-2.new.self c.push-3.new.self c.push-4.new.self c.push-5.new.self c.push-6.new.self
    (codes "log source ") (decimal c.args.fault.now.source) (codes " line ") (decimal c.args.fault.now.line) (codes ": ") (merge_code_text c.args.fault.now.code)
    c.push.ensures (c.push-2.ensures ∙ ap (λ (t : List ℕ). c.push.new.self ++ t) (c.as_bytes.ensures.value ∙ c.format.ensures.text))
    c.push-3.ensures (c.push-4.ensures ∙ ap (λ (t : List ℕ). c.push-3.new.self ++ t) (c.as_bytes-2.ensures.value ∙ c.format-2.ensures.text))
    c.push-5.ensures (c.push-6.ensures ∙ ap (λ (t : List ℕ). c.push-5.new.self ++ t) c.merge_code_text.ensures.text)
