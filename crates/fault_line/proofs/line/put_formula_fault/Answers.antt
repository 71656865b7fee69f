use Rattle.std.proofs.Common.{ℕ, List, ◌++◌, ap, ◌∙◌}
use Rattle.std.specs.Prelude.{codes}
use Rattle.std.specs.Fmt.{decimal}
use Rattle.fault_line.specs.FaultText.{formula_code_text}
use Rattle.fault_line.proofs.Telling.{four_texts}
use Rattle.fault_line.proofs.line.put_formula_fault.Goals as goal

pub returns-clause-text : goal.returns-clause-text
returns-clause-text c =
    four_texts c.args.line.now c.push.new.self c.push-2.new.self c.push-3.new.self c.push-4.new.self (codes "formula byte ") (decimal c.args.fault.now.place) (codes ": ") (formula_code_text c.args.fault.now.code)
    c.push.ensures (c.push-2.ensures ∙ ap (λ (t : List ℕ). c.push.new.self ++ t) (c.as_bytes.ensures.value ∙ c.format.ensures.text))
    c.push-3.ensures (c.push-4.ensures ∙ ap (λ (t : List ℕ). c.push-3.new.self ++ t) c.formula_code_text.ensures.text)
