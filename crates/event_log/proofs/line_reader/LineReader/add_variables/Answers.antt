use Rattle.std.proofs.Common.{rules, ◌≡◌, ◌-◌, ◌≤◌, ◌++◌, ◌∷◌, List, [], length, replicate, ap, subst, arith, refl, sym, ◌∙◌}
use Rattle.std.specs.List.{All}
use Rattle.std.proofs.lemmas.List.{length_push}
use Rattle.std.proofs.lemmas.List.Elements.{All-push, All-append, All-replicate}
use Rattle.pota_base.specs.Limits.{most_variables}
use Rattle.event_log.specs.declared.log.Binding.{Binding}
use Rattle.event_log.proofs.ReadLaws.{length-filled}
use Rattle.event_log.proofs.line_reader.LineReader.add_variables.Goals as goal

pub invariant_of-self-2 : goal.invariant_of-self-2
invariant_of-self-2 c =
    let IsFew = λ (bindings : List Binding). length bindings ≤ most_variables in
    let before = c.args.self.now.variables in
    let k = c.args.process - length before in
    record {
      counted = search rules;
      few = search rules;
      narrow = subst (All IsFew) (sym (c.in_ok-push.ensures.ok ∙ ap (λ (vs : List (List Binding)). vs ++ c.args.bindings ∷ []) (c.in_ok-variables.ensures ∙ rw c.replace-before.ensures.value refl)))
          (All-push IsFew (before ++ replicate k []) c.args.bindings (All-append IsFew before (replicate k []) c.args.self.now.narrow (All-replicate IsFew k [] (omega arith))) c.requires.few);
      placed =
          let made : length c.in_ok-variables.variables ≡ c.args.process = ap length c.in_ok-variables.ensures ∙ rw c.replace-before.ensures.value (length-filled before c.args.process c.requires.first) in
          omega (arith, ap length c.in_ok-push.ensures.ok, length_push c.in_ok-variables.variables c.args.bindings, made);
    }
