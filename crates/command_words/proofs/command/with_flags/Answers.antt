use Rattle.std.proofs.Common.{◌∙◌, ap, codes}
use Rattle.std.proofs.lemmas.Result.{IfOk-weaker}
use Rattle.clap.specs.Words.{App, with_rule}
use Rattle.command_words.specs.ByClap.{flag_named}
use Rattle.command_words.proofs.command.with_flags.Goals as goal

pub returns : goal.returns
returns c = IfOk-weaker c.with_flag-5.result _ _ (λ r h. h
    ∙ ap (λ (a : App). with_rule a (flag_named (codes "merged"))) (c.in_ok-command-4.ensures
    ∙ ap (λ (a : App). with_rule a (flag_named (codes "vclog"))) (c.in_ok-command-3.ensures
    ∙ ap (λ (a : App). with_rule a (flag_named (codes "each-batch"))) (c.in_ok-command-2.ensures
    ∙ ap (λ (a : App). with_rule a (flag_named (codes "witness"))) c.in_ok-command.ensures)))) c.with_flag-5.ensures
