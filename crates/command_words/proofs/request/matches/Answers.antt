use Rattle.std.proofs.Common.{◌∙◌, ap, map, refl}
use Rattle.std.specs.String.{string_bytes}
use Rattle.std.proofs.lemmas.Result.{IfErr-weaker, IfOk-weaker}
use Rattle.clap.specs.Words.{app_of}
use Rattle.command_words.specs.ByClap.{pota_app, values_in}
use Rattle.command_words.proofs.Agree.{known_matches, known_to_take, values_agree, words_taken}
use Rattle.command_words.proofs.request.matches.Goals as goal

pub returns-clause-values : goal.returns-clause-values
returns-clause-values c = IfOk-weaker c.try_get_matches_from.result _ _
    (λ m h g e. ap values_in (known_matches (app_of c.in_ok-command.field-0) pota_app c.in_ok-command.ensures refl (map string_bytes c.args.words.now) m h)
    ∙ values_agree (map string_bytes c.args.words.now) g e) c.try_get_matches_from.ensures.matches

pub returns-clause-memory : goal.returns-clause-memory
returns-clause-memory c = IfErr-weaker c.try_get_matches_from.result _ _
    (λ x h g e. h (known_to_take (app_of c.in_ok-command.field-0) pota_app c.in_ok-command.ensures (map string_bytes c.args.words.now)
    (words_taken (map string_bytes c.args.words.now) g e))) c.try_get_matches_from.ensures.passes
