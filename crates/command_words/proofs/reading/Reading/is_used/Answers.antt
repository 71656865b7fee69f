use Rattle.std.proofs.Common.{◌∙◌, rules, tests}
use Rattle.std.proofs.lemmas.Iterator.{YieldsList-from_slice}
use Rattle.std.proofs.lemmas.Iterator.Search.{any_from_yields_List}
use Rattle.std.specs.Str.{bytes_eq}
use Rattle.clap.proofs.WalkLemmas.{list_any-map}
use Rattle.command_words.specs.declared.reading.Part.{Part}
use Rattle.command_words.specs.Rule.{Use}
use Rattle.command_words.proofs.reading.Reading.is_used.Goals as goal

pub returns : goal.returns
returns c =
    any_from_yields_List (λ (p : Part). bytes_eq p.name.now c.args.name.now) _ _ _ c.any.ensures.ran (YieldsList-from_slice c.args.self.now.parts.items cc) (λ x b q k. search (rules, tests))
    ∙ list_any-map (λ (u : Use). bytes_eq u.name c.args.name.now) (λ (p : Part). record { name = p.name.now; value = p.value.now }) c.args.self.now.parts.items
