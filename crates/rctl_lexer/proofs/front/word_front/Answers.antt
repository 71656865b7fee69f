use Rattle.std.proofs.Common.{◌≡◌, ◌+◌, true, false, take, refl, rules}
use Rattle.pota_names.specs.Names.{is_name}
use Rattle.rctl_lexer.specs.Front.{word_front}
use Rattle.rctl_lexer.proofs.front.word_front.Goals as goal

pub returns-in-None-clause-word : goal.returns-in-None-clause-word
unfolding word_front
returns-in-None-clause-word c =
    let no : is_name (take (c.args.extra + 1) c.args.text.now) ≡ false = search rules in
    rw no refl

pub returns-in-Some-clause-word : goal.returns-in-Some-clause-word
unfolding word_front
returns-in-Some-clause-word c =
    let is = rw c.in-Some.is at c.in_ok-new.ensures in
    let named : is_name (take (c.args.extra + 1) c.args.text.now) ≡ true = search (rules, is.0) in
    rw (named, is.1, c.word_of.ensures) refl
