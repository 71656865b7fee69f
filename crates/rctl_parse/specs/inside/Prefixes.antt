-- What stands before a unary inside another.
use Rattle.std.specs.Prelude.{◌≡◌, ℕ, List}
use Rattle.run_model.specs.Run.{Name}
use Rattle.run_model.specs.Formula as model
use Rattle.rctl_grammar.specs.declared.token.Kind.TheVariants as kind
use Rattle.rctl_grammar.specs.declared.token.Token.{Token}
use Rattle.rctl_grammar.specs.declared.tree.Tree.{Tree}
use Rattle.rctl_grammar.specs.declared.tree.Tree.TheVariants as tree
use Rattle.rctl_grammar.specs.Grammar.{tok, spelled, operator_of, word_of}
use Rattle.rctl_grammar.specs.Machine.{no_sign}
use Rattle.rctl_parse.specs.declared.parser.Prefix.{Prefix}
use Rattle.rctl_parse.specs.declared.parser.Prefix.TheVariants as prefix
use Rattle.rctl_parse.specs.inside.Parts.{sign_of}

abbrev pub IsPrefix : Prefix → Token → ℕ → List Token → Type 0
IsPrefix prefix.Negation first at ts = first ≡ tok kind.Bang at
IsPrefix (prefix.Operator operator) first at ts =
    (op : model.Operator) × (operator ≡ operator_of op) × (name : Name)
    × (first ≡ spelled (word_of op) name at) × (sign_of ts ≡ no_sign)

abbrev pub prefix_tree : Prefix → Tree → ℕ → Tree
prefix_tree prefix.Negation t at = tree.Not t at
prefix_tree (prefix.Operator operator) t at = tree.Temporal operator t at
