use Rattle.std.proofs.Common.{ℕ, ◌≡◌, ◌∷◌, subst}
use Rattle.rctl_grammar.specs.declared.token.Kind.TheVariants as kind
use Rattle.rctl_grammar.specs.Grammar.{tok}
use Rattle.rctl_parse.specs.declared.role.LeafRole.{LeafRole}
use Rattle.rctl_parse.specs.inside.Parts.{IsLeafRole, WordFault}
use Rattle.rctl_parse.proofs.LeafSteps.{stops_with}
use Rattle.rctl_parse.proofs.UnarySteps.{compared_answer, watched_answer, constant_word, transit_answer, emptiness_answer, no_role_fault}
use Rattle.rctl_parse.proofs.parser.atom.Goals as goal

pub returns-in_ok-place_of-in-Compared : goal.returns-in_ok-place_of-in-Compared
returns-in_ok-place_of-in-Compared c = λ w is.
    let here : (dot : ℕ) × (c.args.rest.now ≡ tok kind.Dot dot ∷ c.in-Compared.behind.now) = subst (λ (r : LeafRole). IsLeafRole r w c.args.rest.now) c.in-Compared.is is in
    compared_answer _ _ here.0 _ _ _ _ here.1 c.in_ok-place_of-in-Compared.ensures c.comparison.ensures

pub returns-in_ok-place_of-in-Watched : goal.returns-in_ok-place_of-in-Watched
returns-in_ok-place_of-in-Watched c = λ w is.
    let here : (at : ℕ) × (c.args.rest.now ≡ tok kind.At at ∷ c.in-Watched.behind.now) = subst (λ (r : LeafRole). IsLeafRole r w c.args.rest.now) c.in-Watched.is is in
    watched_answer _ _ here.0 _ _ _ _ here.1 c.in_ok-place_of-in-Watched.ensures c.watch.ensures

pub returns-in-Constant : goal.returns-in-Constant
returns-in-Constant c = λ w is. constant_word w _ _ _ _ _ (subst (λ (r : LeafRole). IsLeafRole r w c.args.rest.now) c.in-Constant.is is)

pub returns-in-Transit : goal.returns-in-Transit
returns-in-Transit c = λ w is. transit_answer _ w _ _ _ _ (subst (λ (r : LeafRole). IsLeafRole r w c.args.rest.now) c.in-Transit.is is) c.transit.ensures

pub returns-in-Emptiness : goal.returns-in-Emptiness
returns-in-Emptiness c = λ w is. emptiness_answer _ w _ _ _ _ (subst (λ (r : LeafRole). IsLeafRole r w c.args.rest.now) c.in-Emptiness.is is) c.emptiness.ensures

pub returns-in-Nothing : goal.returns-in-Nothing
returns-in-Nothing c = λ w is. stops_with (WordFault (record { word = w; name = c.args.name.now; at = c.args.at }) c.args.rest.now c.args.end) c.refused_here.result _ c.refused_here.ensures
    (no_role_fault w _ _ _ _ (subst (λ (r : LeafRole). IsLeafRole r w c.args.rest.now) c.in-Nothing.is is))
