-- A whole text: what its last part and its end say of it.
use Rattle.std.specs.Prelude.{ℕ, List, None, Some, Result, Ok, Err, MatchResult, IfOk, IfErr}
use Rattle.std.proofs.Common.{◌≡◌, refl, sym, ◌∙◌, ap, subst}
use Rattle.pota_base.specs.declared.fault.Refused.{Refused}
use Rattle.pota_base.specs.declared.fault.Refused.TheVariants as refused
use Rattle.rctl_grammar.specs.declared.token.Token.{Token}
use Rattle.rctl_grammar.specs.declared.token.End.{End}
use Rattle.rctl_grammar.specs.declared.fault.FormulaFault.{FormulaFault}
use Rattle.rctl_grammar.specs.declared.tree.Tree.{Tree}
use Rattle.rctl_grammar.specs.declared.tree.Formula.{Formula}
use Rattle.rctl_grammar.specs.Grammar.{tree_disjunction}
use Rattle.rctl_grammar.specs.Machine.{read}
use Rattle.rctl_grammar.specs.FirstFault.{first_fault}
use Rattle.rctl_laws.specs.PassedOn.{Lexed}
use Rattle.rctl_laws.specs.PassedOn.{lex}
use Rattle.rctl_laws.proofs.Reading.{one_reading}
use Rattle.rctl_laws.proofs.Within.{within_is_read}
use Rattle.rctl_parse.specs.Reading.{Faults}
use Rattle.rctl_parse.specs.Parsing.{IsReadAs, IsTreeOf}

-- what is a formula within the limits is read, and as its one tree
pub complete : (ts : List Token) (ending : End) (t : Tree) (answer : Result Formula (Refused FormulaFault)) → IsTreeOf ts ending t → IfOk answer (λ f. IsTreeOf ts ending f.tree)
    → IfErr answer (λ stop. Faults stop (λ f. first_fault ts ending ≡ Some f)) → MatchResult answer (λ f. f.tree ≡ t) (λ stop. stop ≡ refused.NoMemory)
complete ts ending t (Ok f) given read bad =
    let a = one_reading ts given.d given.text in
    let b = one_reading ts read.d read.text in
    let same : read.d ≡ given.d = let e : Some read.d ≡ Some given.d = sym b ∙ a in cc in
    sym read.tree ∙ ap tree_disjunction same ∙ given.tree
complete ts ending t (Err refused.NoMemory) given read bad = refl
complete ts ending t (Err (refused.Fault f)) given read bad =
    let none : first_fault ts ending ≡ None = subst (λ (e : End). first_fault ts e ≡ None) (sym given.ends) (within_is_read ts given.d given.len given.text given.limits) in cc

pub text_complete : (text : List ℕ) (lexed : Lexed) (tokens : List Token) (t : Tree) (answer : Result Formula (Refused FormulaFault)) → lexed ≡ lex text → tokens ≡ lexed.tokens
    → IsReadAs text t → IfOk answer (λ f. IsTreeOf tokens lexed.end f.tree) → IfErr answer (λ stop. Faults stop (λ f. first_fault tokens lexed.end ≡ Some f))
    → MatchResult answer (λ f. f.tree ≡ t) (λ stop. stop ≡ refused.NoMemory)
text_complete text lexed tokens t answer lexed_is tokens_are given read bad =
    let there : IsTreeOf lexed.tokens lexed.end t = subst (λ (l : Lexed). IsTreeOf l.tokens l.end t) (sym lexed_is) given in
    complete tokens lexed.end t answer (subst (λ (x : List Token). IsTreeOf x lexed.end t) (sym tokens_are) there) read bad
