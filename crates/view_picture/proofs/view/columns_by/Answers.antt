use Rattle.std.proofs.Common.{◌≡◌, List, ap, subst, ◌∙◌, length, arith}
use Rattle.run_model.specs.Cut.{Clocks}
use Rattle.event_log.specs.States.{StatesView}
use Rattle.rctl_grammar.specs.declared.token.Token.{Token}
use Rattle.rctl_lexer.specs.declared.lexer.Lexed.{Lexed}
use Rattle.rctl_lexer.specs.Lexing.{lex}
use Rattle.report_lines.proofs.Formulas.{canonical_short}
use Rattle.vector_clock.specs.Events.{clocks_of}
use Rattle.view_picture.specs.declared.choice.Choice.{Choice}
use Rattle.view_picture.specs.Choice.{formula_tokens, choice_of, wants}
use Rattle.view_picture.specs.Columns.{AreColumns}
use Rattle.view_picture.proofs.view.columns_by.Goals as goal

pub lex-requires : goal.lex-requires
lex-requires c = omega (arith, ap length c.as_slice.ensures, canonical_short c.args.report.now.formula c.requires.formed.formula)

pub returns : goal.returns
returns c =
    let s = c.args.trace.now.states in
    let r = c.args.report.now in
    let x = c.args.extent in
    let v = c.states-states.result.now in
    let t = c.as_slice-tokens.result.now in
    let ch = c.in_ok-choice.choice in
    let rows = c.in_ok-columns.columns in
    let o : Clocks = clocks_of s.events in
    let tokens : t ≡ formula_tokens r = c.as_slice-tokens.ensures ∙ ap (λ (l : Lexed). l.tokens) (c.in_ok-lexed.ensures.lexed ∙ ap lex c.as_slice.ensures) in
    subst (λ (u : List Token). AreColumns o (wants s u (choice_of s u x r)) rows) tokens
    (subst (λ (w : StatesView). AreColumns o (wants w t (choice_of w t x r)) rows) c.states-states.ensures.states
    (subst (λ (k : Choice). AreColumns o (wants v t k) rows) c.in_ok-choice.ensures
    (subst (λ (p : Clocks). AreColumns p (wants v t ch) rows) c.order.ensures.order c.in_ok-columns.ensures)))
