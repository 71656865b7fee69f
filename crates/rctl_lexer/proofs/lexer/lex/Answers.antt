use Rattle.std.proofs.Common.{rules, ◌+◌, ◌<◌, length, arith, sym, subst}
use Rattle.std.proofs.lemmas.List.{take_rest}
use Rattle.rctl_lexer.specs.declared.lexer.Lexed.{Lexed}
use Rattle.rctl_lexer.specs.Lexing.{place_of, Ascend, IsEndOf}
use Rattle.rctl_lexer.proofs.Places.{lex_ascends, lex_ends}
use Rattle.rctl_lexer.proofs.Steps.{goes-on, lex-ended, lex-bad, lex-blank, lex-token}
use Rattle.rctl_lexer.proofs.lexer.lex.Goals as goal

pub returns-in-Bad-clause-lexed : goal.returns-in-Bad-clause-lexed
returns-in-Bad-clause-lexed c =
    lex-bad _ _ _ _ c.loop-rest.invariant.read (search rules) (rw c.in-Bad.is at c.in_ok-front_of.ensures.front)

pub returns-in-Bad-clause-ascend : goal.returns-in-Bad-clause-ascend
returns-in-Bad-clause-ascend c =
    let e = lex-bad _ _ _ _ c.loop-rest.invariant.read (search rules) (rw c.in-Bad.is at c.in_ok-front_of.ensures.front) in
    subst (λ (lexed : Lexed). Ascend 0 lexed.tokens (place_of lexed.end)) (sym e) (lex_ascends c.args.text.now)

pub returns-in-Bad-clause-end : goal.returns-in-Bad-clause-end
returns-in-Bad-clause-end c =
    let e = lex-bad _ _ _ _ c.loop-rest.invariant.read (search rules) (rw c.in-Bad.is at c.in_ok-front_of.ensures.front) in
    subst (λ (lexed : Lexed). IsEndOf (length c.args.text.now) lexed.end) (sym e) (lex_ends c.args.text.now)

pub loop-rest-preserved-in-Blank : goal.loop-rest-preserved-in-Blank
loop-rest-preserved-in-Blank c =
    let is = take_rest c.loop-rest.rest.now 1 in
    record {
      read = lex-blank _ _ _ _ _ c.loop-rest.invariant.read (search rules) (rw c.in-Blank.is at c.in_ok-front_of.ensures.front) is;
      place = goes-on _ 1 _ _ _ c.loop-rest.invariant.place (search rules) is;
    }

pub loop-rest-preserved : goal.loop-rest-preserved
loop-rest-preserved c =
    let is = take_rest c.loop-rest.rest.now (c.in-Token.extra + 1) in
    let within : c.in-Token.extra < length c.loop-rest.rest.now = rw c.in-Token.is at c.in_ok-front_of.ensures.within in
    record {
      read = lex-token _ _ _ _ _ _ _ _ c.loop-rest.invariant.read within (rw c.in-Token.is at c.in_ok-front_of.ensures.front) c.in_ok-push-in-Token.ensures.ok is;
      place = goes-on _ (c.in-Token.extra + 1) _ _ _ c.loop-rest.invariant.place (omega arith) is;
    }

pub returns-clause-lexed : goal.returns-clause-lexed
returns-clause-lexed c = lex-ended _ _ _ _ c.loop-rest.invariant.read (search rules)

pub returns-clause-ascend : goal.returns-clause-ascend
returns-clause-ascend c =
    let e = lex-ended _ _ _ _ c.loop-rest.invariant.read (search rules) in
    subst (λ (lexed : Lexed). Ascend 0 lexed.tokens (place_of lexed.end)) (sym e) (lex_ascends c.args.text.now)
