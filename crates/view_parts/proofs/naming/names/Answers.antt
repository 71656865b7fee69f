use Rattle.std.proofs.Common.{◌≡◌, true, false, drop, sym, ap, ◌∙◌, arith}
use Rattle.std.proofs.lemmas.List.{take_rest}
use Rattle.view_parts.specs.Naming.{beginning}
use Rattle.view_parts.proofs.Tokens.{named_here, named_next, named_nowhere, begins_nothing}
use Rattle.view_parts.proofs.naming.names.Goals as goal

pub returns-then-begin_with : goal.returns-then-begin_with
returns-then-begin_with c =
    let ts = c.args.tokens.now in
    let here : beginning c.args.sought (drop c.loop-i.i ts) ≡ true =
    ap (beginning c.args.sought) (sym (take_rest ts c.loop-i.i)) ∙ sym c.begin_with.ensures ∙ c.if-begin_with.true in
    sym (c.loop-i.invariant ∙ named_here (beginning c.args.sought) (drop c.loop-i.i ts) (begins_nothing c.args.sought) here)

pub loop-i-preserved : goal.loop-i-preserved
loop-i-preserved c =
    let ts = c.args.tokens.now in
    let here : beginning c.args.sought (drop c.loop-i.i ts) ≡ false =
    ap (beginning c.args.sought) (sym (take_rest ts c.loop-i.i)) ∙ sym c.begin_with.ensures ∙ c.if-begin_with.false in
    c.loop-i.invariant ∙ named_next (beginning c.args.sought) ts c.loop-i.i here

pub returns : goal.returns
returns c = sym (c.loop-i.invariant ∙ named_nowhere (beginning c.args.sought) c.args.tokens.now c.loop-i.i (omega arith))
