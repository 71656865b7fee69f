use Rattle.std.proofs.Common.{List, ℕ, sym, ap, subst, ◌∙◌, arith}
use Rattle.rctl_grammar.specs.Shape.{shape_of}
use Rattle.rctl_parse.specs.Parsing.{IsReadAs}
use Rattle.rctl_round_trip.proofs.RoundTrips.{printed_again, printed_shortly}
use Rattle.rctl_round_trip.proofs.again.read_back.Goals as goal

pub parse_long-requires : goal.parse_long-requires
parse_long-requires c =
    let is = c.as_slice.ensures ∙ c.in_ok-text.ensures in
    rw is (omega (arith, printed_shortly c.requires.0 c.args.formula.now.tree c.requires.1))

pub returns-in-Ok : goal.returns-in-Ok
returns-in-Ok c =
    let is = c.as_slice.ensures ∙ c.in_ok-text.ensures in
    let p = printed_again c.requires.0 c.args.formula.now.tree c.requires.1 in
    let read = subst (λ (text : List ℕ). IsReadAs text p.0) (sym is) p.1 in
    ap shape_of (c.in-Ok.ensures.complete p.0 read) ∙ p.2

pub unreachable-requires : goal.unreachable-requires
unreachable-requires c =
    let is = c.as_slice.ensures ∙ c.in_ok-text.ensures in
    let p = printed_again c.requires.0 c.args.formula.now.tree c.requires.1 in
    let read = subst (λ (text : List ℕ). IsReadAs text p.0) (sym is) p.1 in
    let stop = c.in-Err-Fault.ensures.complete p.0 read in
    cc (stop, c.in-Err-Fault.field-0-is)
