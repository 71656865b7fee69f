use Rattle.std.proofs.Common.{◌≤◌, List, ℕ, length, sym, ap, subst, ◌∙◌, arith}
use Rattle.pota_base.specs.Limits.{longest_formula}
use Rattle.rctl_grammar.specs.Shape.{shape_of}
use Rattle.rctl_parse.specs.Parsing.{IsReadAs}
use Rattle.rctl_round_trip.proofs.RoundTrips.{printed_again}
use Rattle.rctl_round_trip.proofs.again.read_back_short.Goals as goal

pub returns-in-Ok : goal.returns-in-Ok
returns-in-Ok c =
    let is = c.as_slice.ensures ∙ c.in_ok-text.ensures in
    let p = printed_again c.requires.0 c.args.formula.now.tree c.requires.1 in
    let read = subst (λ (text : List ℕ). IsReadAs text p.0) (sym is) p.1 in
    let short : length c.as_slice.result.now ≤ longest_formula = rw c.as_slice.ensures (omega (arith, c.len.ensures)) in
    (rw (sym is) short, ap shape_of (c.in-Ok.ensures.complete p.0 short read) ∙ p.2)

pub unreachable-requires : goal.unreachable-requires
unreachable-requires c =
    let is = c.as_slice.ensures ∙ c.in_ok-text.ensures in
    let p = printed_again c.requires.0 c.args.formula.now.tree c.requires.1 in
    let read = subst (λ (text : List ℕ). IsReadAs text p.0) (sym is) p.1 in
    let short : length c.as_slice.result.now ≤ longest_formula = rw c.as_slice.ensures (omega (arith, c.len.ensures)) in
    let stop = c.in-Err-Fault.ensures.complete p.0 short read in
    cc (stop, c.in-Err-Fault.field-0-is)
