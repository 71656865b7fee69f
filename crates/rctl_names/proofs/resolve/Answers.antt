use Rattle.std.proofs.Common.{ap, rules, refl}
use Rattle.rctl_parse.proofs.LeafSteps.{passes_on}
use Rattle.rctl_class.specs.NamedParts.{disjuncts_of}
use Rattle.rctl_parts.specs.Pieces.{disjuncts_of as parts_of}
use Rattle.rctl_names.specs.inside.Seen.{watched_in}
use Rattle.rctl_names.proofs.Whole.{whole_fault, whole_outcome, whole_resolved}
use Rattle.rctl_names.proofs.resolve.Goals as goal

pub returns-in_err-disjuncts : goal.returns-in_err-disjuncts
returns-in_err-disjuncts c =
    passes_on _ _ _ c.in_err-disjuncts.field-0.0 _ _ c.from_residual-in_err-disjuncts.ensures.1 (λ y same. same) c.in_err-disjuncts.ensures
    (λ f bad. whole_fault c.args.header.now c.args.watches.now c.as_slice.result.now c.as_slice-2.result.now c.as_slice-3.result.now c.from_vec.result
    c.as_slice.ensures c.as_slice-2.ensures c.as_slice-3.ensures (search rules) (disjuncts_of c.as_slice-4.result.now) (disjuncts_of c.args.classed.now.disjuncts) f
    (ap disjuncts_of c.as_slice-4.ensures) c.requires.disjuncts.fit bad)

pub returns : goal.returns
returns c =
    whole_resolved c.args.header.now c.args.watches.now (disjuncts_of c.args.classed.now.disjuncts) _ (watched_in c.resolve_disjuncts.new.watches) c.requires.header c.requires.disjuncts refl
    (whole_outcome c.args.header.now c.args.watches.now c.as_slice.result.now c.as_slice-2.result.now c.as_slice-3.result.now c.from_vec.result
    c.as_slice.ensures c.as_slice-2.ensures c.as_slice-3.ensures (search rules) (disjuncts_of c.as_slice-4.result.now) (disjuncts_of c.args.classed.now.disjuncts)
    (watched_in c.resolve_disjuncts.new.watches) (parts_of c.in_ok-disjuncts.disjuncts) (ap disjuncts_of c.as_slice-4.ensures) c.in_ok-disjuncts.ensures)
