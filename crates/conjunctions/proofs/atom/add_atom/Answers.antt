use Rattle.std.proofs.Common.{◌≡◌, ℕ, List, ◌∷◌, [], ◌++◌, All, sym, ◌∙◌, ap, subst}
use Rattle.run_model.specs.Cut.{lengths}
use Rattle.pull_system.specs.declared.pull.Pull.{Pull}
use Rattle.pull_system.specs.System.{IsPull}
use Rattle.rctl_parts.specs.Pieces.{Piece, piece_of}
use Rattle.part_pulls.specs.Observing.{lens_seen}
use Rattle.conjunctions.specs.inside.Gathering.{AddsPulls}
use Rattle.conjunctions.specs.Answering.{HoldsAtFirst}
use Rattle.part_pulls.proofs.Atoms.{atom_of}
use Rattle.conjunctions.proofs.Parts.{atom_adds}
use Rattle.conjunctions.proofs.atom.add_atom.Goals as goal

pub add_pulls-requires : goal.add_pulls-requires
add_pulls-requires c =
    let seen = c.args.seen.now in
    let of = atom_of (piece_of c.args.part.now) c.requires.atom in
    let is = c.in_ok-found.ensures of.0 of.1 in
    let lens : c.shape.result.now ≡ lens_seen seen = c.shape.ensures.lens ∙ ap lengths (c.order.ensures.order ∙ sym c.order.ensures.trace.clocks) in
    subst (λ (l : List ℕ). All (IsPull l) c.as_slice.result.now) (sym lens) (subst (λ (list : List Pull). All (IsPull (lens_seen seen)) list) (sym c.as_slice.ensures) is.fit)

pub returns-clause-pulls : goal.returns-clause-pulls
returns-clause-pulls c =
    let seen = c.args.seen.now in
    let of = atom_of (piece_of c.args.part.now) c.requires.atom in
    let is = c.in_ok-found.ensures of.0 of.1 in
    subst (λ (p : Piece). AddsPulls seen c.args.gathered.now.pulls c.add_pulls.new.self.pulls (p ∷ [])) (sym of.1) (atom_adds seen c.args.gathered.now.pulls c.add_pulls.new.self.pulls c.in_ok-found.found.pulls _ of.0 (c.in_ok-add_pulls.ensures.pulls ∙ ap (λ (added : List Pull). c.args.gathered.now.pulls ++ added) c.as_slice.ensures) is)

pub returns-clause-truth : goal.returns-clause-truth
returns-clause-truth c =
    let of = atom_of (piece_of c.args.part.now) c.requires.atom in
    let is = c.in_ok-found.ensures of.0 of.1 in
    subst (λ (p : Piece). HoldsAtFirst c.args.seen.now p c.in_ok-found.found.truth) (sym of.1) is.at_first
