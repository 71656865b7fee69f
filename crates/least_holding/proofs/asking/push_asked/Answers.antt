use Rattle.std.proofs.Common.{◌≡◌, ℕ, List, ◌∷◌, [], ◌++◌, All, sym, ◌∙◌, ap, subst}
use Rattle.run_model.specs.Cut.{lengths}
use Rattle.pull_fans.specs.Fans.{pulls_of_fans}
use Rattle.pull_system.specs.declared.pull.Pull.{Pull}
use Rattle.pull_system.specs.System.{IsPull}
use Rattle.rctl_parts.specs.Pieces.{Piece, piece_of}
use Rattle.part_pulls.specs.Observing.{lens_seen}
use Rattle.part_pulls.proofs.Atoms.{atom_of}
use Rattle.least_holding.specs.inside.Asking.{AsksMore}
use Rattle.least_holding.proofs.Asked.{atom_asks}
use Rattle.least_holding.proofs.asking.push_asked.Goals as goal

pub push_pulls-requires : goal.push_pulls-requires
push_pulls-requires c =
    let seen = c.args.seen.now in
    let of = atom_of (piece_of c.args.part.now) c.requires.atom in
    let is = c.in_ok-found.ensures of.0 of.1 in
    let lens : c.shape-shape.result.now ≡ lens_seen seen = c.shape-shape.ensures.lens ∙ ap lengths (c.order.ensures.order ∙ sym c.order.ensures.trace.clocks) in
    subst (λ (l : List ℕ). All (IsPull l) c.as_slice.result.now) (sym lens) (subst (λ (list : List Pull). All (IsPull (lens_seen seen)) list) (sym c.as_slice.ensures) is.fit)

pub returns : goal.returns
returns c =
    let seen = c.args.seen.now in
    let of = atom_of (piece_of c.args.part.now) c.requires.atom in
    let is = c.in_ok-found.ensures of.0 of.1 in
    let old = pulls_of_fans c.args.fans.now in
    let new = pulls_of_fans c.push_pulls.new.fans in
    subst (λ (p : Piece). AsksMore seen old new (p ∷ [])) (sym of.1)
    (atom_asks seen old new c.in_ok-found.found.pulls _ of.0 (c.in_ok-push_pulls.ensures ∙ ap (λ (added : List Pull). old ++ added) c.as_slice.ensures) is)
