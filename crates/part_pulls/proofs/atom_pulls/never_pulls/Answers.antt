use Rattle.std.proofs.Common.{◌≡◌, ℕ, false, List, All, ◌∙◌, ap, subst}
use Rattle.pull_system.specs.System.{IsPull}
use Rattle.local_preds.specs.LocalPulls.{constant_pulls_of}
use Rattle.channel_preds.specs.Truth.{lens_of}
use Rattle.part_pulls.proofs.Atoms.{never_is}
use Rattle.part_pulls.proofs.atom_pulls.never_pulls.Goals as goal

pub returns : goal.returns
returns c =
    let seen = c.args.seen.now in
    let told = c.in_ok-pulls.ensures in
    let lens_is : c.shape.result.now ≡ lens_of seen.trace.states = c.shape.ensures ∙ ap lens_of c.states.ensures.states in
    never_is seen c.states.ensures.trace c.in_ok-pulls.pulls (told.pulls ∙ ap (λ (lens : List ℕ). constant_pulls_of lens false) lens_is)
    (subst (λ (lens : List ℕ). All (IsPull lens) c.in_ok-pulls.pulls) lens_is told.fit)
