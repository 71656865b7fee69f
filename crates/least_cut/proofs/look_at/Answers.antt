use Rattle.std.proofs.Common.{rules, refl}
use Rattle.least_cut.specs.inside.Climb.IsLook.{Held, Raised}
use Rattle.least_cut.proofs.Looks.{climb_none, climb_raised}
use Rattle.least_cut.proofs.look_at.Goals as goal

pub returns-then-vector-target-clause-look : goal.returns-then-vector-target-clause-look
returns-then-vector-target-clause-look g c =
    let same = c.ends-source.ensures.target in
    Raised c.pull-asked.result (search rules) (search rules) (search rules) (search rules)

pub returns-else-vector-target-clause-look : goal.returns-else-vector-target-clause-look
returns-else-vector-target-clause-look g c = Held (search rules) refl refl

pub returns-then-vector-target-clause-climb : goal.returns-then-vector-target-clause-climb
returns-then-vector-target-clause-climb g c =
    climb_raised _ c.pull-asked.ensures.system c.args.k c.requires.pull _ _ _ _ _ c.ends-source.ensures.target (search rules) c.if-vector-target.true c.requires.vector c.requires.marks c.mark.ensures.mark

pub returns-else-vector-target-clause-climb : goal.returns-else-vector-target-clause-climb
returns-else-vector-target-clause-climb g c = climb_none _ _ _ c.requires.vector c.requires.marks
