use Rattle.std.proofs.Common.{[], ◌∷◌, ◌++◌, subst, sym}
use Rattle.ask_questions.specs.inside.Added.{AreAddedTo}
use Rattle.ask_questions.proofs.Texts.{one_added}
use Rattle.ask_questions.proofs.reading.add_entry.Goals as goal

pub returns-in-Ok-clause-added : goal.returns-in-Ok-clause-added
returns-in-Ok-clause-added c = λ entries are.
    let longer = c.in_ok-longer-in-One.longer in
    subst (λ e. AreAddedTo longer (entries ++ e ∷ []) c.push.new.self) (sym c.in-One.is)
    (one_added entries c.args.overs.now c.push.new.self c.args.list longer c.in-One.question are c.in_ok-longer-in-One.ensures.adds c.in_ok-longer-in-One.ensures.list c.in-Ok.ensures.ok)
