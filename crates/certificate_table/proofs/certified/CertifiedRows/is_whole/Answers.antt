use Rattle.std.proofs.Common.{rules, sym, subst}
use Rattle.pull_system.specs.Rows.{AreLeastRows}
use Rattle.certificate_table.specs.Begun.{BegunView, IsWhole, LastIsClosed}
use Rattle.certificate_table.proofs.Keeping.{whole_least}
use Rattle.certificate_table.proofs.certified.CertifiedRows.is_whole.Goals as goal

pub returns-then-self-events-clause-least : goal.returns-then-self-events-clause-least
returns-then-self-events-clause-least g c = λ h.
    let v : BegunView = record { system = c.self.inside.system; words = c.self.inside.rows.words; begun = c.self.inside.begun } in
    let last = c.last_is_closed.ensures.closed.0 h in
    let whole : IsWhole v = record { all = search rules; settled = subst (λ (w : BegunView). LastIsClosed w) (sym c.self.view_is) last } in
    subst (λ (w : BegunView). AreLeastRows w.system w.words) c.self.view_is (whole_least v c.self.invariant.1 whole)
