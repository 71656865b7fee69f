use Rattle.std.proofs.Common.{arith, ◌≡◌, ◌-◌, ◌<◌, length, nat_le, ap, sym, subst}
use Rattle.std.specs.Prelude.{IsTrue, ◌↔◌}
use Rattle.std.proofs.lemmas.Bool.{leb-true, le-leb}
use Rattle.pull_system.specs.System.{HoldsPull, source_of, target_of, ask}
use Rattle.raise_machine.specs.Bounds.{word_at}
use Rattle.certificate_table.specs.Begun.{BegunView, present_row}
use Rattle.certificate_table.proofs.Keeping.{entry_there, holds_at}
use Rattle.certificate_table.proofs.certified.CertifiedRows.holds.Goals as goal

pub pull-requires-clause-entry : goal.pull-requires-clause-entry
pull-requires-clause-entry g c =
    let there : c.args.k < length c.self.inside.system.pulls = subst (λ (v : BegunView). c.args.k < length v.system.pulls) (sym c.self.view_is) c.requires.pull in
    let read : c.word-reached.result ≡ word_at c.self.inside.system.lens c.self.inside.rows.words (c.self.inside.begun - 1) (source_of c.self.inside.system c.args.k) = cc (c.word-reached.ensures, c.ends-source.ensures.source, c.self.invariant.0) in
    entry_there _ c.self.invariant.1 (c.self.inside.begun - 1) c.args.k c.word-reached.result there (omega (arith, read))

pub returns-clause-holds : goal.returns-clause-holds
returns-clause-holds g c =
    let there : c.args.k < length c.self.inside.system.pulls = subst (λ (v : BegunView). c.args.k < length v.system.pulls) (sym c.self.view_is) c.requires.pull in
    let read : c.word-reached.result ≡ word_at c.self.inside.system.lens c.self.inside.rows.words (c.self.inside.begun - 1) (source_of c.self.inside.system c.args.k) = cc (c.word-reached.ensures, c.ends-source.ensures.source, c.self.invariant.0) in
    let found : c.word.result ≡ word_at c.self.inside.system.lens c.self.inside.rows.words (c.self.inside.begun - 1) (target_of c.self.inside.system c.args.k) = cc (c.word.ensures, c.ends-source.ensures.target, c.self.invariant.0) in
    let tells = holds_at c.self.inside.system c.self.invariant.1.system c.self.inside.rows.words (c.self.inside.begun - 1) c.args.k there in
    subst (λ (v : BegunView). IsTrue (nat_le c.pull.result c.word.result) ↔ HoldsPull v.system (present_row v) c.args.k) c.self.view_is (
      λ h. tells.0 (omega (arith, leb-true c.pull.result c.word.result h, c.pull.ensures.entry, found, ap (λ x. ask c.self.inside.system c.args.k x) read)),
      λ h. le-leb c.pull.result c.word.result (omega (arith, tells.1 h, c.pull.ensures.entry, found, ap (λ x. ask c.self.inside.system c.args.k x) read)),
    )
