use Rattle.std.proofs.Common.{rules, arith, ◌≡◌, ◌-◌, List, ℕ, sym, subst, ◌∙◌}
use Rattle.pull_system.specs.System.{source_of, target_of, ask}
use Rattle.pull_system.specs.Rows.{place_of}
use Rattle.raise_machine.specs.Bounds.{word_at, raised}
use Rattle.certificate_table.specs.Begun.{AreCertified, BegunView, MayRaise}
use Rattle.certificate_table.proofs.Keeping.{entry_there, raise_keeps}
use Rattle.certificate_table.proofs.certified.CertifiedRows.raise.Goals as goal

pub pull-asked-requires-clause-entry : goal.pull-asked-requires-clause-entry
pull-asked-requires-clause-entry g c =
    let read : c.word.result ≡ word_at c.self.inside.system.lens c.self.inside.rows.words (c.self.inside.begun - 1) (source_of c.self.inside.system c.args.k) = cc (c.word.ensures, c.ends-source.ensures.source, c.self.invariant.0) in
    entry_there _ c.self.invariant.1 (c.self.inside.begun - 1) c.args.k c.from-2.result (search rules) (omega (arith, read, c.from.ensures, c.from-2.ensures, c.if-from-word.false))

pub invariant_of-self : goal.invariant_of-self
invariant_of-self g c =
    let read : c.word.result ≡ word_at c.self.inside.system.lens c.self.inside.rows.words (c.self.inside.begun - 1) (source_of c.self.inside.system c.args.k) = cc (c.word.ensures, c.ends-source.ensures.source, c.self.invariant.0) in
    let found : c.word-2.result ≡ word_at c.self.inside.system.lens c.self.inside.rows.words (c.self.inside.begun - 1) (target_of c.self.inside.system c.args.k) = cc (c.word-2.ensures, c.ends-source.ensures.target, c.self.invariant.0) in
    let asked : c.pull-asked.result ≡ ask c.self.inside.system c.args.k c.args.x = cc (c.pull-asked.ensures.entry, c.from-2.ensures) in
    let v : BegunView = record { system = c.self.inside.system; words = c.self.inside.rows.words; begun = c.self.inside.begun } in
    let may : MayRaise v c.args.k c.args.x = record { begun = search rules; pull = search rules; reached = omega (arith, read, c.from.ensures, c.if-from-word.false); more = omega (arith, found, asked, c.if-asked-word.false) } in
    let words : c.raise.new.self.words ≡ raised c.self.inside.rows.words (place_of c.self.inside.system.lens (c.self.inside.begun - 1) (target_of c.self.inside.system c.args.k)) (ask c.self.inside.system c.args.k c.args.x) = cc (c.raise.ensures.words, c.ends-source.ensures.target, c.self.invariant.0, asked) in (
      c.raise.ensures.lens ∙ c.self.invariant.0,
      subst (λ (ws : List ℕ). AreCertified (record { system = c.self.inside.system; words = ws; begun = c.self.inside.begun })) (sym words) (raise_keeps v c.self.invariant.1 c.args.k c.args.x may),
    )
