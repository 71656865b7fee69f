use Rattle.std.proofs.Common.{rules, ◌≡◌, ◌+◌, ◌<◌, List, ℕ, length, sym, subst, ◌∙◌}
use Rattle.raise_machine.specs.Bounds.{word_at}
use Rattle.certificate_table.specs.Begun.{AreCertified, BegunView, MayBegin, lent_from}
use Rattle.certificate_table.proofs.Keeping.{word_small, row_keeps}
use Rattle.certificate_table.proofs.certified.CertifiedRows.begin_next.Goals as goal

pub lend_from-requires-clause-small : goal.lend_from-requires-clause-small
lend_from-requires-clause-small c = λ other process there. subst (λ (lens : List ℕ). word_at lens c.self.inside.rows.words other process < 65536) (sym c.self.invariant.0)
    (word_small _ c.self.invariant.1 other process (subst (λ (lens : List ℕ). process < length lens) c.self.invariant.0 there))

pub invariant_of-self : goal.invariant_of-self
invariant_of-self c =
    let v : BegunView = record { system = c.self.inside.system; words = c.self.inside.rows.words; begun = c.self.inside.begun } in
    let may : MayBegin v c.args.row c.args.after = search rules in
    let words : c.lend_from.new.rows.words ≡ lent_from c.self.inside.system.lens c.self.inside.rows.words c.args.row c.args.after = cc (c.lend_from.ensures.words, c.self.invariant.0) in (
      c.lend_from.ensures.lens ∙ c.self.invariant.0,
      subst (λ (ws : List ℕ). AreCertified (record { system = c.self.inside.system; words = ws; begun = c.self.inside.begun + 1 })) (sym words) (row_keeps v c.self.invariant.1 c.args.row c.args.after may),
    )
