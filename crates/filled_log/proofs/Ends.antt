-- The log that is taken out.
use Rattle.std.proofs.Common.{◌≡◌, Option, Some, None, length, sym, ap, subst, ◌∙◌}
use Rattle.std.proofs.lemmas.Option.{none-some, same_Some}
use Rattle.event_log.specs.Before.{IsVersion}
use Rattle.log_rules.specs.Judgement.{Prefix}
use Rattle.log_rules.specs.WholeLogs.{all_of}
use Rattle.log_writing.specs.Spelling.{BatchesCanBeSpelled, HasText}
use Rattle.filled_log.specs.declared.filling.Begun.{Begun}
use Rattle.filled_log.specs.declared.filling.FilledLog.{FilledLog}
use Rattle.filled_log.specs.Filling.{AreFaultless, HasLog, HasBegun}

has_text : (begun : Begun) (log : Prefix) → HasLog begun log → (all_of begun.log ≡ log) × HasText begun.log × AreFaultless (length begun.log.header.procs) begun.log.batches
has_text begun log has = (
  has.log_is,
  record {
    version = subst (λ (p : Prefix). IsVersion p.header.version) (sym has.log_is) has.fits.version;
    vars = subst (λ (p : Prefix). length p.header.vars ≡ length p.header.procs) (sym has.log_is) has.fits.all;
    events = subst (λ (p : Prefix). BatchesCanBeSpelled p.header p.batches) (sym has.log_is) has.spelled;
  },
  subst (λ (p : Prefix). AreFaultless (length p.header.procs) p.batches) (sym has.log_is) has.faultless,
)

module _ (kept : FilledLog) (log : Prefix) (has : HasBegun kept log) where
  pub is_there : kept.begun ≡ None → ⊥
  is_there none = none-some has.begun (sym none ∙ has.is)

  pub taken_out : (begun : Begun) → kept.begun ≡ Some begun → (all_of begun.log ≡ log) × HasText begun.log × AreFaultless (length begun.log.header.procs) begun.log.batches
  taken_out begun is = subst (λ (b : Begun). (all_of b.log ≡ log) × HasText b.log × AreFaultless (length b.log.header.procs) b.log.batches) (same_Some has.begun begun (sym has.is ∙ is)) (has_text has.begun log has.has)
