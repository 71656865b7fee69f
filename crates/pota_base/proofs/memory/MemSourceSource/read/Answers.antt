use Rattle.std.proofs.Common.{List, ℕ, drop, sym, ap, ◌∙◌}
use Rattle.std.proofs.lemmas.List.{take_rest}
use Rattle.pota_base.specs.Memory.{SourceState}
use Rattle.pota_base.proofs.Moved.{read_front}
use Rattle.pota_base.proofs.memory.MemSourceSource.read.Goals as goal

pub returns-clause-bytes : goal.returns-clause-bytes
returns-clause-bytes c =
    read_front c.self.inside.bytes.items c.self.inside.at c.self.inside.most c.copy_front-count.result c.args.self.now.bytes
    _ c.args.into.now c.copy_front-count.new.into (ap (λ (s : SourceState). s.bytes) (sym c.self.view_is))
    (take_rest c.deref-2.result.now c.self.inside.at ∙ ap (λ (xs : List ℕ). drop c.self.inside.at xs) c.deref-2.ensures.value)
    c.copy_front-count.ensures.count c.copy_front-count.ensures.copied c.self.invariant.1
