use Rattle.std.proofs.Common.{◌≡◌, drop}
use Rattle.ask_text.specs.Text.{evidence}
use Rattle.ask_text.proofs.block.put_evidence.Given as goal

abbrev pub invariant-loop-witness : goal.invariant-loop-witness
invariant-loop-witness l = record {
  out : l.out ≡ l.fn.out;
  rest : evidence l.front l.none l.told.states.now l.told.tokens.now l.told.extent l.form (drop l.witness-index l.witnesses)
      ≡ evidence l.front l.none l.told.states.now l.told.tokens.now l.told.extent l.form l.witnesses;
}
