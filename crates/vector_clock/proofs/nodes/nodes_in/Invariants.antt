use Rattle.std.proofs.Common.{◌≡◌, ℕ, ◌<◌, length, map, take, get_or}
use Rattle.std.specs.Prelude.{None}
use Rattle.vector_clock.specs.Events.{Events}
use Rattle.vector_clock.specs.inside.Events.{raised}
use Rattle.vector_clock.specs.Admitted.{HasMessages}
use Rattle.vector_clock.specs.inside.Nodes.{IsTarget, AreNodes, HaveTargets}
use Rattle.vector_clock.proofs.Looks.{IsLast}
use Rattle.vector_clock.proofs.nodes.nodes_in.Given as goal

abbrev pub invariant-loop-i : goal.invariant-loop-i
invariant-loop-i l = record {
  taken : l.taken.items ≡ raised l.lens (take l.i l.batch);
  width : length l.lasts.items ≡ length l.lens;
  lasts : (events : Events) → l.lens ≡ map length events → (p : ℕ) → p < length events → IsLast events l.batch l.i p (get_or l.lasts.items p None);
  there : (p : ℕ) → IsTarget l.lens l.i (get_or l.lasts.items p None);
  count : length l.nodes.items ≡ l.i;
  nodes : (events : Events) → l.lens ≡ map length events → HasMessages l.messages events → AreNodes events l.batch l.i l.nodes.items;
  targets : HaveTargets l.lens (length l.batch) l.nodes.items;
}
