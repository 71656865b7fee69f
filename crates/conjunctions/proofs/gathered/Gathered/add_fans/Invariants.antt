use Rattle.std.proofs.Common.{◌≡◌, ◌++◌, false, None}
use Rattle.pull_fans.specs.Fans.{pulls_of_fans}
use Rattle.conjunctions.proofs.gathered.Gathered.add_fans.Given as goal

abbrev pub invariant-loop-fan : goal.invariant-loop-fan
invariant-loop-fan l = record {
  pulls : pulls_of_fans l.self-inside.fans ≡ pulls_of_fans l.initial.self-inside.fans ++ pulls_of_fans l.yielded;
  order : l.self-inside.order ≡ l.initial.self-inside.order;
  first : l.self-inside.has_order ≡ l.initial.self-inside.has_order;
  floor : l.self-inside.floor ≡ l.initial.self-inside.floor;
  own : l.self-inside.own ≡ l.initial.self-inside.own;
  alone : l.self-inside.alone ≡ false;
  slice : l.self-inside.slice ≡ None;
}
