use Rattle.std.proofs.Common.{◌≡◌, ◌+◌, drop}
use Rattle.ask_top.specs.Asking.{number_among}
use Rattle.ask_top.proofs.observed.number_among.Given as goal

abbrev pub invariant-loop-over : goal.invariant-loop-over
invariant-loop-over l = record {
  place : l.before ≡ l.over-index;
  number : number_among l.overs l.number ≡ l.before + number_among (drop l.over-index l.overs) l.rest;
}
