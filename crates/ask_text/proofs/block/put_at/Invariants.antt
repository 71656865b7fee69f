use Rattle.std.proofs.Common.{◌≡◌, ◌++◌}
use Rattle.std.specs.Prelude.{[], ◌==◌, codes, if◌then◌else◌}
use Rattle.run_model.specs.Cut.{count}
use Rattle.view_parts.specs.Each.{each_below}
use Rattle.view_parts.specs.Parts.{place, place_text}
use Rattle.ask_text.proofs.block.put_at.Given as goal

abbrev pub invariant-loop-process : goal.invariant-loop-process
invariant-loop-process l =
    l.out ≡ l.fn.out ++ each_below l.process (λ p. (if p == 0 then [] else codes ", ") ++ place_text l.states.header.procs (place p (count l.cut p)))
