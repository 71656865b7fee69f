-- The clock of an event is one alone.
use Rattle.std.proofs.Common.{◌≡◌, sym, arith, ◌∙◌}
use Rattle.std.proofs.lemmas.List.{ext_get_or}
use Rattle.run_model.specs.Cut.{Cut, count}
use Rattle.greatest_reach.proofs.Single.{one_greatest}
use Rattle.vector_clock.specs.Events.{Events}
use Rattle.vector_clock.specs.Fill.{Place, Links, Gives, HasClockOf}

pub one_clock : (events : Events) (among : Place → Events) (x : Place) (one other : Cut) → HasClockOf events among x one → HasClockOf events among x other → one ≡ other
one_clock events among x one other a b =
    ext_get_or 0 one other (a.width ∙ sym b.width)
    (λ j below. one_greatest (Links events among) (Gives events j) x (count one j) (count other j) (a.counts j (omega (arith, below, a.width))) (b.counts j (omega (arith, below, a.width))))
