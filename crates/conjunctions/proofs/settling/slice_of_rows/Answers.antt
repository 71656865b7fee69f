use Rattle.std.proofs.Common.{Option, Result, Ok, Err, subst}
use Rattle.std.specs.Prelude.{IfOk, IfSome}
use Rattle.slice_graph.specs.Views.{SliceView}
use Rattle.conjunctions.specs.inside.Beginning.{AsksAlone}
use Rattle.conjunctions.proofs.Asking.{alone_is_slice}
use Rattle.conjunctions.proofs.settling.slice_of_rows.Goals as goal

-- what two clauses say of one result
of_both : {E : Type 0} (r : Result SliceView E) (P Q R : SliceView → Type 0) → ((slice : SliceView) → P slice → Q slice → R slice) → IfOk r P → IfOk r Q → IfOk r R
of_both (Ok slice) P Q R made p q = made slice p q
of_both (Err e) P Q R made p q = _

pub returns-in-Some : goal.returns-in-Some
returns-in-Some c = λ system is lens order least asks.
    let o = c.args.order.now in
    alone_is_slice o system c.in-Some.slice (subst (λ (own : Option SliceView). IfSome own (AsksAlone o system.pulls)) c.in-Some.is asks)

pub returns-in-None : goal.returns-in-None
returns-in-None c = λ system is lens order least asks.
    of_both c.from_rows.result _ _ _ (λ slice fits cuts. record { fits = fits system is lens order least; cuts = cuts system is lens order least }) c.from_rows.ensures.fits c.from_rows.ensures.cuts
