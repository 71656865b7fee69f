-- How a worked question is proved: by computing the truth of its formula at the initial cut.
use Rattle.std.proofs.Common.{◌≡◌, true, false}
use Rattle.run_model.specs.Run.{Trace, clocks_of}
use Rattle.run_model.specs.Consistent.{IsOrder}
use Rattle.run_model.specs.Formula.{Formula, Not, Temporal, Ef, Ag, Eg}
use Rattle.run_model.specs.Worked.{HasVerdict, run_with_watch}
use Rattle.meaning_laws.proofs.ListedSlices.{ordered, ordered_is}
use Rattle.question_meaning.specs.Question.{Never, Can, Always, Surely, AtEnd}
use Rattle.question_meaning.specs.Worked.{HoldsOf, FailsOf}
use Rattle.question_meaning.proofs.Answers.{never_is, can_is, always_is, surely_is, at_end_is}

order_of : (trace : Trace) → ordered (clocks_of trace) ≡ true → IsOrder (clocks_of trace)
order_of trace e = ordered_is (clocks_of trace) e

pub never_worked : (trace : Trace) (f : Formula) → ordered (clocks_of trace) ≡ true → HasVerdict trace (Temporal Ef f) false → HoldsOf trace (Never f)
never_worked trace f e v = (never_is (run_with_watch trace) (order_of trace e) f).1 v

pub no_never_worked : (trace : Trace) (f : Formula) → ordered (clocks_of trace) ≡ true → HasVerdict trace (Temporal Ef f) true → FailsOf trace (Never f)
no_never_worked trace f e v h = (never_is (run_with_watch trace) (order_of trace e) f).0 h v

pub can_worked : (trace : Trace) (f : Formula) → ordered (clocks_of trace) ≡ true → HasVerdict trace (Temporal Ef f) true → HoldsOf trace (Can f)
can_worked trace f e v = (can_is (run_with_watch trace) (order_of trace e) f).1 v

pub no_can_worked : (trace : Trace) (f : Formula) → ordered (clocks_of trace) ≡ true → HasVerdict trace (Temporal Ef f) false → FailsOf trace (Can f)
no_can_worked trace f e v h = v ((can_is (run_with_watch trace) (order_of trace e) f).0 h)

pub always_worked : (trace : Trace) (f : Formula) → ordered (clocks_of trace) ≡ true → HasVerdict trace (Temporal Ag f) true → HoldsOf trace (Always f)
always_worked trace f e v = (always_is (run_with_watch trace) (order_of trace e) f).1 v

pub no_always_worked : (trace : Trace) (f : Formula) → ordered (clocks_of trace) ≡ true → HasVerdict trace (Temporal Ag f) false → FailsOf trace (Always f)
no_always_worked trace f e v h = v ((always_is (run_with_watch trace) (order_of trace e) f).0 h)

pub surely_worked : (trace : Trace) (f : Formula) → ordered (clocks_of trace) ≡ true → HasVerdict trace (Temporal Eg (Not f)) false → HoldsOf trace (Surely f)
surely_worked trace f e v = (surely_is (run_with_watch trace) (order_of trace e) f).1 v

pub no_surely_worked : (trace : Trace) (f : Formula) → ordered (clocks_of trace) ≡ true → HasVerdict trace (Temporal Eg (Not f)) true → FailsOf trace (Surely f)
no_surely_worked trace f e v h = (surely_is (run_with_watch trace) (order_of trace e) f).0 h v

pub at_end_worked : (trace : Trace) (f : Formula) → ordered (clocks_of trace) ≡ true → HasVerdict trace (Temporal Ag (Temporal Ef f)) true → HoldsOf trace (AtEnd f)
at_end_worked trace f e v = (at_end_is (run_with_watch trace) (order_of trace e) f).1 v

pub no_at_end_worked : (trace : Trace) (f : Formula) → ordered (clocks_of trace) ≡ true → HasVerdict trace (Temporal Ag (Temporal Ef f)) false → FailsOf trace (AtEnd f)
no_at_end_worked trace f e v h = v ((at_end_is (run_with_watch trace) (order_of trace e) f).0 h)
