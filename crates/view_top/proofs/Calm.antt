-- The count of faults of the source that was read.
use Rattle.std.proofs.Common.{◌≡◌, ℕ, Option, Some, None, List, inl, inr}
use Rattle.pota_base.specs.Changes.{change_of, counts_of}
use Rattle.input_reading.specs.declared.reading.End.{End}
use Rattle.input_reading.specs.declared.reading.End.TheVariants as end
use Rattle.view_top.specs.declared.asking.View.{View}
use Rattle.view_top.specs.declared.fault.Fault.{Fault}
use Rattle.view_top.specs.declared.fault.Fault.TheVariants as fault
use Rattle.view_top.specs.Calm.{IsCalm}
use Rattle.view_top.specs.inside.Inputs.{PutsView, WritesOf}

module _ (lf lf' : ℕ) (asked : View) (e : End) (input : List ℕ) (held held' : Option (List ℕ)) (of of' : ℕ) where
  ended : e ≡ end.Ended → e ≡ end.Failed → ⊥
  ended is failed = cc

  done : e ≡ end.Done → e ≡ end.Failed → ⊥
  done is failed = cc

  calm_by : (f : Fault) (written : List ℕ) → ((e ≡ end.Failed → ⊥) → lf' ≡ lf) → WritesOf asked e input (counts_of of of') written (Some f) → IsCalm lf lf' (Some f)
  calm_by fault.Usage written calm (inl x) = absurd x.1
  calm_by fault.Usage written calm (inr x) = calm (ended x.1)
  calm_by (fault.Log f) written calm x = tt
  calm_by fault.NoReport written calm (inl x) = calm (ended x.1.0)
  calm_by fault.NoReport written calm (inr x) = calm (ended x.1)
  calm_by (fault.Report f) written calm (inl x) = calm (ended x.1.0)
  calm_by (fault.Report f) written calm (inr x) = calm (ended x.1)
  calm_by fault.TooLong written calm (inl x) = calm (done x.1.0)
  calm_by fault.TooLong written calm (inr x) = calm (ended x.1)
  calm_by fault.OtherLog written calm (inl x) = calm (ended x.1.0)
  calm_by fault.OtherLog written calm (inr x) = calm (ended x.1)
  calm_by fault.Read written calm x = tt
  calm_by fault.Write written calm (inl x) = absurd x.1
  calm_by fault.Write written calm (inr x) = calm (ended x.1)
  calm_by fault.Memory written calm x = tt

  pub calm_view : (f : Option Fault) → ((e ≡ end.Failed → ⊥) → lf' ≡ lf) → PutsView asked e input (change_of held held' of of') f → IsCalm lf lf' f
  calm_view None calm h = calm (ended h.to.0)
  calm_view (Some f) calm h = calm_by f h.written calm h.to
