use Rattle.bound_laws.proofs.Joining.{cut_vector, cut_minimum, cut_maximum}
use Rattle.bound_laws.proofs.cut_laws.cuts_are_vectors.Goals as goal

pub returns-clause-vector : goal.returns-clause-vector
returns-clause-vector c = cut_vector

pub returns-clause-order : goal.returns-clause-order
returns-clause-order c = λ v w. (λ h. record { each = h }, λ h. h.each)

pub returns-clause-minimum : goal.returns-clause-minimum
returns-clause-minimum c = cut_minimum

pub returns-clause-maximum : goal.returns-clause-maximum
returns-clause-maximum c = cut_maximum
