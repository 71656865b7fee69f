-- What a node gives.
use Rattle.std.proofs.Common.{◌≡◌, ℕ, ◌≤◌, true, length, replicate, take, sym, ap, ◌∙◌, arith}
use Rattle.std.specs.Prelude.{◌↔◌}
use Rattle.std.proofs.lemmas.Bool.{false≢true}
use Rattle.run_model.specs.Cut.{Cut, Clocks, initial, lengths}
use Rattle.run_model.specs.Consistent.{IsConsistent}
use Rattle.run_model.proofs.Counts.{count-initial, length-initial, length-lengths}
use Rattle.pota_base.specs.Limits.{most_processes}
use Rattle.pull_system.specs.Vector.{IsVector}
use Rattle.slice_graph.proofs.RowByRow.{zeros_of}
use Rattle.rctl_grammar.specs.declared.tree.Operator.{Operator}
use Rattle.rctl_grammar.specs.declared.tree.Operator.TheVariants as operator
use Rattle.part_pulls.specs.Operating.{Operated, operator_gives_order}
use Rattle.part_pulls.proofs.Operators.{some_time_same, each_time_same, staying_same}
use Rattle.certificate_nodes.specs.Given.{SlicedBy}

-- the cuts of the slice depend on the consistent cuts of the set alone
pub sliced_same : (o : Clocks) (kind : Operator) (A B : Cut → Type 0) → ((c : Cut) → IsConsistent o c → A c → B c) → (c : Cut) → IsConsistent o c → SlicedBy kind o A c → SlicedBy kind o B c
sliced_same o operator.Ef A B same c consistent h = some_time_same o A B same c h
sliced_same o operator.Ag A B same c consistent h = each_time_same o A B same c h
sliced_same o operator.Eg A B same c consistent h = staying_same o A B same c h
sliced_same o (operator.Ex process) A B same c consistent h = same c consistent h
sliced_same o operator.Af A B same c consistent h = h
sliced_same o operator.Ax A B same c consistent h = h

-- they are the operator's own, but for EX
pub sliced_is : (o : Clocks) (kind : Operator) (A : Cut → Type 0) (c : Cut) → operator_gives_order kind ≡ true → Operated kind o A c ↔ SlicedBy kind o A c
sliced_is o operator.Ef A c gives = (λ h. h, λ h. h)
sliced_is o operator.Ag A c gives = (λ h. h, λ h. h)
sliced_is o operator.Eg A c gives = (λ h. h, λ h. h)
sliced_is o (operator.Ex process) A c gives = absurd (false≢true gives)
sliced_is o operator.Af A c gives = absurd (false≢true gives)
sliced_is o operator.Ax A c gives = absurd (false≢true gives)

-- ---- the initial cut, as the code makes it

pub zeros_initial : (o : Clocks) (n : ℕ) → n ≡ length o → n ≤ most_processes → take {A = ℕ} n (replicate most_processes 0) ≡ initial o
unfolding initial
zeros_initial o n size few = zeros_of most_processes n few ∙ ap (λ (m : ℕ). replicate m 0) size

pub initial_vector : (o : Clocks) → IsVector (lengths o) (initial o)
initial_vector o = record { size = length-initial o ∙ sym (length-lengths o); within = λ i. omega (arith, count-initial o i) }
