-- Where a conjunction of atoms begins anew: at or above the least closed vector of all.
use Rattle.std.proofs.Common.{◌≡◌, ℕ, List, get_or, sym, subst, arith}
use Rattle.run_model.specs.Cut.{Clocks, lengths}
use Rattle.pull_system.specs.declared.pull.Pull.{Pull}
use Rattle.pull_system.specs.Vector.{IsVector}
use Rattle.pull_system.specs.System.{SystemView, IsLeastFrom}
use Rattle.pull_system.specs.Pulls.{ClosedUnder}
use Rattle.pull_system.specs.Rows.{IsLeast}
use Rattle.pull_system.proofs.PullLists.{closed_under, closed_left}
use Rattle.pull_system.proofs.Starts.{start_of-bottom}
use Rattle.slice_graph.specs.PullLists.{pulls_of_order}
use Rattle.slice_graph.specs.Starting.{AreAbove}
use Rattle.conjunctions.specs.inside.Beginning.{BeginsWithOrder}

-- the least closed vector of all is that of the bottom's row
pub least_bottom : (system : SystemView) (zeros v : List ℕ) → ((i : ℕ) → get_or zeros i 0 ≡ 0) → IsLeastFrom system zeros v → IsLeast system 0 v
least_bottom system zeros v none least = record {
  closed = record { vector = least.closed.vector; above = record { each = λ i. omega (arith, start_of-bottom system.lens i) }; closed = least.closed.closed };
  least = λ c from. least.least c record { vector = from.vector; above = record { each = λ i. omega (arith, none i) }; closed = from.closed };
}

-- what is closed under the pulls is consistent, and at or above that vector
pub above_least : (o : Clocks) (system : SystemView) (zeros v : List ℕ) → ((i : ℕ) → get_or zeros i 0 ≡ 0) → system.lens ≡ lengths o → BeginsWithOrder o system.pulls → IsLeastFrom system zeros v → AreAbove o system.pulls v
above_least o system zeros v none lens begins least =
    record {
      order = λ c closed. closed_left (pulls_of_order o) begins.others c (subst (λ (pulls : List Pull). ClosedUnder pulls c) begins.is closed);
      above = λ c vector closed. least.least c record {
        vector = subst (λ (l : List ℕ). IsVector l c) (sym lens) vector;
        above = record { each = λ i. omega (arith, none i) };
        closed = (closed_under system c).1 closed;
      };
    }
