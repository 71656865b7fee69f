-- The nodes of a plan as a certificate begins, raises and ends them, one line at a time.
use Rattle.std.specs.Prelude.{◌≡◌, ◌↔◌, ℕ, ◌+◌, ◌<◌, ◌≤◌, Bool, List, [], length, sum_by, Option}
use Rattle.std.specs.Prelude.{None, Some, IsTrue, option_map}
use Rattle.pota_base.specs.Shape.{IsShape}
use Rattle.run_model.specs.Cut.{Clocks, lengths}
use Rattle.run_model.specs.Consistent.{IsOrder}
use Rattle.slice_graph.specs.Views.{SliceView}
use Rattle.certificate_table.specs.Begun.{AreCertified, BegunView, MayBegin, MayRaise, fresh_rows}
use Rattle.certificate_table.specs.Begun.{with_raise, with_row}
use Rattle.certificate_nodes.specs.declared.plan.Asked.{Asked}
use Rattle.certificate_nodes.specs.declared.plan.Plan.{Plan}
use Rattle.certificate_nodes.specs.Plans.{IsPlan, system_of, system_at}
use Rattle.certificate_nodes.specs.Given.{AreGiven, Gives, IsEnded, SomeCloses}

-- the clocks of the run, the plan, the slices that the nodes before the present one gave, and the
-- rows of the present node
pub record NodesView : Type 0 where
  pub order : Clocks
  pub plan : Plan
  pub slices : List SliceView
  pub present : Option BegunView

-- no node was begun
abbrev pub fresh_nodes : Clocks → Plan → NodesView
fresh_nodes o plan = record { order = o; plan = plan; slices = []; present = None }

abbrev pub present_count : Option BegunView → ℕ
present_count None = 0
present_count (Some rows) = 1

-- how many nodes were begun
abbrev pub nodes_begun : NodesView → ℕ
nodes_begun v = length v.slices + present_count v.present

-- there are present rows, and this holds of them
abbrev pub OfPresent : (BegunView → Type 0) → Option BegunView → Type 0
OfPresent P None = ⊥
OfPresent P (Some rows) = P rows

abbrev pub with_present : NodesView → (BegunView → BegunView) → NodesView
with_present v change = record {
  order = v.order;
  plan = v.plan;
  slices = v.slices;
  present = option_map change v.present;
}

-- ---- a node is begun

-- the node of this number, from 1, may begin: it is the next one, and the one before has ended
pub record MayBeginNode (v : NodesView) (number : ℕ) : Type 0 where
  pub next : number ≡ nodes_begun v + 1
  pub there : number ≤ length v.plan.nodes
  pub ended : IsEnded v.present

-- the present node, if there is one, gives its slice, and each row of the next one is at its start
pub record BeginsNode (v after : NodesView) : Type 0 where
  pub order : after.order ≡ v.order
  pub plan : after.plan ≡ v.plan
  pub gives : Gives v.order v.plan v.slices v.present after.slices
  pub present : after.present
      ≡ Some (fresh_rows (system_at v.order v.plan after.slices (length after.slices)))

-- ---- its rows are begun and raised

abbrev pub MayBeginRow : NodesView → ℕ → Option ℕ → Type 0
MayBeginRow v row other = OfPresent (λ rows. MayBegin rows row other) v.present

abbrev pub with_begun_row : NodesView → ℕ → Option ℕ → NodesView
with_begun_row v row other = with_present v (λ rows. with_row rows row other)

abbrev pub MayRaiseRow : NodesView → ℕ → ℕ → Type 0
MayRaiseRow v k x = OfPresent (λ rows. MayRaise rows k x) v.present

abbrev pub with_raised_row : NodesView → ℕ → ℕ → NodesView
with_raised_row v k x = with_present v (λ rows. with_raise rows k x)

-- ---- the conclusion

-- all nodes were begun, and the last has ended
pub record MayConclude (v : NodesView) : Type 0 where
  pub all : nodes_begun v ≡ length v.plan.nodes
  pub ended : IsEnded v.present

-- the last node, if there is one, gives its slice, and the truth is that of some disjunct
pub record Concludes (v after : NodesView) (found : Bool) : Type 0 where
  pub order : after.order ≡ v.order
  pub plan : after.plan ≡ v.plan
  pub gives : Gives v.order v.plan v.slices v.present after.slices
  pub present : after.present ≡ None
  pub truth : IsTrue found ↔ SomeCloses v.order v.plan after.slices

-- the present node, if there is one, has given its slice, and none is present
pub record GivesSlice (v after : NodesView) : Type 0 where
  pub order : after.order ≡ v.order
  pub plan : after.plan ≡ v.plan
  pub gives : Gives v.order v.plan v.slices v.present after.slices
  pub present : after.present ≡ None

-- ---- look-ups

-- one for each pull of the present node's system
abbrev pub looks_of : Option BegunView → ℕ
looks_of None = 0
looks_of (Some rows) = length rows.system.pulls

-- one for each pull of each disjunct's system
abbrev pub looks_of_disjunct : Clocks → Plan → List SliceView → List Asked → ℕ
looks_of_disjunct o plan slices parts = length (system_of o plan slices parts).pulls

abbrev pub disjunct_looks : Clocks → Plan → List SliceView → ℕ
disjunct_looks o plan slices = sum_by (looks_of_disjunct o plan slices) plan.disjuncts

-- ---- what stands at each moment

-- the present rows are those of the next node, by its system
abbrev pub IsPresent : Clocks → Plan → List SliceView → Option BegunView → Type 0
IsPresent o plan slices None = Unit {0}
IsPresent o plan slices (Some rows) = (length slices < length plan.nodes)
    × (rows.system ≡ system_at o plan slices (length slices)) × AreCertified rows

pub record AreNodes (v : NodesView) : Type 0 where
  pub order : IsOrder v.order
  pub shape : IsShape (lengths v.order)
  pub plan : IsPlan (lengths v.order) v.plan
  pub given : AreGiven v.order v.plan v.slices
  pub present : IsPresent v.order v.plan v.slices v.present
