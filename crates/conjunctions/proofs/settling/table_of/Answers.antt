use Rattle.std.proofs.Common.{◌≡◌, Option, Some, ap, sym, subst}
use Rattle.std.specs.Prelude.{IfSome}
use Rattle.std.specs.Option.{option_or}
use Rattle.pull_system.specs.System.{SystemView}
use Rattle.pull_system.specs.Rows.{RowsView}
use Rattle.raise_machine.specs.Bounds.{AreBounds}
use Rattle.bound_table.specs.Views.{SeatView}
use Rattle.bound_table.specs.Firm.{AreOwnRows}
use Rattle.conjunctions.specs.inside.Beginning.{MayBeginFrom}
use Rattle.conjunctions.specs.inside.Settling.{CanBeginTable}
use Rattle.conjunctions.proofs.Beginning.{within_bounds}
use Rattle.conjunctions.proofs.OwnRows.{own_begins}
use Rattle.conjunctions.proofs.settling.table_of.Goals as goal

-- what holds of the rows of the slice that asked before all others
may_begin : (system : SystemView) (own floor : Option RowsView) (rows : RowsView) → own ≡ Some rows → IfSome (option_or own floor) (MayBeginFrom system.lens system.pulls) → MayBeginFrom system.lens system.pulls rows
may_begin system own floor rows is fits = subst (λ (f : Option RowsView). IfSome (option_or f floor) (MayBeginFrom system.lens system.pulls)) is fits

are_own : (system : SystemView) (own floor : Option RowsView) (rows : RowsView) → own ≡ Some rows → IfSome (option_or own floor) (λ r. AreOwnRows system r.words) → AreOwnRows system rows.words
are_own system own floor rows is have = subst (λ (f : Option RowsView). IfSome (option_or f floor) (λ r. AreOwnRows system r.words)) is have

-- they are those of a table that shares its words too
pub shared_table-requires : goal.shared_table-requires
shared_table-requires g c = record {
  begins = subst (λ (r : RowsView). CanBeginTable c.args.order.now c.args.system c.args.keeps c.args.before (Some r)) (sym c.in_ok-floor-in-Some.ensures)
      (subst (λ (f : Option RowsView). CanBeginTable c.args.order.now c.args.system c.args.keeps c.args.before (option_or f c.args.first.floor)) c.in-Some.is c.requires.begins);
}

pub shared_table-requires-in-None : goal.shared_table-requires-in-None
shared_table-requires-in-None g c = record { begins = subst (λ (f : Option RowsView). CanBeginTable c.args.order.now c.args.system c.args.keeps c.args.before (option_or f c.args.first.floor)) c.in-None.is c.requires.begins }

pub firm-requires-clause-lens : goal.firm-requires-clause-lens
firm-requires-clause-lens g c = (may_begin c.args.system c.args.first.own c.args.first.floor c.in-Some.rows c.in-Some.is c.requires.begins.gathered).shape

pub firm-requires-clause-bounds : goal.firm-requires-clause-bounds
firm-requires-clause-bounds g c =
    within_bounds c.args.system c.in-Some.rows.words (may_begin c.args.system c.args.first.own c.args.first.floor c.in-Some.rows c.in-Some.is c.requires.begins.gathered).within

pub firm-requires-clause-own : goal.firm-requires-clause-own
firm-requires-clause-own g c = are_own c.args.system c.args.first.own c.args.first.floor c.in-Some.rows c.in-Some.is (c.requires.own (cc))

pub returns-in_ok-table-in-Some : goal.returns-in_ok-table-in-Some
returns-in_ok-table-in-Some g c =
    let system : SystemView = c.args.system in
    let rows : RowsView = c.in-Some.rows in
    let own = are_own system c.args.first.own c.args.first.floor rows c.in-Some.is (c.requires.own (cc)) in
    let bounds : AreBounds system rows.words = within_bounds system rows.words (may_begin system c.args.first.own c.args.first.floor rows c.in-Some.is c.requires.begins.gathered).within in
    own_begins system c.shape-shape.ensures.system c.args.keeps c.if-keeps.false c.args.before c.in_ok-table-in-Some.table c.in_ok-table-in-Some.seat rows.words c.args.steps.now own bounds.size
    c.in_ok-table-in-Some.ensures.system c.in_ok-table-in-Some.ensures.firm (ap (λ (s : SeatView). s.table) c.in_ok-table-in-Some.ensures.seat) (ap (λ (s : SeatView). s.floor) c.in_ok-table-in-Some.ensures.seat)
