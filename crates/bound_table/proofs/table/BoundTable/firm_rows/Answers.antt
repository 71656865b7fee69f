use Rattle.std.proofs.Common.{rules, ℕ, List, subst}
use Rattle.pull_system.specs.System.{SystemView}
use Rattle.bound_table.specs.Firm.{FirmView, HasReachedFirm}
use Rattle.bound_table.specs.inside.Rule.{begun_words}
use Rattle.bound_table.proofs.Own.{firm_more}
use Rattle.bound_table.proofs.table.BoundTable.firm_rows.Goals as goal

pub returns-clause-reached : goal.returns-clause-reached
returns-clause-reached c =
    let table = c.args.self.now in
    let begun : List ℕ = begun_words c.self.inside.table.shared.key.begins in
    let of_system : HasReachedFirm table.system begun c.self.inside.firm = let P : SystemView → Type 0 = λ s. HasReachedFirm s begun c.self.inside.firm in subst P (search rules) c.self.invariant.4 in
    let of_begun : HasReachedFirm table.system table.begun c.self.inside.firm = let P : List ℕ → Type 0 = λ words. HasReachedFirm table.system words c.self.inside.firm in subst P (search rules) of_system in
    let of_firm : HasReachedFirm table.system table.begun table.firm = let P : FirmView → Type 0 = HasReachedFirm table.system table.begun in subst P (search rules) of_begun in
    firm_more table.system table.begun c.args.seat.now.floor table.firm c.reached.ensures.begun of_firm
