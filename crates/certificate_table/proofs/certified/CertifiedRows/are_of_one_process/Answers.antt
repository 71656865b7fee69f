use Rattle.std.proofs.Common.{rules, ◌≡◌, List, ℕ, sym, subst}
use Rattle.std.proofs.lemmas.Bool.{eqb-true, eq-eqb}
use Rattle.certificate_table.specs.Begun.{AreOfOneProcess}
use Rattle.certificate_table.proofs.Following.{events_of_one, one_of_events, bottom_is_alone}
use Rattle.certificate_table.proofs.certified.CertifiedRows.are_of_one_process.Goals as goal

pub returns-in-Some-Some : goal.returns-in-Some-Some
returns-in-Some-Some c =
    let first = c.in-Some-Some.first in
    let second = c.in-Some-Some.second in
    let same : c.shape-shape.result.now ≡ c.args.self.now.system.lens = search rules in (
      λ h. subst (λ (lens : List ℕ). AreOfOneProcess lens c.args.row c.args.other) same (events_of_one c.shape-shape.result.now c.args.row c.args.other first second c.in-Some-Some.ensures.there c.in-Some-Some.ensures'.there c.in-Some-Some.ensures.row c.in-Some-Some.ensures'.row (eqb-true _ _ h)),
      λ one. eq-eqb _ _ (one_of_events c.shape-shape.result.now c.args.row c.args.other first second c.in-Some-Some.ensures.there c.in-Some-Some.ensures'.there c.in-Some-Some.ensures.row c.in-Some-Some.ensures'.row
          (subst (λ (lens : List ℕ). AreOfOneProcess lens c.args.row c.args.other) (sym same) one)),
    )

pub returns-in_default : goal.returns-in_default
returns-in_default c = (λ h. absurd (cc h), λ one. absurd (bottom_is_alone _ c.args.row c.args.other (search rules) one))

pub returns-in_default-2 : goal.returns-in_default-2
returns-in_default-2 c = (λ h. absurd (cc h), λ one. absurd (bottom_is_alone _ c.args.row c.args.other (search rules) one))
