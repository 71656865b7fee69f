-- What the disjuncts of a formula of the class mean.
use Rattle.std.proofs.Common.{◌≡◌, ◌↔◌, true, List, map, length, sym, ◌∙◌}
use Rattle.std.proofs.lemmas.List.{length-map}
use Rattle.run_model.specs.Cut.{Cut}
use Rattle.run_model.specs.Run.{Run}
use Rattle.run_model.specs.Consistent.{IsOrder, IsConsistent}
use Rattle.run_model.specs.Meaning.{Sat}
use Rattle.run_model.specs.Class.{IsRegular, SatDisjuncts, disjuncts}
use Rattle.meaning_laws.proofs.DisjunctLemmas.{disjuncts_mean, regular_is_one}
use Rattle.rctl_class.specs.Nodes.{Node, formula_of, IsWithinLimits}
use Rattle.rctl_class.specs.NamedParts.{NamedPiece, part_formula}
use Rattle.rctl_class.specs.Classed.{IsClassed, disjunct_formulas}
use Rattle.rctl_class.proofs.Alike.{alike_disjuncts_mean, alike_lengths}
use Rattle.rctl_class.proofs.Class.{of_the_class}

pub classed_means : (n : Node) (ds : List (List NamedPiece)) → IsClassed n ds → (r : Run) → IsOrder r.clocks → (c : Cut) → IsConsistent r.clocks c →
    SatDisjuncts r (disjunct_formulas ds) c ↔ Sat r (formula_of n) c
classed_means n ds is r order c k =
    let alike = alike_disjuncts_mean r order (disjunct_formulas ds) (disjuncts true (formula_of n)) c k is.meaning in
    let means = disjuncts_mean r order (formula_of n) c k in
    (λ h. means.0 (alike.0 h), λ h. alike.1 (means.1 h))

as_many : (n : Node) (ds : List (List NamedPiece)) → IsClassed n ds → length ds ≡ length (disjuncts true (formula_of n))
as_many n ds is = sym (length-map ds (map part_formula)) ∙ alike_lengths (disjunct_formulas ds) (disjuncts true (formula_of n)) is.meaning

pub one_is_regular : (n : Node) (ds : List (List NamedPiece)) → IsWithinLimits n → IsClassed n ds → IsRegular (formula_of n) ↔ (length ds ≡ 1)
one_is_regular n ds limits is =
    let one = regular_is_one (formula_of n) limits.wide ((of_the_class n).0 is.free) in
    let many = as_many n ds is in
    (λ h. many ∙ one.0 h, λ h. one.1 (sym many ∙ h))
