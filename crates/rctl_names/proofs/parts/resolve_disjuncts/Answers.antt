use Rattle.std.proofs.Common.{◌∷◌, [], ◌++◌, List, map, take, drop, sym, ap, ◌∙◌, subst, ◌+◌}
use Rattle.std.proofs.lemmas.List.{map-append}
use Rattle.rctl_parse.proofs.LeafSteps.{passes_on}
use Rattle.rctl_class.specs.NamedParts as named
use Rattle.rctl_class.specs.NamedParts.{pieces as named_operand, pieces_of as named_list, disjuncts_of as named_disjuncts}
use Rattle.rctl_parts.specs.Pieces.{pieces_of, disjuncts_of}
use Rattle.rctl_names.specs.inside.Numbers.{disjuncts_fault, operand_fault, operand_after}
use Rattle.rctl_names.specs.Resolving.{piece_in, pieces_in}
use Rattle.rctl_names.specs.inside.Resolving.{AreDisjunctsIn}
use Rattle.rctl_names.specs.inside.Seen.{names_in, watched_in}
use Rattle.rctl_names.proofs.Joined.{taken_split, taken_more, disjunct_fails, disjunct_passes, disjunct_after}
use Rattle.rctl_names.proofs.Made.{still_same_names, listed_in}
use Rattle.rctl_names.proofs.parts.resolve_disjuncts.Goals as goal

pub returns-in_err-resolve_parts : goal.returns-in_err-resolve_parts
returns-in_err-resolve_parts c =
    let i = c.disjuncts.disjunct-index in
    let all = c.args.disjuncts.now in
    let d = c.disjunct-item.result in
    let names = names_in c.args.scope.now c.args.watches.now in
    let so_far = c.disjuncts.invariant in
    let same = still_same_names c.args.scope.now c.args.watches.now c.disjuncts.watches (named_disjuncts (take i all)) so_far.1 in
    passes_on _ _ _ c.in_err-resolve_parts.field-0.0 _ _ c.from_residual.ensures.1 (λ y same. same) c.in_err-resolve_parts.ensures
    (λ f bad. ap (disjuncts_fault names (watched_in c.args.watches.now)) (taken_split named_list all i d c.disjuncts-test.true c.disjunct-item.is)
    ∙ disjunct_fails names (watched_in c.args.watches.now) (watched_in c.disjuncts.watches) (named_disjuncts (take i all)) (named_disjuncts (drop (i + 1) all)) (named_list d) f so_far.0 so_far.1
    (ap (λ n. operand_fault n (watched_in c.disjuncts.watches) (named_operand (named_list d))) (sym same)
    ∙ ap (λ l. operand_fault (names_in c.args.scope.now c.disjuncts.watches) (watched_in c.disjuncts.watches) (named_operand (named_list l))) (sym c.as_slice.ensures) ∙ bad))

pub disjuncts-preserved : goal.disjuncts-preserved
disjuncts-preserved c =
    let i = c.disjuncts.disjunct-index in
    let all = c.args.disjuncts.now in
    let d = c.disjunct-item.result in
    let xs = named_disjuncts (take i all) in
    let scope = c.args.scope.now in
    let before = c.args.watches.now in
    let now = c.disjuncts.watches in
    let names = names_in scope before in
    let so_far = c.disjuncts.invariant in
    let here = c.in_ok-resolve_parts.ensures in
    let same = still_same_names scope before now xs so_far.1 in
    let P : List (List named.NamedPiece) → Type 0 = λ ds. AreDisjunctsIn scope before c.resolve_parts.new.watches ds (disjuncts_of c.push.new.self) in
    let lent = ap (λ l. named_operand (named_list l)) c.as_slice.ensures in
    subst P (sym (taken_more named_list all i d c.disjuncts-test.true c.disjunct-item.is)) (
      disjunct_passes names (watched_in before) (watched_in now) xs (named_list d) so_far.0 so_far.1
          (ap (λ n. operand_fault n (watched_in now) (named_operand (named_list d))) (sym same) ∙ ap (operand_fault (names_in scope now) (watched_in now)) (sym lent) ∙ here.0),
      disjunct_after names (watched_in before) (watched_in now) (watched_in c.resolve_parts.new.watches) xs (named_list d) so_far.1
          (here.1 ∙ ap (λ n. operand_after n (watched_in now) (named_operand (named_list c.as_slice.result.now))) same ∙ ap (operand_after names (watched_in now)) lent),
      ap disjuncts_of c.in_ok-push.ensures.ok ∙ map-append pieces_of c.disjuncts.made (c.in_ok-resolve_parts.field-0 ∷ [])
          ∙ ap (λ ds. ds ++ pieces_of c.in_ok-resolve_parts.field-0 ∷ []) so_far.2
          ∙ ap (λ p. map (map (piece_in names)) xs ++ p ∷ []) (listed_in (names_in scope now) names (named_list d) _ same (here.2 ∙ ap (pieces_in (names_in scope now)) lent))
          ∙ sym (map-append (map (piece_in names)) xs (named_list d ∷ [])),
    )
