use Rattle.std.proofs.Common.{◌∷◌, [], List, take, drop, sym, ap, ◌∙◌, subst, ◌+◌}
use Rattle.std.proofs.lemmas.List.{map-append}
use Rattle.rctl_parse.proofs.LeafSteps.{passes_on}
use Rattle.rctl_class.specs.NamedParts as named
use Rattle.rctl_class.specs.NamedParts.{piece_of as named_of, pieces as named_operand, pieces_of as named_list}
use Rattle.rctl_parts.specs.Pieces.{piece_of, pieces, pieces_of}
use Rattle.rctl_names.specs.inside.Numbers.{part_fault, operand_fault, part_after}
use Rattle.rctl_names.specs.inside.Resolving.{ArePiecesIn}
use Rattle.rctl_names.specs.inside.Seen.{names_in, watched_in}
use Rattle.rctl_names.proofs.Joined.{taken_split, taken_more, piece_fails, piece_passes, piece_after, pieces_more}
use Rattle.rctl_names.proofs.Made.{same_names}
use Rattle.rctl_names.proofs.parts.+part.Goals as goal

pub resolve_parts-returns-in_err-resolve_part : goal.resolve_parts-returns-in_err-resolve_part
resolve_parts-returns-in_err-resolve_part t c =
    let i = c.parts.part-index in
    let all = c.args.parts.now in
    let names = names_in c.args.scope.now c.args.watches.now in
    let so_far = c.parts.invariant in
    let same = same_names c.args.scope.now c.args.watches.now c.parts.watches (named_operand (named_list (take i all))) so_far.1 in
    passes_on _ _ _ c.in_err-resolve_part.field-0.0 _ _ c.from_residual.ensures.1 (λ y same. same) c.in_err-resolve_part.ensures
    (λ f bad. ap (λ ps. operand_fault names (watched_in c.args.watches.now) (named_operand ps)) (taken_split named_of all i c.part-item.result c.parts-test.true c.part-item.is)
    ∙ piece_fails names (watched_in c.args.watches.now) (watched_in c.parts.watches) (named_list (take i all)) (named_list (drop (i + 1) all)) (named_of c.part-item.result) f so_far.0 so_far.1
    (ap (λ n. part_fault n (watched_in c.parts.watches) (named_of c.part-item.result)) (sym same) ∙ bad))

pub resolve_parts-parts-preserved : goal.resolve_parts-parts-preserved
resolve_parts-parts-preserved t c =
    let i = c.parts.part-index in
    let all = c.args.parts.now in
    let m = c.part-item.result in
    let xs = named_list (take i all) in
    let scope = c.args.scope.now in
    let before = c.args.watches.now in
    let now = c.parts.watches in
    let names = names_in scope before in
    let so_far = c.parts.invariant in
    let here = c.in_ok-resolve_part.ensures in
    let same = same_names scope before now (named_operand xs) so_far.1 in
    let P : List named.NamedPiece → Type 0 = λ ps. ArePiecesIn scope before c.resolve_part.new.watches (named_operand ps) (pieces (pieces_of c.push.new.self)) in
    subst P (sym (taken_more named_of all i m c.parts-test.true c.part-item.is)) (
      piece_passes names (watched_in before) (watched_in now) xs (named_of m) so_far.0 so_far.1 (ap (λ n. part_fault n (watched_in now) (named_of m)) (sym same) ∙ here.0),
      piece_after names (watched_in before) (watched_in now) (watched_in c.resolve_part.new.watches) xs (named_of m) so_far.1 (here.1 ∙ ap (λ n. part_after n (watched_in now) (named_of m)) same),
      ap (λ ps. pieces (pieces_of ps)) c.in_ok-push.ensures.ok ∙ ap pieces (map-append piece_of c.parts.made (c.in_ok-resolve_part.field-0 ∷ []))
          ∙ pieces_more names (names_in scope now) xs (named_of m) (pieces_of c.parts.made) (piece_of c.in_ok-resolve_part.field-0) same so_far.2 here.2,
    )
