-- A node gives one slice, and so a conclusion has one truth.
use Rattle.std.proofs.Common.{◌≡◌, Bool, true, false, List, [], ◌∷◌, ◌++◌, Option, None, Some, refl, sym, ◌∙◌, ap, subst}
use mathlib.Core.Bool.{beq}
use Rattle.std.specs.Prelude.{◌↔◌, IfSome, IsSome, IsTrue}
use Rattle.std.specs.Bool.{OnFalse}
use Rattle.std.specs.Option.{option_eq}
use Rattle.std.proofs.lemmas.Bool.{false≢true}
use Rattle.run_model.specs.Cut.{Cut, Clocks}
use Rattle.run_model.specs.Slice.{Cuts}
use Rattle.run_model.proofs.SliceLemmas.{stands_same}
use Rattle.pull_system.specs.System.{SystemView}
use Rattle.slice_graph.specs.Views.{SliceView, slice_of}
use Rattle.rctl_grammar.specs.declared.tree.Operator.{Operator}
use Rattle.part_pulls.proofs.Slices.{one_slice}
use Rattle.certificate_table.specs.Begun.{BegunView}
use Rattle.certificate_lines.specs.declared.line.Line.TheVariants as line
use Rattle.certificate_text.specs.Taking.{NoneFollows}
use Rattle.certificate_nodes.specs.declared.plan.Plan.{Plan}
use Rattle.certificate_nodes.specs.Given.{IsGiven, Gives, SomeCloses}
use Rattle.certificate_nodes.specs.Nodes.{NodesView, MayConclude, Concludes}
use Rattle.certificate.specs.Following.{Follows}

one_given : (o : Clocks) (kind : Operator) (system : SystemView) (a b : SliceView) → IsGiven o kind system a → IsGiven o kind system b → a ≡ b
one_given o kind system a b first second =
    one_slice o (Cuts o (slice_of a)) (λ c h. h.consistent) a b first.fits second.fits first.fits.stands
    (stands_same o (slice_of b) (Cuts o (slice_of b)) (Cuts o (slice_of a)) (λ c. (to c, from c)) second.fits.stands)
  where
    to : (c : Cut) → Cuts o (slice_of b) c → Cuts o (slice_of a) c
    to c h = (first.cuts c h.consistent).1 ((second.cuts c h.consistent).0 h)

    from : (c : Cut) → Cuts o (slice_of a) c → Cuts o (slice_of b) c
    from c h = (second.cuts c h.consistent).1 ((first.cuts c h.consistent).0 h)

-- a present node gives one list of slices
pub gives_one : (o : Clocks) (plan : Plan) (slices : List SliceView) (present : Option BegunView) (a b : List SliceView) → Gives o plan slices present a → Gives o plan slices present b → a ≡ b
gives_one o plan slices None a b first second = first ∙ sym second
gives_one o plan slices (Some rows) a b (s, given, is) (t, given', is') =
    is ∙ ap (λ (slice : SliceView). slices ++ slice ∷ []) (one_given o _ rows.system s t given given') ∙ sym is'

one_truth : (a b : Bool) → (IsTrue a ↔ IsTrue b) → a ≡ b
one_truth true true h = refl
one_truth true false h = sym (h.0 refl)
one_truth false true h = h.1 refl
one_truth false false h = refl

-- so it concludes with one truth
pub concludes_one : (v a b : NodesView) (found told : Bool) → Concludes v a found → Concludes v b told → found ≡ told
concludes_one v a b found told first second =
    one_truth found told (λ h. back.1 (first.truth.0 h), λ h. first.truth.1 (back.0 h))
  where
    same : b.slices ≡ a.slices
    same = gives_one v.order v.plan v.slices v.present b.slices a.slices second.gives first.gives

    back : IsTrue told ↔ SomeCloses v.order v.plan a.slices
    back = subst (λ (slices : List SliceView). IsTrue told ↔ SomeCloses v.order v.plan slices) same second.truth

-- a verdict that tells the other truth is justified for no nodes, and so is one before all nodes have ended
pub verdict_refused : (v new : NodesView) (found : Option Bool) (told : Bool) → IsSome found ↔ MayConclude v → IfSome found (Concludes v new)
    → OnFalse (option_eq beq found (Some told)) (NoneFollows Follows v (line.Verdict told))
verdict_refused v new None told may concludes = λ after h. absurd (false≢true (may.1 h.0))
verdict_refused v new (Some true) true may concludes = tt
verdict_refused v new (Some true) false may concludes = λ after h. absurd (false≢true (sym (concludes_one v new after true false concludes h.1)))
verdict_refused v new (Some false) true may concludes = λ after h. absurd (false≢true (concludes_one v new after false true concludes h.1))
verdict_refused v new (Some false) false may concludes = tt
