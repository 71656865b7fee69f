-- What is asked of all disjuncts, by ranges.
use Rattle.std.proofs.Common.{◌≡◌, ℕ, zero, suc, ◌-◌, ◌≤◌, List, [], ◌∷◌, ◌++◌, length, take, drop, get_or, replicate, sym, ap, refl, ◌∙◌, arith}
use Rattle.question_meaning.specs.declared.form.Form.{Form}
use Rattle.question_meaning.specs.declared.form.Form.TheVariants as form
use Rattle.std.proofs.lemmas.List.{length-map, map-append}
use Rattle.pota_base.specs.Limits.{most_parts}
use Rattle.rctl_parts.specs.declared.part.Part.{Part}
use Rattle.rctl_parts.specs.Pieces.{Piece, pieces_of, disjuncts_of}
use Rattle.rctl_parts.specs.MadeFor.{Scope, AllFit, AreMadeFor, disjuncts_count, disjuncts_name_watch}
use Rattle.asked_parts.specs.Asked.{asked_pieces, asked_disjuncts}
use Rattle.asked_parts.proofs.Making.{asked-fits, asked-watch}
use Rattle.asked_list.specs.declared.list.AskedRange.{AskedRange}
use Rattle.asked_list.specs.Lists.{asked_each, range_of, HasRange, IsAskedIn}

-- ---- ranges

each-length : (fs : List Form) (ds : List (List Piece)) → length (asked_each fs ds) ≡ length ds
each-length fs [] = refl
each-length [] (d ∷ ds) = ap suc (each-length [] ds)
each-length (f ∷ fs) (d ∷ ds) = ap suc (each-length fs ds)

each-drop : (k : ℕ) (fs : List Form) (ds : List (List Piece)) → length fs ≡ length ds → drop k (asked_each fs ds) ≡ asked_each (drop k fs) (drop k ds)
each-drop zero fs ds same = refl
each-drop (suc k) [] [] same = refl
each-drop (suc k) (f ∷ fs) [] same = absurd (omega (arith, same))
each-drop (suc k) [] (d ∷ ds) same = absurd (omega (arith, same))
each-drop (suc k) (f ∷ fs) (d ∷ ds) same = each-drop k fs ds (omega (arith, same))

each-take : (k : ℕ) (fs : List Form) (ds : List (List Piece)) → take k (asked_each fs ds) ≡ asked_each (take k fs) (take k ds)
each-take zero fs ds = refl
each-take (suc k) [] [] = refl
each-take (suc k) (f ∷ fs) [] = refl
each-take (suc k) [] (d ∷ ds) = ap (λ l. d ∷ l) (none-take k ds) where
  none-take : (k : ℕ) (ds : List (List Piece)) → take k (asked_each [] ds) ≡ asked_each [] (take k ds)
  none-take zero ds = refl
  none-take (suc k) [] = refl
  none-take (suc k) (d ∷ ds) = ap (λ l. d ∷ l) (none-take k ds)
each-take (suc k) (f ∷ fs) (d ∷ ds) = ap (λ l. asked_pieces f d ∷ l) (each-take k fs ds)

each-of-one : (form : Form) (ds : List (List Piece)) → asked_each (replicate (length ds) form) ds ≡ asked_disjuncts form ds
each-of-one form [] = refl
each-of-one form (d ∷ ds) = ap (λ l. asked_pieces form d ∷ l) (each-of-one form ds)

pub asked_in : (range : AskedRange) (forms : List Form) (ds own : List (List Piece)) → HasRange range forms ds own → IsAskedIn (asked_each forms ds) range own
asked_in range forms ds own has =
    let count = range.to - range.from in
    record {
      within = omega (arith, has.within, each-length forms ds);
      asked = ap (take count) (each-drop range.from forms ds has.paired) ∙ each-take count (drop range.from forms) (drop range.from ds)
          ∙ ap (λ fs. asked_each fs (range_of range.from range.to ds)) has.of_form ∙ ap (asked_each (replicate (length own) range.form)) has.items ∙ each-of-one range.form own;
    }

-- ---- made for the same

each-fits : (scope : Scope) (fs : List Form) (ds : List (List Piece)) → AllFit scope ds → AllFit scope (asked_each fs ds)
each-fits scope fs [] h = h
each-fits scope [] (d ∷ ds) h = (h.0, each-fits scope [] ds h.1)
each-fits scope (f ∷ fs) (d ∷ ds) h = (asked-fits scope f d h.0, each-fits scope fs ds h.1)

each-watch : (w : ℕ) (fs : List Form) (ds : List (List Piece)) → disjuncts_name_watch w (asked_each fs ds) ≡ disjuncts_name_watch w ds
each-watch w fs [] = refl
each-watch w [] (d ∷ ds) = rw (each-watch w [] ds) refl
each-watch w (f ∷ fs) (d ∷ ds) = rw (asked-watch w f d, each-watch w fs ds) refl

pub made_alike : (scope : Scope) (forms : List Form) (ds : List (List Piece)) → AreMadeFor scope ds → disjuncts_count (asked_each forms ds) ≤ most_parts → AreMadeFor scope (asked_each forms ds)
made_alike scope forms ds made fits = record {
  fit = each-fits scope forms ds made.fit;
  some = omega (arith, each-length forms ds, made.some);
  few = omega (arith, each-length forms ds, made.few);
  parts = fits;
  unnamed = λ w h. made.unnamed w (sym (each-watch w forms ds) ∙ h);
}

-- ---- one disjunct more

pub each-behind : (fs : List Form) (ds : List (List Piece)) (d : List Piece) → asked_each fs (ds ++ d ∷ []) ≡ asked_each fs ds ++ asked_pieces (get_or fs (length ds) form.Plain) d ∷ []
each-behind [] [] d = refl
each-behind (f ∷ fs) [] d = refl
each-behind [] (e ∷ ds) d = ap (λ l. e ∷ l) (each-behind [] ds d)
each-behind (f ∷ fs) (e ∷ ds) d = ap (λ l. asked_pieces f e ∷ l) (each-behind fs ds d)

pub next_asked : (fs : List Form) (made yielded : List (List Part)) (parts new : List Part) (own : Form) → disjuncts_of made ≡ asked_each fs (disjuncts_of yielded)
    → own ≡ get_or fs (length made) form.Plain → pieces_of new ≡ asked_pieces own (pieces_of parts) → disjuncts_of (made ++ new ∷ []) ≡ asked_each fs (disjuncts_of (yielded ++ parts ∷ []))
next_asked fs made yielded parts new own so_far is asked =
    let number : length made ≡ length (disjuncts_of yielded) = sym (length-map made pieces_of) ∙ ap length so_far ∙ each-length fs (disjuncts_of yielded) in
    let here : asked_pieces own (pieces_of parts) ≡ asked_pieces (get_or fs (length (disjuncts_of yielded)) form.Plain) (pieces_of parts) =
    ap (λ f. asked_pieces f (pieces_of parts)) (is ∙ ap (λ k. get_or fs k form.Plain) number) in
    map-append pieces_of made (new ∷ []) ∙ ap (λ l. l ++ pieces_of new ∷ []) so_far ∙ ap (λ d. asked_each fs (disjuncts_of yielded) ++ d ∷ []) (asked ∙ here)
    ∙ sym (each-behind fs (disjuncts_of yielded) (pieces_of parts)) ∙ ap (asked_each fs) (sym (map-append pieces_of yielded (parts ∷ [])))
