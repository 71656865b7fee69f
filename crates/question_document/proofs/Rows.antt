-- The rows of questions, one after the other, by what each comes to.
use Rattle.std.proofs.Common.{◌≡◌, ℕ, zero, suc, ◌+◌, ◌<◌, ◌≤◌, Bool, true, false, List, [], ◌∷◌, ◌++◌, length, map, take, drop, get_or, ◌-◌, Option, None, Some, refl, sym, ap, ap₂, subst, ◌∙◌, arith, add-one, drop-cons, append_assoc, append-nil}
use Rattle.std.specs.Prelude.{◌&&◌, ◌==◌, IfSome}
use Rattle.std.proofs.lemmas.List.{drop_all, drop-map, take-map}
use Rattle.event_log.specs.States.{StatesView}
use Rattle.rctl_class.specs.NamedParts.{NamedPiece}
use Rattle.asked_list.specs.Lists.{range_of}
use Rattle.asked_list.specs.declared.list.Listed.{Listed}
use Rattle.question_outcome.specs.declared.outcome.Outcome.{Outcome}
use Rattle.over_answers.specs.PassedOn.{Answered}
use Rattle.over_answers.specs.declared.answering.Tallied.{Tallied}
use Rattle.ask_text.specs.Documents.{EntryView, all_rows, document, entry_rows, one, over}
use Rattle.ask_text.specs.OverText.{over_rows}
use Rattle.ask_text.specs.Text.{head_lines, question_rows}
use Rattle.question_document.specs.Views.{CanPut, CanShow, CanTellFrom, all_hold, over_entries, over_view, view_at, view_holds, views_from}

-- ---- lists from a place on

none_dropped : {X : Type 0} (i : ℕ) → drop {A = X} i [] ≡ []
none_dropped zero = refl
none_dropped (suc i) = refl

-- some is left
pub left_so : {X : Type 0} (xs : List X) (i : ℕ) → (drop i xs ≡ [] → ⊥) → i < length xs
left_so [] i some = absurd (some (none_dropped i))
left_so (x ∷ xs) zero some = omega arith
left_so (x ∷ xs) (suc i) some = omega (arith, left_so xs i some)

pub next_item : {X : Type 0} (xs : List X) (i : ℕ) (x : X) → i < length xs → x ≡ get_or xs i x → drop i xs ≡ x ∷ drop (i + 1) xs
next_item xs i x there is = drop-cons xs i x there ∙ ap₂ (λ (y : _) (n : ℕ). y ∷ drop n xs) (sym is) (sym (add-one i))

pub item_at : {X : Type 0} (xs : List X) (i : ℕ) (x y : X) → i < length xs → x ≡ y → x ≡ get_or xs i x → drop i xs ≡ y ∷ drop (i + 1) xs
item_at xs i x y there same is = next_item xs i x there is ∙ ap (λ (z : _). z ∷ drop (i + 1) xs) same

pub range_map : {X Y : Type 0} (f : X → Y) (from to : ℕ) (xs : List X) → range_of from to (map f xs) ≡ map f (range_of from to xs)
range_map f from to xs = ap (take (to - from)) (drop-map f from xs) ∙ take-map f (to - from) (drop from xs)

pub next_text : {X : Type 0} (f : X → List ℕ) (xs : List X) (i : ℕ) (x : X) (text : List ℕ) → i < length xs → x ≡ get_or xs i x → text ≡ f x → drop i (map f xs) ≡ text ∷ drop (i + 1) (map f xs)
next_text f xs i x text there is of =
    drop-map f i xs ∙ ap (map f) (next_item xs i x there is) ∙ ap (λ (w : List ℕ). w ∷ map f (drop (i + 1) xs)) (sym of)
    ∙ ap (λ (l : List (List ℕ)). text ∷ l) (sym (drop-map f (i + 1) xs))

-- ---- one question more

pub next_rows : (s : StatesView) (steps n : ℕ) (v : EntryView) (vs rest : List EntryView) (out new whole : List ℕ) → vs ≡ v ∷ rest → new ≡ out ++ entry_rows s steps n v
    → out ++ all_rows s steps n vs ≡ whole → new ++ all_rows s steps (n + 1) rest ≡ whole
next_rows s steps n v vs rest out new whole is put so_far =
    ap (λ (l : List ℕ). l ++ all_rows s steps (n + 1) rest) put ∙ append_assoc out (entry_rows s steps n v) (all_rows s steps (n + 1) rest)
    ∙ ap (λ (l : List EntryView). out ++ all_rows s steps n l) (sym is) ∙ so_far

and_assoc : (a b c : Bool) → ((a && b) && c) ≡ (a && (b && c))
and_assoc true b c = refl
and_assoc false b c = refl

pub next_holds : (v : EntryView) (vs rest : List EntryView) (holds here whole : Bool) → vs ≡ v ∷ rest → here ≡ view_holds v → (holds && all_hold vs) ≡ whole → ((holds && here) && all_hold rest) ≡ whole
next_holds v vs rest holds here whole is here_is so_far =
    and_assoc holds here (all_hold rest) ∙ ap (λ (b : Bool). holds && (b && all_hold rest)) here_is ∙ ap (λ (l : List EntryView). holds && all_hold l) (sym is) ∙ so_far

and_true : (b : Bool) → (b && true) ≡ b
and_true true = refl
and_true false = refl

module _ (s : StatesView) (ds : List (List NamedPiece)) where
  abbrev views : List (List ℕ) → List (Option Tallied) → List Listed → List Outcome → List EntryView
  views texts ts es os = views_from ds s.header texts ts es os

  abbrev Can : List (List ℕ) → List (Option Tallied) → List Listed → List Outcome → Type 0
  Can texts ts es os = CanTellFrom s ds texts ts es os

  shown_so : (text : List ℕ) (t : Tallied) (a : Answered) → t.tally.shown ≡ Some a → over_entries text s.header t t.tally.shown ≡ over (over_view text s.header t a) ∷ []
  shown_so text t a is = ap (over_entries text s.header t) is

  pub many : (texts : List (List ℕ)) (ts : List (Option Tallied)) (es : List Listed) (os : List Outcome) → Can texts ts es os → length (views texts ts es os) ≡ length texts
  many [] ts es os can = refl
  many (x ∷ xs) [] es os can = absurd can
  many (x ∷ xs) (Some t ∷ ts) es os can =
      ap (λ (l : List EntryView). length (l ++ views xs ts es os)) (shown_so x t can.0.shown can.0.is) ∙ ap suc (many xs ts es os can.1)
  many (x ∷ xs) (None ∷ ts) [] os can = absurd can
  many (x ∷ xs) (None ∷ ts) (e ∷ es) [] can = absurd can
  many (x ∷ xs) (None ∷ ts) (e ∷ es) (o ∷ os) can = ap suc (many xs ts es os can.1)

  -- ---- from a place on

  module _ (words : List (List ℕ)) (ts : List (Option Tallied)) (es : List Listed) (os : List Outcome) (i n : ℕ) where
    abbrev pub CanFrom : Type 0
    CanFrom = Can (drop i words) (drop i ts) (drop n es) (drop n os)

    abbrev pub rest : List EntryView
    rest = views (drop i words) (drop i ts) (drop n es) (drop n os)

    module _ (text : List ℕ) (here : drop i words ≡ text ∷ drop (i + 1) words) (can : CanFrom) where
      can_text : Can (text ∷ drop (i + 1) words) (drop i ts) (drop n es) (drop n os)
      can_text = subst (λ (l : List (List ℕ)). Can l (drop i ts) (drop n es) (drop n os)) here can

      pub tally_there : i < length ts
      tally_there = left_so ts i (λ none. subst (λ (l : List (Option Tallied)). Can (text ∷ drop (i + 1) words) l (drop n es) (drop n os)) none can_text)

      -- ---- a question over processes

      module _ (t : Tallied) (is : drop i ts ≡ Some t ∷ drop (i + 1) ts) where
        pub can_over : Can (text ∷ drop (i + 1) words) (Some t ∷ drop (i + 1) ts) (drop n es) (drop n os)
        can_over = subst (λ (l : List (Option Tallied)). Can (text ∷ drop (i + 1) words) l (drop n es) (drop n os)) is can_text

        pub can_show : CanShow s text t
        can_show = can_over.0

        pub over_after : Can (drop (i + 1) words) (drop (i + 1) ts) (drop n es) (drop n os)
        over_after = can_over.1

        abbrev shown_view : EntryView
        shown_view = over (over_view text s.header t can_over.0.shown)

        pub over_next : rest ≡ shown_view ∷ views (drop (i + 1) words) (drop (i + 1) ts) (drop n es) (drop n os)
        over_next =
            ap (λ (l : List (List ℕ)). views l (drop i ts) (drop n es) (drop n os)) here
            ∙ ap (λ (l : List (Option Tallied)). views (text ∷ drop (i + 1) words) l (drop n es) (drop n os)) is
            ∙ ap (λ (l : List EntryView). l ++ views (drop (i + 1) words) (drop (i + 1) ts) (drop n es) (drop n os)) (shown_so text t can_over.0.shown can_over.0.is)

        pub over_put : (steps : ℕ) (out new whole : List ℕ) → IfSome t.tally.shown (λ a. new ≡ out ++ over_rows s steps (i + 1) (over_view text s.header t a)) → out ++ all_rows s steps (i + 1) rest ≡ whole
            → new ++ all_rows s steps (i + 1 + 1) (views (drop (i + 1) words) (drop (i + 1) ts) (drop n es) (drop n os)) ≡ whole
        over_put steps out new whole put so_far =
            next_rows s steps (i + 1) shown_view rest (views (drop (i + 1) words) (drop (i + 1) ts) (drop n es) (drop n os)) out new whole over_next
            (subst (λ (o : Option Answered). IfSome o (λ a. new ≡ out ++ over_rows s steps (i + 1) (over_view text s.header t a))) can_over.0.is put) so_far

        pub over_holds : (holds here : Bool) (whole : Bool) → here ≡ view_holds shown_view → (holds && all_hold rest) ≡ whole
            → ((holds && here) && all_hold (views (drop (i + 1) words) (drop (i + 1) ts) (drop n es) (drop n os))) ≡ whole
        over_holds holds here whole here_is so_far = next_holds shown_view rest (views (drop (i + 1) words) (drop (i + 1) ts) (drop n es) (drop n os)) holds here whole over_next here_is so_far

      -- ---- a question of the log

      module _ (is : drop i ts ≡ None ∷ drop (i + 1) ts) where
        can_one : Can (text ∷ drop (i + 1) words) (None ∷ drop (i + 1) ts) (drop n es) (drop n os)
        can_one = subst (λ (l : List (Option Tallied)). Can (text ∷ drop (i + 1) words) l (drop n es) (drop n os)) is can_text

        pub entry_there : n < length es
        entry_there = left_so es n (λ none. subst (λ (l : List Listed). Can (text ∷ drop (i + 1) words) (None ∷ drop (i + 1) ts) l (drop n os)) none can_one)

        module _ (e : Listed) (entry : drop n es ≡ e ∷ drop (n + 1) es) where
          can_entry : Can (text ∷ drop (i + 1) words) (None ∷ drop (i + 1) ts) (e ∷ drop (n + 1) es) (drop n os)
          can_entry = subst (λ (l : List Listed). Can (text ∷ drop (i + 1) words) (None ∷ drop (i + 1) ts) l (drop n os)) entry can_one

          pub outcome_there : n < length os
          outcome_there = left_so os n (λ none. subst (λ (l : List Outcome). Can (text ∷ drop (i + 1) words) (None ∷ drop (i + 1) ts) (e ∷ drop (n + 1) es) l) none can_entry)

          module _ (o : Outcome) (outcome : drop n os ≡ o ∷ drop (n + 1) os) where
            can_outcome : Can (text ∷ drop (i + 1) words) (None ∷ drop (i + 1) ts) (e ∷ drop (n + 1) es) (o ∷ drop (n + 1) os)
            can_outcome = subst (λ (l : List Outcome). Can (text ∷ drop (i + 1) words) (None ∷ drop (i + 1) ts) (e ∷ drop (n + 1) es) l) outcome can_entry

            pub can_put : CanPut s ds text e o
            can_put = can_outcome.0

            pub one_after : Can (drop (i + 1) words) (drop (i + 1) ts) (drop (n + 1) es) (drop (n + 1) os)
            one_after = can_outcome.1

            pub one_next : rest ≡ one (view_at ds text e o) ∷ views (drop (i + 1) words) (drop (i + 1) ts) (drop (n + 1) es) (drop (n + 1) os)
            one_next =
                ap (λ (l : List (List ℕ)). views l (drop i ts) (drop n es) (drop n os)) here
                ∙ ap (λ (l : List (Option Tallied)). views (text ∷ drop (i + 1) words) l (drop n es) (drop n os)) is
                ∙ ap (λ (l : List Listed). views (text ∷ drop (i + 1) words) (None ∷ drop (i + 1) ts) l (drop n os)) entry
                ∙ ap (λ (l : List Outcome). views (text ∷ drop (i + 1) words) (None ∷ drop (i + 1) ts) (e ∷ drop (n + 1) es) l) outcome

  -- ---- the first, and the last

  pub begins : (words : List (List ℕ)) (ts : List (Option Tallied)) (es : List Listed) (os : List Outcome) (steps k : ℕ) (old out : List ℕ) → Can words ts es os → k ≡ length words → old ≡ [] → out ≡ old ++ head_lines k
      → out ++ all_rows s steps (0 + 1) (views words ts es os) ≡ document s steps (views words ts es os)
  begins words ts es os steps k old out can k_is none put =
      ap (λ (l : List ℕ). l ++ all_rows s steps 1 (views words ts es os))
      (put ∙ ap (λ (l : List ℕ). l ++ head_lines k) none ∙ ap head_lines (k_is ∙ sym (many words ts es os can)))

  no_view : (words : List (List ℕ)) (ts : List (Option Tallied)) (es : List Listed) (os : List Outcome) (i n : ℕ) → length words ≤ i → views (drop i words) (drop i ts) (drop n es) (drop n os) ≡ []
  no_view words ts es os i n past = ap (λ (l : List (List ℕ)). views l (drop i ts) (drop n es) (drop n os)) (drop_all i words past)

  pub ends_text : (words : List (List ℕ)) (ts : List (Option Tallied)) (es : List Listed) (os : List Outcome) (i n steps : ℕ) (out whole : List ℕ) → length words ≤ i
      → out ++ all_rows s steps (i + 1) (views (drop i words) (drop i ts) (drop n es) (drop n os)) ≡ whole → out ≡ whole
  ends_text words ts es os i n steps out whole past so_far =
      sym (append-nil out) ∙ ap (λ (l : List EntryView). out ++ all_rows s steps (i + 1) l) (sym (no_view words ts es os i n past)) ∙ so_far

  pub ends_holds : (words : List (List ℕ)) (ts : List (Option Tallied)) (es : List Listed) (os : List Outcome) (i n : ℕ) (holds whole : Bool) → length words ≤ i
      → (holds && all_hold (views (drop i words) (drop i ts) (drop n es) (drop n os))) ≡ whole → holds ≡ whole
  ends_holds words ts es os i n holds whole past so_far =
      sym (and_true holds) ∙ ap (λ (l : List EntryView). holds && all_hold l) (sym (no_view words ts es os i n past)) ∙ so_far

-- ---- what stands before a question, and before the next one

module _ (s : StatesView) (ds : List (List NamedPiece)) (words : List (List ℕ)) (ts : List (Option Tallied)) (es : List Listed) (os : List Outcome) (steps : ℕ) (whole : List ℕ) (all : Bool) where
  -- so far there are these rows, and this says whether each question holds
  pub record So (i n : ℕ) (out : List ℕ) (holds : Bool) : Type 0 where
    pub can : CanTellFrom s ds (drop i words) (drop i ts) (drop n es) (drop n os)
    pub rows : out ++ all_rows s steps (i + 1) (views_from ds s.header (drop i words) (drop i ts) (drop n es) (drop n os)) ≡ whole
    pub holds_so : (holds && all_hold (views_from ds s.header (drop i words) (drop i ts) (drop n es) (drop n os))) ≡ all

  module _ (i n : ℕ) (out : List ℕ) (holds : Bool) (so : So i n out holds) (text : List ℕ) (here : drop i words ≡ text ∷ drop (i + 1) words) (next : List ℕ) (both : Bool) where
    over_so : (t : Tallied) → drop i ts ≡ Some t ∷ drop (i + 1) ts → IfSome t.tally.shown (λ a. next ≡ out ++ over_rows s steps (i + 1) (over_view text s.header t a)) → both ≡ (holds && (t.tally.fails == 0)) → So (i + 1) n next both
    over_so t is put both_is = record {
      can = over_after s ds words ts es os i n text here so.can t is;
      rows = over_put s ds words ts es os i n text here so.can t is steps out next whole put so.rows;
      holds_so =
          ap (λ (b : Bool). b && all_hold (views_from ds s.header (drop (i + 1) words) (drop (i + 1) ts) (drop n es) (drop n os))) both_is
          ∙ over_holds s ds words ts es os i n text here so.can t is holds (t.tally.fails == 0) all refl so.holds_so;
    }

    pub over_more : (t : Tallied) → drop i ts ≡ Some t ∷ drop (i + 1) ts → IfSome t.tally.shown (λ a. next ≡ out ++ over_rows s steps (i + 1) (over_view text s.header t a)) → both ≡ (holds && (t.tally.fails == 0))
        → (n' : ℕ) (out' : List ℕ) (holds' : Bool) → n' ≡ n → out' ≡ next → holds' ≡ both → So (i + 1) n' out' holds'
    over_more t is put both_is n' out' holds' n_is out_is holds_is =
        subst (λ (k : ℕ). So (i + 1) k out' holds') (sym n_is) (subst (λ (l : List ℕ). So (i + 1) n l holds') (sym out_is) (subst (λ (b : Bool). So (i + 1) n next b) (sym holds_is) (over_so t is put both_is)))

    module _ (is : drop i ts ≡ None ∷ drop (i + 1) ts) (e : Listed) (entry : drop n es ≡ e ∷ drop (n + 1) es) (o : Outcome) (outcome : drop n os ≡ o ∷ drop (n + 1) os) where
      one_so : next ≡ out ++ question_rows s steps (i + 1) (view_at ds text e o) → both ≡ (holds && o.holds) → So (i + 1) (n + 1) next both
      one_so put both_is =
          let rest = views_from ds s.header (drop (i + 1) words) (drop (i + 1) ts) (drop (n + 1) es) (drop (n + 1) os) in
          let vs = views_from ds s.header (drop i words) (drop i ts) (drop n es) (drop n os) in
          let next_is = one_next s ds words ts es os i n text here so.can is e entry o outcome in
          record {
            can = one_after s ds words ts es os i n text here so.can is e entry o outcome;
            rows = next_rows s steps (i + 1) (one (view_at ds text e o)) vs rest out next whole next_is put so.rows;
            holds_so = ap (λ (b : Bool). b && all_hold rest) both_is ∙ next_holds (one (view_at ds text e o)) vs rest holds o.holds all next_is refl so.holds_so;
          }

      pub one_more : next ≡ out ++ question_rows s steps (i + 1) (view_at ds text e o) → both ≡ (holds && o.holds)
          → (n' : ℕ) (out' : List ℕ) (holds' : Bool) → n' ≡ n + 1 → out' ≡ next → holds' ≡ both → So (i + 1) n' out' holds'
      one_more put both_is n' out' holds' n_is out_is holds_is =
          subst (λ (k : ℕ). So (i + 1) k out' holds') (sym n_is) (subst (λ (l : List ℕ). So (i + 1) (n + 1) l holds') (sym out_is) (subst (λ (b : Bool). So (i + 1) (n + 1) next b) (sym holds_is) (one_so put both_is)))

-- ---- by what the code reads at these places

module _ {X : Type 0} (f : X → List ℕ) (texts : List X) (s : StatesView) (ds : List (List NamedPiece)) (ts : List (Option Tallied)) (es : List Listed) (os : List Outcome) (i n : ℕ) (d : X) (text : List ℕ) (lt : i < length texts)
    (d_is : d ≡ get_or texts i d) (of : text ≡ f d) (can : CanTellFrom s ds (drop i (map f texts)) (drop i ts) (drop n es) (drop n os)) where
  pub text_at : drop i (map f texts) ≡ text ∷ drop (i + 1) (map f texts)
  text_at = next_text f texts i d text lt d_is of

  pub tally_in : i < length ts
  tally_in = tally_there s ds (map f texts) ts es os i n text text_at can

  module _ (tally : Option Tallied) (tally_is : tally ≡ get_or ts i tally) where
    pub over_at : (t : Tallied) → tally ≡ Some t → drop i ts ≡ Some t ∷ drop (i + 1) ts
    over_at t is = item_at ts i tally (Some t) tally_in is tally_is

    pub show_at : (t : Tallied) → tally ≡ Some t → CanShow s text t
    show_at t is = can_show s ds (map f texts) ts es os i n text text_at can t (over_at t is)

    module _ (none : tally ≡ None) where
      pub none_at : drop i ts ≡ None ∷ drop (i + 1) ts
      none_at = item_at ts i tally None tally_in none tally_is

      pub entry_in : n < length es
      entry_in = entry_there s ds (map f texts) ts es os i n text text_at can none_at

      module _ (e : Listed) (e_is : e ≡ get_or es n e) where
        pub entry_at : drop n es ≡ e ∷ drop (n + 1) es
        entry_at = next_item es n e entry_in e_is

        pub outcome_in : n < length os
        outcome_in = outcome_there s ds (map f texts) ts es os i n text text_at can none_at e entry_at

        module _ (o : Outcome) (o_is : o ≡ get_or os n o) where
          pub outcome_at : drop n os ≡ o ∷ drop (n + 1) os
          outcome_at = next_item os n o outcome_in o_is

          pub put_at : CanPut s ds text e o
          put_at = can_put s ds (map f texts) ts es os i n text text_at can none_at e entry_at o outcome_at
