-- Counts of parts, one more at a time.
use Rattle.std.proofs.Common.{◌≡◌, ℕ, suc, ◌+◌, ◌*◌, ◌<◌, List, [], ◌∷◌, ◌++◌, length, take, get_or, replicate, sym, ap, refl, ◌∙◌, add-one, arith}
use Rattle.std.proofs.Math.Seq.{take-suc}
use Rattle.std.proofs.lemmas.List.{map-append}
use Rattle.rctl_class.specs.declared.named.NamedPart.{NamedPart}
use Rattle.question_meaning.specs.declared.form.Form.{Form}
use Rattle.question_meaning.specs.declared.form.Form.TheVariants as form
use Rattle.asked_parts.specs.Asked.{parts_added}
use Rattle.rctl_class.specs.NamedParts.{NamedPiece, pieces, piece_of, pieces_of, disjuncts_of, part_count, operand_count, parts_count}
use Rattle.asked_list.specs.Lists.{asked_count, each_count}

pub operand_counted : (ps : List NamedPiece) → operand_count (pieces ps) ≡ parts_count ps
operand_counted [] = refl
operand_counted (p ∷ ps) = ap (λ k. part_count p + k) (operand_counted ps)

pub parts_joined : (ps qs : List NamedPiece) → parts_count (ps ++ qs) ≡ parts_count ps + parts_count qs
parts_joined [] qs = omega arith
parts_joined (p ∷ ps) qs = omega (arith, parts_joined ps qs)

-- what one disjunct more adds
times_more : (form : Form) (k : ℕ) → parts_added form * suc k ≡ parts_added form * k + parts_added form
times_more form.Never k = omega arith
times_more form.Can k = omega arith
times_more form.Always k = omega arith
times_more form.AlwaysByNegation k = omega arith
times_more form.Surely k = omega arith
times_more form.AtEnd k = omega arith
times_more form.Plain k = omega arith

times_none : (form : Form) → parts_added form * 0 ≡ 0
times_none form.Never = omega arith
times_none form.Can = omega arith
times_none form.Always = omega arith
times_none form.AlwaysByNegation = omega arith
times_none form.Surely = omega arith
times_none form.AtEnd = omega arith
times_none form.Plain = omega arith

pub none_asked : (form : Form) → asked_count form [] ≡ 0
none_asked form = omega (arith, times_none form)

pub asked_more : (form : Form) (d : List NamedPiece) (ds : List (List NamedPiece)) → asked_count form (d ∷ ds) ≡ (parts_count d + parts_added form) + asked_count form ds
asked_more form d ds = omega (arith, times_more form (length ds))

pub asked_behind : (form : Form) (ds : List (List NamedPiece)) (d : List NamedPiece) → asked_count form (ds ++ d ∷ []) ≡ asked_count form ds + (parts_count d + parts_added form)
asked_behind form [] d = omega (arith, asked_more form d [], none_asked form)
asked_behind form (e ∷ ds) d = omega (arith, asked_more form e (ds ++ d ∷ []), asked_more form e ds, asked_behind form ds d)

-- one form for all of some disjuncts
pub each_of_one : (form : Form) (ds : List (List NamedPiece)) → each_count (replicate (length ds) form) ds ≡ asked_count form ds
each_of_one form [] = omega (arith, none_asked form)
each_of_one form (d ∷ ds) = omega (arith, each_of_one form ds, asked_more form d ds)

pub each_joined : (fs gs : List Form) (ds es : List (List NamedPiece)) → length fs ≡ length ds → each_count (fs ++ gs) (ds ++ es) ≡ each_count fs ds + each_count gs es
each_joined [] gs [] es same = omega arith
each_joined [] gs (d ∷ ds) es same = absurd (omega (arith, same))
each_joined (f ∷ fs) gs [] es same = absurd (omega (arith, same))
each_joined (f ∷ fs) gs (d ∷ ds) es same = omega (arith, each_joined fs gs ds es (omega (arith, same)))

-- ---- the next item

next_item : {A : Type 0} (xs : List A) (i : ℕ) (x : A) → i < length xs → x ≡ get_or xs i x → take (i + 1) xs ≡ take i xs ++ x ∷ []
next_item xs i x lt is = rw add-one (take-suc xs i x lt ∙ ap (λ y. take i xs ++ y ∷ []) (sym is))

pub next_part : (parts : List NamedPart) (i : ℕ) (p : NamedPart) → i < length parts → p ≡ get_or parts i p
    → parts_count (pieces_of (take (i + 1) parts)) ≡ parts_count (pieces_of (take i parts)) + part_count (piece_of p)
next_part parts i p lt is =
    let here = ap (λ l. parts_count (pieces_of l)) (next_item parts i p lt is) ∙ ap parts_count (map-append piece_of (take i parts) (p ∷ [])) in
    omega (arith, here, parts_joined (pieces_of (take i parts)) (piece_of p ∷ []))

pub next_disjunct : (form : Form) (ds : List (List NamedPart)) (i : ℕ) (d : List NamedPart) → i < length ds → d ≡ get_or ds i d
    → asked_count form (disjuncts_of (take (i + 1) ds)) ≡ asked_count form (disjuncts_of (take i ds)) + (parts_count (pieces_of d) + parts_added form)
next_disjunct form ds i d lt is =
    let here = ap (λ l. asked_count form (disjuncts_of l)) (next_item ds i d lt is) ∙ ap (asked_count form) (map-append pieces_of (take i ds) (d ∷ [])) in
    here ∙ asked_behind form (disjuncts_of (take i ds)) (pieces_of d)
