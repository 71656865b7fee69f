-- Ranges of lists that grow behind them.
use Rattle.std.proofs.Common.{◌≡◌, ℕ, zero, suc, ◌+◌, ◌-◌, ◌≤◌, List, [], ◌∷◌, ◌++◌, length, take, drop, replicate, sym, ap, refl, ◌∙◌, arith, length-append}
use Rattle.std.proofs.lemmas.List.{length-map, map-append}
use Rattle.question_forms.specs.declared.question.Question.{Question}
use Rattle.rctl_class.specs.NamedParts.{NamedPiece, pieces_of, disjuncts_of}
use Rattle.asked_list.specs.declared.list.AskedList.{AskedList}
use Rattle.asked_list.specs.declared.list.AskedRange.{AskedRange}
use Rattle.asked_list.specs.Lists.{range_of, HasRange, IsAskedList, Adds, disjuncts_in}

-- ---- take and drop

take_front : {A : Type 0} (xs ys : List A) (k : ℕ) → k ≤ length xs → take k (xs ++ ys) ≡ take k xs
take_front xs ys zero within = refl
take_front [] ys (suc k) within = absurd (omega (arith, within))
take_front (x ∷ xs) ys (suc k) within = ap (λ l. x ∷ l) (take_front xs ys k (omega (arith, within)))

range_front : {A : Type 0} (from : ℕ) (xs ys : List A) (count : ℕ) → from + count ≤ length xs → take count (drop from (xs ++ ys)) ≡ take count (drop from xs)
range_front zero xs ys count within = take_front xs ys count (omega (arith, within))
range_front (suc from) [] ys count within = absurd (omega (arith, within))
range_front (suc from) (x ∷ xs) ys count within = range_front from xs ys count (omega (arith, within))

pub range_before : {A : Type 0} (from to : ℕ) (xs ys : List A) → from ≤ to → to ≤ length xs → range_of from to (xs ++ ys) ≡ range_of from to xs
range_before from to xs ys up within = range_front from xs ys (to - from) (omega (arith, up, within))

drop_front : {A : Type 0} (xs ys : List A) → drop (length xs) (xs ++ ys) ≡ ys
drop_front [] ys = refl
drop_front (x ∷ xs) ys = drop_front xs ys

take_whole : {A : Type 0} (ys : List A) → take (length ys) ys ≡ ys
take_whole [] = refl
take_whole (y ∷ ys) = ap (λ l. y ∷ l) (take_whole ys)

pub range_behind : {A : Type 0} (xs ys : List A) (from to : ℕ) → from ≡ length xs → to ≡ from + length ys → range_of from to (xs ++ ys) ≡ ys
range_behind xs ys from to start end =
    let count : to - from ≡ length ys = omega (arith, end) in
    ap (λ k. take k (drop from (xs ++ ys))) count ∙ ap (λ k. take (length ys) (drop k (xs ++ ys))) start ∙ ap (take (length ys)) (drop_front xs ys) ∙ take_whole ys

pub length_replicate : {A : Type 0} (k : ℕ) (x : A) → length (replicate k x) ≡ k
length_replicate zero x = refl
length_replicate (suc k) x = ap suc (length_replicate k x)

-- ---- of a list of questions

disjuncts_added : (before after : AskedList) (q : Question) → Adds before q after → disjuncts_in after ≡ disjuncts_in before ++ disjuncts_of q.classed.disjuncts
disjuncts_added before after q adds = ap disjuncts_of adds.disjuncts ∙ map-append pieces_of before.classed.disjuncts q.classed.disjuncts

many : (list : AskedList) → length (disjuncts_in list) ≡ length list.classed.disjuncts
many list = length-map list.classed.disjuncts pieces_of

pub added : (before after : AskedList) (q : Question) → IsAskedList before → Adds before q after
    → HasRange (record { form = q.form; from = length before.classed.disjuncts; to = length before.classed.disjuncts + length q.classed.disjuncts }) after.forms (disjuncts_in after) (disjuncts_of q.classed.disjuncts)
added before after q is adds =
    let own = disjuncts_of q.classed.disjuncts in
    let number = length-map q.classed.disjuncts pieces_of in
    let all = disjuncts_added before after q adds in
    let from = length before.classed.disjuncts in
    let to = from + length q.classed.disjuncts in
    let longer = ap length all ∙ length-append (disjuncts_in before) own in
    let forms = ap length adds.forms ∙ length-append before.forms (replicate (length q.classed.disjuncts) q.form) in
    let several = length_replicate (length q.classed.disjuncts) q.form in
    record {
      up = omega arith;
      within = omega (arith, longer, many before, number);
      paired = omega (arith, longer, forms, several, is.paired, many before, number);
      of_form = ap (range_of from to) adds.forms ∙ range_behind before.forms (replicate (length q.classed.disjuncts) q.form) from to (sym is.paired) (omega (arith, several)) ∙ ap (λ k. replicate k q.form) (sym number);
      items = ap (range_of from to) all ∙ range_behind (disjuncts_in before) own from to (sym (many before)) (omega (arith, number));
    }

pub kept : (before after : AskedList) (q : Question) → Adds before q after → (range : AskedRange) (own : List (List NamedPiece)) → HasRange range before.forms (disjuncts_in before) own
    → HasRange range after.forms (disjuncts_in after) own
kept before after q adds range own has =
    let all = disjuncts_added before after q adds in
    let number = length-map q.classed.disjuncts pieces_of in
    let longer = ap length all ∙ length-append (disjuncts_in before) (disjuncts_of q.classed.disjuncts) in
    let forms = ap length adds.forms ∙ length-append before.forms (replicate (length q.classed.disjuncts) q.form) in
    let several = length_replicate (length q.classed.disjuncts) q.form in
    record {
      up = has.up;
      within = omega (arith, has.within, longer);
      paired = omega (arith, longer, forms, several, has.paired, number);
      of_form = ap (range_of range.from range.to) adds.forms ∙ range_before range.from range.to before.forms (replicate (length q.classed.disjuncts) q.form) has.up (omega (arith, has.within, has.paired)) ∙ has.of_form;
      items = ap (range_of range.from range.to) all ∙ range_before range.from range.to (disjuncts_in before) (disjuncts_of q.classed.disjuncts) has.up has.within ∙ has.items;
    }
