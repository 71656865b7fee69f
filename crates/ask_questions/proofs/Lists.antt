-- Lists that are paired, item by item.
use Rattle.std.proofs.Common.{◌≡◌, ℕ, List, [], ◌∷◌, ◌++◌, length, suc, ap, refl, sym, ◌∙◌}
use Rattle.std.specs.List.{AllZip}
use Rattle.asked_list.specs.declared.list.Listed.{Listed}
use Rattle.ask_questions.specs.Listing.{AreBehind}

pub paired-push : {A B : Type 0} (R : A → B → Type 0) (xs : List A) (ys : List B) (x : A) (y : B) → AllZip R xs ys → R x y → AllZip R (xs ++ x ∷ []) (ys ++ y ∷ [])
paired-push R [] [] x y all one = (one, tt)
paired-push R [] (b ∷ ys) x y all one = absurd all
paired-push R (a ∷ xs) [] x y all one = absurd all
paired-push R (a ∷ xs) (b ∷ ys) x y all one = (all.0, paired-push R xs ys x y all.1 one)

pub paired-more : {A B : Type 0} (R S : A → B → Type 0) (xs : List A) (ys : List B) → ((x : A) (y : B) → R x y → S x y) → AllZip R xs ys → AllZip S xs ys
paired-more R S [] [] more all = tt
paired-more R S [] (y ∷ ys) more all = absurd all
paired-more R S (x ∷ xs) [] more all = absurd all
paired-more R S (x ∷ xs) (y ∷ ys) more all = (more x y all.0, paired-more R S xs ys more all.1)

pub paired-length : {A B : Type 0} (R : A → B → Type 0) (xs : List A) (ys : List B) → AllZip R xs ys → length xs ≡ length ys
paired-length R [] [] all = refl
paired-length R [] (y ∷ ys) all = absurd all
paired-length R (x ∷ xs) [] all = absurd all
paired-length R (x ∷ xs) (y ∷ ys) all = ap suc (paired-length R xs ys all.1)

-- ranges, with one more behind them
pub behind-push : (from : ℕ) (entries : List Listed) (to : ℕ) (entry : Listed) (end : ℕ) → AreBehind from entries to → entry.range.from ≡ to → entry.range.to ≡ end
    → AreBehind from (entries ++ entry ∷ []) end
behind-push from [] to entry end all start stop = (start ∙ sym all, stop)
behind-push from (e ∷ entries) to entry end all start stop = (all.0, behind-push e.range.to entries to entry end all.1 start stop)
