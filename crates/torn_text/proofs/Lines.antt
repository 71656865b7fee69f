-- Whole lines and their text.
use Rattle.std.proofs.Common.{◌≡◌, ℕ, Bool, List, [], ◌∷◌, ◌++◌, sym, ap, ◌∙◌, refl, append_assoc, append-nil}
use Rattle.event_log.specs.Before.{Line}
use Rattle.event_log.specs.Moments.{HasNoFeed}
use Rattle.event_log.specs.LogText.{text_of}
use Rattle.torn_text.specs.Mending.{lines_behind, whole_lines, line_mended, is_open_behind, mended_from, closing}

pub text_append : (xs ys : List Line) → text_of (xs ++ ys) ≡ text_of xs ++ text_of ys
text_append [] ys = refl
text_append (x ∷ xs) ys = ap (λ t. x ++ 10 ∷ t) (text_append xs ys) ∙ sym (append_assoc x (10 ∷ text_of xs) (text_of ys))

-- a line that is not ended is none
pub lines_none : (front bytes : List ℕ) → HasNoFeed bytes → lines_behind front bytes ≡ []
lines_none front [] h = refl
lines_none front (b ∷ bytes) h = rw h.0 (lines_none (front ++ b ∷ []) bytes h.1)

pub lines_one : (front line behind : List ℕ) → HasNoFeed line → lines_behind front (line ++ 10 ∷ behind) ≡ (front ++ line) ∷ whole_lines behind
lines_one front [] behind h = ap (λ l. l ∷ whole_lines behind) (sym (append-nil front))
lines_one front (b ∷ line) behind h = rw h.0 (lines_one (front ++ b ∷ []) line behind h.1 ∙ ap (λ l. l ∷ whole_lines behind) (append_assoc front (b ∷ []) line))

-- one line more is mended
pub mended_one : (is_open : Bool) (text text' all line behind rest : List ℕ) → HasNoFeed line → rest ≡ line ++ 10 ∷ behind → text' ≡ text ++ text_of (line_mended is_open line) → text ++ text_of (mended_from is_open (whole_lines rest)) ≡ all → text' ++ text_of (mended_from (is_open_behind is_open line) (whole_lines behind)) ≡ all
mended_one is_open text text' all line behind rest plain split more so_far =
    let later = mended_from (is_open_behind is_open line) (whole_lines behind) in
    ap (λ t. t ++ text_of later) more
    ∙ append_assoc text (text_of (line_mended is_open line)) (text_of later)
    ∙ ap (λ t. text ++ t) (sym (text_append (line_mended is_open line) later))
    ∙ ap (λ ls. text ++ text_of (mended_from is_open ls)) (sym (ap whole_lines split ∙ lines_one [] line behind plain))
    ∙ so_far

-- no line more is there
pub mended_all : (is_open : Bool) (text text' all rest : List ℕ) → HasNoFeed rest → text' ≡ text ++ text_of (closing is_open) → text ++ text_of (mended_from is_open (whole_lines rest)) ≡ all → text' ≡ all
mended_all is_open text text' all rest plain more so_far =
    more ∙ ap (λ ls. text ++ text_of (mended_from is_open ls)) (sym (lines_none [] rest plain)) ∙ so_far
