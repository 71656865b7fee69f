-- One log among bytes, and what stands behind it.
use Rattle.std.proofs.Common.{◌≡◌, ℕ, Bool, true, false, List, [], ◌∷◌, ◌++◌, refl, sym, ap, ◌∙◌, inl, inr}
use Rattle.std.proofs.lemmas.Bool.{cases_Bool, true≢false}
use Rattle.std.proofs.lemmas.List.{append-nil}
use Rattle.event_log.specs.Before.{is_ended}
use Rattle.event_log.specs.LogText.{onto}
use Rattle.event_log.specs.Moments.{HasNoFeed, lines}
use Rattle.event_log.specs.LogEnd.{is_whole, log_upto, behind_log}
use Rattle.event_log.proofs.Lists.{onto-append}
use Rattle.event_log.proofs.Texts.{lines-plain}

-- ---- a log that is whole, and one that isn't

pub whole_upto : (past bytes : List ℕ) → is_whole past ≡ true → log_upto past bytes ≡ past
unfolding log_upto
whole_upto past [] whole = refl
whole_upto past (b ∷ bytes) whole = rw whole refl

pub whole_behind : (past bytes : List ℕ) → is_whole past ≡ true → behind_log past bytes ≡ bytes
unfolding behind_log
whole_behind past [] whole = refl
whole_behind past (b ∷ bytes) whole = rw whole refl

-- reading the bytes goes on to this past, with the rest
pub record LeadsTo (past bytes now rest : List ℕ) : Type 0 where
  pub upto_is : log_upto past bytes ≡ log_upto now rest
  pub behind_is : behind_log past bytes ≡ behind_log now rest

pub then_leads : (past bytes middle between now rest : List ℕ) → LeadsTo past bytes middle between → LeadsTo middle between now rest → LeadsTo past bytes now rest
then_leads past bytes middle between now rest first second = record { upto_is = first.upto_is ∙ second.upto_is; behind_is = first.behind_is ∙ second.behind_is }

-- one byte of a log that isn't whole
pub upto_byte : (past : List ℕ) (b : ℕ) (bytes : List ℕ) → is_whole past ≡ false → LeadsTo past (b ∷ bytes) (b ∷ past) bytes
unfolding log_upto behind_log
upto_byte past b bytes open_ = record { upto_is = rw open_ refl; behind_is = rw open_ refl }

-- ---- lines

-- a line that isn't finished doesn't end the log
pub open_plain : (line past : List ℕ) → HasNoFeed line → is_whole past ≡ false → is_whole (onto line past) ≡ false
open_plain line past plain open_ = ap is_ended (lines-plain line past plain) ∙ open_

pub upto_plain : (line after past : List ℕ) → HasNoFeed line → is_whole past ≡ false → LeadsTo past (line ++ after) (onto line past) after
upto_plain [] after past plain open_ = record { upto_is = refl; behind_is = refl }
upto_plain (b ∷ line) after past plain open_ =
    then_leads past (b ∷ (line ++ after)) (b ∷ past) (line ++ after) (onto line (b ∷ past)) after (upto_byte past b (line ++ after) open_) (upto_plain line after (b ∷ past) plain.1 (open_plain (b ∷ []) past (plain.0, tt) open_))

-- a line and its line feed
pub upto_line : (line after past : List ℕ) → HasNoFeed line → is_whole past ≡ false → LeadsTo past (line ++ 10 ∷ after) (10 ∷ onto line past) after
upto_line line after past plain open_ =
    then_leads past (line ++ 10 ∷ after) (onto line past) (10 ∷ after) (10 ∷ onto line past) after (upto_plain line (10 ∷ after) past plain open_) (upto_byte (onto line past) 10 after (open_plain line past plain open_))

-- bytes that end no line
pub upto_open : (bytes past : List ℕ) → HasNoFeed bytes → is_whole past ≡ false → (log_upto past bytes ≡ onto bytes past) × (behind_log past bytes ≡ [])
unfolding log_upto behind_log
upto_open bytes past plain open_ =
    let leads = upto_plain bytes [] past plain open_ in
    let same = append-nil bytes in
    (ap (log_upto past) (sym same) ∙ leads.upto_is, ap (behind_log past) (sym same) ∙ leads.behind_is)

-- ---- more bytes

pub upto_more : (bytes more past : List ℕ) → log_upto past (bytes ++ more) ≡ log_upto (log_upto past bytes) more
unfolding log_upto
upto_more [] more past = refl
upto_more (b ∷ bytes) more past = elim (cases_Bool (is_whole past)) [
  | inl whole ↦ rw whole (sym (whole_upto past more whole))
  | inr open_ ↦ rw open_ (upto_more bytes more (b ∷ past))
]

pub behind_more : (bytes more past : List ℕ) → behind_log past (bytes ++ more) ≡ behind_log past bytes ++ behind_log (log_upto past bytes) more
unfolding log_upto behind_log
behind_more [] more past = refl
behind_more (b ∷ bytes) more past = elim (cases_Bool (is_whole past)) [
  | inl whole ↦ rw whole (ap (λ (xs : List ℕ). b ∷ (bytes ++ xs)) (sym (whole_behind past more whole)))
  | inr open_ ↦ rw open_ (behind_more bytes more (b ∷ past))
]

-- nothing stands behind a log that isn't whole
pub behind_open : (bytes past : List ℕ) → is_whole (log_upto past bytes) ≡ false → behind_log past bytes ≡ []
unfolding log_upto behind_log
behind_open [] past open_ = refl
behind_open (b ∷ bytes) past open_ = elim (cases_Bool (is_whole past)) [
  | inl whole ↦ absurd (true≢false (sym whole ∙ (rw whole at open_)))
  | inr free ↦ rw free (behind_open bytes (b ∷ past) (rw free at open_))
]

-- ---- the bytes are those of the log, and those behind it

pub record Parted (past bytes : List ℕ) : Type 0 where
  pub front : List ℕ
  pub upto_is : log_upto past bytes ≡ onto front past
  pub bytes_are : bytes ≡ front ++ behind_log past bytes

pub parted : (bytes past : List ℕ) → Parted past bytes
unfolding log_upto behind_log
parted [] past = record { front = []; upto_is = refl; bytes_are = refl }
parted (b ∷ bytes) past = elim (cases_Bool (is_whole past)) [
  | inl whole ↦ record { front = []; upto_is = whole_upto past (b ∷ bytes) whole; bytes_are = sym (whole_behind past (b ∷ bytes) whole) }
  | inr open_ ↦
      let p = parted bytes (b ∷ past) in
      let leads = upto_byte past b bytes open_ in
      record {
        front = b ∷ p.front;
        upto_is = leads.upto_is ∙ p.upto_is;
        bytes_are = ap (λ (xs : List ℕ). b ∷ xs) p.bytes_are ∙ ap (λ (xs : List ℕ). b ∷ (p.front ++ xs)) (sym leads.behind_is);
      }
]

-- all bytes are read where those behind the log are read too
pub all_read : (bytes past : List ℕ) → onto bytes past ≡ onto (behind_log past bytes) (log_upto past bytes)
all_read bytes past =
    let p = parted bytes past in
    ap (λ (xs : List ℕ). onto xs past) p.bytes_are ∙ onto-append p.front (behind_log past bytes) past ∙ ap (onto (behind_log past bytes)) (sym p.upto_is)
