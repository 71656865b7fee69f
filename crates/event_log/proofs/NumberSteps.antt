-- How looking up the assigned variables follows the loop over them.
use Rattle.std.proofs.Common.{◌≡◌, ℕ, suc, ◌+◌, ◌-◌, ◌<◌, ◌≤◌, Result, Ok, Err, List, [], ◌∷◌, ◌++◌, length, drop, replicate, refl, append_assoc, arith}
use Rattle.std.specs.Prelude.{slice_index_or}
use Rattle.std.proofs.lemmas.List.{drop_more, drop_all, length_push, append-nil}
use Rattle.pota_base.specs.declared.fault.Refused.{Refused}
use Rattle.pota_base.specs.declared.fault.Refused.TheVariants as refused
use Rattle.log_lines.specs.declared.draft.Setting.{Setting}
use Rattle.log_lines.specs.Names.{Name}
use Rattle.log_lines.specs.Drafts.{value_of, values_of}
use Rattle.event_log.specs.declared.item.LogCode.{LogCode}
use Rattle.event_log.specs.declared.log.Assign.{Assign}
use Rattle.event_log.specs.declared.log.Binding.{Binding}
use Rattle.event_log.specs.Before.{filled}
use Rattle.event_log.specs.Numbers.{assign_in, assigns_in}
use Rattle.event_log.specs.inside.Numbers.{Agrees}

module _ (names : List Name) (front : List Assign) (settings : List Setting) (i : ℕ) (d : Setting) (lt : i < length settings) where
  pub assigns-next : (a : Assign) → assign_in names (value_of (slice_index_or settings i d)) ≡ Ok a
      → assigns_in names front (values_of (drop i settings)) ≡ assigns_in names (front ++ a ∷ []) (values_of (drop (i + 1) settings))
  unfolding assigns_in
  assigns-next a h = rw (drop_more settings i d lt, h) refl

  pub assigns-bad : (e : LogCode) → assign_in names (value_of (slice_index_or settings i d)) ≡ Err e → assigns_in names front (values_of (drop i settings)) ≡ Err e
  unfolding assigns_in
  assigns-bad e h = rw (drop_more settings i d lt, h) refl

pub assigns-done : (names : List Name) (front : List Assign) (settings : List Setting) (i : ℕ) → length settings ≤ i → assigns_in names front (values_of (drop i settings)) ≡ Ok front
unfolding assigns_in
assigns-done names front settings i le = rw drop_all refl

-- a step that failed fails the whole
pub agrees_err : {A B : Type 0} (e : Refused LogCode) (judged : Result A LogCode) (whole : Result B LogCode) → Agrees (Err e) judged → ((c : LogCode) → judged ≡ Err c → whole ≡ Err c) → Agrees (Err e) whole
agrees_err (refused.Fault c) judged whole h all = all c h
agrees_err refused.NoMemory judged whole h all = tt

-- one empty list more leaves less to fill
pub filled-next : (lists : List (List Binding)) (count : ℕ) → length lists < count → filled (lists ++ [] ∷ []) count ≡ filled lists count
filled-next lists count lt =
    let len : length (lists ++ [] ∷ []) ≡ length lists + 1 = length_push lists [] in
    let more : count - length lists ≡ suc (count - (length lists + 1)) = omega arith in
    rw (len, more) (append_assoc lists ([] ∷ []) (replicate (count - (length lists + 1)) []))

pub filled-done : (lists : List (List Binding)) (count : ℕ) → count ≤ length lists → filled lists count ≡ lists
filled-done lists count le =
    let none : count - length lists ≡ 0 = omega arith in
    rw none (append-nil lists)
