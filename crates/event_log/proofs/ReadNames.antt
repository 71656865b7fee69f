-- What a line that was read says of the names in it.
use Rattle.std.proofs.Common.{◌≡◌, true, Result, Ok, Err, List, [], ◌∷◌, All, sym, subst}
use Rattle.std.specs.Prelude.{ℕ, IfOk}
use Rattle.std.specs.List.{AllByRecursion}
use Rattle.std.specs.Borrow.{Bor}
use Rattle.std.proofs.lemmas.List.Elements.{All-from_recursion}
use Rattle.pota_base.specs.declared.fault.Refused.{Refused}
use Rattle.log_lines.specs.declared.draft.LineError.{LineError}
use Rattle.log_lines.specs.declared.draft.LineError.TheVariants as error
use Rattle.log_lines.specs.declared.draft.Setting.{Setting}
use Rattle.log_lines.specs.Names.{is_name}
use Rattle.log_lines.specs.Spelling.{ValueFits}
use Rattle.log_lines.specs.Drafts.{texts_of, values_of}
use Rattle.event_log.specs.declared.item.LogCode.{LogCode}
use Rattle.event_log.specs.inside.Lines.{RefusedAs}

same_ok : {A : Type 0} (x y : A) → ◌≡◌ {A = Result A (Refused LogCode)} (Ok x) (Ok y) → x ≡ y
same_ok x y e = cc

pub refused_value : {A : Type 0} (read : Result A LineError) (code : LogCode) (x : A) (P : A → Type 0) → RefusedAs read code (Ok x) → IfOk read P → P x
refused_value (Ok y) code x P e p = subst P (sym (same_ok x y e)) p
refused_value (Err error.Malformed) code x P e p = absurd cc
refused_value (Err error.NoMemory) code x P e p = absurd cc

texts_names : (ts : List (Bor (List ℕ))) → AllByRecursion (λ n. is_name n ≡ true) (texts_of ts) → AllByRecursion (λ (t : Bor (List ℕ)). is_name t.now ≡ true) ts
texts_names [] fits = tt
texts_names (t ∷ ts) fits = (fits.0, texts_names ts fits.1)

pub texts_all : (ts : List (Bor (List ℕ))) → AllByRecursion (λ n. is_name n ≡ true) (texts_of ts) → All (λ (t : Bor (List ℕ)). is_name t.now ≡ true) ts
texts_all ts fits = All-from_recursion (λ (t : Bor (List ℕ)). is_name t.now ≡ true) ts (texts_names ts fits)

settings_names : (ss : List Setting) → AllByRecursion ValueFits (values_of ss) → AllByRecursion (λ (s : Setting). is_name s.name.now ≡ true) ss
settings_names [] fits = tt
settings_names (s ∷ ss) fits = (fits.0.name, settings_names ss fits.1)

pub settings_all : (ss : List Setting) → AllByRecursion ValueFits (values_of ss) → All (λ (s : Setting). is_name s.name.now ≡ true) ss
settings_all ss fits = All-from_recursion (λ (s : Setting). is_name s.name.now ≡ true) ss (settings_names ss fits)
