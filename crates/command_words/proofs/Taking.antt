-- The rule and `clap`'s walk go over the words side by side: `clap` takes each word that the rule takes, and finds the same uses.
use Rattle.std.proofs.Common.{◌≡◌, ◌∙◌, ℕ, zero, suc, ◌+◌, Bool, true, false, ◌||◌, cond, nat_lt, min, List, [], ◌∷◌, ◌++◌, map, Option, None, Some, refl, sym, ap, subst, codes}
use Rattle.std.specs.List.{fold, AllByRecursion}
use Rattle.std.specs.Str.{bytes_eq}
use Rattle.std.proofs.lemmas.Bool.{and_from}
use Rattle.std.proofs.lemmas.List.{map-append}
use Rattle.std.proofs.lemmas.List.Folds.{list_any-append}
use Rattle.clap.specs.Lexer.{usize_max}
use Rattle.clap.specs.Walk.{Row, Walk, idle, option, walked, settled_rows, with_values, without, has_row, arg_by_id, arg_by_long, arg_by_index}
use Rattle.clap.specs.Simple.{Shape}
use Rattle.clap.specs.Takes.{turn_passes, walk_passes, settle_passes}
use Rattle.clap.specs.declared.parser.matches.ValueSource.TheVariants.{CommandLine}
use Rattle.clap.specs.declared.builder.value_parser.Reading.TheVariants.{AsWritten}
use Rattle.clap.proofs.OnLiterals.{clap_on_literals}
use Rattle.clap.proofs.WalkLemmas.{list_any-map}
use Rattle.command_words.specs.Rule.{Text, Kind, options, flags, spelled, begins_dash, kind_of, Use, Given, is_used, with_use, once, with_place, with_word, taken_by, step}
use Rattle.command_words.proofs.WordByWord.{IsOfKind, as_option, as_flag, as_unknown, as_positional, its_kind, refused_stays}
use Rattle.command_words.proofs.Walking.{IsSpelled, single_option, single_place, settled_at_end, settling_passes, used_at_end, held_at, walk_at, built_option, built_flag, built_place, option_walked, option_turn, flag_walked, flag_turn, value_walked, value_turn, place_walked, place_turn}

-- the row that `clap` keeps of a use
abbrev pub row_for : Use → Row
row_for u = record { id = u.name; values = u.value ∷ []; count = None; source = Some CommandLine; reading = AsWritten }

abbrev pub rows_for : List Use → List Row
rows_for = map row_for

abbrev pub use_of : Text → Text → Use
use_of name value = record { name = name; value = value }

new_row : (name : Text) (uses : List Use) → is_used name uses ≡ false → has_row name (rows_for uses) ≡ false
new_row name uses h = sym (list_any-map (λ (r : Row). bytes_eq r.id name) row_for uses) ∙ h

-- a use of another name more
still_used : (name other value : Text) (uses : List Use) → bytes_eq other name ≡ false → is_used name (uses ++ use_of other value ∷ []) ≡ is_used name uses
still_used name other value uses h =
    list_any-append (λ (u : Use). bytes_eq u.name name) uses (use_of other value ∷ []) ∙ ap (λ b. is_used name uses || (b || false)) h ∙ or_nothing (is_used name uses)
  where
    or_nothing : (b : Bool) → (b || false) ≡ b
    or_nothing true = refl
    or_nothing false = refl

-- the positionals that were given, by their number
pub record HasPlaces (uses : List Use) (places : ℕ) : Type 0 where
  pub command : is_used (codes "command") uses ≡ nat_lt 0 places
  pub formula : is_used (codes "formula") uses ≡ nat_lt 1 places

other_place : (uses : List Use) (places : ℕ) (other value : Text) → bytes_eq other (codes "command") ≡ false → bytes_eq other (codes "formula") ≡ false
    → HasPlaces uses places → HasPlaces (uses ++ use_of other value ∷ []) places
other_place uses places other value c f has = record {
  command = still_used (codes "command") other value uses c ∙ has.command;
  formula = still_used (codes "formula") other value uses f ∙ has.formula;
}

-- ---- over the arguments of a command

module _ (s : Shape) where
  -- what the look-ups give for an option, a flag, a positional
  pub record IsOption (name : Text) : Type 0 where
    pub spells : IsSpelled name
    pub long : arg_by_long s.rules name ≡ Some (built_option name)
    pub id : arg_by_id s.rules name ≡ Some (built_option name)
    pub command : bytes_eq name (codes "command") ≡ false
    pub formula : bytes_eq name (codes "formula") ≡ false

  pub record IsFlag (name : Text) : Type 0 where
    pub spells : IsSpelled name
    pub long : arg_by_long s.rules name ≡ Some (built_flag name)
    pub command : bytes_eq name (codes "command") ≡ false
    pub formula : bytes_eq name (codes "formula") ≡ false

  pub record IsPlace (n : ℕ) (name : Text) : Type 0 where
    pub index : arg_by_index s.rules n ≡ Some (built_place n name)
    pub id : arg_by_id s.rules name ≡ Some (built_place n name)

  -- the command has these arguments
  pub record HasArguments : Type 0 where
    pub of_options : AllByRecursion IsOption options
    pub of_flags : AllByRecursion IsFlag flags
    pub first : IsPlace 1 (codes "command")
    pub second : IsPlace 2 (codes "formula")

  -- the walk stands where nothing waits; what is pending gets its row when it is settled
  pub record IsReady (g : Given) (w : Walk) : Type 0 where
    pub rows : List Row
    pub pending : Option (Text × List Text)
    pub waits : g.waits ≡ None
    pub walk : w ≡ walk_at rows pending idle (g.places + 1)
    pub settles : settled_rows s.rules pending rows ≡ rows_for g.uses
    pub passes : settle_passes s.rules s.args_override_self (held_at rows pending) ≡ true
    pub places : HasPlaces g.uses g.places

  -- the walk stands where this option waits for its value
  pub record IsWaiting (g : Given) (w : Walk) : Type 0 where
    pub name : Text
    pub of : IsOption name
    pub waits : g.waits ≡ Some name
    pub unused : is_used name g.uses ≡ false
    pub walk : w ≡ walk_at (rows_for g.uses) (Some (name, [])) (option name) (g.places + 1)
    pub places : HasPlaces g.uses g.places

  pub data Stands (g : Given) (w : Walk) : Type 0 where
    ready : IsReady g w → Stands g w
    waiting : IsWaiting g w → Stands g w

  -- what one word more comes to
  abbrev pub GoesOn : Text → Walk → Given → Type 0
  GoesOn word w h = (turn_passes s [] w word ≡ true) × Stands h (walked s.rules [] w word)

  -- one use more is one row more
  one_row : (name value : Text) (uses : List Use) → rows_for uses ++ row_for (use_of name value) ∷ [] ≡ rows_for (uses ++ use_of name value ∷ [])
  one_row name value uses = sym (map-append row_for uses (use_of name value ∷ []))

  -- a value for the option that waits
  value_goes : (word : Text) (g h : Given) (w : Walk) → IsWaiting g w → step (Some g) word ≡ Some h → GoesOn word w h
  value_goes word g h w at e =
      let taken : taken_by (Some at.name) word g ≡ Some h = ap (λ o. taken_by o word g) (sym at.waits) ∙ e in
      go (begins_dash word) refl taken
    where
      go : (b : Bool) → begins_dash word ≡ b → cond b None (Some (with_use at.name word g)) ≡ Some h → GoesOn word w h
      go true d taken = cc
      go false d taken =
          let same : with_use at.name word g ≡ h = cc in
          let single = single_option s at.name at.of.id in
          let new = new_row at.name g.uses at.unused in
          subst (GoesOn word w) same (
            subst (λ (v : Walk). turn_passes s [] v word ≡ true) (sym at.walk) (value_turn s word d at.name (rows_for g.uses) (g.places + 1)),
            ready (record {
              rows = rows_for g.uses;
              pending = Some (at.name, word ∷ []);
              waits = refl;
              walk = ap (λ (v : Walk). walked s.rules [] v word) at.walk ∙ value_walked s word d at.name (rows_for g.uses) (g.places + 1) at.of.id;
              settles = settled_at_end s at.name word (rows_for g.uses) single new ∙ one_row at.name word g.uses;
              passes = settling_passes s at.name word (rows_for g.uses) single new;
              places = other_place g.uses g.places at.name word at.of.command at.of.formula at.places;
            }),
          )

  module _ (word : Text) (g : Given) (w : Walk) (at : IsReady g w) where
    turned : (b : Bool) → turn_passes s [] (walk_at at.rows at.pending idle (g.places + 1)) word ≡ b → turn_passes s [] w word ≡ b
    turned b e = ap (λ (v : Walk). turn_passes s [] v word) at.walk ∙ e

    walked_on : (v : Walk) → walked s.rules [] (walk_at at.rows at.pending idle (g.places + 1)) word ≡ v → walked s.rules [] w word ≡ v
    walked_on v e = ap (λ (u : Walk). walked s.rules [] u word) at.walk ∙ e

    option_goes : (h : Given) (name : Text) → IsOption name → word ≡ spelled name → once name g (record g { waits = Some name }) ≡ Some h → GoesOn word w h
    option_goes h name of is e = go (is_used name g.uses) refl e
      where
        go : (b : Bool) → is_used name g.uses ≡ b → cond b None (Some (record g { waits = Some name })) ≡ Some h → GoesOn word w h
        go true u e = cc
        go false u e =
            let same : record g { waits = Some name } ≡ h = cc in
            let n = g.places + 1 in
            subst (GoesOn word w) same (
              turned true (ap (turn_passes s [] (walk_at at.rows at.pending idle n)) is ∙ option_turn s name of.spells at.rows at.pending n of.long at.passes),
              waiting (record {
                name = name;
                of = of;
                waits = refl;
                unused = u;
                walk = walked_on _ (ap (walked s.rules [] (walk_at at.rows at.pending idle n)) is ∙ option_walked s name of.spells at.rows at.pending n of.long)
                    ∙ ap (λ (rows : List Row). walk_at rows (Some (name, [])) (option name) n) at.settles;
                places = at.places;
              }),
            )

    flag_goes : (h : Given) (name : Text) → IsFlag name → word ≡ spelled name → once name g (with_use name (codes "true") g) ≡ Some h → GoesOn word w h
    flag_goes h name of is e = go (is_used name g.uses) refl e
      where
        go : (b : Bool) → is_used name g.uses ≡ b → cond b None (Some (with_use name (codes "true") g)) ≡ Some h → GoesOn word w h
        go true u e = cc
        go false u e =
            let same : with_use name (codes "true") g ≡ h = cc in
            let n = g.places + 1 in
            let new = new_row name g.uses u in
            subst (GoesOn word w) same (
              turned true (ap (turn_passes s [] (walk_at at.rows at.pending idle n)) is
                  ∙ flag_turn s name of.spells at.rows at.pending n of.long at.passes (ap (has_row name) at.settles ∙ new)),
              ready (record {
                rows = rows_for (g.uses ++ use_of name (codes "true") ∷ []);
                pending = None;
                waits = refl;
                walk = walked_on _ (ap (walked s.rules [] (walk_at at.rows at.pending idle n)) is ∙ flag_walked s name of.spells at.rows at.pending n of.long)
                    ∙ ap (λ (rows : List Row). walk_at (with_values name AsWritten CommandLine (codes "true" ∷ []) (without name rows)) None idle n) at.settles
                    ∙ ap (λ (rows : List Row). walk_at rows None idle n) (used_at_end name (codes "true") (rows_for g.uses) new ∙ one_row name (codes "true") g.uses);
                settles = refl;
                passes = refl;
                places = other_place g.uses g.places name (codes "true") of.command of.formula at.places;
              }),
            )

    -- positional number n, where n - 1 stand
    place_stands : (name : Text) (n : ℕ) → begins_dash word ≡ false → IsPlace (n + 1) name → g.places ≡ n → min (n + 1 + 1) usize_max ≡ n + 1 + 1
        → is_used name g.uses ≡ false → HasPlaces (g.uses ++ use_of name word ∷ []) (n + 1) → GoesOn word w (record (with_use name word g) { places = n + 1 })
    place_stands name n d of here fits unused has =
        let single = single_place s (n + 1) name of.id in
        let new : has_row name (settled_rows s.rules at.pending at.rows) ≡ false = ap (has_row name) at.settles ∙ new_row name g.uses unused in
        let there : w ≡ walk_at at.rows at.pending idle (n + 1) = at.walk ∙ ap (λ m. walk_at at.rows at.pending idle (m + 1)) here in (
          ap (λ (v : Walk). turn_passes s [] v word) there ∙ place_turn s word d name at.rows at.pending (n + 1) of.index at.passes,
          ready (record {
            rows = settled_rows s.rules at.pending at.rows;
            pending = Some (name, word ∷ []);
            waits = refl;
            walk = ap (λ (v : Walk). walked s.rules [] v word) there ∙ place_walked s word d name at.rows at.pending (n + 1) of.index fits;
            settles = settled_at_end s name word (settled_rows s.rules at.pending at.rows) single new
                ∙ ap (λ (rows : List Row). rows ++ row_for (use_of name word) ∷ []) at.settles ∙ one_row name word g.uses;
            passes = settling_passes s name word (settled_rows s.rules at.pending at.rows) single new;
            places = has;
          }),
        )

    place_goes : HasArguments → (h : Given) (n : ℕ) → begins_dash word ≡ false → g.places ≡ n → with_place n word g ≡ Some h → GoesOn word w h
    place_goes all h zero d here e =
        let same : record (with_use (codes "command") word g) { places = 1 } ≡ h = cc in
        let c : is_used (codes "command") g.uses ≡ false = at.places.command ∙ ap (nat_lt 0) here in
        let f : is_used (codes "formula") g.uses ≡ false = at.places.formula ∙ ap (nat_lt 1) here in
        subst (GoesOn word w) same (place_stands (codes "command") 0 d all.first here refl c (record {
          command = list_any-append (λ (u : Use). bytes_eq u.name (codes "command")) g.uses (use_of (codes "command") word ∷ []) ∙ ap (λ b. b || true) c;
          formula = still_used (codes "formula") (codes "command") word g.uses refl ∙ f;
        }))
    place_goes all h (suc zero) d here e =
        let same : record (with_use (codes "formula") word g) { places = 2 } ≡ h = cc in
        let c : is_used (codes "command") g.uses ≡ true = at.places.command ∙ ap (nat_lt 0) here in
        let f : is_used (codes "formula") g.uses ≡ false = at.places.formula ∙ ap (nat_lt 1) here in
        subst (GoesOn word w) same (place_stands (codes "formula") 1 d all.second here refl f (record {
          command = still_used (codes "command") (codes "formula") word g.uses refl ∙ c;
          formula = list_any-append (λ (u : Use). bytes_eq u.name (codes "formula")) g.uses (use_of (codes "formula") word ∷ []) ∙ ap (λ b. b || true) f;
        }))
    place_goes all h (suc (suc n)) d here e = cc

    word_goes : HasArguments → (h : Given) (k : Kind) → IsOfKind IsOption IsFlag word k → with_word k word g ≡ Some h → GoesOn word w h
    word_goes all h _ (as_option name of is) e = option_goes h name of is e
    word_goes all h _ (as_flag name of is) e = flag_goes h name of is e
    word_goes all h _ as_unknown e = cc
    word_goes all h _ (as_positional d) e = place_goes all h g.places d refl e

  one_word : HasArguments → (word : Text) (g h : Given) (w : Walk) → Stands g w → step (Some g) word ≡ Some h → GoesOn word w h
  one_word all word g h w (waiting at) e = value_goes word g h w at e
  one_word all word g h w (ready at) e =
      word_goes word g w at all h (kind_of word) (its_kind IsOption IsFlag all.of_options all.of_flags word) (ap (λ o. taken_by o word g) (sym at.waits) ∙ e)

  -- the walk passes over these words, and stands where the rule stands
  abbrev Passes : List Text → Walk → Given → Type 0
  Passes words w h = (walk_passes s [] w words ≡ true) × Stands h (fold (walked s.rules []) w words)

  more_words : HasArguments → (word : Text) (words : List Text) (g h : Given) (w : Walk) (o : Option Given) → Stands g w → step (Some g) word ≡ o → fold step o words ≡ Some h
      → ((f : Given) (v : Walk) → Stands f v → fold step (Some f) words ≡ Some h → Passes words v h) → Passes (word ∷ words) w h
  unfolding clap_on_literals
  more_words all word words g h w None at t e on = let never : None ≡ Some h = sym (refused_stays words) ∙ e in cc
  more_words all word words g h w (Some f) at t e on =
      let one = one_word all word g f w at t in
      let rest = on f (walked s.rules [] w word) one.1 e in
      (and_from _ _ one.0 rest.0, rest.1)

  pub all_words : HasArguments → (words : List Text) (g h : Given) (w : Walk) → Stands g w → fold step (Some g) words ≡ Some h → Passes words w h
  unfolding clap_on_literals
  all_words all [] g h w at e = let same : g ≡ h = cc in (refl, subst (λ f. Stands f w) same at)
  all_words all (word ∷ words) g h w at e =
      more_words all word words g h w (step (Some g) word) at refl e (λ f v stands left. all_words all words f h v stands left)
