-- What `clap`'s walk makes of one word, over the arguments of any command. What is said of an argument by its name is what `clap`'s
-- look-ups give for it.
use Rattle.std.proofs.Common.{◌≡◌, ◌∙◌, ℕ, ◌+◌, Bool, true, false, not, ◌&&◌, ◌||◌, cond, min, nat_lt, List, [], ◌∷◌, ◌++◌, Option, None, Some, refl, ap, ap₂, codes, append-nil}
use Rattle.std.specs.Option.{option_map_or}
use Rattle.std.specs.Str.{bytes_eq}
use Rattle.std.proofs.lemmas.Bool.{and_right, or_right, and_from}
use Rattle.std.proofs.lemmas.Slice.Eq.{bytes_eq-Decides}
use Rattle.clap.specs.Lexer.{long_of, short_of, usize_max}
use Rattle.clap.specs.Walk.{Row, Rule, Held, Waiting, idle, option, Walk, Step, next, trailing, walked, after_step, after_flag, long_met, long_or_other, short_or_plain, plain_word, subcommand_or_other, option_word, used, used_by_id, settled_rows, with_values, more_values, without, has_row, at_row, arg_by_id, arg_by_long, arg_by_index, to_positional, is_pending, pushed, settled}
use Rattle.clap.specs.Simple.{Shape, filled, with_index}
use Rattle.clap.specs.Takes.{turn_passes, settle_passes, use_passes, flag_word_passes, long_passes, other_passes, step_passes, bundle_passes, positional_passes}
use Rattle.clap.specs.declared.parser.matches.ValueSource.TheVariants.{CommandLine}
use Rattle.clap.specs.declared.builder.value_parser.Reading.TheVariants.{AsWritten}
use Rattle.clap.proofs.OnLiterals.{clap_on_literals}
use Rattle.command_words.specs.Rule.{Text, spelled, begins_dash}
use Rattle.command_words.specs.ByClap.{place, option_named, flag_named}

-- ---- words without a hyphen at the front

pub no_dashes : (word : Text) → begins_dash word ≡ false → bytes_eq word (45 ∷ 45 ∷ []) ≡ false
no_dashes [] h = refl
no_dashes (x ∷ xs) h = ap (λ b. b && bytes_eq xs (45 ∷ [])) h

pub no_long : (word : Text) → begins_dash word ≡ false → long_of word ≡ None
no_long [] h = refl
no_long (x ∷ xs) h = rw h refl

pub no_short : (word : Text) → begins_dash word ≡ false → short_of word ≡ None
no_short [] h = refl
no_short (x ∷ xs) h = rw h refl

pub same_text : (text : Text) → bytes_eq text text ≡ true
same_text text = (bytes_eq-Decides text text).1 refl

-- ---- rows

pub row_at_end : (name : Text) (change : Row → List Row) (missing rows : List Row) → has_row name rows ≡ false → at_row name change missing rows ≡ rows ++ missing
row_at_end name change missing [] h = refl
row_at_end name change missing (r ∷ rows) h = go (bytes_eq r.id name) h (row_at_end name change missing rows)
  where
    go : (b : Bool) → (b || has_row name rows) ≡ false → (has_row name rows ≡ false → at_row name change missing rows ≡ rows ++ missing)
        → cond b (change r ++ rows) (r ∷ at_row name change missing rows) ≡ r ∷ (rows ++ missing)
    go true h rest = cc
    go false h rest = ap (λ (rs : List Row). r ∷ rs) (rest h)

-- a first use of an argument puts its row at the end
pub used_at_end : (name v : Text) (rows : List Row) → has_row name rows ≡ false
    → with_values name AsWritten CommandLine (v ∷ []) (without name rows) ≡ rows ++ record { id = name; values = v ∷ []; count = None; source = Some CommandLine; reading = AsWritten } ∷ []
used_at_end name v rows h =
    ap (with_values name AsWritten CommandLine (v ∷ [])) (row_at_end name (λ _. []) [] rows h ∙ append-nil rows) ∙ row_at_end name (more_values CommandLine (v ∷ [])) _ rows h

-- ---- the walk, with nothing skipped, no `--` and no subcommand

abbrev pub held_at : List Row → Option (Text × List Text) → Held
held_at rows p = record { rows = rows; pending = p; skip = 0 }

abbrev pub walk_at : List Row → Option (Text × List Text) → Waiting → ℕ → Walk
walk_at rows p waiting n = record { held = held_at rows p; waiting = waiting; position = n; is_trailing = false; stopped = None }

abbrev pub built_option : Text → Rule
built_option name = with_index 1 (filled (option_named name))

abbrev pub built_flag : Text → Rule
built_flag name = with_index 1 (filled (flag_named name))

abbrev pub built_place : ℕ → Text → Rule
built_place n name = with_index n (filled (place name))

abbrev walk_holding : Held → ℕ → Walk
walk_holding held m = record { held = held; waiting = idle; position = m; is_trailing = false; stopped = None }

-- the spelling of a name is read as the name, without a value
pub record IsSpelled (name : Text) : Type 0 where
  pub long : long_of (spelled name) ≡ Some (name, None)
  pub other : bytes_eq (spelled name) (45 ∷ 45 ∷ []) ≡ false

module _ (s : Shape) where
  abbrev again : Bool
  again = s.args_override_self

  -- a use of this argument has one value and stands once
  pub record IsSingle (name : Text) : Type 0 where
    pub rule : Rule
    pub found : arg_by_id s.rules name ≡ Some rule
    pub uses : (v : Text) (rows : List Row) → used rule (v ∷ []) rows ≡ with_values name AsWritten CommandLine (v ∷ []) (without name rows)
    pub passes : (v : Text) (rows : List Row) → has_row name rows ≡ false → use_passes again rule (v ∷ []) rows ≡ true

  pub single_option : (name : Text) → arg_by_id s.rules name ≡ Some (built_option name) → IsSingle name
  single_option name found = record {
    rule = built_option name;
    found = found;
    uses = λ v rows. refl;
    passes = λ v rows h. ap (λ b. (not b || again) && true) h;
  }

  pub single_place : (n : ℕ) (name : Text) → arg_by_id s.rules name ≡ Some (built_place n name) → IsSingle name
  single_place n name found = record {
    rule = built_place n name;
    found = found;
    uses = λ v rows. refl;
    passes = λ v rows h. ap (λ b. (not b || again) && true) h;
  }

  -- what is pending gets its row at the end
  pub settled_at_end : (name v : Text) (rows : List Row) → IsSingle name → has_row name rows ≡ false
      → settled_rows s.rules (Some (name, v ∷ [])) rows ≡ rows ++ record { id = name; values = v ∷ []; count = None; source = Some CommandLine; reading = AsWritten } ∷ []
  settled_at_end name v rows single new =
      ap (λ (o : Option Rule). used_by_id o (v ∷ []) rows) single.found ∙ single.uses v rows ∙ used_at_end name v rows new

  pub settling_passes : (name v : Text) (rows : List Row) → IsSingle name → has_row name rows ≡ false
      → settle_passes s.rules again (held_at rows (Some (name, v ∷ []))) ≡ true
  settling_passes name v rows single new =
      ap (λ (o : Option Rule). option_map_or (λ a. use_passes again a (v ∷ []) rows) o true) single.found ∙ single.passes v rows new

  -- ---- an option, a flag

  module _ (name : Text) (is : IsSpelled name) (rows : List Row) (p : Option (Text × List Text)) (n : ℕ) where
    abbrev here : Walk
    here = walk_at rows p idle n

    abbrev long_met_by : Option Rule → Held × Step
    long_met_by o = after_flag s.rules idle (spelled name) (long_met s.rules o None (held_at rows p)).0 (long_met s.rules o None (held_at rows p)).1

    abbrev met_by : Option (Text × Option Text) → Held × Step
    met_by o = long_or_other s.rules idle (spelled name) o (held_at rows p)

    abbrev after : Held × Step → Walk
    after met = after_step s.rules (spelled name) here met.0 met.1

    abbrev turn_of : Bool → Held × Step → Bool
    turn_of passes met = passes && step_passes s n met.0 met.1

    pub spelled_walked : walked s.rules [] here (spelled name) ≡ after (long_met_by (arg_by_long s.rules name))
    unfolding clap_on_literals
    spelled_walked =
        ap (λ b. after (cond b (held_at rows p, trailing n) (met_by (long_of (spelled name))))) is.other
        ∙ ap (λ (o : Option (Text × Option Text)). after (met_by o)) is.long

    pub spelled_turn : turn_passes s [] here (spelled name)
        ≡ turn_of (long_passes s.rules again (arg_by_long s.rules name) None (held_at rows p)) (long_met_by (arg_by_long s.rules name))
    spelled_turn =
        ap (λ b. turn_of (b || flag_word_passes s.rules again (long_of (spelled name)) (spelled name) (held_at rows p))
        (cond b (held_at rows p, trailing n) (met_by (long_of (spelled name))))) is.other
        ∙ ap (λ (o : Option (Text × Option Text)). turn_of (flag_word_passes s.rules again o (spelled name) (held_at rows p)) (met_by o)) is.long

    pub option_walked : arg_by_long s.rules name ≡ Some (built_option name)
        → walked s.rules [] here (spelled name) ≡ walk_at (settled_rows s.rules p rows) (Some (name, [])) (option name) n
    option_walked found = spelled_walked ∙ ap (λ (o : Option Rule). after (long_met_by o)) found

    pub option_turn : arg_by_long s.rules name ≡ Some (built_option name) → settle_passes s.rules again (held_at rows p) ≡ true
        → turn_passes s [] here (spelled name) ≡ true
    option_turn found passes = spelled_turn
        ∙ ap (λ (o : Option Rule). turn_of (long_passes s.rules again o None (held_at rows p)) (long_met_by o)) found
        ∙ ap (λ b. b && true) passes

    pub flag_walked : arg_by_long s.rules name ≡ Some (built_flag name)
        → walked s.rules [] here (spelled name) ≡ walk_at (with_values name AsWritten CommandLine (codes "true" ∷ []) (without name (settled_rows s.rules p rows))) None idle n
    flag_walked found = spelled_walked ∙ ap (λ (o : Option Rule). after (long_met_by o)) found

    pub flag_turn : arg_by_long s.rules name ≡ Some (built_flag name) → settle_passes s.rules again (held_at rows p) ≡ true
        → has_row name (settled_rows s.rules p rows) ≡ false → turn_passes s [] here (spelled name) ≡ true
    flag_turn found passes new = spelled_turn
        ∙ ap (λ (o : Option Rule). turn_of (long_passes s.rules again o None (held_at rows p)) (long_met_by o)) found
        ∙ ap₂ (λ b c. (b && ((not c || again) && true)) && true) passes new

  -- ---- a word without a hyphen at the front

  module _ (word : Text) (h : begins_dash word ≡ false) where
    pub plain_met : (waiting : Waiting) (n : ℕ) (held : Held) → subcommand_or_other s.rules None waiting n word held ≡ plain_word s.rules waiting word held
    plain_met waiting n held =
        ap (λ b. cond b (held, trailing n) (long_or_other s.rules waiting word (long_of word) held)) (no_dashes word h)
        ∙ ap (λ (o : Option (Text × Option Text)). long_or_other s.rules waiting word o held) (no_long word h)
        ∙ ap (λ (o : Option Text). short_or_plain s.rules waiting word o held) (no_short word h)

    pub plain_passes : (held : Held) → other_passes s None word held ≡ true
    plain_passes held =
        ap (λ b. b || flag_word_passes s.rules again (long_of word) word held) (no_dashes word h)
        ∙ ap (λ (o : Option (Text × Option Text)). flag_word_passes s.rules again o word held) (no_long word h)
        ∙ ap (λ (o : Option Text). option_map_or (λ flags. bundle_passes s.rules again flags held) o true) (no_short word h)

    pub value_walked : (name : Text) (rows : List Row) (n : ℕ) → arg_by_id s.rules name ≡ Some (built_option name)
        → walked s.rules [] (walk_at rows (Some (name, [])) (option name) n) word ≡ walk_at rows (Some (name, word ∷ [])) idle n
    unfolding clap_on_literals
    value_walked name rows n found =
        let held = held_at rows (Some (name, [])) in
        let here = walk_at rows (Some (name, [])) (option name) n in
        ap (λ (met : Held × Step). after_step s.rules word here met.0 met.1) (plain_met (option name) n held)
        ∙ ap (λ (o : Option Rule). after_step s.rules word here (option_word o name word held).0 (next (option_word o name word held).1)) found
        ∙ ap (λ b. walk_at rows (Some (name, word ∷ [])) (cond (nat_lt (cond b 1 0) 1) (option name) idle) n) (same_text name)

    pub value_turn : (name : Text) (rows : List Row) (n : ℕ) → turn_passes s [] (walk_at rows (Some (name, [])) (option name) n) word ≡ true
    value_turn name rows n =
        let held = held_at rows (Some (name, [])) in
        and_from _ _ (plain_passes held) (ap (λ (met : Held × Step). step_passes s n met.0 met.1) (plain_met (option name) n held))

    pub place_walked : (name : Text) (rows : List Row) (p : Option (Text × List Text)) (n : ℕ) → arg_by_index s.rules n ≡ Some (built_place n name)
        → min (n + 1) usize_max ≡ n + 1
        → walked s.rules [] (walk_at rows p idle n) word ≡ walk_at (settled_rows s.rules p rows) (Some (name, word ∷ [])) idle (n + 1)
    unfolding clap_on_literals
    place_walked name rows p n found fits =
        let held = held_at rows p in
        let here = walk_at rows p idle n in
        ap (λ (met : Held × Step). after_step s.rules word here met.0 met.1) (plain_met idle n held)
        ∙ ap (λ (o : Option Rule). to_positional s.rules o word here held) found
        ∙ ap₂ (λ b m. walk_holding (pushed name word (cond b held (settled s.rules held))) m) (and_right (is_pending (built_place n name) p) false refl) fits

    pub place_turn : (name : Text) (rows : List Row) (p : Option (Text × List Text)) (n : ℕ) → arg_by_index s.rules n ≡ Some (built_place n name)
        → settle_passes s.rules again (held_at rows p) ≡ true → turn_passes s [] (walk_at rows p idle n) word ≡ true
    place_turn name rows p n found passes =
        let held = held_at rows p in
        and_from _ _ (plain_passes held)
        (ap (λ (met : Held × Step). step_passes s n met.0 met.1) (plain_met idle n held)
        ∙ ap (λ (o : Option Rule). option_map_or (λ a. positional_passes s.rules again a held) o false) found
        ∙ or_right _ _ passes)
