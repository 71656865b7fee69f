-- On words of the rule `clap` succeeds unless it wants memory, and gives the values of the rule.
use Rattle.std.proofs.Common.{◌≡◌, ◌∙◌, Bool, true, false, not, ◌&&◌, ◌||◌, ◌==◌, cond, nat_lt, List, [], Option, None, Some, is_some, refl, sym, ap, ap₂, subst, codes}
use Rattle.std.specs.Prelude.{option_and_then, slice_get}
use Rattle.std.specs.List.{fold, AllByRecursion}
use Rattle.std.proofs.lemmas.Bool.{and_from, eqb-true}
use Rattle.clap.specs.Words.{App, Row, built, first_of, HasMatchesOf, found_of, is_simple, matches_of, rows_of, takes}
use Rattle.clap.specs.Walk.{Walk, idle, walked, with_default, finished}
use Rattle.clap.specs.Takes.{walk_passes, settle_passes, is_given}
use Rattle.clap.specs.declared.parser.matches.ArgMatches.{ArgMatches}
use Rattle.clap.proofs.TakesLemmas.{leaf_takes}
use Rattle.command_words.specs.Rule.{Text, Given, nothing_given, is_used, value_of, step, closed, given}
use Rattle.command_words.specs.Request.{values_of}
use Rattle.command_words.specs.ByClap.{pota_app, values_in}
use Rattle.command_words.proofs.Walking.{walk_at}
use Rattle.command_words.proofs.Taking.{IsReady, Stands, ready, waiting, rows_for, all_words}
use Rattle.command_words.proofs.Found.{row_named, defaults_spare, value_in, flag_stands, place_given}
use Rattle.command_words.proofs.Names.{top, arguments, simple, value_spared}

abbrev start : Walk
start = walk_at [] None idle 1

abbrev end : List Text → Walk
end words = fold (walked top.rules []) start words

-- where the rule takes the words, the walk has passed over them and nothing waits
record HasEnded (words : List Text) (g : Given) : Type 0 where
  walked : walk_passes top [] start words ≡ true
  ready : IsReady top g (end words)
  two : g.places ≡ 2

begins : Stands top nothing_given start
begins = ready (record {
  rows = [];
  pending = None;
  waits = refl;
  walk = refl;
  settles = refl;
  passes = refl;
  places = record { command = refl; formula = refl };
})

-- `closed` says that nothing waits and that there are two positionals
closed_is : (g h : Given) → closed g ≡ Some h → (g ≡ h) × (g.waits ≡ None) × (g.places ≡ 2)
closed_is g h e = go g.waits refl (g.places == 2) refl e
  where
    go : (o : Option Text) → g.waits ≡ o → (b : Bool) → (g.places == 2) ≡ b → cond (is_some o || not b) None (Some g) ≡ Some h
        → (g ≡ h) × (g.waits ≡ None) × (g.places ≡ 2)
    go (Some name) w b p e = cc
    go None w false p e = cc
    go None w true p e = (cc, w, eqb-true g.places 2 p)

ends_ready : (g : Given) (w : Walk) → g.waits ≡ None → Stands top g w → IsReady top g w
ends_ready g w none (ready at) = at
ends_ready g w none (waiting at) = let never : None ≡ Some at.name = sym none ∙ at.waits in cc

ended : (words : List Text) (g : Given) → given words ≡ Some g → HasEnded words g
ended words g e = go (fold step (Some nothing_given) words) refl e
  where
    go : (o : Option Given) → fold step (Some nothing_given) words ≡ o → option_and_then closed o ≡ Some g → HasEnded words g
    go None f e = cc
    go (Some h) f e =
        let is = closed_is h g e in
        let all = all_words top arguments words nothing_given h start begins f in
        subst (HasEnded words) is.0 (record { walked = all.0; ready = ends_ready h (end words) is.1 all.1; two = is.2 })

-- ---- the matches

-- the rows at the end are those of the uses, with the defaults
rows_end : (words : List Text) (g : Given) → HasEnded words g → finished top.rules (end words).held ≡ fold with_default (rows_for g.uses) top.rules
rows_end words g has =
    let at = has.ready in
    ap (λ (w : Walk). finished top.rules w.held) at.walk ∙ ap (λ (rows : List Row). fold with_default rows top.rules) at.settles

matches_end : (words : List Text) (g : Given) → given words ≡ Some g → matches_of pota_app words ≡ fold with_default (rows_for g.uses) top.rules
matches_end words g e = rows_end words g (ended words g e)

value_ends : (name : Text) (uses : _) → row_named name (fold with_default (rows_for uses) top.rules) ≡ row_named name (rows_for uses)
    → first_of name (fold with_default (rows_for uses) top.rules) ≡ value_of name uses
value_ends name uses kept = ap (λ (o : Option Row). option_and_then (λ (r : Row). slice_get r.values 0) o) kept ∙ value_in name uses

-- `clap` gives the values of the rule
pub values_agree : (words : List Text) (g : Given) → given words ≡ Some g → values_in (matches_of pota_app words) ≡ values_of g
values_agree words g e = ap values_in (matches_end words g e) ∙ same
  where
    kept : (name : Text) → Rattle.std.specs.List.list_all (Rattle.command_words.proofs.Found.spares name) top.rules ≡ true
        → first_of name (fold with_default (rows_for g.uses) top.rules) ≡ value_of name g.uses
    kept name h = value_ends name g.uses (defaults_spare name top.rules (rows_for g.uses) h)

    same : values_in (fold with_default (rows_for g.uses) top.rules) ≡ values_of g
    same i = record {
      command = kept (codes "command") value_spared.0 i;
      formula = kept (codes "formula") value_spared.1.0 i;
      workers = kept (codes "workers") value_spared.1.1.0 i;
      seed = kept (codes "seed") value_spared.1.1.1.0 i;
      procs = kept (codes "procs") value_spared.1.1.1.1.0 i;
      events = kept (codes "events") value_spared.1.1.1.1.1.0 i;
      slice = flag_stands (codes "slice") top.rules g.uses i;
      witness = flag_stands (codes "witness") top.rules g.uses i;
      each_batch = flag_stands (codes "each-batch") top.rules g.uses i;
      vclog = flag_stands (codes "vclog") top.rules g.uses i;
      merged = flag_stands (codes "merged") top.rules g.uses i;
    }

-- `clap` takes the words of the rule
pub words_taken : (words : List Text) (g : Given) → given words ≡ Some g → takes pota_app words ≡ true
words_taken words g e =
    let has = ended words g e in
    let at = has.ready in
    let given_at : (name : Text) → is_used name g.uses ≡ true → is_given name (finished top.rules (end words).held) ≡ true =
    λ name used. ap (is_given name) (rows_end words g has) ∙ place_given name top.rules g.uses ∙ used in
    let command = given_at (codes "command") (at.places.command ∙ ap (nat_lt 0) has.two) in
    let formula = given_at (codes "formula") (at.places.formula ∙ ap (nat_lt 1) has.two) in
    let settles : settle_passes top.rules top.args_override_self (end words).held ≡ true =
    ap (λ (w : Walk). settle_passes top.rules top.args_override_self w.held) at.walk ∙ at.passes in
    leaf_takes (built pota_app) _ words refl (and_from _ _ has.walked (and_from _ _ settles (ap₂ (λ a b. a && (b && true)) command formula)))

-- the same of a command that is known to be this one
pub known_matches : (a b : App) → a ≡ b → is_simple b ≡ true → (words : List Text) (m : ArgMatches) → HasMatchesOf a words m → rows_of (found_of m) ≡ matches_of b words
known_matches a b e simple words m h = (h (ap is_simple e ∙ simple)).0 ∙ ap (λ (x : App). matches_of x words) e

pub known_to_take : (a b : App) → a ≡ b → (words : List Text) → takes b words ≡ true → takes a words ≡ true
known_to_take a b e words h = ap (λ (x : App). takes x words) e ∙ h
