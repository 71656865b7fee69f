-- The picture of a run whose log has a text is a document.
use Rattle.std.proofs.Common.{◌≡◌, ℕ, true, List, [], ◌∷◌, sym, subst}
use Rattle.std.specs.Prelude.{Option, Some, false}
use Rattle.std.specs.List.{AllByRecursion}
use Rattle.pota_base.specs.Limits.{longest_log}
use Rattle.pota_names.specs.Names.{is_name}
use Rattle.event_log.specs.declared.log.Binding.{Binding}
use Rattle.event_log.specs.declared.log.Header.{Header}
use Rattle.event_log.specs.LogText.{BindingFits, BindingsFit, HeaderFits}
use Rattle.event_log.specs.States.{StatesView}
use Rattle.log_rules.specs.Judgement.{Prefix}
use Rattle.log_rules.specs.Readings.{log_reading}
use Rattle.log_rules.specs.Due.{due}
use Rattle.log_rules.specs.Reported.{listed, reported}
use Rattle.log_rules.proofs.Readings.{log_is_read}
use Rattle.log_rules.proofs.Sound.{Follows, all_sound}
use Rattle.log_trace.specs.Judging.{without_formula}
use Rattle.view_top.specs.Viewing.{log_in, HasLog}
use Rattle.picture_laws.specs.Xml.{IsDocument}
use Rattle.picture_laws.specs.WellFormed.{HasNames, PicturesOfRunsAreWellFormed, WrittenPicturesAreWellFormed}
use Rattle.picture_laws.proofs.Printed.{canonical_is_printed}
use Rattle.picture_laws.proofs.WellFormed.{pictures_are_well_formed}

each_named : (bindings : List Binding) → AllByRecursion BindingFits bindings → AllByRecursion (λ (b : Binding). is_name b.name ≡ true) bindings
each_named [] fits = tt
each_named (b ∷ bindings) fits = (fits.0.name, each_named bindings fits.1)

all_named : (vars : List (List Binding)) → AllByRecursion BindingsFit vars → AllByRecursion (AllByRecursion (λ (b : Binding). is_name b.name ≡ true)) vars
all_named [] fits = tt
all_named (v ∷ vars) fits = (each_named v fits.0.each, all_named vars fits.1)

has_names : (h : Header) → HeaderFits h → HasNames h
has_names h fits = record { procs = fits.procs.each; variables = all_named h.vars fits.vars }

pub pictures_of_runs : PicturesOfRunsAreWellFormed
pictures_of_runs s x r bytes fits formed is =
    subst IsDocument (sym is.text_is) (pictures_are_well_formed s is.rows r (has_names s.header fits) (canonical_is_printed r.formula formed.formula))

-- ---- what is written of an input

abbrev Named : Prefix → Type 0
Named log = HeaderFits log.header

still_named : Follows without_formula Named
still_named log since good fits none = good

due_named : (bytes : List ℕ) → AllByRecursion Named (reported false (due log_reading without_formula true bytes))
due_named bytes = all_sound without_formula Named (λ h fits. fits) still_named longest_log log_reading log_is_read true bytes false

log_named : (input : List ℕ) (s : StatesView) → HasLog input s → HeaderFits s.header
log_named input s log =
    let named : AllByRecursion Named (listed (Some log.log)) = subst (λ (o : Option Prefix). AllByRecursion Named (listed o)) log.whole (due_named (log_in input)) in
    subst (λ (t : StatesView). HeaderFits t.header) (sym log.states) named.0

pub written_pictures : WrittenPicturesAreWellFormed
written_pictures x input shown is = pictures_of_runs is.states x is.report shown (log_named input is.states is.log) is.text.fits is.view
