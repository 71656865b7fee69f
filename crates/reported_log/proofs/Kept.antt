-- Where no counter of the parts falls the run keeps what the formula asks for.
use Rattle.std.proofs.Common.{◌≡◌, List, [], ◌∷◌, map, All, sym, subst}
use Rattle.std.specs.List.{AllByRecursion}
use Rattle.std.proofs.lemmas.List.Elements.{All-nil, All-cons, All-head, All-tail}
use Rattle.run_model.specs.Class.{IsKeptFor}
use Rattle.run_model.specs.Formula.{Formula}
use Rattle.run_model.specs.Run.{Watches, run_of}
use Rattle.event_log.specs.declared.log.Header.{Header}
use Rattle.event_log.specs.States.{StatesView, AreWhole, trace_of}
use Rattle.counter_preds.specs.declared.values.Variable.{Variable}
use Rattle.counter_preds.specs.Counters.{IsCounter}
use Rattle.rctl_parts.specs.Pieces.{Piece}
use Rattle.rctl_class.specs.Counters.{Counter, counters_of}
use Rattle.part_pulls.specs.Counters as parts
use Rattle.log_rules.specs.Counters.{variable_in, counters_in}
use Rattle.log_rules.proofs.Rising.{Rises, kept_for}
use Rattle.log_check.specs.Checking.{HaveCounters}
use Rattle.log_check.proofs.Counters.{among}

module _ (h : Header) (f : Formula) (ds : List (List Piece)) (have : HaveCounters h f ds) where
  each_mapped : (P : Variable → Type 0) (cs : List Counter) → All P (map (variable_in h) cs) → All (λ (c : Counter). P (variable_in h c)) cs
  each_mapped P [] each = All-nil (λ (c : Counter). P (variable_in h c))
  each_mapped P (c ∷ cs) each =
      All-cons (λ (x : Counter). P (variable_in h x)) c cs (All-head P (variable_in h c) (map (variable_in h) cs) each) (each_mapped P cs (All-tail P (variable_in h c) (map (variable_in h) cs) each))

  by_turns : (P Q : Variable → Type 0) → ((x : Variable) → P x → Q x) → (cs : List Counter) → All (λ (c : Counter). P (variable_in h c)) cs → AllByRecursion Q (map (variable_in h) cs)
  by_turns P Q leads [] each = tt
  by_turns P Q leads (c ∷ cs) each =
      (leads (variable_in h c) (All-head (λ (x : Counter). P (variable_in h x)) c cs each), by_turns P Q leads cs (All-tail (λ (x : Counter). P (variable_in h x)) c cs each))

  pub rising_kept : (states : StatesView) (watches : Watches) → AreWhole states → states.header ≡ h → All (IsCounter states) (parts.counters_of ds) → IsKeptFor (run_of (trace_of states) watches) f
  rising_kept states watches whole header rise =
      let named = each_mapped (IsCounter states) have.named (subst (All (IsCounter states)) have.numbered rise) in
      let asked = among (λ (c : Counter). IsCounter states (variable_in h c)) (counters_of f) have.named (λ c m. (have.same.same c).1 m) named in
      kept_for states watches whole f
      (subst (λ (x : Header). AllByRecursion (Rises states) (counters_in f x)) (sym header) (by_turns (IsCounter states) (Rises states) (λ x rises is. rises) (counters_of f) asked))
