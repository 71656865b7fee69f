-- The parser's `EX`: what it reads, from what the functions that it calls read.
use Rattle.std.specs.Prelude.{ℕ, ◌<◌, ◌+◌, length, List, [], ◌∷◌, None, Some}
use Rattle.std.proofs.Common.{◌≡◌, refl, sym, ◌∙◌, ap, subst, arith}
use Rattle.run_model.specs.Run.{Name}
use Rattle.pota_base.specs.Limits.{deepest, most_nodes}
use Rattle.rctl_grammar.specs.declared.token.Word.TheVariants as word
use Rattle.rctl_grammar.specs.declared.token.Token.{Token}
use Rattle.rctl_grammar.specs.declared.token.End.{End}
use Rattle.rctl_grammar.specs.declared.token.End.TheVariants as end
use Rattle.rctl_grammar.specs.declared.fault.FormulaFault.{FormulaFault}
use Rattle.rctl_grammar.specs.declared.tree.Place.{Place}
use Rattle.rctl_grammar.specs.declared.tree.Tree.{Tree}
use Rattle.rctl_grammar.specs.declared.tree.Tree.TheVariants as tree
use Rattle.rctl_grammar.specs.Grammar.{stepping, spelled, named, tree_unary}
use Rattle.rctl_grammar.specs.Machine.{Open, operand, a_stepping, in_stepping, no_sign, word_in}
use Rattle.rctl_grammar.specs.FirstFault.{fault_of, depth, nodes_open, level_opens, node_stands, either}
use Rattle.rctl_parse.specs.declared.around.Around.{Around}
use Rattle.rctl_parse.specs.inside.Reading.{found, here, place_in}
use Rattle.rctl_parse.specs.inside.Parts.{sign_of, UnaryFault, UnaryRead, SteppingRead, place_by}
use Rattle.rctl_parse.specs.inside.Limits.{Entered}
use Rattle.rctl_parse.proofs.LeafSteps.{found_is, word_is, longer, place_word}
use Rattle.rctl_parse.proofs.UnarySteps.{level_passes, node_passes, settle, word_free, word_bound}
use Rattle.rctl_parse.proofs.PartSteps.{missing_close}

-- the word before these tokens, where it breaks nothing
goes_on : (o : Open) (name : Name) (at : ℕ) (ts : List Token) (ending : End) → sign_of ts ≡ no_sign → depth o < deepest → nodes_open o < most_nodes
    → fault_of (operand o) (spelled word.Ex name at ∷ ts) ending ≡ fault_of (a_stepping o name at) ts ending
unfolding settle
goes_on o name at ts ending other deep room =
    word_free o (record { word = word.Ex; name = name; at = at }) ts ending other (rw (level_passes (depth o) at deep, node_passes (nodes_open o) at room) refl)

pub stepping_found : (around inside : Around) (name : Name) (at : ℕ) (ts rest : List Token) (process : Place) → sign_of ts ≡ no_sign → Entered around inside → found place_in ts ≡ Some (process, rest)
    → SteppingRead (place_by name at) ts rest around inside process
stepping_found around inside name at ts rest process other enters h =
    let p = place_word ts rest process h in
    let is : ts ≡ named p.0 ∷ rest = found_is word_in named word_is ts rest p.0 p.1 in
    let deep = enters.0 in
    let room = enters.1 in record {
      p = p.0;
      process_is = p.2;
      enters = enters;
      text = is;
      goes = λ o d m. goes_on o name at ts around.end other (omega arith) (omega arith) ∙ ap (λ (x : List Token). fault_of (a_stepping o name at) x around.end) is;
    }

pub stepping_shorter : (ts rest : List Token) (process : Place) → found place_in ts ≡ Some (process, rest) → length rest < length ts
stepping_shorter ts rest process h = let p = place_word ts rest process h in longer (named p.0) ts rest (found_is word_in named word_is ts rest p.0 p.1)

no_process : (o : Open) (name : Name) (at : ℕ) (ts : List Token) (ending : End) → found word_in ts ≡ None → fault_of (a_stepping o name at) ts ending ≡ Some (here ts ending)
no_process o name at [] (end.Ends len) h = refl
no_process o name at [] (end.BadToken len) h = refl
no_process o name at (t ∷ ts) ending h = missing_close (word_in t.kind t.at) (λ p. operand (in_stepping o name at p)) ts ending t h

pub stepping_missing : (around inside : Around) (name : Name) (at : ℕ) (ts : List Token) (f : FormulaFault) → sign_of ts ≡ no_sign → Entered around inside
    → (found word_in ts ≡ None) × (f ≡ here ts around.end) → UnaryFault (spelled word.Ex name at ∷ ts) around f
stepping_missing around inside name at ts f other (deep, room, is) (missing, same) o d m =
    goes_on o name at ts around.end other (omega arith) (omega arith) ∙ no_process o name at ts around.end missing ∙ ap Some (sym same)

pub stepping_bound : (around : Around) (name : Name) (at : ℕ) (ts : List Token) (f : FormulaFault) → sign_of ts ≡ no_sign → either (level_opens around.level at) (node_stands around.nodes at) ≡ Some f
    → UnaryFault (spelled word.Ex name at ∷ ts) around f
stepping_bound around name at ts f other bound o d m = word_bound o (record { word = word.Ex; name = name; at = at }) ts around.end f other (rw (d, m) bound)

-- with the operand behind the process
next_read : (around inside : Around) (name : Name) (at : ℕ) (ts more rest : List Token) (nodes : ℕ) (process : Place) (t : Tree) → SteppingRead (place_by name at) ts more around inside process
    → UnaryRead more rest inside nodes t → UnaryRead (spelled word.Ex name at ∷ ts) rest around nodes (tree.Next process t at)
next_read around inside name at ts more rest nodes process t s given =
    let (deep, room, is) = s.enters in
    let read : UnaryRead more rest (record around { level = around.level + 1; nodes = around.nodes + 1 }) nodes t = subst (λ (a : Around). UnaryRead more rest a nodes t) is given in
    record {
      u = stepping name at s.p read.u;
      tree = ap (λ x. tree.Next x (tree_unary read.u) at) s.process_is ∙ ap (λ x. tree.Next process x at) read.tree;
      text = ap (λ x. spelled word.Ex name at ∷ x) (s.text ∙ ap (λ x. named s.p ∷ x) read.text);
      goes = λ o d m. s.goes o d m ∙ read.goes (in_stepping o name at s.p) (ap (λ x. x + 1) d) (ap (λ x. x + 1) m);
      counts = omega (arith, read.counts);
      fits = read.fits;
      levels = omega (arith, read.levels);
      in_range = read.in_range;
      shorter = let less : length more < length ts = longer (named s.p) ts more s.text in omega (arith, read.shorter);
    }

pub next_whole : (around inside : Around) (name : Name) (at : ℕ) (ts more rest : List Token) (nodes : ℕ) (process : Place) (t boxed : Tree) → SteppingRead (place_by name at) ts more around inside process
    → UnaryRead more rest inside nodes t → boxed ≡ t → UnaryRead (spelled word.Ex name at ∷ ts) rest around nodes (tree.Next process boxed at)
next_whole around inside name at ts more rest nodes process t boxed s read same =
    subst (λ (x : Tree). UnaryRead (spelled word.Ex name at ∷ ts) rest around nodes (tree.Next process x at)) (sym same) (next_read around inside name at ts more rest nodes process t s read)

pub next_fault : (around inside : Around) (name : Name) (at : ℕ) (ts more : List Token) (process : Place) (f : FormulaFault) → SteppingRead (place_by name at) ts more around inside process
    → UnaryFault more inside f → UnaryFault (spelled word.Ex name at ∷ ts) around f
next_fault around inside name at ts more process f s given o d m =
    let (deep, room, is) = s.enters in
    let bad : UnaryFault more (record around { level = around.level + 1; nodes = around.nodes + 1 }) f = subst (λ (a : Around). UnaryFault more a f) is given in
    s.goes o d m ∙ bad (in_stepping o name at s.p) (ap (λ x. x + 1) d) (ap (λ x. x + 1) m)
