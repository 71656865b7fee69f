-- A certificate behind its log, as it is written and as it is read.
use Rattle.std.specs.Prelude.{◌≡◌, ℕ, Bool, true, List, [], None, Some}
use Rattle.log_lines.specs.Names.{Name}
use Rattle.rctl_grammar.specs.declared.tree.Tree.{Tree}
use Rattle.log_rules.specs.Judgement.{Prefix}
use Rattle.certificate_text.specs.Bytes.{Judged}
use Rattle.certificate.specs.Following.{Follows}
use Rattle.call_promise.specs.Asking.{certifying, due_of}
use Rattle.call_promise.specs.Certificates.{IsCertificateText}
use Rattle.verify_top.specs.Asking.{start_of}
use Rattle.verify_top.specs.Verifying.{HasLog, certificate_of}

-- no fault is due of the bytes for a certificate of the formula, and the text is that of their log
pub record IsWrittenOf (watches : List Name) (t : Tree) (bytes text : List ℕ) : Type 0 where
  pub free : (due_of watches t certifying true bytes).fault ≡ None
  pub log : Prefix
  pub whole : (due_of watches t certifying true bytes).whole ≡ Some log
  pub certificate : IsCertificateText t log text

-- a log without a fault stands at the front of the bytes, and the certificate behind it is accepted
-- with this verdict
pub record IsAcceptedIn (words : List (List ℕ)) (bytes : List ℕ) (told : Bool) : Type 0 where
  pub of : HasLog words bytes
  pub judged : Judged Follows (certificate_of bytes) (start_of of.tree of.log) [] told
