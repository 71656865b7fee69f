use Rattle.std.proofs.Common.{◌≡◌, ℕ, Bool, List, sym, ap, ◌∙◌, arith}
use Rattle.std.specs.Prelude.{◌&&◌, String, string_bytes, unwrap_or, Option}
use Rattle.std.specs.declared.alloc.Global.{Global}
use Rattle.std.proofs.lemmas.List.{length-set}
use Rattle.serde_json.specs.View.{view, members_view}
use Rattle.serde_json.specs.declared.value.Value.{Value}
use Rattle.log_lines.specs.Names.{place_of}
use Rattle.vclog_import.specs.Clock.{all_known}
use Rattle.vclog_import.specs.inside.Scans.{hosts_in}
use Rattle.vclog_import.proofs.Filling.{fill, number_in, filled, fresh, fill_found, fill_missing, fill_none, known_found, known_zero, unknown_key, and_none}
use Rattle.vclog_import.proofs.rows.counts_of.Goals as goal

pub index_mut-requires : goal.index_mut-requires
index_mut-requires c = omega (arith, c.in-Some-place_near.ensures.within, c.loop-key.invariant.long, c.loop-key.counts.ok.0)

pub loop-key-preserved-in-Some-place_near : goal.loop-key-preserved-in-Some-place_near
loop-key-preserved-in-Some-place_near c =
    let hosts = hosts_in c.args.hosts.now in
    let counts = c.loop-key.counts.items in
    let place = c.in-Some-place_near.place in
    let key = string_bytes c.in-Some.key.now in
    let value = view c.in-Some.value.now in
    let rest = members_view c.next.new.self in
    let found : place_of hosts key ≡ _ = ap (place_of hosts) (sym c.as_bytes.ensures.value) ∙ sym c.in-Some-place_near.ensures.place in
    let number : c.unwrap_or-count.result ≡ number_in value = c.unwrap_or-count.ensures ∙ ap (λ (o : Option ℕ). unwrap_or o 0) c.counter.ensures in
    record {
      long = length-set counts place c.unwrap_or-count.result ∙ c.loop-key.invariant.long;
      filled = c.loop-key.invariant.filled ∙ ap (λ (es : List (String Global × Value)). fill hosts (members_view es) counts) c.in-Some.ensures.steps ∙ fill_found hosts key value rest counts place c.unwrap_or-count.result found number;
      known = c.loop-key.invariant.known ∙ ap (λ (es : List (String Global × Value)). c.loop-key.all_known && all_known hosts (members_view es)) c.in-Some.ensures.steps ∙ ap (λ (b : Bool). c.loop-key.all_known && b) (known_found hosts key value rest place found);
    }

pub loop-key-preserved-then-count-gt0 : goal.loop-key-preserved-then-count-gt0
loop-key-preserved-then-count-gt0 c =
    let hosts = hosts_in c.args.hosts.now in
    let counts = c.loop-key.counts.items in
    let key = string_bytes c.in-Some.key.now in
    let value = view c.in-Some.value.now in
    let rest = members_view c.next.new.self in
    let missing : place_of hosts key ≡ _ = ap (place_of hosts) (sym c.as_bytes.ensures.value) ∙ sym c.in-None-place_near.ensures.place in
    let number : c.unwrap_or-count.result ≡ number_in value = c.unwrap_or-count.ensures ∙ ap (λ (o : Option ℕ). unwrap_or o 0) c.counter.ensures in
    record {
      long = c.loop-key.invariant.long;
      filled = c.loop-key.invariant.filled ∙ ap (λ (es : List (String Global × Value)). fill hosts (members_view es) counts) c.in-Some.ensures.steps ∙ fill_missing hosts key value rest counts missing;
      known = c.loop-key.invariant.known ∙ ap (λ (es : List (String Global × Value)). c.loop-key.all_known && all_known hosts (members_view es)) c.in-Some.ensures.steps
          ∙ ap (λ (b : Bool). c.loop-key.all_known && b) (unknown_key hosts key value rest c.unwrap_or-count.result missing number c.if-count-gt0.true) ∙ and_none c.loop-key.all_known;
    }

pub loop-key-preserved : goal.loop-key-preserved
loop-key-preserved c =
    let hosts = hosts_in c.args.hosts.now in
    let counts = c.loop-key.counts.items in
    let key = string_bytes c.in-Some.key.now in
    let value = view c.in-Some.value.now in
    let rest = members_view c.next.new.self in
    let missing : place_of hosts key ≡ _ = ap (place_of hosts) (sym c.as_bytes.ensures.value) ∙ sym c.in-None-place_near.ensures.place in
    let number : c.unwrap_or-count.result ≡ number_in value = c.unwrap_or-count.ensures ∙ ap (λ (o : Option ℕ). unwrap_or o 0) c.counter.ensures in
    record {
      long = c.loop-key.invariant.long;
      filled = c.loop-key.invariant.filled ∙ ap (λ (es : List (String Global × Value)). fill hosts (members_view es) counts) c.in-Some.ensures.steps ∙ fill_missing hosts key value rest counts missing;
      known = c.loop-key.invariant.known ∙ ap (λ (es : List (String Global × Value)). c.loop-key.all_known && all_known hosts (members_view es)) c.in-Some.ensures.steps
          ∙ ap (λ (b : Bool). c.loop-key.all_known && b) (known_zero hosts key value rest c.unwrap_or-count.result number c.if-count-gt0.false);
    }

pub returns-clause-counts : goal.returns-clause-counts
returns-clause-counts c =
    let hosts = hosts_in c.args.hosts.now in
    let members = members_view c.args.members.now.entries in
    sym (fill_none hosts c.loop-key.counts.items) ∙ sym (ap (λ (es : List (String Global × Value)). fill hosts (members_view es) c.loop-key.counts.items) c.in-None.ensures.steps.0)
    ∙ sym c.loop-key.invariant.filled
    ∙ ap (fill hosts members) (c.in_ok-counts.ensures.items_if_clones_equal (λ y is. is))
    ∙ filled c.args.hosts.now members c.requires (fresh c.args.members.now.entries c.iter-key-items.ensures.ordered)
