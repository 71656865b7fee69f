use Rattle.std.proofs.Common.{◌≡◌, ◌++◌, ◌∷◌, ◌-◌, [], List, ℕ, length, get_or, ap, subst, ◌∙◌}
use Rattle.std.specs.Prelude.{codes, OnOk}
use Rattle.std.proofs.lemmas.List.{get_or-map}
use Rattle.run_model.specs.Cut.{count}
use Rattle.log_lines.specs.Names.{Name}
use Rattle.event_log.specs.declared.log.Header.{Header}
use Rattle.event_log.specs.LogText.{name_at}
use Rattle.view_parts.proofs.Each.{puts_more, puts_last}
use Rattle.view_text.specs.Text.{counted}
use Rattle.view_text.proofs.slices.put_share_row.Goals as goal

pub returns : goal.returns
returns c =
    let p = c.args.process in
    let named : c.name_at.result.now ≡ name_at c.args.states.now.header.procs p =
    c.name_at.ensures ∙ ap (λ (names : List Name). name_at names p) (c.as_slice.ensures ∙ ap (λ (h : Header). h.procs) c.header.ensures.header) in
    let name = c.in_ok-extend_from_slice-2.ensures.ok ∙ ap (λ (x : List ℕ). c.extend_from_slice.new.self ++ x) named in
    let below = c.in_ok-put_count.ensures ∙ ap (λ (n : ℕ). c.extend_from_slice-3.new.self ++ counted n (codes " below, ")) c.get-below.ensures in
    let most : c.saturating_sub.result ≡ count c.args.high.now p - count c.args.low.now p = c.saturating_sub.ensures ∙ ap (λ (n : ℕ). n - c.get-below.result) c.get-most.ensures ∙ ap (λ (n : ℕ). count c.args.high.now p - n) c.get-below.ensures in
    let between = c.in_ok-put_count-2.ensures ∙ ap (λ (n : ℕ). c.put_count.new.out ++ counted n (codes " between, ")) most in
    let all : c.len_of-all.result ≡ length (get_or c.args.states.now.events p []) =
    c.len_of-all.ensures.len ∙ ap (λ (lens : List ℕ). get_or lens p 0) c.shape.ensures ∙ get_or-map length c.args.states.now.events p [] 0 c.requires.process in
    let rest : c.saturating_sub-2.result ≡ length (get_or c.args.states.now.events p []) - count c.args.high.now p =
    c.saturating_sub-2.ensures ∙ ap (λ (n : ℕ). n - c.get-most.result) all ∙ ap (λ (n : ℕ). length (get_or c.args.states.now.events p []) - n) c.get-most.ensures in
    let last = subst (λ (n : ℕ). OnOk c.put_count-3.result (c.put_count-3.new.out ≡ c.put_count-2.new.out ++ counted n (codes " beyond" ++ 10 ∷ []))) rest c.put_count-3.ensures in
    let out = c.args.out.now in
    let a = codes "  " in
    let b = name_at c.args.states.now.header.procs p in
    let d = codes ": " in
    let e = counted (count c.args.low.now p) (codes " below, ") in
    let f = counted (count c.args.high.now p - count c.args.low.now p) (codes " between, ") in
    let g = counted (length (get_or c.args.states.now.events p []) - count c.args.high.now p) (codes " beyond" ++ 10 ∷ []) in
    let two = puts_more out a b c.extend_from_slice.new.self c.extend_from_slice-2.new.self c.in_ok-extend_from_slice.ensures.ok name in
    let three = puts_more out (a ++ b) d c.extend_from_slice-2.new.self c.extend_from_slice-3.new.self two c.in_ok-extend_from_slice-3.ensures.ok in
    let four = puts_more out (a ++ b ++ d) e c.extend_from_slice-3.new.self c.put_count.new.out three below in
    let five = puts_more out (a ++ b ++ d ++ e) f c.put_count.new.out c.put_count-2.new.out four between in
    puts_last c.put_count-3.result out (a ++ b ++ d ++ e ++ f) g c.put_count-2.new.out c.put_count-3.new.out five last
