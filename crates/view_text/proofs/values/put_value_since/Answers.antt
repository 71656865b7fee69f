use Rattle.std.proofs.Common.{◌≡◌, ◌++◌, [], ℕ, get_or, ap, subst, ◌∙◌}
use Rattle.std.specs.Prelude.{Option, codes, OnOk}
use Rattle.run_model.specs.Cut.{count}
use Rattle.view_parts.proofs.Each.{puts_more, puts_last}
use Rattle.view_text.specs.Text.{owned, value_text, set_by}
use Rattle.view_text.specs.Latest.{last_setting}
use Rattle.view_text.proofs.values.put_value_since.Goals as goal

pub returns : goal.returns
returns c =
    let s = c.args.states.now in
    let p = c.args.process in
    let v = c.args.variable in
    let out = c.args.out.now in
    let events = count c.args.cut.now p in
    let a = codes "       there  " in
    let b = owned s p v in
    let d = value_text s p v events in
    let e = codes ", since " in
    let at = c.get-events.ensures in
    let last = c.last_setting-setting.ensures.last ∙ ap (λ (n : ℕ). last_setting (get_or s.events p []) v n) at in
    let value = c.in_ok-put_value.ensures ∙ ap (λ (n : ℕ). c.put_owned.new.out ++ value_text s p v n) at in
    let two = puts_more out a b c.extend_from_slice.new.self c.put_owned.new.out c.in_ok-extend_from_slice.ensures.ok c.in_ok-put_owned.ensures in
    let three = puts_more out (a ++ b) d c.put_owned.new.out c.put_value.new.out two value in
    let four = puts_more out (a ++ b ++ d) e c.put_value.new.out c.extend_from_slice-2.new.self three c.in_ok-extend_from_slice-2.ensures.ok in
    let put = subst (λ (o : Option ℕ). OnOk c.put_set_by.result (c.put_set_by.new.out ≡ c.extend_from_slice-2.new.self ++ set_by s p (codes "the start") o)) last c.put_set_by.ensures in
    puts_last c.put_set_by.result out (a ++ b ++ d ++ e) (set_by s p (codes "the start") (last_setting (get_or s.events p []) v events)) c.extend_from_slice-2.new.self c.put_set_by.new.out four put
