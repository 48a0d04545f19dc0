use Rattle.std.proofs.Common.{◌≡◌, ◌++◌, ℕ, List, OnOk, string_bytes, sym, subst}
use Rattle.day_archive.specs.declared.refusal.KeeperRefusal.{KeeperRefusal}
use Rattle.command_archive.specs.Lines.{refusal_text}
use Rattle.command_archive.proofs.lines.push_refusal.Goals as goal

pub returns-in-DayThere-clause-text : goal.returns-in-DayThere-clause-text
returns-in-DayThere-clause-text c =
    let named = subst (λ (d : List ℕ). OnOk c.push_named.result (string_bytes c.push_named.new.out ≡ string_bytes c.args.out.now ++ refusal_text (KeeperRefusal.DayThere d))) c.as_str.ensures.value c.push_named.ensures in
    subst (λ (r : KeeperRefusal). OnOk c.push_named.result (string_bytes c.push_named.new.out ≡ string_bytes c.args.out.now ++ refusal_text r)) (sym c.in-DayThere.is) named

pub returns-in-BadDate-clause-text : goal.returns-in-BadDate-clause-text
returns-in-BadDate-clause-text c =
    let named = subst (λ (d : List ℕ). OnOk c.push_named-in-BadDate.result (string_bytes c.push_named-in-BadDate.new.out ≡ string_bytes c.args.out.now ++ refusal_text (KeeperRefusal.BadDate d))) c.as_str-in-BadDate.ensures.value c.push_named-in-BadDate.ensures in
    subst (λ (r : KeeperRefusal). OnOk c.push_named-in-BadDate.result (string_bytes c.push_named-in-BadDate.new.out ≡ string_bytes c.args.out.now ++ refusal_text r)) (sym c.in-BadDate.is) named

pub returns-in-BadRange-clause-text : goal.returns-in-BadRange-clause-text
returns-in-BadRange-clause-text c =
    subst (λ (r : KeeperRefusal). OnOk c.push.result (string_bytes c.push.new.out ≡ string_bytes c.args.out.now ++ refusal_text r)) (sym c.in-BadRange.is) c.push.ensures
