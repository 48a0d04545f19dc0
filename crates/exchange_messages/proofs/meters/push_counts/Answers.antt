-- The counts, one after the other.
use Rattle.std.proofs.Common.{◌≡◌, ◌++◌, codes, string_bytes}
use Rattle.answer_lines.proofs.Chains.{and_then}
use Rattle.exchange_messages.specs.Meters.{meter_text}
use Rattle.exchange_messages.proofs.Replied.{last_piece}
use Rattle.exchange_messages.proofs.meters.push_counts.Goals as goal

pub returns : goal.returns
returns c =
    let o = string_bytes c.args.out.now in
    let m = c.args.meters.now in
    let p1 = meter_text (codes "{\"entries\":") m.entries in
    let p2 = meter_text (codes ",\"asks\":") m.asks in
    let p3 = meter_text (codes ",\"awards\":") m.awards in
    let p4 = meter_text (codes ",\"wins\":") m.wins in
    let p5 = meter_text (codes ",\"bills\":") m.bills in
    let p6 = meter_text (codes ",\"losses\":") m.losses in
    let p7 = meter_text (codes ",\"expired\":") m.expired in
    let s1 : string_bytes c.push_meter.new.out ≡ o ++ p1 = c.in_ok-push_meter.ensures in
    let s2 : string_bytes c.push_meter-2.new.out ≡ o ++ (p1 ++ p2) = and_then o p1 p2 (string_bytes c.push_meter.new.out) (string_bytes c.push_meter-2.new.out) c.in_ok-push_meter-2.ensures s1 in
    let s3 : string_bytes c.push_meter-3.new.out ≡ o ++ (p1 ++ p2 ++ p3) = and_then o (p1 ++ p2) p3 (string_bytes c.push_meter-2.new.out) (string_bytes c.push_meter-3.new.out) c.in_ok-push_meter-3.ensures s2 in
    let s4 : string_bytes c.push_meter-4.new.out ≡ o ++ (p1 ++ p2 ++ p3 ++ p4) = and_then o (p1 ++ p2 ++ p3) p4 (string_bytes c.push_meter-3.new.out) (string_bytes c.push_meter-4.new.out) c.in_ok-push_meter-4.ensures s3 in
    let s5 : string_bytes c.push_meter-5.new.out ≡ o ++ (p1 ++ p2 ++ p3 ++ p4 ++ p5) = and_then o (p1 ++ p2 ++ p3 ++ p4) p5 (string_bytes c.push_meter-4.new.out) (string_bytes c.push_meter-5.new.out) c.in_ok-push_meter-5.ensures s4 in
    let s6 : string_bytes c.push_meter-6.new.out ≡ o ++ (p1 ++ p2 ++ p3 ++ p4 ++ p5 ++ p6) = and_then o (p1 ++ p2 ++ p3 ++ p4 ++ p5) p6 (string_bytes c.push_meter-5.new.out) (string_bytes c.push_meter-6.new.out) c.in_ok-push_meter-6.ensures s5 in
    last_piece c.push_meter-7.result o (p1 ++ p2 ++ p3 ++ p4 ++ p5 ++ p6) p7 (string_bytes c.push_meter-6.new.out) (string_bytes c.push_meter-7.new.out) c.push_meter-7.ensures s6
