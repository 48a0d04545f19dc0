use Rattle.std.proofs.Common.{◌-◌, ◌^◌, ◌<◌, arith}
use Rattle.day_machine.proofs.OpenAwards.{few_open, few_times, few_to_come}
use Rattle.day_machine.proofs.held.held_by.Goals as goal

pub overflow_mul-result : goal.overflow_mul-result
overflow_mul-result c =
    let few : c.to_come.result < 2 ^ 34 = omega (arith, c.to_come.ensures, few_to_come c.args.day.now.terms c.args.day.now.history c.requires.legal) in
    omega (arith, few_times c.notice_record-notice.result c.to_come.result (omega (arith, c.notice_record-notice.ensures.few)) few)

pub overflow_mul-result-2 : goal.overflow_mul-result-2
overflow_mul-result-2 c =
    let few : c.args.without_end < 2 ^ 34 = omega (arith, c.requires.counted, few_open c.args.day.now.terms c.args.day.now.history c.requires.legal) in
    omega (arith, few_times (c.expiry_record.result - c.notice_record-notice.result) c.args.without_end (omega (arith, c.expiry_record.ensures.few)) few)

pub overflow_add-result : goal.overflow_add-result
overflow_add-result c =
    let few : c.to_come.result < 2 ^ 34 = omega (arith, c.to_come.ensures, few_to_come c.args.day.now.terms c.args.day.now.history c.requires.legal) in
    let ends : c.args.without_end < 2 ^ 34 = omega (arith, c.requires.counted, few_open c.args.day.now.terms c.args.day.now.history c.requires.legal) in
    omega (
      arith,
      few_times c.notice_record-notice.result c.to_come.result (omega (arith, c.notice_record-notice.ensures.few)) few,
      few_times (c.expiry_record.result - c.notice_record-notice.result) c.args.without_end (omega (arith, c.expiry_record.ensures.few)) ends,
    )
