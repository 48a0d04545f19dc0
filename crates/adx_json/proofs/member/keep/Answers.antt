use Rattle.std.proofs.Common.{ap, sym, ◌∙◌, arith, ◌≢◌, ℕ, List}
use Rattle.std.proofs.lemmas.List.{get_or_default}
use Rattle.adx_json.specs.View.{tree_of, member_of}
use Rattle.adx_json.proofs.Views.{member_of_parts}
use Rattle.adx_json.proofs.Finding.{put_more}
use Rattle.adx_json.proofs.member.keep.Goals as goal

pub loop-place-preserved : goal.loop-place-preserved
loop-place-preserved c =
    let before = c.loop-place.invariant in
    let value = tree_of c.args.member.now.value in
    record {
      done = put_more c.args.names.now c.args.found.now c.loop-place.found c.put.new.found (member_of c.args.member.now) (c.as_str-given.result.now, value) c.loop-place.place _
          c.loop-place-test.true (get_or_default c.args.names.now c.loop-place.place _ _ c.loop-place-test.true)
          (ap (λ (n : List ℕ). (n, value)) c.as_str-given.ensures.value ∙ sym (member_of_parts c.args.member.now)) c.put.ensures.here c.put.ensures.others before.done before.left;
      left = λ k low. let other : k ≢ c.loop-place.place = omega arith in c.put.ensures.others k other ∙ before.left k (omega arith);
    }
