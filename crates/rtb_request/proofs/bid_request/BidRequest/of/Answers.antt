use Rattle.std.proofs.Common.{rules, arith}
use Rattle.std.proofs.lemmas.Grind.{common_steps}
use Rattle.rtb_request.proofs.bid_request.BidRequest.of.Goals as goal

pub returns : goal.returns
returns c = (
  first_of (search rules, grind (arith, common_steps)),
  (
    first_of (search rules, grind (arith, common_steps)),
    (
      tt,
      (
        tt,
        (
          tt,
          (
            first_of (search rules, grind (arith, common_steps)),
            (
              first_of (search rules, grind (arith, common_steps)),
              (
                first_of (search rules, grind (arith, common_steps)),
                (
                  first_of (search rules, grind (arith, common_steps)),
                  (
                    first_of (search rules, grind (arith, common_steps)),
                    (
                      first_of (search rules, grind (arith, common_steps)),
                      tt,
                    ),
                  ),
                ),
              ),
            ),
          ),
        ),
      ),
    ),
  ),
)
