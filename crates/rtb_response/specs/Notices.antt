-- The notice URLs of an award: where the exchange hears of a win, a bill and a loss. This project's own.
use Rattle.std.specs.Prelude.{ℕ, List, ◌++◌, codes, decimal}
use Rattle.std.specs.List.{flat_map}
use Rattle.notice_macros.specs.Escaped.{url_byte}
use Rattle.rtb_response.specs.declared.notice.Notice.{Notice}
use Rattle.rtb_response.specs.declared.notice.Notice.TheVariants.{Win, Bill, Loss}

-- the path of the exchange's URL of a notice, up to the auction's id
abbrev pub path_of : Notice → List ℕ
path_of Win = codes "/notice/win?auction="
path_of Bill = codes "/notice/bill?auction="
path_of Loss = codes "/notice/loss?auction="

-- the URL of a notice, given the percent-encoded id of the auction
abbrev pub url_of : List ℕ → List ℕ → ℕ → Notice → List ℕ
url_of base escaped award notice = base ++ (path_of notice ++ (escaped ++ (codes "&bid=" ++ decimal award)))

-- BASE/notice/win?auction=Q&bid=N, Q being the percent-encoded auction id and N the award's number
abbrev pub notice_url : List ℕ → List ℕ → ℕ → Notice → List ℕ
notice_url base auction award notice = url_of base (flat_map url_byte auction) award notice
