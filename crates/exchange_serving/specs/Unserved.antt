-- What is given back where no desk is left, for lack of memory. This project's own.
use Rattle.std.specs.Prelude.{◌≡◌, List, Vec}
use mathlib.Core.List.{IsPrefix}
use Rattle.std.proofs.Common.{Global}
use Rattle.adx_desk.specs.Desks.{OnDisk}
use Rattle.adx_desk.specs.Rosters.{desk_terms}
use Rattle.adx_links.specs.declared.link.Link as links
use Rattle.day_rules.specs.declared.entry.Entry.{Entry}
use Rattle.day_rules.specs.Legal.{IsLegal}
use Rattle.deal_floor.specs.declared.roster.Roster.{Roster}
use Rattle.fan_out.specs.declared.lane.Lane.{Lane}
use Rattle.desk_board.specs.Tending.{AreTended}
use Rattle.outbox.specs.declared.post.Post.{Post}
use Rattle.exchange_serving.specs.declared.leaving.Unserved.{Unserved}

-- The day had a legal history that begins with the one at the opening. Posts of a front of it were tried over the link, and
-- nothing else was asked of it.
pub record LeavesPost {L : Type 0} (l : links.Ghosts L) (r : Roster) (opened : List Entry) (post post_now : L) : Type 0 where
  pub history : List Entry
  pub begins : IsPrefix opened history
  pub legal : IsLegal (desk_terms r).day history
  pub followed : List Entry
  pub front : IsPrefix followed history
  pub pending : List Post
  pub tended : AreTended l followed pending post post_now

-- All is given back as it came; or all but the desk; or only the link that posts go over.
-- Example: memory is refused for the outbox: desk, acceptor, lanes and link come back as they were.
abbrev pub IsGivenBack : {A D L : Type 0} → links.Ghosts L → Roster → OnDisk D → A → Vec (Vec (Lane L) Global) Global → L
    → Unserved A D L → Type 0
IsGivenBack l r desk acceptor lanes post (Unserved.Unbegun desk_back acceptor_back lanes_back post_back) =
    (desk_back ≡ desk) × (acceptor_back ≡ acceptor) × (lanes_back ≡ lanes) × (post_back ≡ post)
IsGivenBack l r desk acceptor lanes post (Unserved.Unshared acceptor_back lanes_back post_back) =
    (acceptor_back ≡ acceptor) × (lanes_back ≡ lanes) × (post_back ≡ post)
IsGivenBack l r desk acceptor lanes post (Unserved.Lost post_back) = LeavesPost l r desk.desk.history post post_back
