-- The pages of a bidder, by their paths, and the one method that serves each (RFC 9110, section 9.3). This project's
-- own.
use Rattle.std.specs.Prelude.{ℕ, List, codes, Bool, true, false, Option, Some, None, if◌then◌else◌}
use Rattle.std.specs.Str.{bytes_eq}
use Rattle.http_grammar.specs.declared.verb.Verb.{Verb}
use Rattle.http_service.specs.declared.answer.Methods.{Methods}
use Rattle.notice_book.specs.declared.kind.NoticeKind.{NoticeKind}
use Rattle.bidder_http.specs.declared.page.Page.{Page}

-- the page at a path, which isn't decoded; none where there is none
abbrev pub page_at : List ℕ → Option Page
page_at path =
    if bytes_eq path (codes "/") then Some Page.Offers else (
    if bytes_eq path (codes "/n/win") then Some (Page.Notices NoticeKind.Win) else (
    if bytes_eq path (codes "/n/bill") then Some (Page.Notices NoticeKind.Bill) else (
    if bytes_eq path (codes "/n/loss") then Some (Page.Notices NoticeKind.Loss) else (
    if bytes_eq path (codes "/books") then Some Page.Books else (
    if bytes_eq path (codes "/ledger") then Some Page.Ledger else None)))))

-- the method is POST
abbrev pub is_post : Verb → Bool
is_post Verb.Get = false
is_post Verb.Head = false
is_post Verb.Post = true
is_post Verb.Other = false

-- the method is GET
abbrev pub is_get : Verb → Bool
is_get Verb.Get = true
is_get Verb.Head = false
is_get Verb.Post = false
is_get Verb.Other = false

-- requests for bids are posted, and all else is got
abbrev pub is_served : Page → Verb → Bool
is_served Page.Offers verb = is_post verb
is_served (Page.Notices kind) verb = is_get verb
is_served Page.Books verb = is_get verb
is_served Page.Ledger verb = is_get verb

-- the methods that a page takes
abbrev pub methods_of : Page → Methods
methods_of Page.Offers = Methods.Post
methods_of (Page.Notices kind) = Methods.Get
methods_of Page.Books = Methods.Get
methods_of Page.Ledger = Methods.Get
