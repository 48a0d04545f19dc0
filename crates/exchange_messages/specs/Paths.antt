-- The paths that an exchange serves, and the methods that each is served by (RFC 9110, section 9). This project's own.
use Rattle.std.specs.Prelude.{ℕ, List, Bool, true, false, codes, if◌then◌else◌, Option, Some, None}
use Rattle.std.specs.Str.{bytes_eq}
use Rattle.http_grammar.specs.declared.verb.Verb.{Verb}
use Rattle.notice_book.specs.declared.kind.NoticeKind.{NoticeKind}
use Rattle.http_service.specs.declared.answer.Methods.{Methods}
use Rattle.exchange_messages.specs.declared.path.Path.{Path}

-- the path with this spelling, where one is served. A target's path isn't decoded.
-- Example: `/notice/win` is served by GET and POST, and `/%6eotice/win` isn't a path.
abbrev pub path_named : List ℕ → Option Path
path_named text =
    if bytes_eq text (codes "/openrtb") then Some Path.OpenRtb
    else (if bytes_eq text (codes "/notice/win") then Some (Path.Notice NoticeKind.Win)
    else (if bytes_eq text (codes "/notice/bill") then Some (Path.Notice NoticeKind.Bill)
    else (if bytes_eq text (codes "/notice/loss") then Some (Path.Notice NoticeKind.Loss)
    else (if bytes_eq text (codes "/books") then Some Path.Books
    else (if bytes_eq text (codes "/meters") then Some Path.Meters
    else (if bytes_eq text (codes "/budget") then Some Path.Budget else None))))))

-- the path is served by that kind of method, and by no other
abbrev pub is_served : Path → Verb → Bool
is_served Path.OpenRtb Verb.Post = true
is_served (Path.Notice kind) Verb.Get = true
is_served (Path.Notice kind) Verb.Post = true
is_served Path.Books Verb.Get = true
is_served Path.Meters Verb.Get = true
is_served Path.Budget Verb.Post = true
is_served path method = false

-- the methods that serve it
abbrev pub methods_of : Path → Methods
methods_of Path.OpenRtb = Methods.Post
methods_of (Path.Notice kind) = Methods.GetAndPost
methods_of Path.Books = Methods.Get
methods_of Path.Meters = Methods.Get
methods_of Path.Budget = Methods.Post
