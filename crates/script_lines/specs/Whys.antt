-- How the reasons of refusals are spelled. This project's own.
use Rattle.std.specs.Prelude.{ℕ, List, [], ◌++◌, codes, decimal}
use Rattle.adx_json.specs.declared.fault.JsonFault.{JsonFault}
use Rattle.rtb_request.specs.Faults.{name_of}
use Rattle.rtb_request.specs.declared.fault.RequestFault.{RequestFault}
use Rattle.deal_floor.specs.Faults.{name_of as roster_member}
use Rattle.deal_floor.specs.declared.fault.RosterFault.{RosterFault}
use Rattle.script_lines.specs.declared.refusal.Refusal.{Refusal}
use Rattle.script_lines.specs.declared.refusal.RosterRefusal.{RosterRefusal}

-- why bytes are no JSON text, and where. Want of memory is no refusal.
abbrev pub json_why : JsonFault → List ℕ
json_why (JsonFault.Syntax at) = codes "json syntax " ++ decimal at
json_why (JsonFault.Utf8 at) = codes "json utf8 " ++ decimal at
json_why (JsonFault.Depth at) = codes "json depth " ++ decimal at
json_why JsonFault.OutOfMemory = []

-- why a request for bids is none
abbrev pub request_why : RequestFault → List ℕ
request_why RequestFault.NoId = codes "request noid"
request_why RequestFault.NoImp = codes "request noimp"
request_why RequestFault.TooManyImps = codes "request manyimps"
request_why (RequestFault.RepeatedImp id) = codes "request repeated " ++ id
request_why (RequestFault.BadField field) = codes "request field " ++ name_of field
request_why RequestFault.OutOfMemory = []

-- why a script line is refused
abbrev pub why_of : Refusal → List ℕ
why_of Refusal.Cut = codes "cut"
why_of Refusal.Long = codes "long"
why_of (Refusal.Json fault) = json_why fault
why_of Refusal.NoCall = codes "call"
why_of (Refusal.Request fault) = request_why fault

-- why a roster is refused by one of its members
abbrev pub member_why : RosterFault → List ℕ
member_why (RosterFault.BadField field) = codes "field " ++ roster_member field
member_why (RosterFault.Repeated index) = codes "repeated " ++ decimal index
member_why RosterFault.TooMany = codes "toomany"
member_why RosterFault.OutOfMemory = []

-- why a roster line is refused
abbrev pub roster_why : RosterRefusal → List ℕ
roster_why RosterRefusal.Cut = codes "cut"
roster_why RosterRefusal.Long = codes "long"
roster_why (RosterRefusal.Json fault) = json_why fault
roster_why (RosterRefusal.Member fault) = member_why fault
