use Rattle.std.specs.List.{find}
use Rattle.std.specs.Map.{lookup}
use Rattle.std.specs.Option.{option_map}
use Rattle.std.specs.Str.{bytes_eq}
use Rattle.std.proofs.Common.{◌≡◌, ◌++◌, ◌∷◌, [], None, ℕ, List, map, take, ap, ◌∙◌, String}
use Rattle.std.specs.Global.{Global}
use Rattle.indexmap.proofs.CallerLemmas.{insert_entry-new}
use Rattle.std.specs.String.{string_eq}
use Rattle.day_machine.proofs.IdPlaces.{absent, bytes_of, cut_again, cut_front, front_stays, put_behind}
use Rattle.day_machine.proofs.ids.put_next.Goals as goal

pub returns-in_err-id-clause-front : goal.returns-in_err-id-clause-front
returns-in_err-id-clause-front c =
    ap (λ (es : List (String Global × ℕ)). take c.args.asks (map bytes_of es)) c.truncate.ensures.entries ∙ cut_again c.args.asks c.args.ids.now.entries

pub returns-in_err-insert-clause-front : goal.returns-in_err-insert-clause-front
returns-in_err-insert-clause-front c =
    ap (λ (es : List (String Global × ℕ)). take c.args.asks (map bytes_of es)) (c.in_err-insert.ensures.err ∙ c.truncate.ensures.entries) ∙ cut_again c.args.asks c.args.ids.now.entries

pub returns-clause-next : goal.returns-clause-next
returns-clause-next c =
    let es : List (String Global × ℕ) = c.args.ids.now.entries in
    let none : lookup (string_eq c.in_ok-id.id) c.truncate.new.self.entries ≡ None =
    ap (lookup (string_eq c.in_ok-id.id)) c.truncate.ensures.entries
    ∙ absent c.args.auction.now c.in_ok-id.id (take c.args.asks es) c.in_ok-id.ensures.ok
    (ap (λ (t : List (List ℕ × ℕ)). option_map (λ (p : List ℕ × ℕ). p.1) (find (λ (p : List ℕ × ℕ). bytes_eq c.args.auction.now p.0) t)) (cut_front c.args.asks es) ∙ c.requires.new) in
    put_behind c.args.auction.now c.args.place c.args.asks c.in_ok-id.id es c.insert.new.self.entries c.in_ok-id.ensures.ok
    (c.in_ok-insert.ensures.entries
    ∙ (insert_entry-new string_eq c.truncate.new.self c.in_ok-id.id c.args.place none
    ∙ ap (λ (t : List (String Global × ℕ)). t ++ (c.in_ok-id.id, c.args.place) ∷ []) c.truncate.ensures.entries))

pub returns-clause-front : goal.returns-clause-front
returns-clause-front c =
    let es : List (String Global × ℕ) = c.args.ids.now.entries in
    let none : lookup (string_eq c.in_ok-id.id) c.truncate.new.self.entries ≡ None =
    ap (lookup (string_eq c.in_ok-id.id)) c.truncate.ensures.entries
    ∙ absent c.args.auction.now c.in_ok-id.id (take c.args.asks es) c.in_ok-id.ensures.ok
    (ap (λ (t : List (List ℕ × ℕ)). option_map (λ (p : List ℕ × ℕ). p.1) (find (λ (p : List ℕ × ℕ). bytes_eq c.args.auction.now p.0) t)) (cut_front c.args.asks es) ∙ c.requires.new) in
    front_stays c.args.asks (map bytes_of es) (map bytes_of c.insert.new.self.entries) (c.args.auction.now, c.args.place) c.requires.all
    (put_behind c.args.auction.now c.args.place c.args.asks c.in_ok-id.id es c.insert.new.self.entries c.in_ok-id.ensures.ok
    (c.in_ok-insert.ensures.entries
    ∙ (insert_entry-new string_eq c.truncate.new.self c.in_ok-id.id c.args.place none
    ∙ ap (λ (t : List (String Global × ℕ)). t ++ (c.in_ok-id.id, c.args.place) ∷ []) c.truncate.ensures.entries)))
