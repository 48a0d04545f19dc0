-- What building a command step by step comes to.
use Rattle.std.proofs.Common.{◌≡◌, ◌∙◌, sym, ap, ap₂, refl, ◌||◌, Bool, false, ℕ, ◌+◌, ◌<◌, List, drop, get_or, length, map}
use Rattle.std.specs.List.{fold}
use Rattle.std.proofs.lemmas.List.{at_drop_more}
use Rattle.clap.specs.Built.{AddsArg, AddsSubcommand}
use Rattle.clap.specs.Simple.{App, app_of, with_rule, with_subcommand}
use Rattle.clap.specs.Walk.{Rule, rule_of}
use Rattle.clap.specs.declared.builder.arg.Arg.{Arg}
use Rattle.clap.specs.declared.builder.command.Command.{Command}
use Rattle.command_words.specs.Rows.{RawRow, row_in}
use Rattle.command_words.specs.Spelling.{Row}
use Rattle.command_words.specs.Taken.{HasForm, application, subcommand_for}

pub adds_option : (old new : Command) (arg : Arg) (app : App) (rule : Rule) → HasForm app old → rule_of arg ≡ rule → arg.global ≡ false → AddsArg old arg new → HasForm (with_rule app rule) new
adds_option old new arg app rule has is local adds = (
  adds.shape local ∙ ap₂ with_rule has.0 is,
  adds.globals ∙ ap₂ (λ (a b : Bool). a || b) has.1 local,
)

pub adds_command : (old sub new : Command) (app sub_app : App) → app_of old ≡ app → HasForm sub_app sub → AddsSubcommand old sub new → app_of new ≡ with_subcommand app sub_app.top
adds_command old sub new app sub_app is has adds = adds.shape has.1 ∙ ap₂ with_subcommand is (ap (λ (a : App). a.top) has.0)

-- the rows that are left make the same of the program with the next one
abbrev with_row : App → Row → App
with_row a row = with_subcommand a (subcommand_for row).top

pub next_row : (old sub new : Command) (rows : List RawRow) (i : ℕ) (d : RawRow) → i < length rows → fold with_row (app_of old) (map row_in (drop i rows)) ≡ application
    → HasForm (subcommand_for (row_in (get_or rows i d))) sub → AddsSubcommand old sub new → fold with_row (app_of new) (map row_in (drop (i + 1) rows)) ≡ application
next_row old sub new rows i d lt before has adds =
    ap (λ (a : App). fold with_row a (map row_in (drop (i + 1) rows))) (adds_command old sub new (app_of old) (subcommand_for (row_in (get_or rows i d))) refl has adds)
    ∙ sym (at_drop_more (λ (xs : List RawRow). fold with_row (app_of old) (map row_in xs)) rows i d lt) ∙ before
