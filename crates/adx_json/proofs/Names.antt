-- A member by its name.
use Rattle.std.proofs.Common.{◌≡◌, ℕ, List, Bool, sym, ap}
use Rattle.std.specs.Str.{bytes_eq}
use Rattle.adx_json.specs.View.{member_of}
use Rattle.adx_json.specs.declared.tree.Member.{Member, out-Member}
use Rattle.adx_json.proofs.Views.{member_of_parts}

abbrev pub has_name_of : List ℕ → Member → Bool
has_name_of name m = bytes_eq (out-Member m).name name

pub name_is : (m : Member) → (out-Member m).name ≡ (member_of m).0
name_is m = ap (λ x. x.0) (sym (member_of_parts m))
