-- Where a byte leads, in any mode.
use Rattle.std.proofs.Common.{ℕ, suc, List}
use Rattle.adx_json.specs.Machine.{Frame, Mode, at_value, at_first_item, behind_value, at_first_name, at_name, behind_name, in_word, in_number, in_text, step}
use Rattle.adx_json.proofs.Leads.{LeadsTo, Stands, value_leads}
use Rattle.adx_json.proofs.PlaceLeads.{first_item_leads, behind_leads, first_name_leads, name_leads, behind_name_leads, word_leads, numeral_leads}
use Rattle.adx_json.proofs.TextLeads.{text_leads}

pub step_leads : (limit : ℕ) (m : Mode) (fs : List Frame) (b : ℕ) → Stands limit m fs → LeadsTo limit m fs b (step limit m fs b) (step (suc limit) m fs b)
unfolding step
step_leads limit at_value fs b h = value_leads limit fs b h.0
step_leads limit at_first_item fs b h = first_item_leads limit fs b h.0
step_leads limit behind_value fs b h = behind_leads limit fs b h.0
step_leads limit at_first_name fs b h = first_name_leads limit fs b h.0
step_leads limit at_name fs b h = name_leads limit fs b h.0
step_leads limit behind_name fs b h = behind_name_leads limit fs b h.0
step_leads limit (in_word c cs) fs b h = word_leads limit fs c cs b h.0 h.1
step_leads limit (in_number n) fs b h = numeral_leads limit fs n b h.0
step_leads limit (in_text role w) fs b h = text_leads limit role w fs b h.0
