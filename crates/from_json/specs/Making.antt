-- What making a sheet comes to, before it is known whether there is room for it.
use Rattle.std.specs.Prelude.{ℕ, ◌-◌, ◌≤◌, Bool, true, false, not, List, ◌≡◌, length, take, drop, Result, Ok, Err}
use Rattle.std.proofs.Math.Option.{none, some, bind}
use Rattle.buffer.specs.Laid.{Laid}
use Rattle.definition.specs.Tree.{Rule}
use Rattle.definition.specs.Decode.{decode_rule}
use Rattle.definition.specs.Write.{write_rule}
use Rattle.call.specs.Call.{first_refusal}
use Rattle.json_text.specs.Grammar.{document}
use Rattle.json_rule.specs.Shape.{rule_of}
use Rattle.json_rule.specs.Conversion.{is_missing, rule_in, from_json_refusals}
use Rattle.json_sheet.specs.RuleAt.{front_room}

-- the buffer in which a sheet is made
abbrev pub out_bytes : ℕ
out_bytes = 31100

-- whether the rule's sheet that was laid there is well formed
pub record IsFormed (out : List ℕ) (start end : ℕ) (r : Bool) : Type 0 where
  pub told : (before : List ℕ) (rule : Rule) → Laid before out start (write_rule rule) end → start ≤ front_room → length out ≡ out_bytes → is_missing (decode_rule (write_rule rule)) ≡ not r
  pub placed : r ≡ true → (start ≤ end) × (end ≤ length out)

-- the refusal that is due, whatever room there is
pub record RefusedBy (text : List ℕ) (number : ℕ) : Type 0 where
  pub told : (room : ℕ) → first_refusal (from_json_refusals (record { bytes = text; room = room })) ≡ some number

-- of a rule's text whose sheet is over a limit
pub record OverIs (text : List ℕ) (number : ℕ) : Type 0 where
  pub told : (rule : Rule) → bind (document text) rule_of ≡ some rule → decode_rule (write_rule rule) ≡ none → RefusedBy text number

-- the sheet of the text's rule, well formed
pub record SheetMade (text out : List ℕ) (start end : ℕ) : Type 0 where
  pub rule : Rule
  pub is : rule_in text ≡ some rule
  pub formed : is_missing (decode_rule (write_rule rule)) ≡ false
  pub lies : take (end - start) (drop start out) ≡ write_rule rule
  pub order : start ≤ end
  pub inside : end ≤ out_bytes
  pub size : length out ≡ out_bytes

abbrev pub MadeIs : List ℕ → List ℕ → Result (ℕ × ℕ) ℕ → Type 0
MadeIs text out (Ok (start, end)) = SheetMade text out start end
MadeIs text out (Err number) = RefusedBy text number
