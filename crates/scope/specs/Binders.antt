-- A binder of the code is one number: where its name starts in the rule sheet, how long it is, and its element.
use Rattle.std.specs.Prelude.{ℕ, zero, suc, ◌+◌, ◌*◌, ◌/◌, ◌%◌, min, Option, Some, None}
use Rattle.text.specs.declared.part.Part.{Part}

-- no sheet has more bytes, and no index more slots
abbrev pub capped : ℕ → ℕ
capped n = min n 65535

-- an element's number is below the first unit, and a length times it below the second
abbrev pub length_unit : ℕ
length_unit = 131072

abbrev pub start_unit : ℕ
start_unit = length_unit * 65536

-- 0 where the schema does not declare the element, else its slot and 1
unfoldable pub element_number : Option ℕ → ℕ
element_number (Some k) = capped k + 1
element_number None = 0

unfoldable pub binder_number : Part → Option ℕ → ℕ
binder_number name element = capped name.start * start_unit + capped name.len * length_unit + element_number element

abbrev pub binder_name : ℕ → Part
binder_name b = record { start = b / start_unit; len = b % start_unit / length_unit }

unfoldable pub element_by : ℕ → Option ℕ
element_by zero = None
element_by (suc k) = Some k

unfoldable pub binder_element : ℕ → Option ℕ
binder_element b = element_by (b % length_unit)
