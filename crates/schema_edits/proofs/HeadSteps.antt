-- The head of a schema sheet around the count of the record's fields.
use Prim.Native.Nat.{ℕ, ◌+◌}
use native.Mathlib.Omega.{arith}
use mathlib.Core.Bool.{Bool, true, false}
use mathlib.Core.List.{List, ◌++◌, append_assoc}
use mathlib.Core.Option.{Option}
use mathlib.Core.Path.{◌≡◌, refl, ap, ◌∙◌}
use lib.ListN.{length, length-append}
use Rattle.text.specs.Ascii.{ascii}
use Rattle.text.specs.Numeral.{decimal_of, decimal_in}
use Rattle.sheet.specs.Entries.{HolderHead, SchemaHead}
use Rattle.sheet.specs.Write.{write_item, mark_of, write_mark, write_end, write_holder_head, write_arguments_head, write_schema_head}

unfoldable pub in_front : Bool → List ℕ
in_front is_open = ascii "H" ++ (write_mark is_open ++ ascii ",")

unfoldable pub behind_count : Option HolderHead → List ℕ
behind_count a = write_arguments_head a ++ write_end

unfoldable pub head_with : Bool → ℕ → Option HolderHead → SchemaHead
head_with is_open count a = record { fields = record { is_open = is_open; count = count }; arguments = a }

pub head-around : (is_open : Bool) (n : ℕ) (a : Option HolderHead) → write_schema_head (head_with is_open n a) ≡ in_front is_open ++ (decimal_of n ++ behind_count a)
unfolding write_schema_head write_holder_head write_item in_front behind_count head_with
head-around is_open n a = simp append_assoc

pub front_length : (is_open : Bool) → length (in_front is_open) ≡ 4
unfolding in_front ascii write_mark write_item mark_of decimal_of decimal_in
front_length true = refl
front_length false = refl

pub head-length : (is_open : Bool) (n : ℕ) (a : Option HolderHead) → length (write_schema_head (head_with is_open n a)) ≡ 4 + (length (decimal_of n) + length (behind_count a))
head-length is_open n a =
    ap length (head-around is_open n a)
    ∙ omega (arith, front_length is_open, length-append (in_front is_open) (decimal_of n ++ behind_count a), length-append (decimal_of n) (behind_count a))
