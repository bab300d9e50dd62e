-- The stock table written out, and what is not a table, by computation.
use Prim.Native.Nat.{ℕ}
use mathlib.Core.Bool.{Bool, true, false}
use mathlib.Core.List.{List, [], ◌∷◌, ◌++◌}
use mathlib.Core.Option.{none}
use mathlib.Core.Path.{◌≡◌, refl}
use lib.ListN.{length, take, drop}
use Rattle.text.specs.Ascii.{ascii}
use Rattle.reference.specs.Table.{Row, decode_table, is_sound, are_sound, stock_table, table_bytes, table_in}
use Rattle.reference.specs.Computing.{computing}

-- id, entity, version, fields, state, to_state, from_state, args, old_fields
unfoldable pub stock_text : List ℕ
unfolding computing
stock_text =
    ascii "N,1,1,1,1,1,1,0,0,0,0\n"
    ++ (ascii "N,2,1,1,1,1,0,1,1,1,1\n"
    ++ (ascii "N,3,1,1,1,1,1,1,0,0,0\n"
    ++ (ascii "N,4,1,1,1,1,1,1,1,1,1\n"
    ++ (ascii "N,5,1,1,1,1,0,0,1,1,0\n"
    ++ (ascii "N,6,1,1,1,0,0,0,0,1,0\n"
    ++ (ascii "N,7,1,1,1,0,1,1,0,1,0\n"
    ++ ascii "N,8,1,1,1,1,1,1,0,1,0\n"))))))

stock-written : table_in stock_text ≡ table_in []
unfolding stock_text
stock-written = refl

stock-sound : are_sound stock_table ≡ true
unfolding stock_text
stock-sound = refl

stock-bytes : length stock_text ≡ table_bytes
unfolding stock_text
stock-bytes = refl

-- bytes after the table do not matter to a call, though they are no part of a table
bytes-behind : table_in (stock_text ++ (0 ∷ [])) ≡ table_in []
unfolding stock_text
bytes-behind = refl

no-bytes-behind : decode_table (stock_text ++ (0 ∷ [])) ≡ none
unfolding stock_text
no-bytes-behind = refl

bytes-175 : table_in (take 175 stock_text) ≡ none
unfolding stock_text
bytes-175 = refl

kinds-rise : table_in (drop 154 stock_text ++ take 154 stock_text) ≡ none
unfolding stock_text
kinds-rise = refl

-- Both conditions of a row, each met and broken.

unfoldable row_with : (is_read has_fields has_old : Bool) → Row
row_with is_read has_fields has_old =
    record {
      id = is_read;
      entity = true;
      version = true;
      fields = has_fields;
      state = false;
      to_state = false;
      from_state = false;
      args = false;
      old_fields = has_old;
    }

sound-with-both : is_sound (row_with true true true) ≡ true
unfolding row_with is_sound
sound-with-both = refl

old-fields-alone : is_sound (row_with true false true) ≡ false
unfolding row_with is_sound
old-fields-alone = refl

without-id : is_sound (row_with false true true) ≡ false
unfolding row_with is_sound
without-id = refl
