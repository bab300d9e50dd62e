-- A key is a reference to `$fields`, given without `$fields.`.
use Rattle.std.specs.Prelude.{true, [], ◌++◌, ◌≡◌}
use Rattle.text.specs.Ascii.{ascii}
use Rattle.text.specs.Order.{same_bytes}
use Rattle.definition.specs.Tree.{Text, Schema}
use Rattle.reference.specs.Setting.{fields, spelling, named, name_of, Setting}
use Rattle.reference.specs.Path.{cut, extend, split}
use Rattle.reference.specs.Reference.{bound, root_of, from_root, from_name, from_bound, reference, key_walk}

pub key-reference : (setting : Setting) (schema : Schema) (t : Text)
    → setting.may_read fields ≡ true
    → reference setting schema [] (ascii "fields." ++ t) ≡ key_walk setting.reader setting.is_service schema t
unfolding reference key_walk from_bound from_name from_root root_of bound split extend cut name_of named spelling same_bytes ascii
key-reference setting schema t e = rw e
