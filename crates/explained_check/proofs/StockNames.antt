-- The names that a message lists as readable are those of the stock table, by computation; under another table they stay so, since `allowed` is of the kind alone.
use mathlib.Core.Bool.{Bool, cond}
use mathlib.Core.List.{[], ◌++◌}
use mathlib.Core.Path.{◌≡◌, refl}
use Rattle.text.specs.Ascii.{ascii}
use Rattle.definition.specs.Tree.{Text}
use Rattle.reference.specs.Setting.{Name, entity, version, fields, state, to_state, from_state, args, old_fields, one_of, stock}
use Rattle.message.specs.Words.{allowed}

unfoldable further : (Name → Bool) → Name → Text → Text
further may_read n text = cond (may_read n) (ascii ", " ++ text) []

-- `$id` may be read by every kind
unfoldable listed : (Name → Bool) → Text
unfolding further
listed may_read =
    ascii "$id"
    ++ (further may_read entity (ascii "$entity")
    ++ (further may_read version (ascii "$version")
    ++ (further may_read state (ascii "$state")
    ++ (further may_read from_state (ascii "$from_state")
    ++ (further may_read to_state (ascii "$to_state")
    ++ (further may_read args (ascii "$args, $args.<path>")
    ++ (further may_read fields (ascii "$fields, $fields.<path>") ++ further may_read old_fields (ascii "$old_fields, $old_fields.<path>"))))))))

pub record StockNames : Type 0 where
  invariant : listed (stock 1) ≡ allowed 1
  precondition : listed (stock 2) ≡ allowed 2
  creation-payload : listed (stock 3) ≡ allowed 3
  operation-template : listed (stock 4) ≡ allowed 4
  outcome-selector : listed (stock 5) ≡ allowed 5
  creation-selector : listed (stock 6) ≡ allowed 6
  creation-assignment : listed (stock 7) ≡ allowed 7
  creation-template : listed (stock 8) ≡ allowed 8

pub stock-names : StockNames
unfolding listed stock one_of allowed ascii
stock-names =
    record {
      invariant = refl;
      precondition = refl;
      creation-payload = refl;
      operation-template = refl;
      outcome-selector = refl;
      creation-selector = refl;
      creation-assignment = refl;
      creation-template = refl;
    }
