-- Calls with sheets that are written out, and what is heard of them.
use Prim.Native.Nat.{ℕ}
use mathlib.Core.List.{List, []}
use Rattle.text.specs.Ascii.{ascii}
use Rattle.definition.specs.Tree.{Text}
use Rattle.validation.specs.Result.{Call, any, Answer, refused, accepted, defect, Numbers, numbers_of, result_of}
use Rattle.validation.specs.Computing.{computing}

-- a call with that label, with buffers of these lengths and the stock table, which takes rules and templates
unfoldable pub lending : (label : List ℕ) (path scratch : ℕ) (kind semantics : ℕ) (schema rule : List ℕ) → Call
lending label path scratch kind semantics schema rule =
    record {
      asked = record { takes = any; kind = kind; semantics = semantics; label = label; rule = rule };
      table = [];
      schema = schema;
      lent = record { widths = record { path = path; scratch = scratch }; marks = 8192 };
    }

-- a call with the label `r` and buffers of the least lengths
unfoldable pub ask : (kind semantics : ℕ) (schema rule : List ℕ) → Call
unfolding lending
ask kind semantics schema rule = lending (ascii "r") 32768 4096 kind semantics schema rule

-- the seven numbers, and the path
unfoldable pub heard_of : Answer → Numbers × Text
heard_of (refused n) = (numbers_of (refused n), [])
heard_of (accepted n) = (numbers_of (accepted n), [])
heard_of (defect d) = (numbers_of (defect d), d.path)

unfoldable pub accepts : (passed : ℕ) → Numbers × Text
accepts passed =
    (record { number = 0; family = 0; detail = 0; place = 0; over_place = 0; passed = passed; path_length = 0 }, [])

unfoldable pub finds : (number family detail place over_place passed path_length : ℕ) (path : Text) → Numbers × Text
finds number family detail place over_place passed path_length path = (
  record {
    number = number;
    family = family;
    detail = detail;
    place = place;
    over_place = over_place;
    passed = passed;
    path_length = path_length;
  },
  path,
)

-- what is heard of a call; under `unfolding heard` it computes
unfoldable pub heard : Call → Numbers × Text
unfolding computing ask heard_of accepts finds
heard c = heard_of (result_of c)
