-- What the program `rulecheck` prints for a file's bytes.
use Rattle.std.specs.Prelude.{ℕ, List, []}
use Rattle.std.proofs.Math.Option.{Option, none, some}
use Rattle.validation.specs.Result.{Call, any, Answer, refused, accepted, defect, path_bytes, scratch_words, mark_bytes, result_of, numbers_of}
use Rattle.check_file.specs.File.{Parts, taken_apart}
use Rattle.check_file.specs.Line.{line_of}

-- the program's call: it lends as much as is needed, and takes rules and templates
unfoldable pub call_for : Parts → Call
call_for p =
    record {
      asked = record { takes = any; kind = p.kind; semantics = p.semantics; label = p.label; rule = p.rule };
      table = [];
      schema = p.schema;
      lent = record { widths = record { path = path_bytes; scratch = scratch_words }; marks = mark_bytes };
    }

unfoldable pub path_in : Answer → List ℕ
path_in (refused n) = []
path_in (accepted n) = []
path_in (defect d) = d.path

unfoldable pub answered : Answer → List ℕ
answered a = line_of (numbers_of a) (path_in a)

unfoldable pub printed : Option Parts → List ℕ
printed none = []
printed (some p) = answered (result_of (call_for p))

-- nothing for a file of another form, else one line
unfoldable pub output_of : List ℕ → List ℕ
output_of file = printed (taken_apart file)
