-- What a call learns of the path it wrote: of a defect that has a path, all of it is in a buffer of 32,768 bytes.
use Rattle.std.specs.Prelude.{ℕ, ◌≤◌, List, [], ◌++◌, ◌≡◌, refl, length}
use Rattle.std.proofs.Common.{arith}
use Rattle.std.proofs.Math.Option.{Option, none, some, IsSome, get_or}
use Rattle.std.proofs.lemmas.List.Edits.{sets}
use Rattle.definition.specs.Tree.{Text, Rule}
use Rattle.definition.specs.Within.{RuleWithin}
use Rattle.rule.specs.Index.{RuleAt}
use Rattle.validation.specs.Location.{behind_label, path_of}
use Rattle.defect_path.specs.Path.{PathWritten}
use Rattle.defect_path.specs.LengthLaws.{path-length}

pub record Stands (before after path : List ℕ) (written : ℕ) : Type 0 where
  pub buffer : after ≡ sets before 0 path
  pub count : written ≡ length path

pub path-stands : {label sheet words : List ℕ} {defect place : ℕ} {before after : List ℕ} {written : ℕ} (tree : Rule)
    → PathWritten label sheet words defect place before after written
    → RuleAt sheet words tree
    → RuleWithin tree
    → IsSome (behind_label defect place tree)
    → length label ≤ 256
    → 32768 ≤ length before
    → Stands before after (path_of label tree defect place) written
unfolding path_of
path-stands {label} {defect = defect} {place = place} {before = before} {after = after} {written = written} tree w stands within has small room =
    by_way (behind_label defect place tree) refl has (path-length label tree defect place small within)
  where
    by_way : (o : Option Text)
        → behind_label defect place tree ≡ o
        → IsSome o
        → length (label ++ get_or (behind_label defect place tree) []) ≤ 32768
        → Stands before after (label ++ get_or (behind_label defect place tree) []) written
    by_way none e h fits = elim h [ ]
    by_way (some p) e h fits =
        let bytes : length (label ++ p) ≤ 32768 = rw e at fits in
        let whole = w.written tree p stands e in
        let n = whole.ends in
        rw e (record { buffer = whole.stands; count = omega arith })
