-- Words that sentences are made of, as validation.rs and definition.rs spell them.
use Rattle.std.specs.Prelude.{ℕ, cond, List, [], ◌∷◌, ◌++◌, eqb}
use Rattle.std.proofs.Math.Option.{Option, none, some}
use Rattle.text.specs.Ascii.{ascii}
use Rattle.sheet.specs.FieldKinds.{kind_name}
use Rattle.definition.specs.Tree.{Text, Field, field}
use Rattle.reference.specs.Setting.{Name, id, entity, version, fields, state, to_state, from_state, args, old_fields}

-- `'t'`, its bytes as they are
unfoldable pub in_quotes : Text → Text
in_quotes t = ascii "'" ++ (t ++ ascii "'")

-- segments with dots between them
unfoldable pub dotted_tail : List Text → Text
dotted_tail [] = []
dotted_tail (s ∷ path) = ascii "." ++ (s ++ dotted_tail path)

unfoldable pub path_text : List Text → Text
path_text [] = []
path_text (s ∷ path) = s ++ dotted_tail path

unfoldable pub kind_of : Field → Text
kind_of (field e kind is_open tag items ms) = kind_name kind

-- empty where there is none
unfoldable pub text_in : Option Text → Text
text_in none = []
text_in (some t) = t

unfoldable pub tag_of : Field → Option Text
tag_of (field e kind is_open tag items ms) = tag

-- `ScopeKind::what`
unfoldable pub what : (kind : ℕ) → Text
what kind =
    cond (eqb kind 1) (ascii "an entity invariant")
    (cond (eqb kind 2) (ascii "an operation precondition")
    (cond (eqb kind 3) (ascii "a creation event payload")
    (cond (eqb kind 4) (ascii "an operation template")
    (cond (eqb kind 5) (ascii "an outcome selector")
    (cond (eqb kind 6) (ascii "a creation outcome selector")
    (cond (eqb kind 7) (ascii "a creation outcome assignment") (ascii "a creation outcome template")))))))

-- `ScopeKind::allowed`: the stock table's names, under any table
unfoldable pub allowed : (kind : ℕ) → Text
allowed kind =
    cond (eqb kind 1) (ascii "$id, $entity, $version, $state, $fields, $fields.<path>")
    (cond (eqb kind 2) (ascii "$id, $entity, $version, $from_state, $to_state, $args, $args.<path>, $fields, $fields.<path>, $old_fields, $old_fields.<path>")
    (cond (eqb kind 3) (ascii "$id, $entity, $version, $state, $to_state, $fields, $fields.<path>")
    (cond (eqb kind 4) (ascii "$id, $entity, $version, $state, $from_state, $to_state, $args, $args.<path>, $fields, $fields.<path>, $old_fields, $old_fields.<path>")
    (cond (eqb kind 5) (ascii "$id, $entity, $version, $from_state, $args, $args.<path>, $fields, $fields.<path>")
    (cond (eqb kind 6) (ascii "$id, $entity, $version, $args, $args.<path>")
    (cond (eqb kind 7) (ascii "$id, $entity, $version, $state, $to_state, $args, $args.<path>")
    (ascii "$id, $entity, $version, $state, $to_state, $args, $args.<path>, $fields, $fields.<path>")))))))

-- what the members of a root are called
unfoldable pub noun_of : Name → Text
noun_of id = []
noun_of entity = []
noun_of version = []
noun_of fields = ascii "field"
noun_of state = []
noun_of to_state = []
noun_of from_state = []
noun_of args = ascii "argument"
noun_of old_fields = ascii "field"
