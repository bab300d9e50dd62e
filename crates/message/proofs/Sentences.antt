-- What each kind of defect says, from raw sheets, by computation.
use Prim.Native.Nat.{ℕ}
use mathlib.Core.List.{List}
use mathlib.Core.Option.{Option, none, some}
use mathlib.Core.Path.{◌≡◌, refl}
use Rattle.text.specs.Ascii.{ascii}
use Rattle.definition.specs.Tree.{Text, Schema, Rule}
use Rattle.definition.specs.Decode.{decode_schema, decode_rule}
use Rattle.reference.specs.Setting.{setting_of}
use Rattle.validation.specs.Check.{checks}
use Rattle.validation.specs.Judge.{judge}
use Rattle.validation.specs.Computing.{computing}
use Rattle.json_rule.specs.AsJson.{json_of}
use Rattle.sheet.specs.FieldKinds as FieldKinds
use Rattle.message.specs.Words as Words
use Rattle.message.specs.Tell as Tell
use Rattle.message.specs.Message as Message

unfoldable pub said_of : (kind semantics : ℕ) → Option Schema → Option Rule → Option Text
said_of kind semantics none r = none
said_of kind semantics (some t) none = none
said_of kind semantics (some t) (some r) =
    let setting = setting_of kind semantics in some (Message.message_of kind setting t r (judge setting t (checks setting r)))

-- under `unfolding says` it computes
unfoldable pub says : (kind semantics : ℕ) (schema rule : List ℕ) → Option Text
unfolding computing said_of json_of Words.in_quotes Words.dotted_tail Words.path_text FieldKinds.kind_name Words.kind_of Words.text_in Words.tag_of Words.what Words.allowed Words.noun_of Tell.carries Tell.no_union_member Tell.no_count Tell.no_member Tell.step_sentence Tell.last_told Tell.arrive_told Tell.tell_walk Tell.unknown_root Tell.root_told Tell.tell_path Tell.unresolved Tell.may_read Tell.not_available Tell.no_reference Tell.tell_root Tell.tell_name Tell.tell_element Tell.tell_bound Tell.tell_reference Tell.memberless Tell.field_sentence Tell.no_collection Tell.tell_last Tell.field_told Tell.tell_field Tell.no_name Tell.collection_root_told Tell.tell_collection_in Tell.tell_collection_named Tell.tell_collection_element Tell.tell_collection_bound Tell.tell_collection_text Tell.tell_collection Message.here_else Message.value_in Message.value_in_condition Message.value_at Message.head_in Message.head_of Message.head_at Message.depth_in Message.json_at Message.unescaped_at Message.instant_forms Message.instant_sentence Message.literal_sentence Message.affix_sentence Message.empty_sentence Message.names_value Message.value_sentence Message.names_head Message.head_sentence Message.settled_sentence Message.asked_sentence Message.sentence_under Message.message_of
says kind semantics schema rule = said_of kind semantics (decode_schema schema) (decode_rule rule)

-- `a` array of strings, `b` map, `c` closed object with a string `s`, `d` union with the tag `kind`, `e` integer, `f` string, `g` union with the tag
-- `value`, `h` union without a tag; the argument `x`
unfoldable pub every_kind : List ℕ
every_kind = ascii "H,0,8,0,1\nF,6,0,1,0,1,-,a\nF,1,0,0,0,0,-,\nF,10,0,0,0,1,-,b\nF,7,0,0,1,1,-,c\nF,1,0,0,0,1,-,s\nF,11,0,0,0,1,4,dkind\nF,2,0,0,0,1,-,e\nF,1,0,0,0,1,-,f\nF,11,0,0,0,1,5,gvalue\nF,11,0,0,0,1,-,h\nF,1,0,0,0,1,-,x\n"

-- `a` array of closed objects with a string `s`
unfoldable pub objects : List ℕ
objects = ascii "H,0,1,-,0\nF,6,0,1,0,1,-,a\nF,7,0,0,1,0,-,\nF,1,0,0,0,1,-,s\n"

pub record Sentences : Type 0 where
  pub blank-name : says 2 2 every_kind (ascii "R,1,-, \nC,1,1,\n") ≡ some (ascii "rule name cannot be empty")
  pub blank-message : says 2 2 every_kind (ascii "R,-,1, \nC,1,1,\n") ≡ some (ascii "rule message cannot be empty")
  pub deep : says 2 2 every_kind (ascii "R,-,-,\nC,4,0,\nC,4,0,\nC,4,0,\nC,4,0,\nC,4,0,\nC,4,0,\nC,4,0,\nC,4,0,\nC,4,0,\nC,4,0,\nC,4,0,\nC,4,0,\nC,4,0,\nC,4,0,\nC,4,0,\nC,4,0,\nC,4,0,\nC,4,0,\nC,4,0,\nC,4,0,\nC,4,0,\nC,4,0,\nC,4,0,\nC,4,0,\nC,4,0,\nC,4,0,\nC,4,0,\nC,4,0,\nC,4,0,\nC,4,0,\nC,4,0,\nC,4,0,\nC,4,0,\nC,1,1,\n") ≡ some (ascii "34")
  pub literal : says 2 2 every_kind (ascii "R,-,-,\nC,19,0,\nV,4,5,1e309\n") ≡ some (ascii "1e309 is outside the source observation domain, so the comparison would be unevaluable at every evaluation")
  pub operator : says 2 1 every_kind (ascii "R,-,-,\nC,19,0,\nV,1,0,\n") ≡ some (ascii "truthy")
  pub operator-compare : says 2 1 every_kind (ascii "R,-,-,\nC,18,1,\nV,1,0,\nV,1,0,\n") ≡ some (ascii "compare")
  pub operator-for-any : says 2 1 every_kind (ascii "R,-,-,\nC,4,0,\nC,21,1,b\nV,1,0,\nC,1,1,\n") ≡ some (ascii "for_any")
  pub empty-all : says 2 2 every_kind (ascii "R,-,-,\nC,2,0,\n") ≡ some (ascii "'all' must contain at least one condition")
  pub empty-any : says 2 2 every_kind (ascii "R,-,-,\nC,4,0,\nC,3,0,\n") ≡ some (ascii "'any' must contain at least one condition")
  pub left : says 2 2 every_kind (ascii "R,-,-,\nC,18,1,\nV,6,0,\nV,1,0,\n") ≡ some (ascii "left")
  pub right : says 2 2 every_kind (ascii "R,-,-,\nC,18,1,\nV,1,0,\nV,7,0,\n") ≡ some (ascii "right")
  pub empty-path : says 2 2 every_kind (ascii "R,-,-,\nC,5,0,\nV,5,8,$fields.\n") ≡ some (ascii "'$fields.' cannot resolve: the path is empty")
  pub empty-segment : says 2 2 every_kind (ascii "R,-,-,\nC,5,0,\nV,5,12,$fields.c..s\n") ≡ some (ascii "'$fields.c..s' cannot resolve: the path is empty")
  pub unknown-field : says 2 2 every_kind (ascii "R,-,-,\nC,5,0,\nV,5,15,$old_fields.z.y\n") ≡ some (ascii "'$old_fields.z.y' cannot resolve: unknown field 'z'")
  pub unknown-argument : says 2 2 every_kind (ascii "R,-,-,\nC,5,0,\nV,5,7,$args.z\n") ≡ some (ascii "'$args.z' cannot resolve: unknown argument 'z'")
  pub no-property : says 2 2 every_kind (ascii "R,-,-,\nC,5,0,\nV,5,13,$fields.c.z.y\n") ≡ some (ascii "'$fields.c.z.y' cannot resolve: 'c' declares no property 'z'")
  pub array-member : says 2 2 every_kind (ascii "R,-,-,\nC,5,0,\nV,5,12,$fields.a.01\n") ≡ some (ascii "'$fields.a.01' cannot resolve: 'a' is an array field, so '01' resolves to nothing; an array addresses `count` or an element index")
  pub map-member : says 2 2 every_kind (ascii "R,-,-,\nC,5,0,\nV,5,11,$fields.b.k\n") ≡ some (ascii "'$fields.b.k' cannot resolve: 'b' is a map field, so 'k' resolves to nothing; a map's keys are not addressable and only `count` reads it")
  pub after-count : says 2 2 every_kind (ascii "R,-,-,\nC,5,0,\nV,5,19,$fields.a.count.x.y\n") ≡ some (ascii "'$fields.a.count.x.y' cannot resolve: 'a.count' is a count, so 'x.y' resolves to nothing")
  pub after-text-count : says 2 2 every_kind (ascii "R,-,-,\nC,5,0,\nV,5,19,$fields.c.s.count.x\n") ≡ some (ascii "'$fields.c.s.count.x' cannot resolve: 'c.s.count' is a count, so 'x' resolves to nothing")
  pub after_tag : says 2 2 every_kind (ascii "R,-,-,\nC,5,0,\nV,5,16,$fields.d.kind.x\n") ≡ some (ascii "'$fields.d.kind.x' cannot resolve: 'd.kind' is the union's tag, so 'x' resolves to nothing")
  pub union-member : says 2 2 every_kind (ascii "R,-,-,\nC,5,0,\nV,5,11,$fields.d.x\n") ≡ some (ascii "'$fields.d.x' cannot resolve: 'd' is a union field, so 'x' resolves to nothing; it carries 'kind' and 'value'")
  pub union-content : says 2 2 every_kind (ascii "R,-,-,\nC,5,0,\nV,5,11,$fields.g.x\n") ≡ some (ascii "'$fields.g.x' cannot resolve: 'g' is a union field, so 'x' resolves to nothing; it carries 'value' and 'content'")
  pub union-untagged : says 2 2 every_kind (ascii "R,-,-,\nC,5,0,\nV,5,11,$fields.h.x\n") ≡ some (ascii "'$fields.h.x' cannot resolve: 'h' is a union field, so 'x' resolves to nothing; it carries '' and 'value'")
  pub no-count : says 2 2 every_kind (ascii "R,-,-,\nC,5,0,\nV,5,15,$fields.e.count\n") ≡ some (ascii "'$fields.e.count' cannot resolve: 'e' is a integer field, so 'count' resolves to nothing; `count` reads a text, an array or a map")
  pub no-member : says 2 2 every_kind (ascii "R,-,-,\nC,5,0,\nV,5,13,$fields.a.0.x\n") ≡ some (ascii "'$fields.a.0.x' cannot resolve: 'a.0' is a string field, so 'x' resolves to nothing")
  pub kernel-array : says 2 1 every_kind (ascii "R,-,-,\nC,5,0,\nV,5,11,$fields.a.0\n") ≡ some (ascii "'$fields.a.0' cannot resolve: 'a' is a array field, so '0' resolves to nothing")
  pub bound : says 2 2 every_kind (ascii "R,-,-,\nC,20,1,q\nV,5,9,$fields.a\nC,19,0,\nV,5,6,$q.x.y\n") ≡ some (ascii "'$q.x.y' cannot resolve: '$q' is a string field, so 'x' resolves to nothing")
  pub bound-count : says 2 2 every_kind (ascii "R,-,-,\nC,20,1,q\nV,5,9,$fields.a\nC,19,0,\nV,5,10,$q.count.y\n") ≡ some (ascii "'$q.count.y' cannot resolve: '$q.count' is a count, so 'y' resolves to nothing")
  pub not-available : says 1 2 every_kind (ascii "R,-,-,\nC,5,0,\nV,5,7,$args.x\n") ≡ some (ascii "'$args.x' is not available here; an entity invariant may read $id, $entity, $version, $state, $fields, $fields.<path>")
  pub no-reference : says 2 2 every_kind (ascii "R,-,-,\nC,5,0,\nV,5,5,$id.x\n") ≡ some (ascii "'$id.x' is not a reference available here; an operation precondition may read $id, $entity, $version, $from_state, $to_state, $args, $args.<path>, $fields, $fields.<path>, $old_fields, $old_fields.<path>")
  pub not-readable : says 2 2 every_kind (ascii "R,-,-,\nC,5,0,\nV,5,6,$state\n") ≡ some (ascii "'$state' is not a reference available here; an operation precondition may read $id, $entity, $version, $from_state, $to_state, $args, $args.<path>, $fields, $fields.<path>, $old_fields, $old_fields.<path>")
  pub of-payload : says 3 2 every_kind (ascii "R,-,-,\nC,5,0,\nV,5,2,$z\n") ≡ some (ascii "'$z' is not a reference available here; a creation event payload may read $id, $entity, $version, $state, $to_state, $fields, $fields.<path>")
  pub of-operation-template : says 4 2 every_kind (ascii "R,-,-,\nC,5,0,\nV,5,2,$z\n") ≡ some (ascii "'$z' is not a reference available here; an operation template may read $id, $entity, $version, $state, $from_state, $to_state, $args, $args.<path>, $fields, $fields.<path>, $old_fields, $old_fields.<path>")
  pub of-selector : says 5 2 every_kind (ascii "R,-,-,\nC,5,0,\nV,5,2,$z\n") ≡ some (ascii "'$z' is not a reference available here; an outcome selector may read $id, $entity, $version, $from_state, $args, $args.<path>, $fields, $fields.<path>")
  pub of-creation-selector : says 6 2 every_kind (ascii "R,-,-,\nC,5,0,\nV,5,2,$z\n") ≡ some (ascii "'$z' is not a reference available here; a creation outcome selector may read $id, $entity, $version, $args, $args.<path>")
  pub of-assignment : says 7 2 every_kind (ascii "R,-,-,\nC,5,0,\nV,5,2,$z\n") ≡ some (ascii "'$z' is not a reference available here; a creation outcome assignment may read $id, $entity, $version, $state, $to_state, $args, $args.<path>")
  pub of-creation-template : says 8 2 every_kind (ascii "R,-,-,\nC,5,0,\nV,5,2,$z\n") ≡ some (ascii "'$z' is not a reference available here; a creation outcome template may read $id, $entity, $version, $state, $to_state, $args, $args.<path>, $fields, $fields.<path>")
  pub affix : says 2 2 every_kind (ascii "R,-,-,\nC,16,0,\nV,5,1,a\nV,6,2,\nV,4,2,-0\nV,7,1,\nK,1,k\nV,5,2,\"\\\n") ≡ some (ascii "[-0,{\"k\":\"\\\"\\\\\"}] is not a string, so the rule would be false at every evaluation; quote it if it is meant as text")
  pub instant-escaped : says 2 2 every_kind (ascii "R,-,-,\nC,6,0,\nV,5,12,$$2024-01-01\nV,5,10,2024-01-01\n") ≡ some (ascii "\"$$2024-01-01\" escapes to the literal '$2024-01-01', which is not an instant this kernel reads, so the comparison would be unobservable at every evaluation; an operand of 'before'/'after' is either a '$' reference or a literal instant written `YYYY-MM-DD` or `YYYY-MM-DDTHH:MM:SS[.fff][Z]`, where a space may stand in for the `T` and an explicit offset is not read")
  pub instant : says 2 2 every_kind (ascii "R,-,-,\nC,7,0,\nV,5,10,2023-02-29\nV,5,10,2024-01-01\n") ≡ some (ascii "\"2023-02-29\" is not an instant this kernel reads, so the comparison would be unobservable at every evaluation; an operand of 'before'/'after' is either a '$' reference or a literal instant written `YYYY-MM-DD` or `YYYY-MM-DDTHH:MM:SS[.fff][Z]`, where a space may stand in for the `T` and an explicit offset is not read")
  pub bind : says 2 2 every_kind (ascii "R,-,-,\nC,20,3,x.y\nV,5,9,$fields.a\nC,1,1,\n") ≡ some (ascii "x.y")
  pub over-no-string : says 2 2 every_kind (ascii "R,-,-,\nC,20,1,q\nV,1,0,\nC,1,1,\n") ≡ some (ascii "`in` is a reference to an array or map field")
  pub over-member : says 2 2 every_kind (ascii "R,-,-,\nC,20,1,q\nV,5,15,$fields.a.count\nC,1,1,\n") ≡ some (ascii "a array field has no member 'count'")
  pub over-kind : says 2 2 every_kind (ascii "R,-,-,\nC,20,1,q\nV,5,9,$fields.e\nC,1,1,\n") ≡ some (ascii "it is a integer field, and a quantifier walks an array or a map")
  pub over-name : says 2 2 every_kind (ascii "R,-,-,\nC,20,1,q\nV,5,3,x.y\nC,1,1,\n") ≡ some (ascii "'x.y' is not a reference to a collection")
  pub over-property : says 2 2 objects (ascii "R,-,-,\nC,20,1,q\nV,5,9,$fields.a\nC,20,1,r\nV,5,4,xq.k\nC,1,1,\n") ≡ some (ascii "nothing declares a property 'k'")
  pub bound-property : says 2 2 objects (ascii "R,-,-,\nC,20,1,q\nV,5,9,$fields.a\nC,19,0,\nV,5,4,$q.t\n") ≡ some (ascii "'$q.t' cannot resolve: '$q' declares no property 't'")
  pub accepted : says 2 2 objects (ascii "R,-,-,\nC,5,0,\nV,5,9,$fields.a\n") ≡ some (ascii "")

pub sentences : Sentences
unfolding says every_kind objects
sentences =
    record {
      blank-name = refl;
      blank-message = refl;
      deep = refl;
      literal = refl;
      operator = refl;
      operator-compare = refl;
      operator-for-any = refl;
      empty-all = refl;
      empty-any = refl;
      left = refl;
      right = refl;
      empty-path = refl;
      empty-segment = refl;
      unknown-field = refl;
      unknown-argument = refl;
      no-property = refl;
      array-member = refl;
      map-member = refl;
      after-count = refl;
      after-text-count = refl;
      after_tag = refl;
      union-member = refl;
      union-content = refl;
      union-untagged = refl;
      no-count = refl;
      no-member = refl;
      kernel-array = refl;
      bound = refl;
      bound-count = refl;
      not-available = refl;
      no-reference = refl;
      not-readable = refl;
      of-payload = refl;
      of-operation-template = refl;
      of-selector = refl;
      of-creation-selector = refl;
      of-assignment = refl;
      of-creation-template = refl;
      affix = refl;
      instant-escaped = refl;
      instant = refl;
      bind = refl;
      over-no-string = refl;
      over-member = refl;
      over-kind = refl;
      over-name = refl;
      over-property = refl;
      bound-property = refl;
      accepted = refl;
    }
