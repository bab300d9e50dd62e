-- A message has fewer bytes than a word counts: every text in it is one of the rule's or the schema's, and those have bounds.
use Rattle.std.specs.Prelude.{ℕ, zero, suc, ◌+◌, ◌≤◌, ◌<◌, ◌/◌, ◌%◌, Bool, not, cond, ◌&&◌, ◌||◌, ◌≡◌, leb, ltb, eqb, length}
use Rattle.std.proofs.Common.{arith, length-drop}
use Rattle.std.proofs.Math.Bool.{true, false}
use mathlib.Core.List.{List, [], ◌∷◌, ◌++◌, map}
use Rattle.std.proofs.Math.Option
use Rattle.std.proofs.Math.Option.{Option, none, some, get_or}
use Rattle.std.proofs.Math.ListN.{length-append}
use Rattle.text.specs.Ascii.{ascii}
use Rattle.text.specs.Order.{same_bytes}
use Rattle.text.specs.Reader.{or_else}
use Rattle.text.specs.Numeral.{decimal_in, decimal_of}
use Rattle.sheet.specs.Within.{OptionWithin}
use Rattle.sheet.specs.FieldKinds.{kind_name}
use Rattle.sheet.specs.Operators.{Operator, operators, row_in, first_operator, operator_name, is_instant_test, is_affix}
use Rattle.sheet.specs.Entries.{many_head, negation_head, one_head, two_head, comparison_head, quantifier_head, array_head, object_head}
use Rattle.sheet.specs.Entries as Entries
use Rattle.sheet.specs.Write.{write_rule_head, write_condition_head, write_key_head, write_end, write_last, write_type, write_value_head}
use Rattle.definition.specs.Tree.{Text, Field, field, Items, absent, element, Members, no_members, member, Holder, Schema, Value, constant, number, string, array, object, Values, no_values, value, Pairs, no_pairs, pair, Condition, literal, many, negation, one, two, comparison, quantifier, Conditions, no_conditions, condition, Rule, rule, template}
use Rattle.definition.specs.Write.{count_of_values, count_of_pairs, count_of_conditions, write_value, write_values, write_pairs, write_condition, write_conditions, write_rule}
use Rattle.definition.specs.Within.{FieldFits, ItemsFit, MembersFit, ArgumentsFit, ValueFits, ValuesFit, PairsFit, ConditionFits, ConditionsFit, RuleFits, condition_nesting, conditions_nesting, SchemaWithin, RuleWithin}
use Rattle.reference.specs.Setting.{Name, id, entity, version, fields, state, to_state, from_state, args, old_fields, name_of, Reader, kernel, projection, Setting}
use Rattle.reference.specs.Path.{Segments, split, cut, is_count, is_ordinal}
use Rattle.reference.specs.Path as Path
use Rattle.reference.specs.Walk.{Step, refuse, leaf, free, into, lookup, member_step, item_step, Reached, refused, unknown, known, last_or, arrive, travel, is_empty, array_step, map_step, content_key, is_tag, union_step, text_count, FieldForm, json_field, object_field, array_field, map_field, string_field, union_field, other_field, form_of_kind, walk_into, walk_step, field_step, element_or, element_of_field, element_of}
use Rattle.reference.specs.Walk as Walk
use Rattle.reference.specs.Reference.{Environment, bound, Root, no_root, missing, root, arguments_root, root_of, from_holder, behind_first, begins_with_dollar, collection_in, collection_named, collection_element, collection_bound, collection_text, collection}
use Rattle.validation.specs.Check.{Binder, Question, settled, readable, walkable, fails_if, Check, check, reference_text, reference_check, references, references_of_values, references_of_pairs, Literal, literals, literal_check, entry_of, is_string, is_holder, instant_text, instant_form, instant_operand, affix_operand, compare_side, operand, operator_check, body, bodies, depth, depth_of_conditions, literal_checks, checks}
use Rattle.validation.specs.Judge.{Failure, extend, enter, environment, Verdict, fails_at, judge}
use Rattle.validation.proofs.CheckLaws.{Every, every_append, every-if}
use Rattle.validation.proofs.CountLaws.{VerdictIs, every-judged}
use Rattle.json_rule.proofs.AsJsonLaws.{json-short}
use Rattle.message.specs.Words.{in_quotes, dotted_tail, path_text, kind_of, text_in, tag_of, what, allowed, noun_of}
use Rattle.message.specs.Tell.{carries, no_union_member, no_count, no_member, step_sentence, last_told, arrive_told, tell_walk, unknown_root, root_told, tell_path, unresolved, may_read, not_available, no_reference, tell_root, tell_name, tell_element, tell_bound, tell_reference, memberless, field_sentence, no_collection, tell_last, field_told, tell_field, no_name, collection_root_told, tell_collection_in, tell_collection_named, tell_collection_element, tell_collection_bound, tell_collection_text, tell_collection}
use Rattle.message.specs.Message.{here_else, value_in, value_in_values, value_in_pairs, value_in_condition, value_in_conditions, value_at, Head, head, head_in, head_in_conditions, head_of, head_at, depth_in, json_at, unescaped_at, instant_forms, instant_sentence, literal_sentence, affix_sentence, empty_sentence, names_value, value_sentence, head_sentence, settled_sentence, asked_sentence, sentence_under, message_of}

-- Fields that fit, wherever a walk leads

abbrev MayFit : Option Field → Type 0
MayFit none = Unit {0}
MayFit (some f) = FieldFits f

abbrev StepFits : Step → Type 0
StepFits (refuse d) = Unit {0}
StepFits (leaf d) = Unit {0}
StepFits free = Unit {0}
StepFits (into f) = FieldFits f

abbrev ReachedFits : Reached → Type 0
ReachedFits (refused d at left) = Unit {0}
ReachedFits unknown = Unit {0}
ReachedFits (known f) = FieldFits f

may-if : (b : Bool) (x y : Option Field) → MayFit x → MayFit y → MayFit (cond b x y)
may-if true x y u w = u
may-if false x y u w = w

step-if : (b : Bool) (x y : Step) → StepFits x → StepFits y → StepFits (cond b x y)
step-if true x y u w = u
step-if false x y u w = w

reached-if : (b : Bool) (x y : Reached) → ReachedFits x → ReachedFits y → ReachedFits (cond b x y)
reached-if true x y u w = u
reached-if false x y u w = w

lookup-fits : (s : Text) (ms : Members) → MembersFit ms → MayFit (lookup s ms)
unfolding lookup
lookup-fits s no_members h = tt
lookup-fits s (member n f others) h = may-if (same_bytes n s) (some f) (lookup s others) h.1 (lookup-fits s others h.2)

member-fits : (o : Option Field) (is_open : Bool) (d : ℕ) → MayFit o → StepFits (member_step o is_open d)
unfolding member_step
member-fits (some f) is_open d h = h
member-fits none true d h = tt
member-fits none false d h = tt

item-fits : (items : Items) → ItemsFit items → StepFits (item_step items)
unfolding item_step
item-fits absent h = tt
item-fits (element f) h = h

count_fits : (reader : Reader) → StepFits (text_count reader)
unfolding text_count
count_fits kernel = tt
count_fits projection = tt

module _ (reader : Reader) (is_service is_open : Bool) (tag : Option Text) (items : Items) (members : Members) (s : Text) (i : ItemsFit items) (m : MembersFit members) where
  into-fits : (form : FieldForm) → StepFits (walk_into reader is_service is_open tag items members s form)
  unfolding walk_into array_step map_step union_step
  into-fits json_field = tt
  into-fits object_field = member-fits (lookup s members) is_open 3 (lookup-fits s members m)
  into-fits array_field = step-if is_service (array_step items s) (refuse 10) (step-if (is_count s) (leaf 6) _ tt (step-if (is_ordinal s) (item_step items) (refuse 4) (item-fits items i) tt)) tt
  into-fits map_field = step-if is_service (map_step s) (refuse 10) (step-if (is_count s) (leaf 6) (refuse 5) tt tt) tt
  into-fits string_field = step-if (is_service && is_count s) (text_count reader) (refuse 10) (count_fits reader) tt
  into-fits union_field = step-if is_service (union_step tag s) (refuse 10) (step-if (is_tag tag s) (leaf 7) _ tt (step-if (same_bytes (content_key tag) s) free (refuse 8) tt tt)) tt
  into-fits other_field = step-if (is_service && is_count s) (refuse 9) (refuse 10) tt tt

walk-fits : (reader : Reader) (is_service : Bool) (f : Field) (s : Text) → FieldFits f → StepFits (walk_step reader is_service f s)
unfolding walk_step
walk-fits reader is_service (field e kind is_open tag items members) s h =
    step-if (is_empty s) (refuse 1) (walk_into reader is_service is_open tag items members s (form_of_kind kind)) tt
    (into-fits reader is_service is_open tag items members s h.2 h.3 (form_of_kind kind))

field_fits : (f : Field) (s : Text) → FieldFits f → StepFits (field_step f s)
unfolding field_step
field_fits (field e kind is_open tag items members) s h =
    step-if (eqb kind 8 || eqb kind 11) free _ tt
    (step-if (eqb kind 7) (member_step (lookup s members) is_open 2) _ (member-fits (lookup s members) is_open 2 (lookup-fits s members h.3))
    (step-if (eqb kind 6 && is_ordinal s) (item_step items) (refuse 3) (item-fits items h.2) tt))

last_fits : (path : List Text) (r : Reached) → ReachedFits r → ReachedFits (last_or path r)
unfolding last_or
last_fits [] r h = tt
last_fits (s ∷ path) r h = h

arrive-fits : (at : ℕ) (s : Text) (path : List Text) (onward : Field → Reached) (step : Step)
    → ((g : Field) → FieldFits g → ReachedFits (onward g))
    → StepFits step
    → ReachedFits (arrive at s path onward step)
unfolding arrive
arrive-fits at s path onward (refuse d) h fits = tt
arrive-fits at s path onward (leaf d) h fits = last_fits path (refused d at (s ∷ path)) tt
arrive-fits at s path onward free h fits = tt
arrive-fits at s path onward (into g) h fits = h g fits

travel-fits : (path : List Text) (f : Field) → FieldFits f → ReachedFits (travel field_step path f)
unfolding travel
travel-fits [] f h = h
travel-fits (s ∷ path) f h =
    arrive-fits (Walk.entry_of f) s path (λ g. travel field_step path g) (field_step f s) (λ g k. travel-fits path g k) (field_fits f s h)

items-fit : (items : Items) → ItemsFit items → ReachedFits (element_or items)
unfolding element_or
items-fit absent h = tt
items-fit (element f) h = h

element-fits : (r : Reached) → ReachedFits r → ReachedFits (element_of r)
unfolding element_of element_of_field
element-fits (refused d at left) h = tt
element-fits unknown h = tt
element-fits (known (field e kind is_open tag items members)) h =
    reached-if (eqb kind 6 || eqb kind 10) (element_or items) (refused 4 e []) (items-fit items h.2) tt

-- Environments

abbrev RootFits : Root → Type 0
RootFits no_root = Unit {0}
RootFits missing = Unit {0}
RootFits (root at h) = MembersFit h.members

abbrev SchemaFits : Schema → Type 0
SchemaFits t = MembersFit t.fields.members × ArgumentsFit t.arguments

abbrev AllFit : Environment → Type 0
AllFit [] = Unit {0}
AllFit (b ∷ bs) = MayFit b.element × AllFit bs

abbrev BoundFits : Option (Option Field) → Type 0
BoundFits none = Unit {0}
BoundFits (some o) = MayFit o

abbrev ScopeFits : Option Environment → Type 0
ScopeFits none = Unit {0}
ScopeFits (some env) = AllFit env

arguments-fit : (o : Option Holder) → ArgumentsFit o → RootFits (arguments_root o)
unfolding arguments_root
arguments-fit none h = tt
arguments-fit (some x) h = h

root-fits : (t : Schema) (n : Name) → SchemaFits t → RootFits (root_of t n)
unfolding root_of
root-fits t id h = tt
root-fits t entity h = tt
root-fits t version h = tt
root-fits t fields h = h.0
root-fits t state h = tt
root-fits t to_state h = tt
root-fits t from_state h = tt
root-fits t args h = arguments-fit t.arguments h.1
root-fits t old_fields h = h.0

bound-if : (b : Bool) (x y : Option (Option Field)) → BoundFits x → BoundFits y → BoundFits (cond b x y)
bound-if true x y u w = u
bound-if false x y u w = w

bound-fits : (name : Text) (env : Environment) → AllFit env → BoundFits (bound name env)
unfolding bound
bound-fits name [] h = tt
bound-fits name (b ∷ bs) h = bound-if (same_bytes b.name name) (some b.element) (bound name bs) h.0 (bound-fits name bs h.1)

in-fits : (r : Root) (s : Text) (path : List Text) → RootFits r → ReachedFits (collection_in r s path)
unfolding collection_in from_holder
in-fits no_root s path h = tt
in-fits missing s path h = tt
in-fits (root at x) s path h =
    element-fits (from_holder field_step at 7 x s path)
    (arrive-fits at s path (λ g. travel field_step path g) (member_step (lookup s x.members) x.is_open 7) (λ g k. travel-fits path g k)
    (member-fits (lookup s x.members) x.is_open 7 (lookup-fits s x.members h)))

named-fits : (t : Schema) (n : Option Name) (path : List Text) → SchemaFits t → ReachedFits (collection_named t n path)
unfolding collection_named
named-fits t none path h = tt
named-fits t (some n) [] h = tt
named-fits t (some n) (s ∷ path) h = in-fits (root_of t n) s path (root-fits t n h)

of-element-fits : (o : Option Field) (path : List Text) → MayFit o → ReachedFits (collection_element o path)
unfolding collection_element
of-element-fits none path h = tt
of-element-fits (some f) [] h = tt
of-element-fits (some f) (s ∷ path) h = element-fits (travel field_step (s ∷ path) f) (travel-fits (s ∷ path) f h)

of-bound-fits : (t : Schema) (is_reference : Bool) (p : Segments) (o : Option (Option Field)) → SchemaFits t → BoundFits o → ReachedFits (collection_bound t is_reference p o)
unfolding collection_bound
of-bound-fits t is_reference p (some f) h k = of-element-fits f p.others k
of-bound-fits t true p none h k = named-fits t (name_of p.first) p.others h
of-bound-fits t false p none h k = tt

collection-fits : (t : Schema) (env : Environment) (v : Value) → SchemaFits t → AllFit env → ReachedFits (collection t env v)
unfolding collection collection_text
collection-fits t env (constant e type) h k = tt
collection-fits t env (number e digits) h k = tt
collection-fits t env (string e x) h k =
    of-bound-fits t (begins_with_dollar x) (split (behind_first x)) (bound (split (behind_first x)).first env) h (bound-fits (split (behind_first x)).first env k)
collection-fits t env (array e values) h k = tt
collection-fits t env (object e pairs) h k = tt

extend_fits : (name : Text) (env : Environment) (r : Reached) → AllFit env → ReachedFits r → ScopeFits (extend name env r)
unfolding extend
extend_fits name env (refused d at left) h k = tt
extend_fits name env unknown h k = (tt, h)
extend_fits name env (known f) h k = (k, h)

enter-fits : (t : Schema) (b : Binder) (o : Option Environment) → SchemaFits t → ScopeFits o → ScopeFits (enter t b o)
unfolding enter
enter-fits t b none h k = tt
enter-fits t b (some env) h k = extend_fits b.name env (collection t env b.over) k (collection-fits t env b.over h k)

environment-fits : (t : Schema) (bs : List Binder) → SchemaFits t → ScopeFits (environment t bs)
unfolding environment
environment-fits t [] h = tt
environment-fits t (b ∷ bs) h = enter-fits t b (environment t bs) h (environment-fits t bs h)

-- Texts

short-if : (n : ℕ) (b : Bool) (xs ys : Text) → length xs ≤ n → length ys ≤ n → length (cond b xs ys) ≤ n
short-if n true xs ys u w = u
short-if n false xs ys u w = w

kind-short : (kind : ℕ) → length (kind_name kind) ≤ 8
unfolding kind_name ascii
kind-short kind =
    short-if 8 (eqb kind 1) _ _ (omega arith)
    (short-if 8 (eqb kind 2) _ _ (omega arith)
    (short-if 8 (eqb kind 3) _ _ (omega arith)
    (short-if 8 (eqb kind 4) _ _ (omega arith)
    (short-if 8 (eqb kind 5) _ _ (omega arith)
    (short-if 8 (eqb kind 6) _ _ (omega arith)
    (short-if 8 (eqb kind 7) _ _ (omega arith)
    (short-if 8 (eqb kind 8) _ _ (omega arith)
    (short-if 8 (eqb kind 9) _ _ (omega arith)
    (short-if 8 (eqb kind 10) _ _ (omega arith)
    (short-if 8 (eqb kind 11) _ _ (omega arith)
    (short-if 8 (eqb kind 12) _ _ (omega arith) (omega arith))))))))))))

kind-of-short : (f : Field) → length (kind_of f) ≤ 8
unfolding kind_of
kind-of-short (field e kind is_open tag items members) = kind-short kind

what-short : (kind : ℕ) → length (what kind) ≤ 40
unfolding what ascii
what-short kind =
    short-if 40 (eqb kind 1) _ _ (omega arith)
    (short-if 40 (eqb kind 2) _ _ (omega arith)
    (short-if 40 (eqb kind 3) _ _ (omega arith)
    (short-if 40 (eqb kind 4) _ _ (omega arith)
    (short-if 40 (eqb kind 5) _ _ (omega arith)
    (short-if 40 (eqb kind 6) _ _ (omega arith)
    (short-if 40 (eqb kind 7) _ _ (omega arith) (omega arith)))))))

allowed-short : (kind : ℕ) → length (allowed kind) ≤ 200
unfolding allowed ascii
allowed-short kind =
    short-if 200 (eqb kind 1) _ _ (omega arith)
    (short-if 200 (eqb kind 2) _ _ (omega arith)
    (short-if 200 (eqb kind 3) _ _ (omega arith)
    (short-if 200 (eqb kind 4) _ _ (omega arith)
    (short-if 200 (eqb kind 5) _ _ (omega arith)
    (short-if 200 (eqb kind 6) _ _ (omega arith)
    (short-if 200 (eqb kind 7) _ _ (omega arith) (omega arith)))))))

noun-short : (n : Name) → length (noun_of n) ≤ 8
unfolding noun_of ascii
noun-short id = omega arith
noun-short entity = omega arith
noun-short version = omega arith
noun-short fields = omega arith
noun-short state = omega arith
noun-short to_state = omega arith
noun-short from_state = omega arith
noun-short args = omega arith
noun-short old_fields = omega arith

tag-short : (tag : Option Text) → OptionWithin tag → length (text_in tag) ≤ 512
unfolding text_in
tag-short none h = omega arith
tag-short (some t) h = h.short

tag-of-short : (f : Field) → FieldFits f → OptionWithin (tag_of f)
unfolding tag_of
tag-of-short (field e kind is_open tag items members) h = h.1

content-short : (tag : Option Text) → length (content_key tag) ≤ 7
unfolding content_key ascii
content-short tag = short-if 7 (is_tag tag (ascii "value")) _ _ (omega arith) (omega arith)

quotes-short : (t : Text) → length (in_quotes t) ≡ length t + 2
unfolding in_quotes ascii
quotes-short t = simp length-append (omega arith)

carries-short : (tag : Option Text) → OptionWithin tag → length (carries tag) ≤ 600
unfolding carries ascii
carries-short tag h =
    let a = tag-short tag h in
    let b = content-short tag in
    let c = quotes-short (text_in tag) in
    let d = quotes-short (content_key tag) in
    simp length-append (omega arith)

-- One sentence each

union-short : (walked s : Text) (tag : Option Text) → OptionWithin tag → length (no_union_member walked s tag) ≤ length walked + length s + 1000
unfolding no_union_member ascii
union-short walked s tag h =
    let a = quotes-short walked in
    let b = quotes-short s in
    let c = carries-short tag h in
    simp length-append (omega arith)

count-short : (walked kind : Text) → length kind ≤ 8 → length (no_count walked kind) ≤ length walked + 1000
unfolding no_count ascii
count-short walked kind h = let a = quotes-short walked in simp length-append (omega arith)

member-short : (walked kind s : Text) → length kind ≤ 8 → length (no_member walked kind s) ≤ length walked + length s + 1000
unfolding no_member ascii
member-short walked kind s h = let a = quotes-short walked in let b = quotes-short s in simp length-append (omega arith)

-- Paths: each segment with the dot in front of it

unfoldable path_size : List Text → ℕ
path_size [] = 0
path_size (s ∷ path) = length s + (1 + path_size path)

dotted-short : (path : List Text) → length (dotted_tail path) ≤ path_size path
unfolding dotted_tail path_size ascii
dotted-short [] = omega arith
dotted-short (s ∷ path) = let more = dotted-short path in simp length-append (omega arith)

path-short : (path : List Text) → length (path_text path) ≤ path_size path
unfolding path_text path_size
path-short [] = omega arith
path-short (s ∷ path) = let more = dotted-short path in simp length-append (omega arith)

unfoldable size_of : Segments → ℕ
size_of p = length p.first + path_size p.others

size-if : (n : ℕ) (b : Bool) (p q : Segments) → size_of p ≤ n → size_of q ≤ n → size_of (cond b p q) ≤ n
size-if n true p q u w = u
size-if n false p q u w = w

cut-size : (p : Segments) → size_of (cut p) ≤ 1 + size_of p
unfolding size_of cut path_size
cut-size p = omega arith

extend-size : (b : ℕ) (p : Segments) → size_of (Path.extend b p) ≤ 1 + size_of p
unfolding size_of Path.extend
extend-size b p = omega arith

empty-size : size_of (record { first = []; others = [] }) ≤ 0
unfolding size_of path_size
empty-size = omega arith

split-size : (t : Text) → size_of (split t) ≤ length t
unfolding split
split-size [] = empty-size
split-size (b ∷ t) =
    let more = split-size t in
    let c = cut-size (split t) in
    let d = extend-size b (split t) in
    size-if (length (b ∷ t)) (eqb b 46) (cut (split t)) (Path.extend b (split t)) (omega arith) (omega arith)

-- What is said along a path

abbrev Told : ℕ → Option Text → Type 0
Told n none = Unit {0}
Told n (some t) = length t ≤ n

told-if : (n : ℕ) (b : Bool) (x y : Option Text) → Told n x → Told n y → Told n (cond b x y)
told-if n true x y u w = u
told-if n false x y u w = w

told-last : (n : ℕ) (path : List Text) (told : Option Text) → Told n told → Told n (last_told path told)
unfolding last_told
told-last n [] told h = tt
told-last n (s ∷ path) told h = h

step-short : (n d : ℕ) (walked s : Text) (path : List Text) (f : Field)
    → FieldFits f
    → length walked + (length s + (1 + path_size path)) ≤ n
    → length (step_sentence d walked s path f) ≤ n + 1000
unfolding step_sentence ascii
step-short n d walked s path f fits h =
    let a = quotes-short walked in
    let b = quotes-short s in
    let c = path-short path in
    let q = quotes-short (path_text path) in
    let w = quotes-short (walked ++ (46 ∷ s)) in
    let x = length-append walked (46 ∷ s) in
    let m = n + 1000 in
    short-if m (eqb d 1) _ _ (omega arith)
    (short-if m (eqb d 3) _ _ (simp length-append (omega arith))
    (short-if m (eqb d 4) _ _ (simp length-append (omega arith))
    (short-if m (eqb d 5) _ _ (simp length-append (omega arith))
    (short-if m (eqb d 6) _ _ (simp length-append (omega arith))
    (short-if m (eqb d 7) _ _ (simp length-append (omega arith))
    (short-if m (eqb d 8) _ _ (omega (arith, union-short walked s (tag_of f) (tag-of-short f fits)))
    (short-if m (eqb d 9) _ _ (omega (arith, count-short walked (kind_of f) (kind-of-short f)))
    (omega (arith, member-short walked (kind_of f) s (kind-of-short f))))))))))

arrive-told : (n : ℕ) (walked s : Text) (path : List Text) (f : Field) (onward : Field → Option Text) (step : Step)
    → FieldFits f
    → length walked + (length s + (1 + path_size path)) ≤ n
    → ((g : Field) → FieldFits g → Told (n + 1000) (onward g))
    → StepFits step
    → Told (n + 1000) (arrive_told walked s path f onward step)
unfolding arrive_told
arrive-told n walked s path f onward (refuse d) fits h k step = step-short n d walked s path f fits h
arrive-told n walked s path f onward (leaf d) fits h k step =
    told-last (n + 1000) path (some (step_sentence d walked s path f)) (step-short n d walked s path f fits h)
arrive-told n walked s path f onward free fits h k step = tt
arrive-told n walked s path f onward (into g) fits h k step = k g step

walked-size : (n : ℕ) (walked s : Text) (path : List Text) → length walked + path_size (s ∷ path) ≤ n → length (walked ++ (ascii "." ++ s)) + path_size path ≤ n
unfolding path_size ascii
walked-size n walked s path h = simp length-append (omega arith)

path-size : (n : ℕ) (walked s : Text) (path : List Text) → length walked + path_size (s ∷ path) ≤ n → length walked + (length s + (1 + path_size path)) ≤ n
unfolding path_size
path-size n walked s path h = h

walk-told : (n : ℕ) (is_service : Bool) (walked : Text) (path : List Text) (f : Field)
    → FieldFits f
    → length walked + path_size path ≤ n
    → Told (n + 1000) (tell_walk is_service walked path f)
unfolding tell_walk
walk-told n is_service walked [] f fits h = tt
walk-told n is_service walked (s ∷ path) f fits h =
    arrive-told n walked s path f (λ g. tell_walk is_service (walked ++ (ascii "." ++ s)) path g) (walk_step kernel is_service f s) fits (path-size n walked s path h)
    (λ g k. walk-told n is_service (walked ++ (ascii "." ++ s)) path g k (walked-size n walked s path h))
    (walk-fits kernel is_service f s fits)

-- References

told_more : (n m : ℕ) (o : Option Text) → n ≤ m → Told n o → Told m o
told_more n m none l h = tt
told_more n m (some t) l h = omega arith

told_text : (n : ℕ) (o : Option Text) → Told n o → length (get_or o []) ≤ n
told_text n none h = omega arith
told_text n (some t) h = h

unknown-short : (noun s : Text) → length noun ≤ 8 → length (unknown_root noun s) ≤ length s + 100
unfolding unknown_root ascii
unknown-short noun s h = let a = quotes-short s in simp length-append (omega arith)

root-told : (n : ℕ) (is_service : Bool) (noun s : Text) (path : List Text) (step : Step)
    → length noun ≤ 8
    → length s + path_size path ≤ n
    → StepFits step
    → Told (n + 1000) (root_told is_service noun s path step)
unfolding root_told
root-told n is_service noun s path (refuse d) u h fits = omega (arith, unknown-short noun s u)
root-told n is_service noun s path (leaf d) u h fits = tt
root-told n is_service noun s path free u h fits = tt
root-told n is_service noun s path (into g) u h fits = walk-told n is_service s path g fits h

path-told : (n : ℕ) (is_service : Bool) (noun : Text) (x : Holder) (s : Text) (path : List Text)
    → length noun ≤ 8
    → MembersFit x.members
    → length s + path_size path ≤ n
    → Told (n + 1000) (tell_path is_service noun x s path)
unfolding tell_path ascii
path-told n is_service noun x s path u fits h =
    told-if (n + 1000) (is_empty s) _ _ (omega arith)
    (root-told n is_service noun s path (member_step (lookup s x.members) x.is_open 2) u h
    (member-fits (lookup s x.members) x.is_open 2 (lookup-fits s x.members fits)))

module _ (kind : ℕ) (expression : Text) (short : length expression ≤ 513) where
  unresolved-short : (detail : Text) → length (unresolved kind expression detail) ≤ length detail + 600
  unfolding unresolved ascii
  unresolved-short detail = let a = quotes-short expression in simp length-append (omega arith)

  may-read-short : length (may_read kind expression) ≤ 300
  unfolding may_read ascii
  may-read-short = let a = what-short kind in let b = allowed-short kind in simp length-append (omega arith)

  not-available-short : length (not_available kind expression) ≤ 2200
  unfolding not_available ascii
  not-available-short = let a = quotes-short expression in let b = may-read-short in simp length-append (omega arith)

  no-reference-short : length (no_reference kind expression) ≤ 2200
  unfolding no_reference ascii
  no-reference-short = let a = quotes-short expression in let b = may-read-short in simp length-append (omega arith)

  told-unresolved : (o : Option Text) → Told 1600 o → Told 2200 (Option.map (unresolved kind expression) o)
  told-unresolved none h = tt
  told-unresolved (some t) h = omega (arith, unresolved-short t)

  of-root-told : (setting : Setting) (n : Name) (r : Root) (s : Text) (path : List Text)
      → RootFits r
      → length s + path_size path ≤ 600
      → Told 2200 (tell_root kind expression setting n r s path)
  unfolding tell_root
  of-root-told setting n no_root s path fits h = no-reference-short
  of-root-told setting n missing s path fits h = not-available-short
  of-root-told setting n (root at x) s path fits h =
      told-if 2200 (setting.may_read n) _ _
      (told-unresolved (tell_path setting.is_service (noun_of n) x s path) (path-told 600 setting.is_service (noun_of n) x s path (noun-short n) fits h))
      not-available-short

  name-told : (setting : Setting) (t : Schema) (n : Option Name) (path : List Text)
      → SchemaFits t
      → path_size path ≤ 600
      → Told 2200 (tell_name kind expression setting t n path)
  unfolding tell_name path_size
  name-told setting t none path fits h = no-reference-short
  name-told setting t (some n) [] fits h = told-if 2200 (setting.may_read n) none _ tt no-reference-short
  name-told setting t (some n) (s ∷ path) fits h = of-root-told setting n (root_of t n) s path (root-fits t n fits) (omega arith)

  element-told : (is_service : Bool) (name : Text) (o : Option Field) (path : List Text)
      → MayFit o
      → length name + path_size path ≤ 512
      → Told 2200 (tell_element kind expression is_service name o path)
  unfolding tell_element ascii
  element-told is_service name none path fits h = tt
  element-told is_service name (some f) path fits h =
      told-unresolved (tell_walk is_service (36 ∷ name) path f) (walk-told 600 is_service (36 ∷ name) path f fits (omega arith))

  bound-told : (setting : Setting) (t : Schema) (p : Segments) (o : Option (Option Field))
      → SchemaFits t
      → BoundFits o
      → length p.first + path_size p.others ≤ 512
      → Told 2200 (tell_bound kind expression setting t p o)
  unfolding tell_bound
  bound-told setting t p none fits k h = name-told setting t (name_of p.first) p.others fits (omega arith)
  bound-told setting t p (some x) fits k h = element-told setting.is_service p.first x p.others k h

size_is : (p : Segments) (n : ℕ) → size_of p ≤ n → length p.first + path_size p.others ≤ n
unfolding size_of
size_is p n h = h

dollar-short : (t : Text) → length t ≤ 512 → length (ascii "$" ++ t) ≤ 513
unfolding ascii
dollar-short t h = omega arith

reference-told : (kind : ℕ) (setting : Setting) (t : Schema) (env : Environment) (x : Text)
    → SchemaFits t
    → AllFit env
    → length x ≤ 512
    → Told 2200 (tell_reference kind setting t env x)
unfolding tell_reference
reference-told kind setting t env x fits k h =
    bound-told kind (ascii "$" ++ x) (dollar-short x h) setting t (split x) (bound (split x).first env) fits (bound-fits (split x).first env k)
    (size_is (split x) 512 (omega (arith, split-size x)))

-- Collections

memberless-short : (kind s : Text) → length kind ≤ 8 → length (memberless kind s) ≤ length s + 100
unfolding memberless ascii
memberless-short kind s h = let a = quotes-short s in simp length-append (omega arith)

field-short : (d : ℕ) (s : Text) (f : Field) → length (field_sentence d s f) ≤ length s + 100
unfolding field_sentence ascii
field-short d s f =
    let a = quotes-short s in
    short-if (length s + 100) (eqb d 2) _ _ (omega arith) (memberless-short (kind_of f) s (kind-of-short f))

no-collection-short : (f : Field) → length (no_collection f) ≤ 100
unfolding no_collection ascii
no-collection-short f = let a = kind-of-short f in simp length-append (omega arith)

last-told : (f : Field) → Told 100 (tell_last f)
unfolding tell_last
last-told (field e kind is_open tag items members) =
    told-if 100 (eqb kind 6 || eqb kind 10) none _ tt (no-collection-short (field e kind is_open tag items members))

step-told : (n : ℕ) (s : Text) (path : List Text) (f : Field) (onward : Field → Option Text) (step : Step)
    → length s ≤ n
    → ((g : Field) → Told (n + 100) (onward g))
    → Told (n + 100) (field_told s path f onward step)
unfolding field_told
step-told n s path f onward (refuse d) h k = omega (arith, field-short d s f)
step-told n s path f onward (leaf d) h k = told-last (n + 100) path (some (field_sentence d s f)) (omega (arith, field-short d s f))
step-told n s path f onward free h k = tt
step-told n s path f onward (into g) h k = k g

field-told : (n : ℕ) (path : List Text) (f : Field) → path_size path ≤ n → Told (n + 100) (tell_field path f)
unfolding tell_field path_size
field-told n [] f h = told_more 100 (n + 100) (tell_last f) (omega arith) (last-told f)
field-told n (s ∷ path) f h =
    step-told n s path f (λ g. tell_field path g) (field_step f s) (omega arith) (λ g. field-told n path g (omega arith))

module _ (expression : Text) (short : length expression ≤ 512) where
  no-name-short : length (no_name expression) ≤ 700
  unfolding no_name ascii
  no-name-short = let a = quotes-short expression in simp length-append (omega arith)

  nothing-short : length (in_quotes expression ++ ascii " names nothing the schema declares") ≤ 700
  unfolding ascii
  nothing-short = let a = quotes-short expression in simp length-append (omega arith)

  missing-short : length (in_quotes expression ++ ascii " is not available here") ≤ 700
  unfolding ascii
  missing-short = let a = quotes-short expression in simp length-append (omega arith)

  collection-root-told : (path : List Text) (step : Step) → path_size path ≤ 512 → Told 700 (collection_root_told expression path step)
  unfolding collection_root_told
  collection-root-told path (refuse d) h = nothing-short
  collection-root-told path (leaf d) h = tt
  collection-root-told path free h = tt
  collection-root-told path (into g) h = field-told 600 path g (omega arith)

  collection-in-told : (r : Root) (s : Text) (path : List Text) → path_size path ≤ 512 → Told 700 (tell_collection_in expression r s path)
  unfolding tell_collection_in
  collection-in-told no_root s path h = no-name-short
  collection-in-told missing s path h = missing-short
  collection-in-told (root at x) s path h = collection-root-told path (member_step (lookup s x.members) x.is_open 7) h

  collection-named-told : (t : Schema) (n : Option Name) (path : List Text) → path_size path ≤ 512 → Told 700 (tell_collection_named expression t n path)
  unfolding tell_collection_named path_size
  collection-named-told t none path h = no-name-short
  collection-named-told t (some n) [] h = no-name-short
  collection-named-told t (some n) (s ∷ path) h = collection-in-told (root_of t n) s path (omega arith)

  collection-element-told : (o : Option Field) (path : List Text) → path_size path ≤ 512 → Told 700 (tell_collection_element expression o path)
  unfolding tell_collection_element
  collection-element-told none path h = tt
  collection-element-told (some f) [] h = tt
  collection-element-told (some f) (s ∷ path) h = field-told 600 (s ∷ path) f (omega arith)

  collection-bound-told : (t : Schema) (is_reference : Bool) (p : Segments) (o : Option (Option Field))
      → path_size p.others ≤ 512
      → Told 700 (tell_collection_bound expression t is_reference p o)
  unfolding tell_collection_bound
  collection-bound-told t is_reference p (some f) h = collection-element-told f p.others h
  collection-bound-told t true p none h = collection-named-told t (name_of p.first) p.others h
  collection-bound-told t false p none h = no-name-short

behind-short : (t : Text) → length (behind_first t) ≤ length t
unfolding behind_first
behind-short [] = omega arith
behind-short (b ∷ t) = short-if (length (b ∷ t)) (ltb b 128) t [] (omega arith) (omega arith)

others-size : (t : Text) → path_size (split t).others ≤ length t
others-size t = let a = size_is (split t) (length t) (split-size t) in omega arith

-- a value whose text, if it is one, is short
abbrev OverFits : Value → Type 0
OverFits (constant e type) = Unit {0}
OverFits (number e digits) = Unit {0}
OverFits (string e t) = length t ≤ 512
OverFits (array e values) = Unit {0}
OverFits (object e pairs) = Unit {0}

collection-told : (t : Schema) (env : Environment) (v : Value) → OverFits v → Told 700 (tell_collection t env v)
unfolding tell_collection tell_collection_text ascii
collection-told t env (constant e type) h = omega arith
collection-told t env (number e digits) h = omega arith
collection-told t env (string e x) h =
    collection-bound-told x h t (begins_with_dollar x) (split (behind_first x)) (bound (split (behind_first x)).first env)
    (omega (arith, others-size (behind_first x), behind-short x))
collection-told t env (array e values) h = omega arith
collection-told t env (object e pairs) h = omega arith

-- Values of a rule, by the bytes of their entries

abbrev Written : ℕ → Option Value → Type 0
Written n none = Unit {0}
Written n (some v) = length (write_value v) ≤ n

written-here : (n : ℕ) (b : Bool) (v : Value) (o : Option Value) → length (write_value v) ≤ n → Written n o → Written n (here_else b v o)
unfolding here_else
written-here n true v o u w = u
written-here n false v o u w = w

written-or : (n : ℕ) (x y : Option Value) → Written n x → Written n y → Written n (or_else x y)
unfolding or_else
written-or n none y u w = w
written-or n (some v) y u w = u

written-more : (n m : ℕ) (o : Option Value) → n ≤ m → Written n o → Written m o
written-more n m none l h = tt
written-more n m (some v) l h = omega arith

-- the bytes of what stands behind a head
behind-head : (xs ys : Text) → length ys ≤ length (xs ++ ys)
behind-head xs ys = omega (arith, length-append xs ys)

before-rest : (xs ys : Text) → length xs ≤ length (xs ++ ys)
before-rest xs ys = omega (arith, length-append xs ys)

mutual
  unfolding value_in write_value

  value_written : (p : ℕ) (v : Value) → Written (length (write_value v)) (value_in p v)
  value_written p (constant e type) = written-here (length (write_value (constant e type))) (eqb e p) (constant e type) none (omega arith) tt
  value_written p (number e digits) = written-here (length (write_value (number e digits))) (eqb e p) (number e digits) none (omega arith) tt
  value_written p (string e t) = written-here (length (write_value (string e t))) (eqb e p) (string e t) none (omega arith) tt
  value_written p (array e vs) =
      written-here (length (write_value (array e vs))) (eqb e p) (array e vs) (value_in_values p vs) (omega arith)
      (written-more (length (write_values vs)) (length (write_value (array e vs))) (value_in_values p vs) (behind-head (write_value_head (array_head (count_of_values vs))) (write_values vs)) (values-written p vs))
  value_written p (object e ps) =
      written-here (length (write_value (object e ps))) (eqb e p) (object e ps) (value_in_pairs p ps) (omega arith)
      (written-more (length (write_pairs ps)) (length (write_value (object e ps))) (value_in_pairs p ps) (behind-head (write_value_head (object_head (count_of_pairs ps))) (write_pairs ps)) (pairs-written p ps))

  values-written : (p : ℕ) (vs : Values) → Written (length (write_values vs)) (value_in_values p vs)
  values-written p no_values = tt
  values-written p (value v others) =
      let n = length (write_value v ++ write_values others) in
      written-or n (value_in p v) (value_in_values p others)
      (written-more (length (write_value v)) n (value_in p v) (before-rest (write_value v) (write_values others)) (value_written p v))
      (written-more (length (write_values others)) n (value_in_values p others) (behind-head (write_value v) (write_values others)) (values-written p others))

  pairs-written : (p : ℕ) (ps : Pairs) → Written (length (write_pairs ps)) (value_in_pairs p ps)
  pairs-written p no_pairs = tt
  pairs-written p (pair key v others) =
      let n = length (write_pairs (pair key v others)) in
      let whole : length (write_value v ++ write_pairs others) ≤ n = behind-head (write_key_head key) (write_value v ++ write_pairs others) in
      let a = before-rest (write_value v) (write_pairs others) in
      let b = behind-head (write_value v) (write_pairs others) in
      written-or n (value_in p v) (value_in_pairs p others)
      (written-more (length (write_value v)) n (value_in p v) (omega arith) (value_written p v))
      (written-more (length (write_pairs others)) n (value_in_pairs p others) (omega arith) (pairs-written p others))

-- two operands behind a head
both-written : (p : ℕ) (head : Text) (left right : Value) → Written (length (head ++ (write_value left ++ write_value right))) (or_else (value_in p left) (value_in p right))
both-written p head left right =
    let n = length (head ++ (write_value left ++ write_value right)) in
    let whole : length (write_value left ++ write_value right) ≤ n = behind-head head (write_value left ++ write_value right) in
    let a = before-rest (write_value left) (write_value right) in
    let b = behind-head (write_value left) (write_value right) in
    written-or n (value_in p left) (value_in p right)
    (written-more (length (write_value left)) n (value_in p left) (omega arith) (value_written p left))
    (written-more (length (write_value right)) n (value_in p right) (omega arith) (value_written p right))

mutual
  unfolding value_in_condition write_condition

  condition-written : (p : ℕ) (c : Condition) → Written (length (write_condition c)) (value_in_condition p c)
  condition-written p (literal e truth) = tt
  condition-written p (many e op children) =
      written-more (length (write_conditions children)) (length (write_condition (many e op children))) (value_in_conditions p children)
      (behind-head (write_condition_head (many_head op (count_of_conditions children))) (write_conditions children)) (conditions-written p children)
  condition-written p (negation e child) =
      written-more (length (write_condition child)) (length (write_condition (negation e child))) (value_in_condition p child)
      (behind-head (write_condition_head negation_head) (write_condition child)) (condition-written p child)
  condition-written p (one e op v) =
      written-more (length (write_value v)) (length (write_condition (one e op v))) (value_in p v) (behind-head (write_condition_head (one_head op)) (write_value v)) (value_written p v)
  condition-written p (two e op left right) = both-written p (write_condition_head (two_head op)) left right
  condition-written p (comparison e which left right) = both-written p (write_condition_head (comparison_head which)) left right
  condition-written p (quantifier e op bind over that) =
      let n = length (write_condition (quantifier e op bind over that)) in
      let whole : length (write_value over ++ write_condition that) ≤ n = behind-head (write_condition_head (quantifier_head op bind)) (write_value over ++ write_condition that) in
      let a = before-rest (write_value over) (write_condition that) in
      let b = behind-head (write_value over) (write_condition that) in
      written-or n (value_in p over) (value_in_condition p that)
      (written-more (length (write_value over)) n (value_in p over) (omega arith) (value_written p over))
      (written-more (length (write_condition that)) n (value_in_condition p that) (omega arith) (condition-written p that))

  conditions-written : (p : ℕ) (cs : Conditions) → Written (length (write_conditions cs)) (value_in_conditions p cs)
  conditions-written p no_conditions = tt
  conditions-written p (condition c others) =
      let n = length (write_condition c ++ write_conditions others) in
      written-or n (value_in_condition p c) (value_in_conditions p others)
      (written-more (length (write_condition c)) n (value_in_condition p c) (before-rest (write_condition c) (write_conditions others)) (condition-written p c))
      (written-more (length (write_conditions others)) n (value_in_conditions p others) (behind-head (write_condition c) (write_conditions others)) (conditions-written p others))

rule-written : (p : ℕ) (r : Rule) → Written (length (write_rule r)) (value_at p r)
unfolding value_at write_rule
rule-written p (rule name message assert) =
    written-more (length (write_condition assert)) (length (write_rule (rule name message assert))) (value_in_condition p assert)
    (behind-head (write_rule_head (Entries.rule name message)) (write_condition assert)) (condition-written p assert)
rule-written p (template v) =
    written-more (length (write_value v)) (length (write_rule (template v))) (value_in p v) (behind-head (write_rule_head Entries.template) (write_value v)) (value_written p v)

-- Numerals, operators and binds

decimal-in-short : (turns n : ℕ) (behind : List ℕ) → length (decimal_in turns n behind) ≤ turns + length behind
unfolding decimal_in
decimal-in-short zero n behind = omega arith
decimal-in-short (suc turns) n behind =
    let more = decimal-in-short turns (n / 10) ((48 + n % 10) ∷ behind) in
    short-if (suc turns + length behind) (ltb n 10) ((48 + n) ∷ behind) (decimal_in turns (n / 10) ((48 + n % 10) ∷ behind)) (omega arith) (omega arith)

decimal-short : (n : ℕ) → length (decimal_of n) ≤ n + 1
unfolding decimal_of
decimal-short n = let a = decimal-in-short (suc n) n [] in omega arith

mutual
  unfolding depth condition_nesting

  depth-nests : (c : Condition) → depth c ≤ condition_nesting c
  depth-nests (literal e truth) = omega arith
  depth-nests (many e op children) = omega (arith, depths-nest children)
  depth-nests (negation e child) = omega (arith, depth-nests child)
  depth-nests (one e op v) = omega arith
  depth-nests (two e op left right) = omega arith
  depth-nests (comparison e which left right) = omega arith
  depth-nests (quantifier e op bind over that) = omega (arith, depth-nests that)

  depths-nest : (cs : Conditions) → depth_of_conditions cs ≤ conditions_nesting cs
  depths-nest no_conditions = omega arith
  depths-nest (condition c others) = omega (arith, depth-nests c, depths-nest others)

depth-short : (r : Rule) → RuleFits r → length (decimal_of (depth_in r)) ≤ 300
unfolding depth_in
depth-short (rule name message assert) h = omega (arith, decimal-short (depth assert), depth-nests assert, h.2)
depth-short (template v) h = omega (arith, decimal-short 0)

abbrev NamesShort : List Operator → Type 0
NamesShort [] = Unit {0}
NamesShort (r ∷ rows) = (length r.name ≤ 20) × NamesShort rows

name-if : (b : Bool) (x y : Operator) → length x.name ≤ 20 → length y.name ≤ 20 → length (cond b x y).name ≤ 20
name-if true x y u w = u
name-if false x y u w = w

row-short : (last : Operator) (rows : List Operator) (op : ℕ) → length last.name ≤ 20 → NamesShort rows → length (row_in last rows op).name ≤ 20
unfolding row_in
row-short last [] op h k = h
row-short last (r ∷ rows) op h k = name-if (leb op r.number) r (row_in r rows op) k.0 (row-short r rows op k.0 k.1)

operator-short : (op : ℕ) → length (operator_name op) ≤ 20
unfolding operator_name operators first_operator
operator-short op = row-short first_operator operators op (omega arith) (omega arith, (omega arith, (omega arith, (omega arith, (omega arith, (omega arith, (omega arith, (omega arith, (omega arith, (omega arith, (omega arith, (omega arith, (omega arith, (omega arith, (omega arith, (omega arith, (omega arith, (omega arith, (omega arith, (omega arith, (omega arith, tt)))))))))))))))))))))

abbrev HeadShort : Option Head → Type 0
HeadShort none = Unit {0}
HeadShort (some h) = length h.bind ≤ 512

head-here : (b : Bool) (h : Head) (o : Option Head) → length h.bind ≤ 512 → HeadShort o → HeadShort (here_else b h o)
unfolding here_else
head-here true h o u w = u
head-here false h o u w = w

head-or : (x y : Option Head) → HeadShort x → HeadShort y → HeadShort (or_else x y)
unfolding or_else
head-or none y u w = w
head-or (some h) y u w = u

mutual
  unfolding head_in

  head-short : (p : ℕ) (c : Condition) → ConditionFits c → HeadShort (head_in p c)
  head-short p (literal e truth) h = head-here (eqb e p) (head 1 []) none (omega arith) tt
  head-short p (many e op children) h = head-here (eqb e p) (head op []) (head_in_conditions p children) (omega arith) (heads-short p children h.1)
  head-short p (negation e child) h = head-here (eqb e p) (head 4 []) (head_in p child) (omega arith) (head-short p child h)
  head-short p (one e op v) h = head-here (eqb e p) (head op []) none (omega arith) tt
  head-short p (two e op left right) h = head-here (eqb e p) (head op []) none (omega arith) tt
  head-short p (comparison e which left right) h = head-here (eqb e p) (head 18 []) none (omega arith) tt
  head-short p (quantifier e op bind over that) h = head-here (eqb e p) (head op bind) (head_in p that) h.1.short (head-short p that h.3)

  heads-short : (p : ℕ) (cs : Conditions) → ConditionsFit cs → HeadShort (head_in_conditions p cs)
  heads-short p no_conditions h = tt
  heads-short p (condition c others) h = head-or (head_in p c) (head_in_conditions p others) (head-short p c h.0) (heads-short p others h.1)

head-of-short : (r : Rule) (p : ℕ) → RuleFits r → HeadShort (head_of r p)
unfolding head_of
head-of-short (rule name message assert) p h = head-short p assert h.3
head-of-short (template v) p h = tt

head-got : (o : Option Head) → HeadShort o → length (get_or o (head 0 [])).bind ≤ 512
head-got none h = omega arith
head-got (some x) h = h

head-at-short : (p : ℕ) (r : Rule) → RuleFits r → length (head_at p r).bind ≤ 512
unfolding head_at
head-at-short p r h = head-got (head_of r p) (head-of-short r p h)

-- Sentences of checks that no schema answers

json-at-short : (o : Option Value) → Written 30000 o → length (json_at o) ≤ 180000
unfolding json_at
json-at-short none h = omega arith
json-at-short (some v) h = omega (arith, json-short v)

text-written : (e : ℕ) (t : Text) → length t ≤ length (write_value (string e t))
unfolding write_value write_value_head write_type write_last write_end ascii
text-written e t = simp length-append (omega arith)

unescaped-short : (o : Option Value) → Written 30000 o → length (unescaped_at o) ≤ 30000
unfolding unescaped_at
unescaped-short none h = omega arith
unescaped-short (some (constant e type)) h = omega arith
unescaped-short (some (number e digits)) h = omega arith
unescaped-short (some (string e t)) h = omega (arith, length-drop 1 t, text-written e t)
unescaped-short (some (array e values)) h = omega arith
unescaped-short (some (object e pairs)) h = omega arith

forms-short : length instant_forms ≤ 1000
unfolding instant_forms ascii
forms-short = omega arith

instant-short : (d : ℕ) (o : Option Value) → Written 30000 o → length (instant_sentence d o) ≤ 300000
unfolding instant_sentence ascii
instant-short d o h =
    let a = json-at-short o h in
    let b = unescaped-short o h in
    let c = quotes-short (unescaped_at o) in
    let f = forms-short in
    short-if 300000 (eqb d 1) _ _ (simp length-append (omega arith)) (simp length-append (omega arith))

literal-short : (o : Option Value) → Written 30000 o → length (literal_sentence o) ≤ 300000
unfolding literal_sentence ascii
literal-short o h = let a = json-at-short o h in simp length-append (omega arith)

affix-short : (o : Option Value) → Written 30000 o → length (affix_sentence o) ≤ 300000
unfolding affix_sentence ascii
affix-short o h = let a = json-at-short o h in simp length-append (omega arith)

empty-short : (op : ℕ) → length (empty_sentence op) ≤ 100
unfolding empty_sentence ascii
empty-short op = let a = operator-short op in let b = quotes-short (operator_name op) in simp length-append (omega arith)

value-short : (n d : ℕ) (o : Option Value) → Written 30000 o → length (value_sentence n d o) ≤ 300000
unfolding value_sentence
value-short n d o h =
    short-if 300000 (eqb n 14) _ _ (literal-short o h) (short-if 300000 (eqb n 19) _ _ (affix-short o h) (instant-short d o h))

head-sentence-short : (n : ℕ) (h : Head) → length h.bind ≤ 512 → length (head_sentence n h) ≤ 600
unfolding head_sentence
head-sentence-short n h l =
    short-if 600 (eqb n 15) _ _ (omega (arith, operator-short h.op))
    (short-if 600 (eqb n 16) _ _ (omega (arith, empty-short h.op)) (omega arith))

settled-short : (r : Rule) (n d p : ℕ) → RuleWithin r → length (settled_sentence r n d p) ≤ 300000
unfolding settled_sentence ascii
settled-short r n d p w =
    let m : ℕ = 300000 in
    short-if m (eqb n 11) _ _ (omega arith)
    (short-if m (eqb n 12) _ _ (omega arith)
    (short-if m (eqb n 13) _ _ (omega (arith, depth-short r w.fits))
    (short-if m (eqb n 17) _ _ (short-if m (eqb d 1) _ _ (omega arith) (omega arith))
    (short-if m (names_value n) _ _
    (value-short n d (value_at p r) (written-more (length (write_rule r)) 30000 (value_at p r) w.bytes (rule-written p r)))
    (omega (arith, head-sentence-short n (head_at p r) (head-at-short p r w.fits)))))))

-- Questions: a text that is asked for is one of the rule's

abbrev QuestionFits : Question → Type 0
QuestionFits (settled o) = Unit {0}
QuestionFits (readable t) = length t ≤ 512
QuestionFits (walkable v) = OverFits v

record AskFits (c : Check) : Type 0 where
  asked : QuestionFits c.question

asks : (n p : ℕ) (bs : List Binder) (q : Question) → QuestionFits q → AskFits (check n p bs q)
unfolding check
asks n p bs q h = record { asked = h }

fails-fits : (b : Bool) (d : ℕ) → QuestionFits (fails_if b d)
unfolding fails_if
fails-fits true d = tt
fails-fits false d = tt

question-if : (b : Bool) (x y : Question) → QuestionFits x → QuestionFits y → QuestionFits (cond b x y)
question-if true x y u w = u
question-if false x y u w = w

instant-fits : (v : Value) → QuestionFits (instant_form v)
unfolding instant_form instant_text
instant-fits (constant e type) = tt
instant-fits (number e digits) = tt
instant-fits (string e t) = question-if (begins_with_dollar t) _ _ (fails-fits _ 1) (fails-fits _ 2)
instant-fits (array e values) = tt
instant-fits (object e pairs) = tt

reference-text : (t : Text) → length t ≤ 512 → Told 512 (reference_text t)
unfolding reference_text
reference-text [] h = tt
reference-text (a ∷ t) h = told-if 512 (begins_with_dollar (a ∷ t) && not (begins_with_dollar t)) (some t) none (omega arith) tt

over-fits : (v : Value) → ValueFits v → OverFits v
over-fits (constant e type) h = tt
over-fits (number e digits) h = tt
over-fits (string e t) h = h.short
over-fits (array e values) h = tt
over-fits (object e pairs) h = tt

module _ (bs : List Binder) where
  reference-asks : (e : ℕ) (o : Option Text) → Told 512 o → Every AskFits (reference_check bs e o)
  unfolding reference_check
  reference-asks e none h = tt
  reference-asks e (some t) h = (asks 18 e bs (readable t) h, tt)

  mutual
    unfolding references

    value-asks : (v : Value) → ValueFits v → Every AskFits (references bs v)
    value-asks (constant e type) h = tt
    value-asks (number e digits) h = tt
    value-asks (string e t) h = reference-asks e (reference_text t) (reference-text t h.short)
    value-asks (array e values) h = values-ask values h
    value-asks (object e pairs) h = pairs-ask pairs h.1

    values-ask : (vs : Values) → ValuesFit vs → Every AskFits (references_of_values bs vs)
    values-ask no_values h = tt
    values-ask (value v others) h = every_append AskFits (references bs v) (references_of_values bs others) (value-asks v h.0) (values-ask others h.1)

    pairs-ask : (ps : Pairs) → PairsFit ps → Every AskFits (references_of_pairs bs ps)
    pairs-ask no_pairs h = tt
    pairs-ask (pair key v others) h = every_append AskFits (references bs v) (references_of_pairs bs others) (value-asks v h.1) (pairs-ask others h.2)

  operand-asks : (op : ℕ) (v : Value) → ValueFits v → Every AskFits (operand op bs v)
  unfolding operand instant_operand affix_operand
  operand-asks op v h =
      every-if AskFits (is_instant_test op) (instant_operand bs v) _
      (every_append AskFits (references bs v) _ (value-asks v h) (asks 20 (entry_of v) bs (instant_form v) (instant-fits v), tt))
      (every-if AskFits (is_affix op) (affix_operand bs v) _
      (every_append AskFits (references bs v) _ (value-asks v h) (asks 19 (entry_of v) bs (fails_if (not (is_string v)) 0) (fails-fits (not (is_string v)) 0), tt))
      (value-asks v h))

  side-asks : (d : ℕ) (v : Value) → ValueFits v → Every AskFits (compare_side bs d v)
  unfolding compare_side
  side-asks d v h = (asks 17 (entry_of v) bs (fails_if (is_holder v) d) (fails-fits (is_holder v) d), value-asks v h)

module _ (setting : Setting) where
  operator-asks : (bs : List Binder) (e op : ℕ) → AskFits (operator_check setting bs e op)
  unfolding operator_check
  operator-asks bs e op = asks 15 e bs _ (fails-fits _ 0)

  mutual
    unfolding body bodies

    body-asks : (bs : List Binder) (c : Condition) → ConditionFits c → Every AskFits (body setting bs c)
    body-asks bs (literal e truth) h = (operator-asks bs e 1, tt)
    body-asks bs (many e op children) h = (operator-asks bs e op, (asks 16 e bs _ (fails-fits _ 0), bodies-ask bs children h.1))
    body-asks bs (negation e child) h = (operator-asks bs e 4, body-asks bs child h)
    body-asks bs (one e op v) h = (operator-asks bs e op, value-asks bs v h.1.fits)
    body-asks bs (two e op left right) h = (
      operator-asks bs e op,
      every_append AskFits (operand op bs left) (operand op bs right) (operand-asks bs op left h.1.fits) (operand-asks bs op right h.2.fits),
    )
    body-asks bs (comparison e which left right) h = (
      operator-asks bs e 18,
      every_append AskFits (compare_side bs 1 left) (compare_side bs 2 right) (side-asks bs 1 left h.1.fits) (side-asks bs 2 right h.2.fits),
    )
    body-asks bs (quantifier e op bind over that) h = (
      operator-asks bs e op,
      (
        asks 21 e bs _ (fails-fits _ 0),
        every_append AskFits (references bs over) _ (value-asks bs over h.2.fits)
            (asks 22 e bs (walkable over) (over-fits over h.2.fits), body-asks (record { name = bind; over = over } ∷ bs) that h.3),
      ),
    )

    bodies-ask : (bs : List Binder) (cs : Conditions) → ConditionsFit cs → Every AskFits (bodies setting bs cs)
    bodies-ask bs no_conditions h = tt
    bodies-ask bs (condition c others) h = every_append AskFits (body setting bs c) (bodies setting bs others) (body-asks bs c h.0) (bodies-ask bs others h.1)

  literals-ask : (ls : List Literal) → Every AskFits (map literal_check ls)
  unfolding literal_check
  literals-ask [] = tt
  literals-ask (l ∷ ls) = (asks 14 l.entry [] _ (fails-fits _ 0), literals-ask ls)

  checks-ask : (r : Rule) → RuleFits r → Every AskFits (checks setting r)
  unfolding checks literal_checks
  checks-ask (rule name message assert) h = (
    asks 11 1 [] _ (fails-fits _ 0),
    (
      asks 12 1 [] _ (fails-fits _ 0),
      (
        asks 13 2 [] _ (fails-fits _ 0),
        every_append AskFits (literal_checks setting assert) (body setting [] assert)
            (every-if AskFits setting.is_service (map literal_check (literals assert)) [] (literals-ask (literals assert)) tt)
            (body-asks [] assert h.3),
      ),
    ),
  )
  checks-ask (template v) h = value-asks [] v h.fits

-- The whole message

asked-short : (kind : ℕ) (setting : Setting) (t : Schema) (r : Rule) (c : Check) (d : ℕ) (q : Question) (env : Environment)
    → SchemaFits t
    → RuleWithin r
    → QuestionFits q
    → AllFit env
    → length (asked_sentence kind setting t r c d q env) ≤ 300000
unfolding asked_sentence
asked-short kind setting t r c d (settled o) env s w h k = settled-short r c.number d c.place w
asked-short kind setting t r c d (readable x) env s w h k =
    omega (arith, told_text 2200 (tell_reference kind setting t env x) (reference-told kind setting t env x s k h))
asked-short kind setting t r c d (walkable v) env s w h k =
    omega (arith, told_text 700 (tell_collection t env v) (collection-told t env v h))

under-short : (kind : ℕ) (setting : Setting) (t : Schema) (r : Rule) (c : Check) (d : ℕ) (o : Option Environment)
    → SchemaFits t
    → RuleWithin r
    → AskFits c
    → ScopeFits o
    → length (sentence_under kind setting t r c d o) ≤ 300000
unfolding sentence_under
under-short kind setting t r c d none s w h k = omega arith
under-short kind setting t r c d (some env) s w h k = asked-short kind setting t r c d c.question env s w h.asked k

failed-asks : (v : Verdict) (passed : ℕ) (c : Check) (why : Failure) → VerdictIs AskFits v → v ≡ fails_at passed c why → AskFits c
failed-asks v passed c why h e = let k : VerdictIs AskFits (fails_at passed c why) = rw e at h in k

pub message-short : (kind : ℕ) (setting : Setting) (t : Schema) (r : Rule) (passed : ℕ) (c : Check) (why : Failure)
    → setting.reader ≡ kernel
    → SchemaWithin t
    → RuleWithin r
    → judge setting t (checks setting r) ≡ fails_at passed c why
    → length (message_of kind setting t r (fails_at passed c why)) < 4294967296
unfolding message_of
message-short kind setting t r passed c why k s w e =
    let asking = every-judged AskFits setting t (checks setting r) (checks-ask setting r w.fits) in
    let fits = failed-asks (judge setting t (checks setting r)) passed c why asking e in
    let short = under-short kind setting t r c why.detail (environment t c.binders) s.fits w fits (environment-fits t c.binders s.fits) in
    omega arith
