-- Reading a rule in its shape is reading JSON, and then the shape.
use Rattle.std.specs.Prelude.{ℕ, suc, Bool, true, false, cond, List, [], ◌∷◌, ◌≡◌, refl}
use Rattle.std.proofs.Math.Option.{Option, none, some, bind, map}
use Rattle.std.proofs.Common.{sym, ap, ◌∙◌}
use Rattle.text.specs.Ascii.{ascii}
use Rattle.text.specs.ByteReaders.{byte}
use Rattle.text.specs.Order.{same_bytes, none_twice}
use Rattle.text.specs.Reader.{Reader, ◌>>=◌, ◌>>◌, and_then, pure, refuse}
use Rattle.json_text.specs.Distinct.{keys_of}
use Rattle.json_text.specs.Json.{Text, Json, object, Members, no_members, member}
use Rattle.json_text.specs.Grammar.{unspaced, spaces, members, value, max_depth, at_end, document}
use Rattle.json_text.specs.Shaped.{shaped}
use Rattle.json_text.proofs.ShapedMembers.{all_members, members_as, members-as}
use Rattle.definition.specs.Tree.{Condition, Rule}
use Rattle.json_rule.specs.Shape.{condition_of, RulePart, asserts, names, says, optional_of, rule_part, rule_parts, rule_from, rule_of}
use Rattle.json_rule.specs.Streamed.{asked, streamed}
use Rattle.json_rule.proofs.StreamedLaws.{shaped-asked, shaped-same, shaped-never, shaped-then, shaped-bind, then_same, OnScalars, object-shaped, streamed-shaped}
use Rattle.json_rule.specs.RuleStreamed.{NamedPart, rule_member, names_of, parts_named, rule_made, held_depth, rule_rest, rule_text}

abbrev keyed : Text → RulePart → NamedPart
keyed key p = (key, p)

-- a member in its shape, with its name
abbrev named_part : Text → Json → Option NamedPart
named_part key v = map (keyed key) (rule_part key v)

map_both : {A B C : Type 0} (f : A → B) (g : B → C) (o : Option A) → map (λ a. g (f a)) o ≡ map g (map f o)
map_both f g none = refl
map_both f g (some a) = refl

-- a member that is read as its name asks
named-member : (d : ℕ) (key : Text) (s : List ℕ) → rule_member d key s ≡ shaped (named_part key) (value d s)
unfolding rule_member rule_part refuse ◌>>=◌
named-member d key s = go (same_bytes key (ascii "name")) (same_bytes key (ascii "assert")) (same_bytes key (ascii "message"))
  where
    texts : (h : Option Text → RulePart)
        → and_then (and_then (value d s) (asked optional_of)) (λ t. pure (keyed key (h t))) ≡ shaped (λ v. map (keyed key) (map h (optional_of v))) (value d s)
    texts h =
        ap (λ (o : Option (Option Text × List ℕ)). and_then o (λ t. pure (keyed key (h t)))) (shaped-asked optional_of (value d s))
        ∙ shaped-then optional_of (λ t. keyed key (h t)) (value d s)
        ∙ shaped-same (λ v. map (λ (t : Option Text). keyed key (h t)) (optional_of v)) (λ v. map (keyed key) (map h (optional_of v)))
        (λ v. map_both h (keyed key) (optional_of v)) (value d s)

    go : (x y z : Bool)
        → cond {A = Reader (List ℕ) NamedPart} x (λ t. and_then (and_then (value d t) (asked optional_of)) (λ n. pure (keyed key (names n))))
        (cond {A = Reader (List ℕ) NamedPart} y (λ t. and_then (streamed d t) (λ c. pure (keyed key (asserts c))))
        (cond {A = Reader (List ℕ) NamedPart} z (λ t. and_then (and_then (value d t) (asked optional_of)) (λ m. pure (keyed key (says m)))) (λ t. none))) s
        ≡ shaped (λ v. map (keyed key) (cond x (map names (optional_of v)) (cond y (map asserts (condition_of v)) (cond z (map says (optional_of v)) none)))) (value d s)
    go true y z = texts names
    go false true z =
        ap (λ (o : Option (Condition × List ℕ)). and_then o (λ c. pure (keyed key (asserts c)))) (streamed-shaped d s)
        ∙ shaped-then condition_of (λ c. keyed key (asserts c)) (value d s)
        ∙ shaped-same (λ v. map (λ (c : Condition). keyed key (asserts c)) (condition_of v)) (λ v. map (keyed key) (map asserts (condition_of v)))
        (λ v. map_both asserts (keyed key) (condition_of v)) (value d s)
    go false false true = texts says
    go false false false = sym (shaped-never (λ v. none) (λ v. refl) (value d s))

-- names and parts go side by side
all_named : {C : Type 0} (ms : Members) (k : List Text → List RulePart → Option C)
    → bind (all_members named_part ms) (λ ps. k (names_of ps) (parts_named ps)) ≡ bind (rule_parts ms) (λ ps. k (keys_of ms) ps)
unfolding all_members rule_parts keys_of names_of parts_named bind
all_named no_members k = refl
all_named (member key v others) k = go (rule_part key v) (all_members named_part others) (rule_parts others) (λ p. all_named others (λ ks qs. k (key ∷ ks) (p ∷ qs)))
  where
    front : (p : RulePart) (o : Option (List NamedPart))
        → bind (map (λ (cs : List NamedPart). (key, p) ∷ cs) o) (λ ps. k (names_of ps) (parts_named ps)) ≡ bind o (λ ps. k (key ∷ names_of ps) (p ∷ parts_named ps))
    front p none = refl
    front p (some ps) = refl

    back : (p : RulePart) (o : Option (List RulePart)) → bind o (λ ps. k (key ∷ keys_of others) (p ∷ ps)) ≡ bind (map (λ (ps : List RulePart). p ∷ ps) o) (λ ps. k (key ∷ keys_of others) ps)
    back p none = refl
    back p (some ps) = refl

    go : (x : Option RulePart) (y : Option (List NamedPart)) (z : Option (List RulePart))
        → ((p : RulePart) → bind y (λ ps. k (key ∷ names_of ps) (p ∷ parts_named ps)) ≡ bind z (λ ps. k (key ∷ keys_of others) (p ∷ ps)))
        → bind (bind (map (keyed key) x) (λ c. map (λ (cs : List NamedPart). c ∷ cs) y)) (λ ps. k (names_of ps) (parts_named ps))
        ≡ bind (bind x (λ p. map (λ (ps : List RulePart). p ∷ ps) z)) (λ ps. k (key ∷ keys_of others) ps)
    go none y z e = refl
    go (some p) y z e = front p y ∙ e p ∙ back p z

-- the test of names may come first
test-first : (b : Bool) (o : Option (List RulePart)) → bind o (λ ps. cond b (rule_from ps) none) ≡ cond b (bind o rule_from) none
unfolding bind
test-first true none = refl
test-first false none = refl
test-first true (some ps) = refl
test-first false (some ps) = refl

made_shaped : (ms : Members) → bind (all_members named_part ms) rule_made ≡ rule_of (object ms)
unfolding rule_made rule_of
made_shaped ms = all_named ms (λ ks ps. cond (none_twice ks) (rule_from ps) none) ∙ test-first (none_twice (keys_of ms)) (rule_parts ms)

rest-shaped : (t : List ℕ) → rule_rest t ≡ shaped (λ ms. rule_of (object ms)) (members (value held_depth) t)
unfolding rule_rest ◌>>=◌
rest-shaped t =
    ap (λ (o : Option (List NamedPart × List ℕ)). and_then o (asked rule_made)) (members-as named_part (rule_member held_depth) (value held_depth) (λ key x. named-member held_depth key x) t)
    ∙ shaped-bind (all_members named_part) rule_made (members (value held_depth) t)
    ∙ shaped-same (λ ms. bind (all_members named_part ms) rule_made) (λ ms. rule_of (object ms)) made_shaped (members (value held_depth) t)

rule-scalars : OnScalars rule_of
unfolding rule_of
rule-scalars = record { on_null = refl; on-truth = λ b. refl; on-number = λ t. refl; on-string = λ t. refl }

object-rule : (s : List ℕ) → and_then (byte 0x7B s) (λ u t. rule_rest t) ≡ shaped rule_of (value max_depth s)
unfolding rule_of
object-rule s = then_same (byte 0x7B s) _ _ (λ u t. rest-shaped t) ∙ object-shaped rule_of held_depth rule-scalars (λ vs. refl) s

-- what follows the object
module _ {A : Type 0} where
  abbrev ending : A → Reader (List ℕ) A
  ending a u = and_then (at_end (unspaced u)) (λ x. pure a)

shaped-ending : (x : Option (Json × List ℕ))
    → bind (map (λ (r : Json × List ℕ). r.0) (and_then x (λ v. ending v))) rule_of ≡ map (λ (r : Rule × List ℕ). r.0) (and_then (shaped rule_of x) (λ r. ending r))
unfolding and_then shaped bind pure
shaped-ending none = refl
shaped-ending (some r) = go (rule_of r.0) (at_end (unspaced r.1)) refl refl
  where
    go : (o : Option Rule) (e : Option (Unit {0} × List ℕ)) → rule_of r.0 ≡ o → at_end (unspaced r.1) ≡ e
        → bind (map (λ (r : Json × List ℕ). r.0) (ending r.0 r.1)) rule_of
        ≡ map (λ (r : Rule × List ℕ). r.0) (and_then (map (λ b. (b, r.1)) o) (λ q. ending q))
    go none none p e = rw e
    go none (some x) p e = rw e p
    go (some q) none p e = rw e
    go (some q) (some x) p e = rw e p

-- the rule that a text is
pub rule-streamed : (s : List ℕ) → bind (document s) rule_of ≡ map (λ (r : Rule × List ℕ). r.0) (rule_text s)
unfolding document rule_text spaces ◌>>=◌ ◌>>◌ and_then
rule-streamed s =
    shaped-ending (value max_depth (unspaced s))
    ∙ ap (λ (o : Option (Rule × List ℕ)). map (λ (r : Rule × List ℕ). r.0) (and_then o (λ r. ending r))) (sym (object-rule (unspaced s)))
    ∙ ap (map (λ (r : Rule × List ℕ). r.0)) (then-then (byte 0x7B (unspaced s)))
  where
    then-then : (o : Option (Unit {0} × List ℕ)) → and_then (and_then o (λ u t. rule_rest t)) (λ r. ending r) ≡ and_then o (λ u t. and_then (rule_rest t) (λ r. ending r))
    then-then none = refl
    then-then (some x) = refl
