-- Laws of rules laid as JSON: what the code lays for a head, the conditions side by side, and the whole.
use Prim.Native.Nat.{ℕ, ◌+◌, ◌-◌, ◌≤◌, ◌<◌}
use native.Mathlib.Omega.{arith}
use mathlib.Core.Bool.{Bool, true, false, false≢true}
use mathlib.Core.List.{List, [], ◌∷◌, ◌++◌, append_assoc}
use mathlib.Core.Option.{Option, none, some}
use mathlib.Core.Path.{◌≡◌, refl, sym, ap, ap₂, subst, ◌∙◌}
use lib.ListN.{length, drop, get_or-eq_default}
use Rattle.text.specs.Ascii.{ascii}
use Rattle.text.specs.ReadAt.{ReadsTo, Refuses}
use Rattle.text.specs.CaseLaws.{zero-not-one}
use Rattle.sheet.specs.Operators.{operator_name, not_operator, compare_operator}
use Rattle.sheet.specs.Entries.{ConditionHead, literal_head, many_head, negation_head, one_head, two_head, comparison_head, quantifier_head, condition_head, RuleHead, rule_head}
use Rattle.sheet.specs.Entries as Entries
use Rattle.definition.specs.Tree.{Text, Value, Condition, literal, many, negation, one, two, comparison, quantifier, Conditions, no_conditions, condition}
use Rattle.definition.specs.Within.{value_entries, condition_entries, conditions_entries}
use Rattle.rule.specs.Index.{start_of, end_of, EntryAt, ValueAt, ConditionAt}
use Rattle.rule.specs.IndexLaws.{value-next}
use Rattle.rule.specs.Kinds.{OperatorAt}
use Rattle.rule.specs.Nodes.{AreConditions, Behind, children_of, ChildrenFrom}
use Rattle.rule.proofs.NodeSteps.{same_head, has-operator, condition-size, children-stand, tail_of, first-stands, tail-stands, none_left, none-ends}
use Rattle.buffer.specs.Laid.{Laid, most_place}
use Rattle.buffer.specs.LaidLaws.{laid-nothing, laid_then}
use Rattle.json_text.specs.Json.{truth}
use Rattle.json_text.specs.Escaped.{plain, quoted, written}
use Rattle.json_rule.specs.Shape.{comparison_names}
use Rattle.json_rule.specs.AsJson.{comparison_name, condition_as_json}
use Rattle.json_laying.specs.Lays.{LaysValue, comma_before}
use Rattle.json_laying.proofs.Laying.{comma-some, comma-none}
use Rattle.to_json.specs.Parts.{value_text, opened, front_of, closing, joined, name_text, message_text}
use Rattle.to_json.specs.Lays.{LaysOne, LaysTwo, LaysCompared, LaysScope, LaysFront, LaysConditions, LaysRule}
use Rattle.to_json.proofs.PartLaws.{only_child, condition-parts}

laid_on : {before middle after : List ℕ} {o m next : ℕ} {xs ys : List ℕ}
    → length before ≤ most_place
    → Laid before middle o xs m
    → (length middle ≤ most_place → Laid middle after m ys next)
    → Laid before after o (xs ++ ys) next
laid_on room u k = laid_then room u (k (omega (arith, u.len)))

-- The parts of a condition

pub opened-laid : {b c d e : List ℕ} {at m n next : ℕ} → length b ≤ most_place → (op : ℕ) → Laid b c at (ascii "{\"") m → Laid c d m (operator_name op) n
    → Laid d e n (ascii "\":") next
    → Laid b e at (opened op) next
unfolding opened
opened-laid room op u v w = laid_on room u λ r. laid_then r v w

pub many-laid : {b c d : List ℕ} {at m n : ℕ} → length b ≤ most_place → (op : ℕ) → Laid b c at (opened op) m → Laid c d m (ascii "[") n → Laid b d at (opened op ++ ascii "[") n
many-laid room op u v = laid_then room u v

pub one-laid : {rule words : List ℕ} {i op : ℕ} {b c d e : List ℕ} {at m n next : ℕ} → length b ≤ most_place → Laid b c at (opened op) m
    → LaysValue plain rule words (i + 1) c d m n
    → Laid d e n (ascii "}") next
    → LaysOne rule words i b e at next op
unfolding front_of value_text
one-laid room u v w = record { lays = λ x a. laid_on room u λ r. laid_then r (v.lays x a) w }

right-stands : (rule words : List ℕ) (i place : ℕ) (left right : Value) → place ≡ end_of words (i + 1) → ValueAt rule words (i + 1) left
    → ValueAt rule words (i + 1 + value_entries left) right
    → ValueAt rule words place right
right-stands rule words i place left right e a b =
    let same : place ≡ i + 1 + value_entries left = e ∙ value-next rule words (i + 1) left a in
    subst (λ (k : ℕ). ValueAt rule words k right) (sym same) b

pub two-laid : {rule words : List ℕ} {i place op : ℕ} {b c d e f g : List ℕ} {at m n o p next : ℕ} → length b ≤ most_place → place ≡ end_of words (i + 1)
    → Laid b c at (opened op ++ ascii "[") m
    → LaysValue plain rule words (i + 1) c d m n
    → Laid d e n (ascii ",") o
    → LaysValue plain rule words place e f o p
    → Laid f g p (ascii "]}") next
    → LaysTwo rule words i b g at next op
unfolding front_of value_text
two-laid {rule} {words} {i} {place} room ends u v w x y =
    record {
      lays = λ left right a z.
          laid_on room u λ r. laid_on r (v.lays left a) λ r. laid_on r w λ r. laid_then r (x.lays right (right-stands rule words i place left right ends a z)) y;
    }

pub compared-laid : {rule words : List ℕ} {i place which : ℕ} {b c d e f g h j k : List ℕ} {at m n o p q s t next : ℕ} → length b ≤ most_place
    → place ≡ end_of words (i + 1)
    → Laid b c at (opened compare_operator) m
    → Laid c d m (ascii "{\"left\":") n
    → LaysValue plain rule words (i + 1) d e n o
    → Laid e f o (ascii ",\"op\":\"") p
    → Laid f g p (comparison_name which) q
    → Laid g h q (ascii "\",\"right\":") s
    → LaysValue plain rule words place h j s t
    → Laid j k t (ascii "}}") next
    → LaysCompared rule words i b k at next which
unfolding front_of value_text
compared-laid {rule} {words} {i} {place} room ends u v w x y z second last =
    record {
      lays = λ left right a l.
          laid_on room u λ r.
          laid_on r v λ r.
          laid_on r (w.lays left a) λ r.
          laid_on r x λ r. laid_on r y λ r. laid_on r z λ r. laid_then r (second.lays right (right-stands rule words i place left right ends a l)) last;
    }

pub scope-laid : {rule words : List ℕ} {i op : ℕ} {name : Text} {b c d e f g h : List ℕ} {at m n o p q next : ℕ} → length b ≤ most_place
    → Laid b c at (opened op) m
    → Laid c d m (ascii "{\"in\":") n
    → LaysValue plain rule words (i + 1) d e n o
    → Laid e f o (ascii ",\"as\":") p
    → Laid f g p (quoted plain name) q
    → Laid g h q (ascii ",\"that\":") next
    → LaysScope rule words i b h at next op name
unfolding front_of value_text
scope-laid room u v w x y z =
    record { lays = λ over body a. laid_on room u λ r. laid_on r v λ r. laid_on r (w.lays over a) λ r. laid_on r x λ r. laid_then r y z }

pub texted-laid : {b c d e : List ℕ} {at m n next : ℕ} {text found : Text} (front back : List ℕ) → length b ≤ most_place → Laid b c at front m
    → Laid c d m (quoted plain text) n
    → Laid d e n back next
    → text ≡ found
    → Laid b e at (front ++ (quoted plain found ++ back)) next
texted-laid {b} {c} {d} {e} {at} {m} {n} {next} front back room u v w same =
    subst (λ (t : Text). Laid b e at (front ++ (quoted plain t ++ back)) next) same (laid_on room u λ r. laid_then r v w)

-- names of comparisons

module _ (which : ℕ) {before after : List ℕ} {o next : ℕ} where
  pub comparison-low : which ≤ 1 → Laid before after o (ascii "eq") next → Laid before after o (comparison_name which) next
  unfolding comparison_name comparison_names ascii
  comparison-low h w = let e : which - 1 ≡ 0 = omega arith in rw e w

  pub comparison-is : (k : ℕ) → which ≤ k → k ≤ which → Laid before after o (comparison_name k) next → Laid before after o (comparison_name which) next
  comparison-is k h l w = let e : which ≡ k = omega arith in rw e w

pub comparison-none : (which : ℕ) {before : List ℕ} {o : ℕ} → 6 < which → o ≤ most_place → Laid before before o (comparison_name which) o
unfolding comparison_name comparison_names
comparison-none which {before} {o} l h =
    let past : length comparison_names ≤ which - 1 = omega arith in
    rw (get_or-eq_default comparison_names [] past) (laid-nothing before o h)

-- what is behind the conditions

pub closed_none : (op : ℕ) {before : List ℕ} {at : ℕ} → closing op ≡ [] → at ≤ most_place → Laid before before at (closing op) at
closed_none op {before} {at} e h = rw e (laid-nothing before at h)

pub closed-by : (op : ℕ) {text before after : List ℕ} {at next : ℕ} → closing op ≡ text → Laid before after at text next → Laid before after at (closing op) next
closed-by op e w = rw e w

-- by its head

refused : {H R : Type 0} {o : Option (H × List ℕ)} {h : H} {rest : List ℕ} → o ≡ none → o ≡ some (h, rest) → R
refused a b = zero-not-one cc

abbrev pub FrontLaid : (rule words : List ℕ) (i : ℕ) (before after : List ℕ) (at next : ℕ) → ConditionHead → Type 0
FrontLaid rule words i before after at next (literal_head t) = Laid before after at (written plain (truth t)) next
FrontLaid rule words i before after at next (many_head op count) = Laid before after at (opened op ++ ascii "[") next
FrontLaid rule words i before after at next negation_head = Laid before after at (opened not_operator) next
FrontLaid rule words i before after at next (one_head op) = LaysOne rule words i before after at next op
FrontLaid rule words i before after at next (two_head op) = LaysTwo rule words i before after at next op
FrontLaid rule words i before after at next (comparison_head which) = LaysCompared rule words i before after at next which
FrontLaid rule words i before after at next (quantifier_head op name) = LaysScope rule words i before after at next op name

module _ {rule words : List ℕ} {i : ℕ} {before after : List ℕ} {at next start : ℕ} (place : start ≡ start_of words i) where
  pub front-unread : Refuses condition_head rule start → LaysFront rule words i before after at next
  front-unread none_read = record { lays = go }
    where
      here : condition_head (drop (start_of words i) rule) ≡ none
      here = rw (sym place) none_read

      go : (c : Condition) → ConditionAt rule words i c → Laid before after at (front_of c) next
      go (literal e t) w = refused here w.reads
      go (many e op children) w = refused here w.0.reads
      go (negation e child) w = refused here w.0.reads
      go (one e op v) w = refused here w.0.reads
      go (two e op left right) w = refused here w.0.reads
      go (comparison e which left right) w = refused here w.0.reads
      go (quantifier e op name over body) w = refused here w.0.reads

module _ (rule words : List ℕ) (i : ℕ) (before after : List ℕ) (at next : ℕ) {start stop : ℕ} (h : ConditionHead) (place : start ≡ start_of words i)
    (read : ReadsTo condition_head rule start h stop)
    (laid : FrontLaid rule words i before after at next h) where
  entry-laid : {size e : ℕ} {k : ConditionHead} → EntryAt condition_head rule words i size e k → FrontLaid rule words i before after at next k
  entry-laid a = subst (λ (x : ConditionHead). FrontLaid rule words i before after at next x) (same_head place read a) laid

  front-of : (c : Condition) → ConditionAt rule words i c → Laid before after at (front_of c) next
  unfolding front_of
  front-of (literal e t) w = entry-laid w
  front-of (many e op children) w = entry-laid w.0
  front-of (negation e child) w = entry-laid w.0
  front-of (one e op v) w = (entry-laid w.0).lays v w.1
  front-of (two e op left right) w = (entry-laid w.0).lays left right w.1 w.2
  front-of (comparison e which left right) w = (entry-laid w.0).lays left right w.1 w.2
  front-of (quantifier e op name over body) w = (entry-laid w.0).lays over body w.1

pub front-lays : {rule words : List ℕ} {i : ℕ} {before after : List ℕ} {at next start stop : ℕ} → start ≡ start_of words i → (h : ConditionHead)
    → ReadsTo condition_head rule start h stop
    → FrontLaid rule words i before after at next h
    → LaysFront rule words i before after at next
front-lays {rule} {words} {i} {before} {after} {at} {next} place h read laid =
    record { lays = front-of rule words i before after at next h place read laid }

pub scope-named : {rule words : List ℕ} {i op : ℕ} {name found : Text} {before after : List ℕ} {at next : ℕ} → name ≡ found
    → LaysScope rule words i before after at next op name
    → LaysScope rule words i before after at next op found
scope-named {rule} {words} {i} {op} {before = before} {after = after} {at = at} {next = next} same w =
    subst (λ (t : Text). LaysScope rule words i before after at next op t) same w

-- Conditions side by side: whatever lays the rest from word `j` on has laid all from word `i` on

pub record Leads (rule words : List ℕ) (i end : ℕ) (before : List ℕ) (at j : ℕ) (now : List ℕ) (o : ℕ) : Type 0 where
  pub forward : i ≤ j
  pub len : length now ≡ length before
  pub low : o ≤ most_place
  pub leads : (after : List ℕ) (next : ℕ) → LaysConditions rule words j end now after o next → LaysConditions rule words i end before after at next

pub leads-start : {rule words : List ℕ} {i end : ℕ} {before : List ℕ} {at : ℕ} → at ≤ most_place → Leads rule words i end before at i before at
leads-start h = record { forward = omega arith; len = refl; low = h; leads = λ after next l. l }

joined-comma : {rule words : List ℕ} {r end : ℕ} (cs : Conditions) → AreConditions rule words r end cs → comma_before r end ++ joined [] cs ≡ joined (0x2C ∷ []) cs
unfolding joined conditions_entries
joined-comma {r = r} {end = end} no_conditions w = rw (comma-none r end (omega (arith, w.ends)))
joined-comma {r = r} {end = end} (condition c others) w =
    let p : 1 ≤ condition_entries c = condition-size c in
    rw (comma-some r end (omega (arith, w.ends)))

flat : (f j k m o : List ℕ) → f ++ (j ++ (k ++ (m ++ o))) ≡ (f ++ (j ++ k)) ++ (m ++ o)
flat f j k m o = simp append_assoc

-- one more
module _ {rule words : List ℕ} {end j r inner start op : ℕ} {now one two three four : List ℕ} {o p q s t : ℕ}
    (place : start ≡ start_of words j)
    (kind : OperatorAt rule start op)
    (b : Behind words j end r)
    (k : ChildrenFrom words op j r inner)
    (front : LaysFront rule words j now one o p)
    (own : LaysConditions rule words inner r one two p q)
    (close : Laid two three q (closing op) s)
    (comma : Laid three four s (comma_before r end) t)
    (inside : j < end)
    (room : length now ≤ most_place) where
  condition-step : {after : List ℕ} {next : ℕ} → LaysConditions rule words r end four after t next → (cs : Conditions) → AreConditions rule words j end cs
      → Laid now after o (joined [] cs) next
  unfolding joined tail_of
  condition-step rest no_conditions w = absurd (omega (arith, none-ends w, inside))
  condition-step {after} {next} rest (condition c others) w =
      let first = first-stands inside b w in
      let others-are = tail-stands inside b (condition c others) w in
      let all = laid_on room (front.lays c first.stands) λ r. laid_on r (own.lays (children_of c) (children-stand place kind k c first)) λ r. laid_on r close λ r. laid_then r comma (rest.lays others others-are) in
      let same : front_of c ++ (joined [] (children_of c) ++ (closing op ++ (comma_before r end ++ joined [] others))) ≡ written plain (condition_as_json c) ++ joined (0x2C ∷ []) others =
      flat (front_of c) (joined [] (children_of c)) (closing op) (comma_before r end) (joined [] others)
      ∙ ap₂ (λ (x y : List ℕ). x ++ y) (condition-parts op c (has-operator rule words j place kind c first.stands)) (joined-comma others others-are) in
      subst (λ (l : List ℕ). Laid now after o l next) same all

  pub leads-more : {i : ℕ} {before : List ℕ} {at : ℕ} → length four ≡ length before → Leads rule words i end before at j now o → Leads rule words i end before at r four t
  leads-more same l =
      record {
        forward = omega (arith, l.forward, b.past inside);
        len = same;
        low = omega (arith, comma.ends);
        leads = λ after next rest. l.leads after next (record { lays = λ cs w. condition-step rest cs w });
      }

pub none-lays : {rule words : List ℕ} {j end : ℕ} {now : List ℕ} {o : ℕ} → end ≤ j → o ≤ most_place → LaysConditions rule words j end now now o o
unfolding joined
none-lays {now = now} {o = o} past h = record { lays = λ cs w. rw (none_left cs past w) (laid-nothing now o h) }

-- The whole rule

name_in : RuleHead → Option Text
name_in (Entries.rule name message) = name
name_in Entries.template = none

message_in : RuleHead → Option Text
message_in (Entries.rule name message) = message
message_in Entries.template = none

is_rule : RuleHead → Bool
is_rule (Entries.rule name message) = true
is_rule Entries.template = false

module _ {sheet words : List ℕ} {entries : ℕ} {before after : List ℕ} {next start : ℕ} (place : start ≡ start_of words 0) where
  pub rule-unread : Refuses rule_head sheet start → LaysRule sheet words entries before after next
  rule-unread none_read =
      record {
        lays = λ name message assert w size.
            let here : rule_head (drop (start_of words 0) sheet) ≡ none = rw (sym place) none_read in
            refused here w.0.reads;
      }

  pub rule-template : {stop : ℕ} → ReadsTo rule_head sheet start Entries.template stop → LaysRule sheet words entries before after next
  unfolding is_rule
  rule-template read = record { lays = λ name message assert w size. absurd (false≢true (ap is_rule (same_head place read w.0))) }

  pub rule-lays : {n m : Option Text} {stop : ℕ} {one two : List ℕ} {p q : ℕ} → length before ≤ most_place → ReadsTo rule_head sheet start (Entries.rule n m) stop
      → Laid before one 0 (name_text n) p
      → LaysConditions sheet words 1 entries one two p q
      → Laid two after q (message_text m) next
      → LaysRule sheet words entries before after next
  unfolding name_in message_in conditions_entries
  rule-lays {n} {m} room read u v w =
      record {
        lays = λ name message assert a size.
            let head = same_head place read a.0 in
            let held : AreConditions sheet words 1 entries (condition assert no_conditions) = record { stand = (a.1, tt); ends = omega arith } in
            let all = laid_on room u λ r. laid_then r (v.lays (condition assert no_conditions) held) w in
            let same : name_text n ++ (joined [] (condition assert no_conditions) ++ message_text m) ≡ name_text name ++ (written plain (condition_as_json assert) ++ message_text message) =
            ap (λ (x : List ℕ). name_text n ++ (x ++ message_text m)) (only_child assert)
            ∙ ap₂ (λ (x y : Option Text). name_text x ++ (written plain (condition_as_json assert) ++ message_text y)) (ap name_in head) (ap message_in head) in
            subst (λ (l : List ℕ). Laid before after 0 l next) same all;
      }
