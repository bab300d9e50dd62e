-- Each way through the reader of a whole sheet, on the decoder's side.
use Rattle.std.specs.Prelude.{Some, None}
use Prim.Native.Nat.{ℕ, ◌+◌, ◌*◌, ◌≤◌, ◌<◌}
use mathlib.Core.Bool.{Bool, true, false}
use mathlib.Core.List.{List}
use mathlib.Core.Option.{Option, none, some, map}
use mathlib.Core.Path.{◌≡◌, refl, ap, ◌∙◌}
use native.Mathlib.Omega.{arith}
use borrow.Author.Tests.{le-leb, lt-leb, eq-eqb, ne_eqb}
use lib.ListN.{length, drop, set, length-drop}
use Rattle.text.specs.Reader.{Reader, pure, ensure, and_then, ◌>>=◌, ◌>>◌}
use Rattle.text.specs.Parts.{optional_of}
use Rattle.sheet.specs.Entries.{rule_head}
use Rattle.sheet.specs.Entries as entries
use Rattle.sheet.specs.Places.{rule_of}
use Rattle.sheet.specs.declared.rule_heads.RuleHead.{RuleHead}
use Rattle.sheet.specs.declared.rule_heads.RuleHead.TheVariants as head
use Rattle.definition.specs.Limits.{max_sheet_bytes, max_rule_entries, max_condition_nesting}
use Rattle.definition.specs.Tree.{Rule, rule, template}
use Rattle.definition.specs.Decode.{Ahead, entered, entry, announce, at_end, whole, any_value, condition_in, any_rule, decode_rule}
use Rattle.definition.specs.Decode as decode
use Rattle.definition.specs.Within.{condition_entries, value_entries, rule_entries}
use Rattle.rule.specs.declared.cursor.Cursor.{Cursor}
use Rattle.rule.specs.Index.{ValueAt, ConditionAt}
use Rattle.rule.specs.IndexLaws.{value_frame, condition-frame}
use Rattle.rule.specs.Read.{ahead_of, Kept, Ready, Indexed}
use Rattle.rule.specs.Rule.{is_template, is_template_head, TreeAnswer, RuleIndexed}
use Rattle.rule.proofs.KeptLaws.{kept-all, kept-wider}
use Rattle.rule.proofs.CloseLaws.{entry_closed, kept-closed, agree-closed}

-- nothing may follow the last entry
finish : Option (Rule × Ahead) → Option Rule
finish o = map (λ r. r.0) (and_then o (λ t. at_end >> pure t))

start : List ℕ → Ahead
start s = record { next = 1; left = 2047; rest = s }

decode-long : (s : List ℕ) → max_sheet_bytes < length s → decode_rule s ≡ none
unfolding decode_rule whole ◌>>=◌ ◌>>◌ ensure and_then
decode-long s h = rw (lt-leb (length s) max_sheet_bytes h)

decode-short : (s : List ℕ) → length s ≤ max_sheet_bytes → decode_rule s ≡ finish (any_rule (start s))
unfolding decode_rule whole finish start announce ◌>>=◌ ◌>>◌ ensure and_then
decode-short s h = rw (le-leb (length s) max_sheet_bytes h)

finish-whole : (r : Rule) (a : Ahead) → length a.rest ≡ 0 → finish (some (r, a)) ≡ some r
unfolding finish at_end ensure ◌>>=◌ ◌>>◌ and_then pure
finish-whole r a e = rw (eq-eqb (length a.rest) 0 e)

finish-partly : (r : Rule) (a : Ahead) → (length a.rest ≡ 0 → ⊥) → finish (some (r, a)) ≡ none
unfolding finish at_end ensure ◌>>=◌ ◌>>◌ and_then
finish-partly r a e = rw (ne_eqb (length a.rest) 0 e)

-- the first entry, and what follows it
under : Ahead → Option (entries.RuleHead × List ℕ) → Option (Rule × Ahead)
under a o = and_then (entered a.next a.left o) (λ h. decode.rule_of h.1)

rule-under : (a : Ahead) → any_rule a ≡ under a (rule_head a.rest)
unfolding under any_rule ◌>>=◌ entry
rule-under a = refl

abbrev Bad : (s before after : List ℕ) → Type 0
Bad s before after = (decode_rule s ≡ none) × Kept before after 0 max_rule_entries

module _ (s words : List ℕ) where
  pub rule-long-answer : max_sheet_bytes < length s → Bad s words words
  rule-long-answer h = (decode-long s h, kept-all)

  pub rule-headless-answer : length s ≤ max_sheet_bytes → rule_head s ≡ none → Bad s words words
  unfolding start under entered and_then finish
  rule-headless-answer short e = (decode-short s short ∙ ap finish (rule-under (start s) ∙ ap (under (start s)) e), kept-all)

-- after the first entry, which announced itself and its tree
abbrev tree-at : ℕ → Cursor
tree-at behind = record { at = behind; word = 1; left = 2046 }

-- A tree under a first entry, of either kind.
module _ {T : Type 0} (reader : Reader Ahead T) (At : List ℕ → ℕ → T → Type 0) (size_of : T → ℕ) (wrap : T → Rule)
    (s : List ℕ) (behind : ℕ) (h : entries.RuleHead)
    (short : length s ≤ max_sheet_bytes)
    (reads : rule_head s ≡ some (h, drop behind s))
    (holds : decode.rule_of h (record { next = 2; left = 2047; rest = drop behind s }) ≡ and_then (reader (ahead_of s (tree-at behind))) (λ t. pure (wrap t)))
  where
    decoded : decode_rule s ≡ finish (and_then (reader (ahead_of s (tree-at behind))) (λ t. pure (wrap t)))
    unfolding start under entered and_then
    decoded = decode-short s short ∙ ap finish (rule-under (start s) ∙ ap (under (start s)) reads ∙ holds)

    treeless : {words mid : List ℕ} → (reader (ahead_of s (tree-at behind)) ≡ none) × Kept words mid 1 max_rule_entries → Bad s words mid
    unfolding and_then finish
    treeless bad =
        (decoded ∙ ap (λ o. finish (and_then o (λ t. pure (wrap t)))) bad.0, kept-wider bad.1 (omega arith) (omega arith))

    module _ {words mid : List ℕ} {next : Cursor} (inner : Indexed reader At size_of s words mid 1 (tree-at behind) next) where
      decoded-tree : decode_rule s ≡ finish (some (wrap inner.tree, ahead_of s next))
      unfolding and_then pure
      decoded-tree = decoded ∙ ap (λ o. finish (and_then o (λ t. pure (wrap t)))) inner.reads

      unended : next.at < length s → Bad s words mid
      unended q =
          (decoded-tree ∙ finish-partly (wrap inner.tree) (ahead_of s next) (λ e. omega (arith, length-drop next.at s)), kept-wider inner.kept (omega arith) (omega (arith, inner.budget)))

      ended : length s ≤ next.at → decode_rule s ≡ some (wrap inner.tree)
      ended q = decoded-tree ∙ finish-whole (wrap inner.tree) (ahead_of s next) (omega (arith, length-drop next.at s))

module _ (s : List ℕ) (behind : ℕ) where
  condition-holds : (name message : Option (List ℕ))
      → decode.rule_of (entries.rule name message) (record { next = 2; left = 2047; rest = drop behind s })
      ≡ and_then (condition_in max_condition_nesting (ahead_of s (tree-at behind))) (λ t. pure (rule name message t))
  unfolding decode.rule_of announce ◌>>=◌ ◌>>◌ and_then
  condition-holds name message = refl

  value-holds : decode.rule_of entries.template (record { next = 2; left = 2047; rest = drop behind s })
      ≡ and_then (any_value (ahead_of s (tree-at behind))) (λ t. pure (template t))
  unfolding decode.rule_of announce ◌>>=◌ ◌>>◌ and_then
  value-holds = refl

pub rule-ready : {s words : List ℕ} {behind : ℕ}
    → length s ≤ max_sheet_bytes
    → max_rule_entries ≤ length words
    → behind ≤ length s
    → Ready s words 1 (tree-at behind)
rule-ready short room inside = record { small = short; room = room; inside = inside; budget = omega arith }

module _ (s words mid : List ℕ) (behind : ℕ) (short : length s ≤ max_sheet_bytes) where
  pub rule-treeless-answer : (h : RuleHead)
      → rule_head s ≡ some (rule_of s h, drop behind s)
      → TreeAnswer s words mid (is_template_head h) (tree-at behind) None
      → Bad s words mid
  unfolding rule_of
  rule-treeless-answer (head.Rule name message) reads bad =
      treeless (condition_in max_condition_nesting) (ConditionAt s) condition_entries (rule (optional_of s name) (optional_of s message)) s behind (entries.rule (optional_of s name) (optional_of s message)) short reads (condition-holds s behind (optional_of s name) (optional_of s message)) bad
  rule-treeless-answer head.Template reads bad = treeless any_value (ValueAt s) value_entries template s behind entries.template short reads (value-holds s behind) bad

  pub rule-unended-answer : (h : RuleHead) (next : Cursor)
      → rule_head s ≡ some (rule_of s h, drop behind s)
      → TreeAnswer s words mid (is_template_head h) (tree-at behind) (Some next)
      → next.at < length s
      → Bad s words mid
  unfolding rule_of
  rule-unended-answer (head.Rule name message) next reads inner q =
      unended (condition_in max_condition_nesting) (ConditionAt s) condition_entries (rule (optional_of s name) (optional_of s message)) s behind (entries.rule (optional_of s name) (optional_of s message)) short reads (condition-holds s behind (optional_of s name) (optional_of s message)) inner q
  rule-unended-answer head.Template next reads inner q = unended any_value (ValueAt s) value_entries template s behind entries.template short reads (value-holds s behind) inner q

  pub tree-limit : (t : Bool) (next : Cursor) → TreeAnswer s words mid t (tree-at behind) (Some next) → next.word ≤ max_rule_entries
  tree-limit true next inner = omega (arith, inner.budget)
  tree-limit false next inner = omega (arith, inner.budget)

  pub rule-answer : (h : RuleHead) (next : Cursor) {x : ℕ}
      → rule_head s ≡ some (rule_of s h, drop behind s)
      → max_rule_entries ≤ length mid
      → TreeAnswer s words mid (is_template_head h) (tree-at behind) (Some next)
      → length s ≤ next.at
      → x ≡ 0 * 4096 + next.word
      → RuleIndexed s words (set mid 0 x) (record { is_template = is_template_head h; entries = next.word })
  unfolding rule_of is_template rule_entries
  rule-answer (head.Rule name message) next {x} reads room inner q word =
      let end : next.word ≡ 0 + (1 + condition_entries inner.tree) = omega (arith, inner.size) in
      record {
        tree = rule (optional_of s name) (optional_of s message) inner.tree;
        reads = ended (condition_in max_condition_nesting) (ConditionAt s) condition_entries (rule (optional_of s name) (optional_of s message)) s behind (entries.rule (optional_of s name) (optional_of s message)) short reads (condition-holds s behind (optional_of s name) (optional_of s message)) inner q;
        indexed =
            (entry_closed mid 0 0 word reads (omega arith) end (omega (arith, inner.budget)), condition-frame s mid (set mid 0 x) inner.tree 1 inner.indexed (agree-closed mid 0 x));
        kind = refl;
        size = omega arith;
        within = omega (arith, inner.budget);
        kept = kept-wider (kept-closed x inner.kept (omega arith)) (omega arith) (omega (arith, inner.budget));
      }
  rule-answer head.Template next {x} reads room inner q word =
      let end : next.word ≡ 0 + (1 + value_entries inner.tree) = omega (arith, inner.size) in
      record {
        tree = template inner.tree;
        reads = ended any_value (ValueAt s) value_entries template s behind entries.template short reads (value-holds s behind) inner q;
        indexed =
            (entry_closed mid 0 0 word reads (omega arith) end (omega (arith, inner.budget)), value_frame s mid (set mid 0 x) inner.tree 1 inner.indexed (agree-closed mid 0 x));
        kind = refl;
        size = omega arith;
        within = omega (arith, inner.budget);
        kept = kept-wider (kept-closed x inner.kept (omega arith)) (omega arith) (omega (arith, inner.budget));
      }
