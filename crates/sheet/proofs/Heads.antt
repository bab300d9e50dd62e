-- Laws of the heads at a place of the bytes: each way through the code's readers. A head is made of the pieces that the code reads.
use Rattle.std.specs.Prelude.{Option as Optional, Some, None}
use Prim.Native.Nat.{ℕ, ◌+◌, ◌≤◌}
use mathlib.Core.Path.{◌≡◌, refl, ap, ◌∙◌}
use mathlib.Core.Bool.{Bool, true, false, cond}
use mathlib.Core.List.{List, []}
use mathlib.Core.Option.{Option, none, some}
use native.Mathlib.Omega.{arith}
use lib.ListN.{length, take, drop}
use lib.Dec.{leb, eqb, leb-zero}
use borrow.Author.Tests.{eqb-false}
use Rattle.text.specs.Utf8.{is_utf8, code_points, code_points_in, is_some}
use Rattle.text.specs.Reader.{Reader, ◌>>=◌, ◌>>◌, and_then, ensure, pure, either, or_else}
use Rattle.text.specs.ByteReaders.{byte, comma, line_end, bytes}
use Rattle.text.specs.Parts.{part_of, optional_of}
use Rattle.text.specs.ReadAt.{ReadsTo, Refuses}
use Rattle.text.specs.declared.part.Part.{Part}
use Rattle.text.specs.ReadAtLaws.{bind-refused, bind-refuses, bind-reads, bind-pure, then-refused, then-refuses, then-reads, then-pure, and_then-assoc, then-then, then-bind, byte-other}
use Rattle.number.specs.Grammar.{is_number}
use Rattle.sheet.specs.Entries as entries
use Rattle.sheet.specs.Entries.{max_text, max_count, dash, item, mark, text_length, text, optional_text, holder_head, arguments_head, schema_head, field_head, rule_head, behind_operator, condition_head, constant_rest, number_rest, string_rest, array_rest, object_rest, behind_type, value_head, key_head}
use Rattle.sheet.specs.Operators.{Shape, shape_of, literal, many, negation, one, two, comparison, quantifier}
use Rattle.sheet.specs.Pieces.{first, dashed, last_text, field_marks, field_texts, rule_texts, condition_row, condition_by, condition_from, kind_of, value_row, value_by, value_from}
use Rattle.sheet.specs.Places.{TextIs, LastTextIs, holder_of, field_of, RuleTextsAre, RuleIs, condition_of, condition_count, value_of, value_count}
use Rattle.sheet.specs.declared.schema_heads.FieldMarks.{FieldMarks}
use Rattle.sheet.specs.declared.rule_heads.ConditionRow.{ConditionRow}
use Rattle.sheet.specs.declared.rule_heads.ValueKind.{ValueKind}
use Rattle.sheet.specs.declared.rule_heads.ValueKind.TheVariants as kind
use Rattle.sheet.specs.declared.rule_heads.ValueRow.{ValueRow}
use Rattle.sheet.proofs.Chains.{item-dashed, mark-refused}
use Rattle.sheet.specs.declared.rule_heads.RuleHead.{RuleHead}

-- Holders

pub holder-no-mark : (s : List ℕ) (at : ℕ) → Refuses mark s at → Refuses holder_head s at
unfolding holder_head
holder-no-mark s at e = bind-refused _ _ s at e

module _ {s : List ℕ} {at a : ℕ} {o : Bool} (m : ReadsTo mark s at o a) where
  pub holder-no-count : Refuses (item 0 max_count) s a → Refuses holder_head s at
  unfolding holder_head
  holder-no-count e = bind-refuses _ _ m (bind-refused _ _ s a e)

  pub holder-reads : {n next : ℕ} → ReadsTo (item 0 max_count) s a n next → ReadsTo holder_head s at (holder_of (record { opened = o; count = n })) next
  unfolding holder_head holder_of
  holder-reads e = bind-reads _ _ m (bind-pure _ _ e)

-- Arguments

module _ {s : List ℕ} {at a : ℕ} {u : Unit {0}} (d : ReadsTo dashed s at u a) where
  pub arguments-counted : Refuses (item 0 0) s a → Refuses arguments_head s at
  unfolding arguments_head dashed either or_else ◌>>◌ ◌>>=◌ and_then pure
  arguments-counted e =
      rw (then-then {C = Option entries.HolderHead} comma dash (item 0 0 >> pure none) (drop at s), d.reads, e, holder-no-mark s at (mark-refused s at (item-dashed 0 1 d)))

  pub arguments-absent : {n next : ℕ} → ReadsTo (item 0 0) s a n next → ReadsTo arguments_head s at none next
  unfolding arguments_head dashed either or_else ◌>>◌ ◌>>=◌ and_then pure
  arguments-absent e =
      record {
        reads = rw (then-then {C = Option entries.HolderHead} comma dash (item 0 0 >> pure none) (drop at s), d.reads, e.reads);
        past = omega (arith, d.past, e.past);
        within = e.within;
      }

module _ (s : List ℕ) (at : ℕ) (d : Refuses dashed s at) where
  pub arguments-refused : Refuses holder_head s at → Refuses arguments_head s at
  unfolding arguments_head dashed either or_else ◌>>◌ ◌>>=◌ and_then pure
  arguments-refused e = rw (then-then {C = Option entries.HolderHead} comma dash (item 0 0 >> pure none) (drop at s), d, e)

  pub arguments-reads : {h : entries.HolderHead} {next : ℕ} → ReadsTo holder_head s at h next → ReadsTo arguments_head s at (some h) next
  unfolding arguments_head dashed either or_else ◌>>◌ ◌>>=◌ and_then pure
  arguments-reads e =
      record {
        reads = rw (then-then {C = Option entries.HolderHead} comma dash (item 0 0 >> pure none) (drop at s), d, e.reads);
        past = e.past;
        within = e.within;
      }

-- Schemas

pub schema-other : (s : List ℕ) (at : ℕ) → Refuses (byte 72) s at → Refuses schema_head s at
unfolding schema_head
schema-other s at e = then-refused _ _ s at e

module _ {s : List ℕ} {at a : ℕ} {u : Unit {0}} (l : ReadsTo (byte 72) s at u a) where
  pub schema-no-fields : Refuses holder_head s a → Refuses schema_head s at
  unfolding schema_head
  schema-no-fields e = then-refuses _ _ l (bind-refused _ _ s a e)

  module _ {b : ℕ} {h : entries.HolderHead} (f : ReadsTo holder_head s a h b) where
    pub schema-no-arguments : Refuses arguments_head s b → Refuses schema_head s at
    unfolding schema_head
    schema-no-arguments e = then-refuses _ _ l (bind-refuses _ _ f (bind-refused _ _ s b e))

    module _ {d : ℕ} {g : Option entries.HolderHead} (p : ReadsTo arguments_head s b g d) where
      pub schema-no-end : Refuses (byte 10) s d → Refuses schema_head s at
      unfolding schema_head
      schema-no-end e = then-refuses _ _ l (bind-refuses _ _ f (bind-refuses _ _ p (then-refused _ _ s d e)))

      pub schema-reads : {v : Unit {0}} {next : ℕ} → ReadsTo (byte 10) s d v next → ReadsTo schema_head s at (record { fields = h; arguments = g }) next
      unfolding schema_head
      schema-reads e = then-reads _ _ l (bind-reads _ _ f (bind-reads _ _ p (then-pure _ _ e)))

-- Fields

pub marks-no-kind : (s : List ℕ) (at : ℕ) → Refuses (first 70 1 12) s at → Refuses field_marks s at
unfolding field_marks
marks-no-kind s at e = bind-refused _ _ s at e

module _ {s : List ℕ} {at a kind : ℕ} (k : ReadsTo (first 70 1 12) s at kind a) where
  pub marks-no-open : Refuses mark s a → Refuses field_marks s at
  unfolding field_marks
  marks-no-open e = bind-refuses _ _ k (bind-refused _ _ s a e)

  module _ {b : ℕ} {o : Bool} (m : ReadsTo mark s a o b) where
    pub marks-no-items : Refuses mark s b → Refuses field_marks s at
    unfolding field_marks
    marks-no-items e = bind-refuses _ _ k (bind-refuses _ _ m (bind-refused _ _ s b e))

    module _ {c : ℕ} {i : Bool} (n : ReadsTo mark s b i c) where
      pub marks-no-count : Refuses (item 0 max_count) s c → Refuses field_marks s at
      unfolding field_marks
      marks-no-count e = bind-refuses _ _ k (bind-refuses _ _ m (bind-refuses _ _ n (bind-refused _ _ s c e)))

      pub marks-read : {count next : ℕ} → ReadsTo (item 0 max_count) s c count next → ReadsTo field_marks s at (record { kind = kind; opened = o; items = i; count = count }) next
      unfolding field_marks
      marks-read e = bind-reads _ _ k (bind-reads _ _ m (bind-reads _ _ n (bind-pure _ _ e)))

pub texts-no-length : (s : List ℕ) (at : ℕ) → Refuses (item 0 max_text) s at → Refuses field_texts s at
unfolding field_texts
texts-no-length s at e = bind-refused _ _ s at e

module _ {s : List ℕ} {at a len : ℕ} (n : ReadsTo (item 0 max_text) s at len a) where
  pub texts-no-tag-length : Refuses text_length s a → Refuses field_texts s at
  unfolding field_texts
  texts-no-tag-length e = bind-refuses _ _ n (bind-refused _ _ s a e)

  module _ {b : ℕ} {l : Option ℕ} (m : ReadsTo text_length s a l b) where
    pub texts-no-comma : Refuses (byte 44) s b → Refuses field_texts s at
    unfolding field_texts
    texts-no-comma e = bind-refuses _ _ n (bind-refuses _ _ m (then-refused _ _ s b e))

    module _ {u : Unit {0}} (c : ReadsTo (byte 44) s b u (b + 1)) where
      pub texts-no-name : TextIs len s (b + 1) false → Refuses field_texts s at
      unfolding field_texts
      texts-no-name e = bind-refuses _ _ n (bind-refuses _ _ m (then-refuses _ _ c (bind-refused _ _ s (b + 1) e)))

      module _ (t : TextIs len s (b + 1) true) where
        pub texts-no-tag : Refuses (optional_text l) s (b + 1 + len) → Refuses field_texts s at
        unfolding field_texts ◌>>=◌ ◌>>◌ and_then
        texts-no-tag e = rw (n.reads, m.reads, c.reads, t.0, e)

        module _ (d : ℕ) (o : Option (List ℕ)) (g : optional_text l (drop (b + 1 + len) s) ≡ some (o, drop d s)) where
          pub texts-no-end : Refuses (byte 10) s d → Refuses field_texts s at
          unfolding field_texts ◌>>=◌ ◌>>◌ and_then
          texts-no-end e = rw (n.reads, m.reads, c.reads, t.0, g, e)

          pub texts-read : {v : Unit {0}} {next : ℕ} → b + 1 + len ≤ d → ReadsTo (byte 10) s d v next
              → ReadsTo field_texts s at (take len (drop (b + 1) s), o) next
          unfolding field_texts ◌>>=◌ ◌>>◌ and_then pure
          texts-read h e =
              record {
                reads = rw (n.reads, m.reads, c.reads, t.0, g, e.reads);
                past = omega (arith, n.past, m.past, e.past);
                within = e.within;
              }

unfoldable pub field_by : FieldMarks → List ℕ × Option (List ℕ) → entries.FieldHead
field_by m x =
    record {
      kind = m.kind;
      is_open = m.opened;
      has_items = m.items;
      count = m.count;
      name = x.0;
      tag = x.1;
    }

pub field-pieces : (l : List ℕ) → field_head l ≡ (field_marks >>= λ m. field_texts >>= λ x. pure (field_by m x)) l
unfolding field_head field_marks field_texts first field_by ◌>>=◌ ◌>>◌ and_then pure
field-pieces l = simp and_then-assoc

pub field-no-marks : (s : List ℕ) (at : ℕ) → Refuses field_marks s at → Refuses field_head s at
field-no-marks s at e = field-pieces (drop at s) ∙ bind-refused _ _ s at e

module _ {s : List ℕ} {at a : ℕ} {m : FieldMarks} (f : ReadsTo field_marks s at m a) where
  pub field-no-texts : Refuses field_texts s a → Refuses field_head s at
  field-no-texts e = field-pieces (drop at s) ∙ bind-refuses _ _ f (bind-refused _ _ s a e)

  pub field-reads : (name : Part) (tag : Optional Part) {next : ℕ} → ReadsTo field_texts s a (part_of s name, optional_of s tag) next
      → ReadsTo field_head s at (field_of s (record { kind = m.kind; opened = m.opened; items = m.items; count = m.count; name = name; tag = tag })) next
  unfolding ◌>>=◌ and_then pure field_of field_by
  field-reads name tag e =
      record {
        reads = field-pieces (drop at s) ∙ rw (f.reads, e.reads);
        past = omega (arith, f.past, e.past);
        within = e.within;
      }

-- Rules

pub rule-no-name-length : (s : List ℕ) (at : ℕ) → Refuses text_length s at → Refuses rule_texts s at
unfolding rule_texts
rule-no-name-length s at e = bind-refused _ _ s at e

module _ {s : List ℕ} {at a : ℕ} {l : Option ℕ} (n : ReadsTo text_length s at l a) where
  pub rule-no-message-length : Refuses text_length s a → Refuses rule_texts s at
  unfolding rule_texts
  rule-no-message-length e = bind-refuses _ _ n (bind-refused _ _ s a e)

  module _ {b : ℕ} {k : Option ℕ} (m : ReadsTo text_length s a k b) where
    pub rule-no-comma : Refuses (byte 44) s b → Refuses rule_texts s at
    unfolding rule_texts
    rule-no-comma e = bind-refuses _ _ n (bind-refuses _ _ m (then-refused _ _ s b e))

    module _ {u : Unit {0}} (c : ReadsTo (byte 44) s b u (b + 1)) where
      pub rule-no-name : Refuses (optional_text l) s (b + 1) → Refuses rule_texts s at
      unfolding rule_texts
      rule-no-name e = bind-refuses _ _ n (bind-refuses _ _ m (then-refuses _ _ c (bind-refused _ _ s (b + 1) e)))

      module _ (d : ℕ) (o : Option (List ℕ)) (f : optional_text l (drop (b + 1) s) ≡ some (o, drop d s)) where
        pub rule-no-message : Refuses (optional_text k) s d → Refuses rule_texts s at
        unfolding rule_texts ◌>>=◌ ◌>>◌ and_then
        rule-no-message e = rw (n.reads, m.reads, c.reads, f, e)

        module _ (z : ℕ) (x : Option (List ℕ)) (g : optional_text k (drop d s) ≡ some (x, drop z s)) where
          pub rule-no-end : Refuses (byte 10) s z → Refuses rule_texts s at
          unfolding rule_texts ◌>>=◌ ◌>>◌ and_then
          rule-no-end e = rw (n.reads, m.reads, c.reads, f, g, e)

          pub rule-texts-read : {v : Unit {0}} {next : ℕ} → b + 1 ≤ d → d ≤ z → ReadsTo (byte 10) s z v next → ReadsTo rule_texts s at (entries.rule o x) next
          unfolding rule_texts ◌>>=◌ ◌>>◌ and_then pure
          rule-texts-read h i e =
              record {
                reads = rw (n.reads, m.reads, c.reads, f, g, e.reads);
                past = omega (arith, n.past, m.past, e.past);
                within = e.within;
              }

rule_end : Reader (List ℕ) entries.RuleHead
rule_end = line_end >> pure entries.template

rule-pieces : (l : List ℕ) → rule_head l ≡ or_else ((byte 82 >> rule_texts) l) ((byte 84 >> rule_end) l)
unfolding rule_head rule_texts rule_end either
rule-pieces l = refl

module _ {s : List ℕ} {at : ℕ} {u : Unit {0}} (c : ReadsTo (byte 82) s at u (at + 1)) where
  pub rule-named : (r : Optional (RuleHead × ℕ)) → RuleTextsAre s (at + 1) r → RuleIs s at r
  unfolding or_else ◌>>◌ ◌>>=◌ and_then
  rule-named (Some (h, next)) e =
      record {
        reads = rule-pieces (drop at s) ∙ rw (c.reads, e.reads);
        past = omega (arith, c.past, e.past);
        within = e.within;
      }
  rule-named None e = rule-pieces (drop at s) ∙ rw (c.reads, e, byte-other 82 84 (λ q. eqb-false 82 84 refl q) c)

module _ (s : List ℕ) (at : ℕ) (c : Refuses (byte 82) s at) where
  pub rule-other : Refuses (byte 84) s at → Refuses rule_head s at
  unfolding or_else ◌>>◌ ◌>>=◌ and_then
  rule-other e = rule-pieces (drop at s) ∙ rw (c, e)

  module _ {u : Unit {0}} (d : ReadsTo (byte 84) s at u (at + 1)) where
    pub template-no-end : Refuses (byte 10) s (at + 1) → Refuses rule_head s at
    unfolding or_else rule_end ◌>>◌ ◌>>=◌ and_then
    template-no-end e = rule-pieces (drop at s) ∙ rw (c, d.reads, e)

    pub template-reads : {v : Unit {0}} → ReadsTo (byte 10) s (at + 1) v (at + 1 + 1) → ReadsTo rule_head s at entries.template (at + 2)
    unfolding or_else rule_end ◌>>◌ ◌>>=◌ and_then pure
    template-reads e =
        let n : at + 1 + 1 ≡ at + 2 = omega arith in
        record {
          reads = rw (← n) (rule-pieces (drop at s) ∙ rw (c, d.reads, e.reads));
          past = omega arith;
          within = rw (← n) e.within;
        }

-- Conditions and values: a letter with a first field, a number, and a last text that may be empty.

text-empty : (l : List ℕ) → text 0 l ≡ some ([], l)
unfolding text bytes is_utf8 code_points code_points_in is_some ensure pure ◌>>=◌ ◌>>◌ and_then
text-empty l = rw (leb-zero (length l))

-- a head after its letter and first field
module _ {B : Type 0} (letter low high : ℕ) (k : ℕ → Reader (List ℕ) B) where
  first-refuses : (s : List ℕ) (at : ℕ) → Refuses (first letter low high) s at → Refuses (byte letter >> (item low high >>= k)) s at
  unfolding first ◌>>=◌ and_then
  first-refuses s at e = then-bind (byte letter) (item low high) k (drop at s) ∙ rw e

  first-behind : {s : List ℕ} {at a n : ℕ} → ReadsTo (first letter low high) s at n a → (byte letter >> (item low high >>= k)) (drop at s) ≡ k n (drop a s)
  unfolding first ◌>>=◌ and_then
  first-behind {s} {at} e = then-bind (byte letter) (item low high) k (drop at s) ∙ rw e.reads

-- The end of the line is read after what is made of the fields, or after the last text: it is the same.

-- by what a reader finds, and by what a test says
by_both : {A : Type 0} {C : Type 0} (o : Option A) (b : Bool) → (o ≡ none → b ≡ true → C) → (o ≡ none → b ≡ false → C)
    → ((a : A) → o ≡ some a → b ≡ true → C) → ((a : A) → o ≡ some a → b ≡ false → C) → C
by_both none true f g h i = f refl refl
by_both none false f g h i = g refl refl
by_both (some a) true f g h i = h a refl refl
by_both (some a) false f g h i = i a refl refl

module _ {B : Type 0} where
  word_end : (List ℕ → Bool) → (List ℕ → B) → List ℕ → Reader (List ℕ) B
  word_end test k t = ensure (test t) >> pure (k t)

  word-end : (test : List ℕ → Bool) (k : List ℕ → B) (t u : List ℕ)
      → (word_end test k t >>= λ h. line_end >> pure h) u ≡ ((line_end >> pure t) >>= word_end test k) u
  unfolding word_end ensure pure ◌>>◌ ◌>>=◌ and_then
  word-end test k t u =
      by_both (line_end u) (test t) (λ e f. rw (f, e)) (λ e f. rw (f, e)) (λ a e f. rw (f, e, f)) (λ a e f. rw (f, e, f))

  word-text : (test : List ℕ → Bool) (k : List ℕ → B) (n : ℕ) (u : List ℕ)
      → ((text n >>= word_end test k) >>= λ h. line_end >> pure h) u ≡ ((text n >>= λ t. line_end >> pure t) >>= word_end test k) u
  unfolding ◌>>=◌ and_then
  word-text test k n u = go (text n u)
    where
      go : (o : Option (List ℕ × List ℕ)) → and_then (and_then o (word_end test k)) (λ h. line_end >> pure h) ≡ and_then (and_then o (λ t. line_end >> pure t)) (word_end test k)
      go none = refl
      go (some r) = word-end test k r.0 r.1

  word-comma : (test : List ℕ → Bool) (k : List ℕ → B) (n : ℕ) (u : List ℕ)
      → ((comma >> (text n >>= word_end test k)) >>= λ h. line_end >> pure h) u ≡ (last_text n >>= word_end test k) u
  unfolding last_text ◌>>◌ ◌>>=◌ and_then
  word-comma test k n u = go (comma u)
    where
      go : (o : Option (Unit {0} × List ℕ)) → and_then (and_then o (λ a. text n >>= word_end test k)) (λ h. line_end >> pure h)
          ≡ and_then (and_then o (λ a. text n >>= λ t. line_end >> pure t)) (word_end test k)
      go none = refl
      go (some r) = word-text test k n r.1

  -- a number, and a text of so many bytes
  word : (low high : ℕ) (test : ℕ → List ℕ → Bool) (k : ℕ → List ℕ → B) (len : ℕ → ℕ) (l : List ℕ)
      → ((item low high >>= λ n. comma >> (text (len n) >>= word_end (test n) (k n))) >>= λ h. line_end >> pure h) l
      ≡ (item low high >>= λ n. last_text (len n) >>= word_end (test n) (k n)) l
  unfolding ◌>>=◌ and_then
  word low high test k len l = go (item low high l)
    where
      go : (o : Option (ℕ × List ℕ)) → and_then (and_then o (λ n. comma >> (text (len n) >>= word_end (test n) (k n)))) (λ h. line_end >> pure h)
          ≡ and_then o (λ n. last_text (len n) >>= word_end (test n) (k n))
      go none = refl
      go (some r) = word-comma (test r.0) (k r.0) (len r.0) r.1

  -- a number, and no text
  plain-text : (x : B) (u : List ℕ) → pure x u ≡ (text 0 >>= word_end (λ t. true) (λ t. x)) u
  unfolding word_end ensure pure ◌>>◌ ◌>>=◌ and_then
  plain-text x u = rw (text-empty u)

  plain : (low high : ℕ) (k : ℕ → B) (l : List ℕ)
      → ((item low high >>= λ n. comma >> pure (k n)) >>= λ h. line_end >> pure h) l ≡ (item low high >>= λ n. last_text 0 >>= word_end (λ t. true) (λ t. k n)) l
  unfolding ◌>>◌ ◌>>=◌ and_then
  plain low high k l = go (item low high l) ∙ word low high (λ n t. true) (λ n t. k n) (λ n. 0) l
    where
      behind : (x : B) (o : Option (Unit {0} × List ℕ)) → and_then (and_then o (λ a. pure x)) (λ h. line_end >> pure h)
          ≡ and_then (and_then o (λ a. text 0 >>= word_end (λ t. true) (λ t. x))) (λ h. line_end >> pure h)
      behind x none = refl
      behind x (some r) = ap (λ (o : Option (B × List ℕ)). and_then o (λ h. line_end >> pure h)) (plain-text x r.1)

      go : (o : Option (ℕ × List ℕ)) → and_then (and_then o (λ n. comma >> pure (k n))) (λ h. line_end >> pure h)
          ≡ and_then (and_then o (λ n. comma >> (text 0 >>= word_end (λ t. true) (λ t. k n)))) (λ h. line_end >> pure h)
      go none = refl
      go (some r) = behind (k r.0) (comma r.1)

mark-bind : {B : Type 0} (k : Bool → Reader (List ℕ) B) (l : List ℕ) → (mark >>= k) l ≡ (item 0 1 >>= λ n. k (eqb n 1)) l
unfolding mark pure ◌>>=◌ and_then
mark-bind k l = go (item 0 1 l)
  where
    go : (o : Option (ℕ × List ℕ)) → and_then (and_then o (λ n. pure (eqb n 1))) k ≡ and_then o (λ n. k (eqb n 1))
    go none = refl
    go (some r) = refl

condition_rest : ℕ → Shape → Reader (List ℕ) entries.ConditionHead
condition_rest op sh = behind_operator op sh >>= λ h. line_end >> pure h

condition_end : ℕ → Shape → ℕ → Reader (List ℕ) entries.ConditionHead
condition_end op sh n = last_text (cond (condition_row sh).bound n 0) >>= λ t. pure (condition_by op n t sh)

condition-pieces : (op : ℕ) (sh : Shape) (l : List ℕ) → condition_rest op sh l ≡ (item (condition_row sh).least (condition_row sh).most >>= condition_end op sh) l
unfolding condition_rest condition_end behind_operator condition_row condition_by word_end ensure pure ◌>>=◌ ◌>>◌ and_then
condition-pieces op literal l =
    ap (λ (o : Option (entries.ConditionHead × List ℕ)). and_then o (λ h. line_end >> pure h)) (mark-bind (λ t. comma >> pure (entries.literal_head t)) l)
    ∙ plain 0 1 (λ n. entries.literal_head (eqb n 1)) l
condition-pieces op many l = plain 0 max_count (λ n. entries.many_head op n) l
condition-pieces op negation l = plain 0 0 (λ n. entries.negation_head) l
condition-pieces op one l = plain 0 0 (λ n. entries.one_head op) l
condition-pieces op two l = plain 0 0 (λ n. entries.two_head op) l
condition-pieces op comparison l = plain 1 6 (λ n. entries.comparison_head n) l
condition-pieces op quantifier l = word 0 max_text (λ n t. true) (λ n t. entries.quantifier_head op t) (λ n. n) l

pub condition-other : (s : List ℕ) (at : ℕ) → Refuses (first 67 1 21) s at → Refuses condition_head s at
unfolding condition_head
condition-other s at e = first-refuses 67 1 21 _ s at e

module _ {s : List ℕ} {at a op : ℕ} (o : ReadsTo (first 67 1 21) s at op a) (sh : Shape) (is : sh ≡ shape_of op) (row : ConditionRow) (its : row ≡ condition_row sh) where
  condition-is : condition_head (drop at s) ≡ (item row.least row.most >>= condition_end op sh) (drop a s)
  unfolding condition_head condition_rest
  condition-is = first-behind 67 1 21 _ o ∙ (rw (← is, its) (condition-pieces op sh (drop a s)))

  pub condition-no-number : Refuses (item row.least row.most) s a → Refuses condition_head s at
  unfolding ◌>>=◌ and_then
  condition-no-number e = condition-is ∙ rw e

  module _ {n b : ℕ} (m : ReadsTo (item row.least row.most) s a n b) (len : ℕ) (size : len ≡ cond row.bound n 0) where
    bind : len ≡ cond (condition_row sh).bound n 0
    bind = rw its at size

    pub condition-no-text : LastTextIs len s b false → Refuses condition_head s at
    unfolding ◌>>=◌ and_then condition_end
    condition-no-text e = condition-is ∙ rw (m.reads, ← bind, e)

    pub condition-reads : LastTextIs len s b true → ReadsTo condition_head s at (condition_by op n (take len (drop (b + 1) s)) sh) (b + 1 + len + 1)
    unfolding ◌>>=◌ and_then condition_end pure
    condition-reads e =
        record {
          reads = condition-is ∙ rw (m.reads, ← bind, e.reads);
          past = omega (arith, o.past, m.past, e.past);
          within = e.within;
        }

pub condition-code : (s : List ℕ) (op n : ℕ) (p : Part) (sh : Shape) → condition_by op n (part_of s p) sh ≡ condition_of s (condition_from op n p sh)
unfolding condition_by condition_of condition_from
condition-code s op n p literal = refl
condition-code s op n p many = refl
condition-code s op n p negation = refl
condition-code s op n p one = refl
condition-code s op n p two = refl
condition-code s op n p comparison = refl
condition-code s op n p quantifier = refl

pub condition-counted : (op n : ℕ) (p : Part) (sh : Shape) → n ≤ (condition_row sh).most → condition_count (condition_from op n p sh) ≤ max_count
unfolding condition_count condition_from condition_row
condition-counted op n p literal h = omega arith
condition-counted op n p many h = h
condition-counted op n p negation h = omega arith
condition-counted op n p one h = omega arith
condition-counted op n p two h = omega arith
condition-counted op n p comparison h = omega arith
condition-counted op n p quantifier h = omega arith

rest_by : ValueKind → ℕ → Reader (List ℕ) entries.ValueHead
rest_by kind.Constant type = constant_rest type
rest_by kind.Number type = number_rest
rest_by kind.Text type = string_rest
rest_by kind.Array type = array_rest
rest_by kind.Object type = object_rest

rest-kind : (type : ℕ) → behind_type type ≡ rest_by (kind_of type) type
unfolding behind_type rest_by kind_of
rest-kind type = go (leb type 3) (leb type 4) (leb type 5) (leb type 6)
  where
    go : (a b c d : Bool)
        → cond a (constant_rest type) (cond b number_rest (cond c string_rest (cond d array_rest object_rest)))
        ≡ rest_by (cond a kind.Constant (cond b kind.Number (cond c kind.Text (cond d kind.Array kind.Object)))) type
    go true b c d = refl
    go false true c d = refl
    go false false true d = refl
    go false false false true = refl
    go false false false false = refl

value_rest : ValueKind → ℕ → Reader (List ℕ) entries.ValueHead
value_rest k type = rest_by k type >>= λ h. line_end >> pure h

value_end : ValueKind → ℕ → ℕ → Reader (List ℕ) entries.ValueHead
value_end k type n = last_text (cond (value_row k).texted n 0) >>= λ t. ensure (cond (value_row k).numeric (is_number t) true) >> pure (value_by k type n t)

value-pieces : (k : ValueKind) (type : ℕ) (l : List ℕ) → value_rest k type l ≡ (item 0 (value_row k).most >>= value_end k type) l
unfolding value_rest value_end rest_by constant_rest number_rest string_rest array_rest object_rest value_row value_by word_end ensure pure ◌>>=◌ ◌>>◌ and_then
value-pieces kind.Constant type l = plain 0 0 (λ n. entries.constant_head type) l
value-pieces kind.Number type l = word 0 max_text (λ n t. is_number t) (λ n t. entries.number_head t) (λ n. n) l
value-pieces kind.Text type l = word 0 max_text (λ n t. true) (λ n t. entries.string_head t) (λ n. n) l
value-pieces kind.Array type l = plain 0 max_count (λ n. entries.array_head n) l
value-pieces kind.Object type l = plain 0 max_count (λ n. entries.object_head n) l

pub value-other : (s : List ℕ) (at : ℕ) → Refuses (first 86 1 7) s at → Refuses value_head s at
unfolding value_head
value-other s at e = first-refuses 86 1 7 _ s at e

module _ {s : List ℕ} {at a type : ℕ} (o : ReadsTo (first 86 1 7) s at type a) (k : ValueKind) (is : k ≡ kind_of type) (row : ValueRow) (its : row ≡ value_row k) where
  value-is : value_head (drop at s) ≡ (item 0 row.most >>= value_end k type) (drop a s)
  unfolding value_head value_rest
  value-is = first-behind 86 1 7 _ o ∙ (rw (rest-kind type, ← is, its) (value-pieces k type (drop a s)))

  pub value-no-number : Refuses (item 0 row.most) s a → Refuses value_head s at
  unfolding ◌>>=◌ and_then
  value-no-number e = value-is ∙ rw e

  module _ {n b : ℕ} (m : ReadsTo (item 0 row.most) s a n b) (len : ℕ) (size : len ≡ cond row.texted n 0) where
    sized : len ≡ cond (value_row k).texted n 0
    sized = rw its at size

    pub value-no-text : LastTextIs len s b false → Refuses value_head s at
    unfolding ◌>>=◌ and_then value_end
    value-no-text e = value-is ∙ rw (m.reads, ← sized, e)

    module _ (e : LastTextIs len s b true) where
      right : {x : Bool} → x ≡ cond row.numeric (is_number (take len (drop (b + 1) s))) true → x ≡ cond (value_row k).numeric (is_number (take len (drop (b + 1) s))) true
      right w = rw its at w

      pub value-wrong : false ≡ cond row.numeric (is_number (take len (drop (b + 1) s))) true → Refuses value_head s at
      unfolding ◌>>=◌ ◌>>◌ and_then ensure value_end
      value-wrong w = value-is ∙ rw (m.reads, ← sized, e.reads, ← right w)

      pub value-reads : true ≡ cond row.numeric (is_number (take len (drop (b + 1) s))) true → ReadsTo value_head s at (value_by k type n (take len (drop (b + 1) s))) (b + 1 + len + 1)
      unfolding ◌>>=◌ ◌>>◌ and_then ensure value_end pure
      value-reads w =
          record {
            reads = value-is ∙ rw (m.reads, ← sized, e.reads, ← right w);
            past = omega (arith, o.past, m.past, e.past);
            within = e.within;
          }

pub value-code : (s : List ℕ) (k : ValueKind) (type n : ℕ) (p : Part) → value_by k type n (part_of s p) ≡ value_of s (value_from k type n p)
unfolding value_by value_of value_from
value-code s kind.Constant type n p = refl
value-code s kind.Number type n p = refl
value-code s kind.Text type n p = refl
value-code s kind.Array type n p = refl
value-code s kind.Object type n p = refl

pub value-counted : (k : ValueKind) (type n : ℕ) (p : Part) → n ≤ (value_row k).most → value_count (value_from k type n p) ≤ max_count
unfolding value_count value_from value_row
value-counted kind.Constant type n p h = omega arith
value-counted kind.Number type n p h = omega arith
value-counted kind.Text type n p h = omega arith
value-counted kind.Array type n p h = h
value-counted kind.Object type n p h = h

-- Keys

pub key-other : (s : List ℕ) (at : ℕ) → Refuses (first 75 0 max_text) s at → Refuses key_head s at
unfolding key_head
key-other s at e = first-refuses 75 0 max_text _ s at e

module _ {s : List ℕ} {at a n : ℕ} (o : ReadsTo (first 75 0 max_text) s at n a) where
  key-is : key_head (drop at s) ≡ last_text n (drop a s)
  unfolding key_head last_text
  key-is = first-behind 75 0 max_text _ o

  pub key-no-text : LastTextIs n s a false → Refuses key_head s at
  key-no-text e = key-is ∙ e

  pub key_reads : LastTextIs n s a true → ReadsTo key_head s at (take n (drop (a + 1) s)) (a + 1 + n + 1)
  key_reads e = record { reads = key-is ∙ e.reads; past = omega (arith, o.past, e.past); within = e.within }
