-- What the readers of a rule's own object answer.
use Rattle.std.specs.Prelude.{ℕ, ◌+◌, ◌≤◌, List, ◌≡◌, length, Option as Optional, Some, None}
use Rattle.std.proofs.Math.Option.{Option, none, some, bind}
use Rattle.text.specs.Ascii.{ascii}
use Rattle.text.specs.Reader.{◌>>=◌}
use Rattle.text.specs.ReadAt.{ReadsTo, Refuses}
use Rattle.sheet.specs.Entries.{max_text}
use Rattle.sheet.specs.Entries as Entries
use Rattle.sheet.specs.Write.{write_length, write_text, write_rule_head}
use Rattle.definition.specs.Tree.{Condition, Rule, rule}
use Rattle.definition.specs.Decode.{decode_rule}
use Rattle.definition.specs.Write.{write_condition, write_rule}
use Rattle.buffer.specs.Laid.{Laid}
use Rattle.json_text.specs.Json.{Text}
use Rattle.json_text.specs.Strings.{string}
use Rattle.json_text.specs.Grammar.{value, document}
use Rattle.json_rule.specs.Shape.{optional_of, names, asserts, says, rule_of}
use Rattle.json_rule.specs.Streamed.{asked}
use Rattle.json_rule.specs.RuleStreamed.{NamedPart, rule_member, held_depth, rule_rest}
use Rattle.json_sheet.specs.Places.{part_of}
use Rattle.json_sheet.specs.declared.rule_text.RuleMember.{RuleMember}
use Rattle.json_sheet.specs.declared.rule_text.RuleMembers.{RuleMembers}
use Rattle.json_sheet.specs.declared.rule_text.RuleRead.{RuleRead}
use Rattle.json_sheet.specs.declared.rule_text.RuleRead.TheVariants as result

-- the longest head of a rule fits in front of this place
abbrev pub front_room : ℕ
front_room = 1060

-- Texts that may be absent

pub record Quoted (s : List ℕ) (place len : ℕ) (t : Text) : Type 0 where
  pub there : place ≡ 0 → ⊥
  pub within : place ≤ length s
  pub next : ℕ
  pub read : ReadsTo string s place t next
  pub size : length t ≡ len

-- where a text begins, behind the quotation mark, and its length; 0 and 0 where it is absent
abbrev pub TextAt : List ℕ → (place len : ℕ) → Option Text → Type 0
TextAt s place len none = (place ≡ 0) × (len ≡ 0)
TextAt s place len (some t) = Quoted s place len t

pub record GivenText (s : List ℕ) (at place len next : ℕ) : Type 0 where
  pub text : Option Text
  pub held : TextAt s place len text
  pub read : (d : ℕ) → ReadsTo (value d >>= asked optional_of) s at text next

-- a string or null, however deep a value may nest there
abbrev pub OptionalIs : List ℕ → ℕ → Optional (ℕ × ℕ × ℕ) → Type 0
OptionalIs s at (Some (place, len, next)) = GivenText s at place len next
OptionalIs s at None = (d : ℕ) → Refuses (value d >>= asked optional_of) s at

-- whatever text is there, its length or the text itself is laid
pub record LaysLength (place len : ℕ) (before after : List ℕ) (o r : ℕ) : Type 0 where
  pub lies : (s : List ℕ) (t : Option Text) → TextAt s place len t → Laid before after o (write_length t) r

pub record LaysOptional (s : List ℕ) (place : ℕ) (before after : List ℕ) (o r : ℕ) : Type 0 where
  pub lies : (len : ℕ) (t : Option Text) → TextAt s place len t → Laid before after o (write_text t) r

-- the head of the rule that has these
pub record LaysHead (s : List ℕ) (name name_length message message_length : ℕ) (before after : List ℕ) (r : ℕ) : Type 0 where
  pub lies : (t u : Option Text) → TextAt s name name_length t → TextAt s message message_length u → Laid before after 0 (write_rule_head (Entries.rule t u)) r

-- if both texts are within the limit, it lies in front of the condition's place
pub record FrontLaid (s : List ℕ) (name name_length message message_length : ℕ) (before after : List ℕ) (start : ℕ) : Type 0 where
  pub front : start ≤ front_room
  pub lies : (t u : Option Text) → TextAt s name name_length t → TextAt s message message_length u → name_length ≤ max_text → message_length ≤ max_text
      → Laid before after start (write_rule_head (Entries.rule t u)) front_room × (start + length (write_rule_head (Entries.rule t u)) ≡ front_room)

-- Members

-- a member, which one it is, and where it lies
pub data RuleSeen (s before after : List ℕ) : NamedPart → (kind a b : ℕ) → Type 0 where
  is_name : (t : Option Text) (a b : ℕ) → TextAt s a b t → after ≡ before → RuleSeen s before after (ascii "name", names t) 1 a b
  is-assert : (c : Condition) (a : ℕ) → Laid before after front_room (write_condition c) a → RuleSeen s before after (ascii "assert", asserts c) 2 a 0
  is-message : (t : Option Text) (a b : ℕ) → TextAt s a b t → after ≡ before → RuleSeen s before after (ascii "message", says t) 3 a b

pub record GivenRuleMember (s : List ℕ) (at : ℕ) (before after : List ℕ) (kind a b next : ℕ) : Type 0 where
  pub part : NamedPart
  pub read : ReadsTo (part_of (rule_member held_depth)) s at part next
  pub seen : RuleSeen s before after part kind a b

abbrev pub RuleMemberIs : List ℕ → ℕ → List ℕ → List ℕ → Optional RuleMember → Type 0
RuleMemberIs s at before after (Some m) = GivenRuleMember s at before after m.kind m.place m.len m.next
RuleMemberIs s at before after None = Refuses (part_of (rule_member held_depth)) s at

-- All of them

pub record GivenParts (s : List ℕ) (at : ℕ) (before after : List ℕ) (next end name name_length message message_length : ℕ) : Type 0 where
  pub named : Option Text
  pub told : Option Text
  pub condition : Condition
  pub read : ReadsTo rule_rest s at (rule named told condition) next
  pub name-at : TextAt s name name_length named
  pub message-at : TextAt s message message_length told
  pub lies : Laid before after front_room (write_condition condition) end

abbrev pub PartsAre : List ℕ → ℕ → List ℕ → List ℕ → Optional RuleMembers → Type 0
PartsAre s at before after (Some r) = GivenParts s at before after r.next r.end r.name r.name_len r.message r.message_len
PartsAre s at before after None = Refuses rule_rest s at

-- The rule

pub record RuleGiven (s before after : List ℕ) (start end : ℕ) : Type 0 where
  pub rule : Rule
  pub read : bind (document s) rule_of ≡ some rule
  pub front : start ≤ front_room
  pub lies : Laid before after start (write_rule rule) end

pub record RuleLong (s : List ℕ) : Type 0 where
  pub rule : Rule
  pub read : bind (document s) rule_of ≡ some rule
  pub long : decode_rule (write_rule rule) ≡ none

abbrev pub RuleTextIs : List ℕ → List ℕ → List ℕ → RuleRead → Type 0
RuleTextIs s before after (result.Good start end) = RuleGiven s before after start end
RuleTextIs s before after result.Long = RuleLong s
RuleTextIs s before after result.Bad = bind (document s) rule_of ≡ none
