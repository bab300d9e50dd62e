-- A schema and a rule are read back as they were written, and what a sheet holds is the writing of its tree.
use Rattle.std.specs.Prelude.{ℕ, ◌+◌, ◌-◌, ◌≤◌, ◌≡◌, leb, length}
use mathlib.Core.List.{List, [], append_assoc, append-nil}
use Rattle.std.proofs.Math.Option.{Option, none, some, map, map-eq-some_iff}
use Rattle.std.proofs.Math.Path.{refl, sym}
use Rattle.std.proofs.Common.{ap, ◌∙◌}
use native.Mathlib.Omega.{arith}
use borrow.Author.Tests.{eqb-true, leb-true, le-leb}
use Rattle.text.specs.Reader.{Reader, ensure, pure, ◌>>=◌, ◌>>◌}
use Rattle.text.specs.ReaderLaws.{Reads, bind_inv, then-inv, bind-reads, then-reads, pure-inv, ensure-inv, ensure-reads}
use Rattle.sheet.specs.Entries.{max_count, HolderHead, RuleHead}
use Rattle.sheet.specs.Entries as Entries
use Rattle.sheet.specs.Write.{write_rule_head}
use Rattle.sheet.proofs.HeadLaws.{schema_head-exact}
use Rattle.sheet.proofs.HeadLaws as HeadLaws
use Rattle.sheet.proofs.RuleHeadLaws.{RuleHeadFits, rule_head-exact}
use Rattle.definition.specs.Tree.{Holder, Schema, Rule, rule, template}
use Rattle.definition.specs.Limits.{max_sheet_bytes, max_field_nesting}
use Rattle.definition.specs.Decode.{Ahead, announce, at_end, whole, members_of, field_in, holder_of, arguments_of, schema, rule_of, any_rule}
use Rattle.definition.specs.Write.{count_of_members, write_members, head_of, head_of_arguments, write_arguments, write_schema, write_value, write_condition, write_rule}
use Rattle.definition.specs.Within.{members_entries, arguments_entries, schema_entries, rule_entries, members_nesting, arguments_nesting, schema_nesting, SchemaRises, MembersFit, ArgumentsFit, MembersRise, ArgumentsRise, MembersFrom, ArgumentsFrom, RuleFits, RuleFrom}
use Rattle.definition.proofs.TreeLaws.{Moves, TreeLaw, moves-none, moves-split, Enters, entering, entry-reads, announcing, announce-reads, announced-inv, announced-reads, enters-moves, enters-first}
use Rattle.definition.proofs.ConditionLaws.{condition-law, operand-law}
use Rattle.definition.proofs.FieldLaws.{length-zero, MembersGood, field-law, members-law, members-take}

-- The record, or the arguments. Their fields are announced by the reader itself.

pub record HolderGood (h : HolderHead) (next : ℕ) (x : Holder) : Type 0 where
  pub head : head_of x ≡ h
  pub nesting : members_nesting x.members ≤ max_field_nesting
  pub rises : MembersRise none x.members
  pub fits : MembersFit x.members
  pub numbers : MembersFrom next x.members

fields-law : (depth n : ℕ) → TreeLaw (members_of n none (field_in depth)) write_members members_entries count_of_members (MembersGood depth n none)
fields-law depth n = members-law depth (field_in depth) (field-law depth) n none

holder-sound : (h : HolderHead) (a : Ahead) (x : Holder) (b : Ahead) → Reads (holder_of h) a x b
    → Moves (write_members x.members) (members_entries x.members) 0 a b × HolderGood h a.next x
unfolding holder_of head_of
holder-sound h a x b e =
    announced-inv (fields-law _ h.count) _ (λ next x g. g.count) _ _ e λ members a₁ m g e.
    let q = pure-inv _ _ e in
    rw (← q.0, ← q.1)
    (m, record { head = rw g.count; nesting = g.nesting; rises = g.rises; fits = g.fits; numbers = g.numbers })

holder-complete : (h : HolderHead) (a : Ahead) (x : Holder) (b : Ahead) → a.left ≤ max_count
    → Moves (write_members x.members) (members_entries x.members) 0 a b → HolderGood h a.next x → Reads (holder_of h) a x b
unfolding holder_of head_of pure
holder-complete h a x b l m g =
    rw (← g.head)
    (announced-reads (fields-law _ (count_of_members x.members)) _ x.members a b l m
    (record { count = refl; nesting = g.nesting; rises = g.rises; fits = g.fits; numbers = g.numbers })
    refl)

abbrev pub ArgumentsGood : Option HolderHead → ℕ → Option Holder → Type 0
ArgumentsGood none next none = Unit {0}
ArgumentsGood none next (some x) = ⊥
ArgumentsGood (some h) next none = ⊥
ArgumentsGood (some h) next (some x) = HolderGood h next x

arguments_sound : (o : Option HolderHead) (a : Ahead) (x : Option Holder) (b : Ahead) → Reads (arguments_of o) a x b
    → Moves (write_arguments x) (arguments_entries x) 0 a b × ArgumentsGood o a.next x
unfolding arguments_of write_arguments arguments_entries
arguments_sound none a x b e =
    let q = pure-inv _ _ e in
    rw (← q.0, ← q.1) (record { rest = refl; next = omega arith; left = omega arith }, tt)
arguments_sound (some h) a x b e =
    bind_inv _ _ _ e λ y a₁ e₁ e.
    let q = pure-inv _ _ e in
    rw (← q.0, ← q.1) (holder-sound h a y a₁ e₁)

arguments-complete : (o : Option HolderHead) (a : Ahead) (x : Option Holder) (b : Ahead) → a.left ≤ max_count
    → Moves (write_arguments x) (arguments_entries x) 0 a b → ArgumentsGood o a.next x → Reads (arguments_of o) a x b
unfolding arguments_of write_arguments arguments_entries pure
arguments-complete none a none b l m g = rw (moves-none a b m)
arguments-complete none a (some x) b l m g = absurd g
arguments-complete (some h) a none b l m g = absurd g
arguments-complete (some h) a (some x) b l m g = bind-reads _ _ (holder-complete h a x b l m g) refl

-- The head of a schema whose entries fit in the budget.

arguments-head : (o : Option HolderHead) (next : ℕ) (x : Option Holder) → ArgumentsGood o next x → head_of_arguments x ≡ o
unfolding head_of_arguments
arguments-head none next none g = refl
arguments-head none next (some x) g = absurd g
arguments-head (some h) next none g = absurd g
arguments-head (some h) next (some x) g = ap some g.head

arguments-fit : (x : Option Holder) → arguments_entries x ≤ max_count → HeadLaws.ArgumentsFit (head_of_arguments x)
unfolding head_of_arguments head_of arguments_entries
arguments-fit none l = tt
arguments-fit (some x) l = omega (arith, members-take x.members)

-- what is good of arguments, whatever their head
pub record PlainArguments (next : ℕ) (x : Option Holder) : Type 0 where
  pub nesting : arguments_nesting x ≤ max_field_nesting
  pub rises : ArgumentsRise x
  pub fits : ArgumentsFit x
  pub numbers : ArgumentsFrom next x

arguments-plain : (o : Option HolderHead) (next : ℕ) (x : Option Holder) → ArgumentsGood o next x → PlainArguments next x
unfolding arguments_nesting
arguments-plain none next none g = record { nesting = omega arith; rises = tt; fits = tt; numbers = tt }
arguments-plain none next (some x) g = absurd g
arguments-plain (some h) next none g = absurd g
arguments-plain (some h) next (some x) g = record { nesting = g.nesting; rises = g.rises; fits = g.fits; numbers = g.numbers }

arguments-good : (next : ℕ) (x : Option Holder) → PlainArguments next x → ArgumentsGood (head_of_arguments x) next x
unfolding head_of_arguments arguments_nesting
arguments-good next none g = tt
arguments-good next (some x) g = record { head = refl; nesting = g.nesting; rises = g.rises; fits = g.fits; numbers = g.numbers }

-- Schemas

pub record SchemaGood (next : ℕ) (t : Schema) : Type 0 where
  pub nesting : schema_nesting t ≤ max_field_nesting
  pub rises : SchemaRises t
  pub fits : MembersFit t.fields.members × ArgumentsFit t.arguments
  pub numbers : MembersFrom (next + 1) t.fields.members × ArgumentsFrom (next + 1 + members_entries t.fields.members) t.arguments

schema-sound : (a : Ahead) (t : Schema) (b : Ahead) → Reads schema a t b → Moves (write_schema t) (schema_entries t) 1 a b × SchemaGood a.next t
unfolding schema write_schema schema_entries schema_nesting
schema-sound a t b e =
    entering schema_head-exact _ _ e λ h a₁ m₁ e.
    bind_inv _ _ _ e λ fields a₂ e₂ e.
    bind_inv _ _ _ e λ arguments a₃ e₃ e.
    let q = pure-inv _ _ e in
    let m₂ = holder-sound h.fields a₁ fields a₂ e₂ in
    let m₃ = arguments_sound h.arguments a₂ arguments a₃ e₃ in
    let g = arguments-plain h.arguments _ arguments m₃.1 in
    rw (← q.0, ← q.1) (
      record {
        rest = rw (m₂.1.head, arguments-head h.arguments _ arguments m₃.1, m₁.rest, m₂.0.rest, m₃.0.rest) (simp append_assoc);
        next = omega arith;
        left = omega arith;
      },
      record {
        nesting = omega arith;
        rises = (m₂.1.rises, g.rises);
        fits = (m₂.1.fits, g.fits);
        numbers = (rw m₁.next at m₂.1.numbers, rw (m₂.0.next, m₁.next) at g.numbers);
      },
    )

schema-complete : (a : Ahead) (t : Schema) (b : Ahead) → a.left ≤ max_count → Moves (write_schema t) (schema_entries t) 1 a b → SchemaGood a.next t → Reads schema a t b
unfolding schema write_schema schema_entries schema_nesting head_of pure
schema-complete a t b l m g =
    let k = members-take t.fields.members in
    enters-first
    (record { fields = head_of t.fields; arguments = head_of_arguments t.arguments })
    (omega arith, arguments-fit t.arguments (omega arith))
    _ _ 0 a b m λ a₁ m₁ m₂.
    moves-split (write_members t.fields.members) (write_arguments t.arguments) _ _ 0 0 a₁ b m₂ (omega arith) λ a₂ m₃ m₄.
    bind-reads _ _ (entry-reads schema_head-exact a _ a₁ m₁)
    (bind-reads _ _
    (holder-complete (head_of t.fields) a₁ t.fields a₂ (omega arith) m₃
    (record { head = refl; nesting = omega arith; rises = g.rises.0; fits = g.fits.0; numbers = rw m₁.next g.numbers.0 }))
    (bind-reads _ _
    (arguments-complete (head_of_arguments t.arguments) a₂ t.arguments b (omega arith) m₄
    (arguments-good a₂.next t.arguments
    (record { nesting = omega arith; rises = g.rises.1; fits = g.fits.1; numbers = rw (m₃.next, m₁.next) g.numbers.1 })))
    refl))

schema-takes : (t : Schema) → 1 ≤ schema_entries t
unfolding schema_entries
schema-takes t = omega arith

pub schema-law : TreeLaw schema write_schema schema_entries (λ t. 1) SchemaGood
schema-law = record { sound = schema-sound; complete = schema-complete; announced-first = schema-takes }

-- Rules

abbrev pub RuleGood : ℕ → Rule → Type 0
RuleGood next t = RuleFits t × RuleFrom next t

rule_of-sound : (h : RuleHead) (a a₁ : Ahead) (t : Rule) (b : Ahead) → Enters write_rule_head RuleHeadFits a h a₁ → Reads (rule_of h) a₁ t b
    → Moves (write_rule t) (rule_entries t) 1 a b × RuleGood a.next t
unfolding rule_of write_rule rule_entries
rule_of-sound (Entries.rule name message) a a₁ t b m e =
    announced-inv (condition-law _) _ (λ next x g. refl) _ _ e λ assert a₂ m₂ g e.
    let q = pure-inv _ _ e in
    rw (← q.0, ← q.1) (enters-moves m m₂, ((m.fits.0, m.fits.1, g.nesting, g.fits), rw m.next at g.numbers))
rule_of-sound Entries.template a a₁ t b m e =
    announced-inv operand-law _ (λ next x g. refl) _ _ e λ v a₂ m₂ g e.
    let q = pure-inv _ _ e in
    rw (← q.0, ← q.1) (enters-moves m m₂, (g.0, rw m.next at g.1))

rule-complete : (a : Ahead) (t : Rule) (b : Ahead) → a.left ≤ max_count → Moves (write_rule t) (rule_entries t) 1 a b → RuleGood a.next t → Reads any_rule a t b
unfolding any_rule rule_of write_rule rule_entries pure
rule-complete a (rule name message assert) b l m g =
    enters-first (Entries.rule name message) (g.0.0, g.0.1) (write_condition assert) _ 0 a b m λ a₁ m₁ m₂.
    bind-reads _ _ (entry-reads rule_head-exact a (Entries.rule name message) a₁ m₁)
    (announced-reads (condition-law _) _ assert a₁ b (omega arith) m₂
    (record { nesting = g.0.2; fits = g.0.3; numbers = rw m₁.next g.1 })
    refl)
rule-complete a (template v) b l m g =
    enters-first Entries.template tt (write_value v) _ 0 a b m λ a₁ m₁ m₂.
    bind-reads _ _ (entry-reads rule_head-exact a Entries.template a₁ m₁)
    (announced-reads operand-law _ v a₁ b (omega arith) m₂ (g.0, rw m₁.next g.1) refl)

rule-takes : (t : Rule) → 1 ≤ rule_entries t
unfolding rule_entries
rule-takes (rule name message assert) = omega arith
rule-takes (template v) = omega arith

pub rule-law : TreeLaw any_rule write_rule rule_entries (λ t. 1) RuleGood
unfolding any_rule
rule-law =
    record {
      sound = λ a t b e. entering rule_head-exact _ _ e λ h a₁ m₁ e. rule_of-sound h a a₁ t b m₁ e;
      complete = rule-complete;
      announced-first = rule-takes;
    }

-- A sheet as a whole

map-inv : {A B C : Type 0} (f : A → B) (o : Option A) {b : B} → map f o ≡ some b → ((a : A) → o ≡ some a → f a ≡ b → C) → C
map-inv f o e k = let r = (map-eq-some_iff f o).0 e in k r.0 r.1 r.2

-- what `whole` reads, over what lies ahead of a sheet's first entry
abbrev chain : {A : Type 0} → ℕ → Reader Ahead A → Reader Ahead A
chain size p = do
  ensure (leb size max_sheet_bytes)
  announce 1
  t ← p
  at_end
  pure t

module _ {A : Type 0} {p : Reader Ahead A} {w : A → List ℕ} {entries : A → ℕ} {Good : ℕ → A → Type 0} (limit : ℕ) (law : TreeLaw p w entries (λ t. 1) Good) where
  chain-sound : (size : ℕ) (a : Ahead) (t : A) (b : Ahead) → Reads (chain size p) a t b
      → (a.rest ≡ w t) × (entries t ≤ a.left) × (size ≤ max_sheet_bytes) × Good a.next t
  unfolding at_end
  chain-sound size a t b e =
      then-inv _ _ _ e λ _ a₁ e₁ e.
      announcing _ _ _ e λ a₂ m₂ e.
      bind_inv _ _ _ e λ x a₃ e₃ e.
      then-inv _ _ _ e λ _ a₄ e₄ e.
      let h₁ = ensure-inv _ _ e₁ in
      let m₃ = law.sound a₂ x a₃ e₃ in
      let end : a₃.rest ≡ [] = length-zero a₃.rest (eqb-true _ _ (ensure-inv _ _ e₄).0) in
      rw (← (pure-inv _ _ e).0, h₁.1)
      (m₂.rest ∙ m₃.0.rest ∙ rw end (append-nil (w x)), omega arith, leb-true _ _ h₁.0, rw m₂.next at m₃.1)

  pub whole-sound : (s : List ℕ) (t : A) → whole limit p s ≡ some t → (s ≡ w t) × (entries t ≤ limit) × (length s ≤ max_sheet_bytes) × Good 1 t
  unfolding whole
  whole-sound s t e =
      map-inv (λ (r : A × Ahead). r.0) (chain (length s) p _) e λ r e q.
      rw q at (chain-sound (length s) _ r.0 r.1 e)

  pub whole-complete : limit ≤ max_count → (s : List ℕ) (t : A) → (s ≡ w t) × (entries t ≤ limit) × (length s ≤ max_sheet_bytes) × Good 1 t → whole limit p s ≡ some t
  unfolding whole at_end pure
  whole-complete l s t h =
      let k : 1 ≤ entries t = law.announced-first t in
      let a₁ : Ahead = record { next = 1; left = limit - 1; rest = s } in
      let a₂ : Ahead = record { next = 1 + entries t; left = limit - entries t; rest = [] } in
      (map-eq-some_iff (λ (r : A × Ahead). r.0) _).1 (
        (t, a₂),
        then-reads _ _ (ensure-reads _ _ (le-leb _ _ h.2))
            (then-reads _ _ (announce-reads 1 _ a₁ (record { rest = refl; next = refl; left = omega arith }))
            (bind-reads _ _
            (law.complete a₁ t a₂ (omega arith) (record { rest = h.0 ∙ sym (append-nil (w t)); next = refl; left = omega arith }) h.3)
            (then-reads _ _ (ensure-reads _ _ refl) refl))),
        refl,
      )
