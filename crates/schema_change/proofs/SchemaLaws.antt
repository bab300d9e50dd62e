-- Two schemas side by side, and what is answered about two sheets.
use Rattle.std.specs.Prelude.{Option as Optional, Some, None}
use Prim.Native.Nat.{ℕ, ◌+◌, ◌≤◌}
use mathlib.Core.Bool.{Bool}
use mathlib.Core.List.{List, [], ◌∷◌}
use mathlib.Core.Option.{Option, none, some, map-eq-some_iff, none-ne-some}
use mathlib.Core.Path.{◌≡◌, refl, sym, ap, ◌∙◌}
use native.Mathlib.Omega.{arith}
use lib.ListN.{length, drop}
use Rattle.text.specs.Reader.{Reader, ◌>>=◌, ◌>>◌, and_then}
use Rattle.text.specs.ReaderLaws.{bind_inv, then-inv, pure-inv, ensure-inv}
use Rattle.text.specs.ReaderLaws as Chain
use Rattle.sheet.specs.Entries.{schema_head}
use Rattle.sheet.specs.Entries as Entries
use Rattle.sheet.specs.Places.{SchemaIs, schema_of}
use Rattle.sheet.specs.Places as heads
use Rattle.sheet.specs.declared.schema_heads.HolderHead.{HolderHead}
use Rattle.sheet.specs.declared.schema_heads.SchemaHead.{SchemaHead}
use Rattle.definition.specs.Tree.{Holder, Schema}
use Rattle.definition.specs.Limits.{max_sheet_bytes, max_field_nesting}
use Rattle.definition.specs.Decode.{Ahead, entered, entry, whole, members_of, field_in, holder_of, arguments_of, schema, decode_schema}
use Rattle.definition.proofs.TreeLaws.{announcing}
use Rattle.definition.proofs.RoundTrip.{schema-round-trip}
use Rattle.widening.specs.Decision.{mark_closes, arguments_go, growth, breach, breach_if, closes, arguments_marks, arguments_differences, members_differences, differences, widens}
use Rattle.widening.specs.SheetDecision.{malformed, decision, answer_for, widens_sheets}
use Rattle.schema.specs.Read.{SchemaGood, SchemaAnswer}
use Rattle.schema.specs.declared.read.Schema as Index
use Rattle.schema_change.specs.declared.answer.Change.{Change}
use Rattle.schema_change.specs.declared.answer.Change.TheVariants.{Marks}
use Rattle.schema_change.specs.declared.place.Place.{Place}
use Rattle.schema_change.specs.declared.field.Going.{Going}
use Rattle.schema_change.specs.Answers.{decision_of, joined, Goes}
use Rattle.schema_change.specs.Places.{Within, Arrived}
use Rattle.schema_change.specs.Fields.{At, Ends, MembersGo}
use Rattle.schema_change.specs.Schemas.{arguments_head_marks, ArgumentsGo, SchemasGo}
use Rattle.schema_change.proofs.Joins.{goes-both, goes-nothing}

-- What the heads say of the arguments

module _ {x y : Optional HolderHead} {found : Change} where
  pub arguments-both : (h g : HolderHead) {b : Bool} {r : Change} → x ≡ Some h → y ≡ Some g → b ≡ closes h.opened g.opened → Goes found (breach_if b mark_closes 1 1) r
      → Goes found (arguments_head_marks x y) r
  unfolding arguments_head_marks
  arguments-both h g e e' c k = rw (e, e', ← c) k

  pub arguments-gone : {h : HolderHead} {r : Change} → x ≡ Some h → y ≡ None → Goes found (breach arguments_go 1 0 ∷ []) r → Goes found (arguments_head_marks x y) r
  unfolding arguments_head_marks
  arguments-gone e e' k = rw (e, e') k

  pub arguments-appear : {g : HolderHead} {r : Change} → x ≡ None → y ≡ Some g → Goes found (growth ∷ []) r → Goes found (arguments_head_marks x y) r
  unfolding arguments_head_marks
  arguments-appear e e' k = rw (e, e') k

  pub arguments-neither : x ≡ None → y ≡ None → Goes found (arguments_head_marks x y) found
  unfolding arguments_head_marks
  arguments-neither e e' = rw (e, e') goes-nothing

-- The record, or the arguments

record HolderReads (h : HolderHead) (a : Ahead) (t : Holder) (b : Ahead) : Type 0 where
  pub inside : Ahead
  pub next : inside.next ≡ a.next
  pub rest : a.rest ≡ inside.rest
  pub reads : members_of h.count none (field_in max_field_nesting) inside ≡ some (t.members, b)
  pub opened : t.is_open ≡ h.opened

holder-inv : (h : HolderHead) (a : Ahead) (t : Holder) (b : Ahead) → holder_of (heads.holder_of h) a ≡ some (t, b) → HolderReads h a t b
unfolding holder_of heads.holder_of
holder-inv h a t b e =
    announcing _ _ _ e λ a₁ m e.
    bind_inv _ _ _ e λ members a₂ e₂ e.
    let q = pure-inv _ _ e in
    record { inside = a₁; next = m.next; rest = m.rest; reads = rw (← q.0, ← q.1) e₂; opened = sym (ap (λ (x : Holder). x.is_open) q.0) }

inside-at : {s : List ℕ} {p : Place} {a c : Ahead} → c.next ≡ a.next → a.rest ≡ c.rest → Arrived s p a → Arrived s p c
inside-at n r at = record { next = at.next ∙ sym n; rest = at.rest ∙ r }

holders-go : {first second : List ℕ} {x y : HolderHead} {from r : Going} → MembersGo first x second y max_field_nesting from r
    → (a a' : Ahead) (t t' : Holder) (b b' : Ahead) → At first a second a' from
    → holder_of (heads.holder_of x) a ≡ some (t, b)
    → holder_of (heads.holder_of y) a' ≡ some (t', b')
    → Ends first b second b' from.found (members_differences t.is_open t.members t'.members) r
holders-go {x = x} {y = y} g a a' t t' b b' at e e' =
    let p = holder-inv x a t b e in
    let q = holder-inv y a' t' b' e' in
    rw p.opened
    (g.go none none p.inside q.inside t.members t'.members b b'
    (record { first-at = λ o. inside-at p.next p.rest (at.first-at o); second_at = λ o. inside-at q.next q.rest (at.second_at o) })
    p.reads q.reads)

-- there are arguments in the tree exactly if there are some in the head

absent-inv : (a : Ahead) (t : Option Holder) (b : Ahead) → arguments_of (heads.arguments_of None) a ≡ some (t, b) → t ≡ none
unfolding arguments_of heads.arguments_of
absent-inv a t b e = sym (pure-inv _ _ e).0

record ArgumentsRead (h : HolderHead) (a : Ahead) (t : Option Holder) (b : Ahead) : Type 0 where
  pub holder : Holder
  pub shape : t ≡ some holder
  pub reads : holder_of (heads.holder_of h) a ≡ some (holder, b)

arguments-inv : (h : HolderHead) (a : Ahead) (t : Option Holder) (b : Ahead) → arguments_of (heads.arguments_of (Some h)) a ≡ some (t, b) → ArgumentsRead h a t b
unfolding arguments_of heads.arguments_of
arguments-inv h a t b e =
    bind_inv _ _ _ e λ holder a₁ e₁ e.
    let q = pure-inv _ _ e in
    record { holder = holder; shape = sym q.0; reads = rw (← q.1) e₁ }

marks-agree : (x y : Optional HolderHead) (a a' : Ahead) (t t' : Option Holder) (b b' : Ahead) → arguments_of (heads.arguments_of x) a ≡ some (t, b) → arguments_of (heads.arguments_of y) a' ≡ some (t', b')
    → arguments_head_marks x y ≡ arguments_marks t t'
unfolding arguments_head_marks arguments_marks
marks-agree None None a a' t t' b b' e e' = rw (absent-inv a t b e, absent-inv a' t' b' e')
marks-agree None (Some h) a a' t t' b b' e e' = rw (absent-inv a t b e, (arguments-inv h a' t' b' e').shape)
marks-agree (Some g) None a a' t t' b b' e e' = rw ((arguments-inv g a t b e).shape, absent-inv a' t' b' e')
marks-agree (Some g) (Some h) a a' t t' b b' e e' =
    let p = arguments-inv g a t b e in
    let q = arguments-inv h a' t' b' e' in
    rw (p.shape, q.shape, (holder-inv g a p.holder b p.reads).opened, (holder-inv h a' q.holder b' q.reads).opened)

none-second : (t : Option Holder) {found : Change} → Goes found (arguments_differences t none) found
unfolding arguments_differences
none-second none = goes-nothing
none-second (some h) = goes-nothing

module _ {first second : List ℕ} {x y : Optional HolderHead} {from : Going} where
  pub arguments-first : x ≡ None → ArgumentsGo first x second y from from.found
  unfolding arguments_differences
  arguments-first n = record { go = λ a a' t t' b b' at e e'. rw (absent-inv a t b (rw n at e)) goes-nothing }

  pub arguments-second : y ≡ None → ArgumentsGo first x second y from from.found
  arguments-second n = record { go = λ a a' t t' b b' at e e'. rw (absent-inv a' t' b' (rw n at e')) (none-second t) }

  pub arguments-fields : {g h : HolderHead} {r : Going} → x ≡ Some g → y ≡ Some h → MembersGo first g second h max_field_nesting from r → ArgumentsGo first x second y from r.found
  unfolding arguments_differences
  arguments-fields {g} {h} n n' m =
      record {
        go = λ a a' t t' b b' at e e'.
            let p = arguments-inv g a t b (rw n at e) in
            let q = arguments-inv h a' t' b' (rw n' at e') in
            rw (p.shape, q.shape) (holders-go m a a' p.holder q.holder b b' at p.reads q.reads).goes;
      }

-- Whole schemas

headed : {B : Type 0} (k : ℕ × Entries.SchemaHead → Reader Ahead B) (a : Ahead) (h : Entries.SchemaHead) (rest : List ℕ) {z : B} {b : Ahead} → schema_head a.rest ≡ some (h, rest)
    → Chain.Reads (entry schema_head >>= k) a z b
    → Chain.Reads (k (a.next, h)) (record { next = a.next + 1; left = a.left; rest = rest }) z b
unfolding ◌>>=◌ and_then entry entered
headed k a h rest q e = rw q at e

headless : {B : Type 0} (k : ℕ × Entries.SchemaHead → Reader Ahead B) (a : Ahead) {z : B} {b : Ahead} → schema_head a.rest ≡ none → Chain.Reads (entry schema_head >>= k) a z b → ⊥
unfolding ◌>>=◌ and_then entry entered
headless k a q e = none-ne-some _ (rw q at e)

-- what is read from the sheet's first byte on
record Begins (s : List ℕ) (t : Schema) : Type 0 where
  pub a : Ahead
  pub b : Ahead
  pub next : a.next ≡ 1
  pub rest : a.rest ≡ s
  pub reads : schema a ≡ some (t, b)

begins : (s : List ℕ) (t : Schema) → decode_schema s ≡ some t → Begins s t
unfolding decode_schema whole
begins s t e =
    let m = (map-eq-some_iff _ _).0 e in
    then-inv _ _ _ m.1 λ _ a₁ e₁ e.
    announcing _ _ _ e λ a₂ n e.
    bind_inv _ _ _ e λ t₁ a₃ e₃ e.
    then-inv _ _ _ e λ _ a₄ e₄ e.
    let q = (ensure-inv _ _ e₁).1 in
    record {
      a = a₂;
      b = a₃;
      next = n.next ∙ ap (λ (x : Ahead). x.next) (sym q);
      rest = sym n.rest ∙ ap (λ (x : Ahead). x.rest) (sym q);
      reads = rw (← m.2, ← (pure-inv _ _ e).0) e₃;
    }

-- what is read behind its head
record Behind (h : SchemaHead) (t : Schema) (start : Ahead) : Type 0 where
  pub between : Ahead
  pub end : Ahead
  pub fields : holder_of (heads.holder_of h.fields) start ≡ some (t.fields, between)
  pub arguments : arguments_of (heads.arguments_of h.arguments) between ≡ some (t.arguments, end)

behind : (h : SchemaHead) (t : Schema) (a b : Ahead) (rest : List ℕ) → schema_head a.rest ≡ some (schema_of h, rest) → schema a ≡ some (t, b)
    → Behind h t (record { next = a.next + 1; left = a.left; rest = rest })
unfolding schema schema_of
behind h t a b rest q e =
    bind_inv _ _ _ (headed _ a (schema_of h) rest q e) λ fields a₁ e₁ e.
    bind_inv _ _ _ e λ arguments a₂ e₂ e.
    let z = (pure-inv _ _ e).0 in
    record { between = a₁; end = a₂; fields = rw (← z) e₁; arguments = rw (← z) e₂ }

record SchemaReads (s : List ℕ) (h : SchemaHead) (at : ℕ) (t : Schema) : Type 0 where
  pub start : Ahead
  pub arrived : Arrived s (record { entry = 2; at = at }) start
  pub parts : Behind h t start

schema-reads : (s : List ℕ) (h : SchemaHead) (at : ℕ) (t : Schema) → schema_head s ≡ some (schema_of h, drop at s) → decode_schema s ≡ some t → SchemaReads s h at t
schema-reads s h at t q e =
    let r = begins s t e in
    let n = r.next in
    record {
      start = record { next = r.a.next + 1; left = r.a.left; rest = drop at s };
      arrived = record { next = omega arith; rest = refl };
      parts = behind h t r.a r.b (drop at s) (ap schema_head r.rest ∙ q) r.reads;
    }

schema-headless : (s : List ℕ) (t : Schema) → schema_head s ≡ none → decode_schema s ≡ some t → ⊥
unfolding schema
schema-headless s t q e = let r = begins s t e in headless _ r.a (ap schema_head r.rest ∙ q) r.reads

pub head-within : (s : List ℕ) {q : Optional (SchemaHead × ℕ)} {g : SchemaHead} {at : ℕ} → length s ≤ max_sheet_bytes → SchemaIs s 0 q → q ≡ Some (g, at) → Within s (record { entry = 2; at = at })
head-within s short read e =
    let h = (rw e at read).0 in
    let past = h.past in
    record { sheet = short; at = h.within; entry = omega arith }

module _ {first second : List ℕ} where
  pub first-headless : {p : Optional (SchemaHead × ℕ)} → SchemaIs first 0 p → p ≡ None → SchemasGo first second Marks
  first-headless read n = record { is = λ t t' e e'. absurd (schema-headless first t (rw n at read) e) }

  pub second-headless : {q : Optional (SchemaHead × ℕ)} → SchemaIs second 0 q → q ≡ None → SchemasGo first second Marks
  second-headless read n = record { is = λ t t' e e'. absurd (schema-headless second t' (rw n at read) e') }

  pub schemas-go : {p q : Optional (SchemaHead × ℕ)} {g h : SchemaHead} {at next : ℕ} {b : Bool} {mark found : Change} {fields : Going} {r : Change}
      → SchemaIs first 0 p → p ≡ Some (g, at)
      → SchemaIs second 0 q → q ≡ Some (h, next)
      → b ≡ closes g.fields.opened h.fields.opened
      → Goes Marks (breach_if b mark_closes 1 1) mark
      → Goes mark (arguments_head_marks g.arguments h.arguments) found
      → MembersGo first g.fields second h.fields max_field_nesting (record { found = found; x = record { entry = 2; at = at }; y = record { entry = 2; at = next } }) fields
      → ArgumentsGo first g.arguments second h.arguments fields r
      → SchemasGo first second r
  unfolding widens differences joined
  schemas-go {g = g} {h = h} {at = at} {next = next} {mark = mark} read n read' n' shut marks heads-go members arguments =
      record {
        is = λ t t' e e'.
            let x = schema-reads first g at t (rw n at read).0.reads e in
            let y = schema-reads second h next t' (rw n' at read').0.reads e' in
            let o = (holder-inv g.fields x.start t.fields x.parts.between x.parts.fields).opened in
            let o' = (holder-inv h.fields y.start t'.fields y.parts.between y.parts.fields).opened in
            let k : Goes Marks (breach_if (closes t.fields.is_open t'.fields.is_open) mark_closes 1 1) mark = rw (o, o', ← shut) marks in
            let same = marks-agree g.arguments h.arguments x.parts.between y.parts.between t.arguments t'.arguments x.parts.end y.parts.end x.parts.arguments y.parts.arguments in
            let m = holders-go members x.start y.start t.fields t'.fields x.parts.between y.parts.between
            (record { first-at = λ c. x.arrived; second_at = λ c. y.arrived }) x.parts.fields y.parts.fields in
            let z = arguments.go x.parts.between y.parts.between t.arguments t'.arguments x.parts.end y.parts.end m.at x.parts.arguments y.parts.arguments in
            (goes-both k (goes-both (rw same at heads-go) (goes-both m.goes z))).is;
      }

-- The two sheets

pub good-short : (s : List ℕ) {b a : List ℕ} {x : Optional Index.Schema} {i : Index.Schema} → SchemaAnswer s b a x → x ≡ Some i → length s ≤ max_sheet_bytes
good-short s {a = a} {i = i} read e =
    let g : SchemaGood s a i = rw e at read.answer in
    let w = (schema-round-trip s g.tree).0 g.reads in
    rw w.0 w.1.bytes

module _ (first second : List ℕ) {b₁ a₁ : List ℕ} {x : Optional Index.Schema} (read : SchemaAnswer first b₁ a₁ x) where
  pub first-malformed : x ≡ None → malformed 1 ≡ widens_sheets first second
  unfolding widens_sheets answer_for
  first-malformed e = let q : decode_schema first ≡ none = rw e at read.answer in rw q refl

  module _ {b₂ a₂ : List ℕ} {y : Optional Index.Schema} {s : Index.Schema} (good : x ≡ Some s) (read' : SchemaAnswer second b₂ a₂ y) where
    is-good : SchemaGood first a₁ s
    is-good = rw good at read.answer

    pub second-malformed : y ≡ None → malformed 2 ≡ widens_sheets first second
    unfolding widens_sheets answer_for
    second-malformed e =
        let q : decode_schema second ≡ none = rw e at read'.answer in
        rw (is-good.reads, q) refl

    pub both-decided : {s' : Index.Schema} {change : Change} → y ≡ Some s' → SchemasGo first second change → decision (decision_of change) ≡ widens_sheets first second
    unfolding widens_sheets answer_for
    both-decided {s'} e g =
        let p = is-good in
        let q : SchemaGood second a₂ s' = rw e at read'.answer in
        rw (p.reads, q.reads) (ap decision (g.is p.tree q.tree p.reads q.reads))
