-- Entries that are passed over: those that a head announces lie behind it, one after the other.
use Rattle.std.specs.Prelude.{Option as Optional, Some, None}
use Prim.Native.Nat.{ℕ, zero, suc, ◌+◌, ◌-◌, ◌*◌, ◌≤◌, ◌<◌}
use mathlib.Core.Bool.{Bool, true, false}
use mathlib.Core.List.{List}
use mathlib.Core.Option.{Option, none, some}
use mathlib.Core.Path.{◌≡◌, refl, sym, ap, ◌∙◌}
use native.Mathlib.Omega.{arith}
use lib.ListN.{drop, length}
use Rattle.text.specs.Reader.{Reader}
use Rattle.text.specs.ReaderLaws.{bind_inv, then-inv, pure-inv, ensure-inv, refuse-inv}
use Rattle.sheet.specs.Entries.{max_count, FieldHead, field_head}
use Rattle.sheet.specs.Places.{field_of, Unread}
use Rattle.definition.specs.Tree.{Text, Field, Items, Members}
use Rattle.definition.specs.Decode.{Ahead, to_count, element_of, members_of, field_in}
use Rattle.definition.proofs.TreeLaws.{announcing}
use Rattle.schema_change.specs.declared.place.Place.{Place}
use Rattle.schema_change.specs.declared.place.FieldEntry.{FieldEntry}
use Rattle.schema_change.specs.Places.{Within, Arrived, Enters, EnteredIs, behind_head, Reads, SkipsTo}
use Rattle.schema_change.proofs.Behind.{entry-inv, element-absent, element-inv}

-- where the next entry and the bytes are, so many fields lie ahead with all that is below them, and then what lies ahead of `b`
pub data Passes (b : Ahead) : (left next : ℕ) (rest : List ℕ) → Type 0 where
  done : {left next : ℕ} {rest : List ℕ} → left ≡ 0 → next ≡ b.next → rest ≡ b.rest → Passes b left next rest
  more : {left next : ℕ} {rest : List ℕ} (h : FieldHead) (others : List ℕ) → 0 < left → field_head rest ≡ some (h, others)
      → Passes b (left - 1 + (to_count h.has_items + h.count)) (next + 1) others
      → Passes b left next rest

passes-is : {b : Ahead} {left left' next next' : ℕ} {rest rest' : List ℕ} → left ≡ left' → next ≡ next' → rest ≡ rest' → Passes b left next rest → Passes b left' next' rest'
passes-is e f g p = rw (← e, ← f, ← g) p

-- What the definition reads passes

abbrev FieldPasses : Reader Ahead (Text × Field) → Type 0
FieldPasses p = (a b : Ahead) (r : Text × Field) → p a ≡ some (r, b) → (left : ℕ) (c : Ahead) → Passes c left b.next b.rest → Passes c (left + 1) a.next a.rest

module _ (p : Reader Ahead (Text × Field)) (law : FieldPasses p) where
  element-passes : (has : Bool) (a b : Ahead) (i : Items) → element_of has p a ≡ some (i, b) → (left : ℕ) (c : Ahead) → Passes c left b.next b.rest
      → Passes c (left + to_count has) a.next a.rest
  unfolding to_count
  element-passes false a b i e left c h = rw (element-absent p a e).1 (passes-is (omega arith) refl refl h)
  element-passes true a b i e left c h = let x = element-inv p a i b e in law a b x.r x.reads left c h

  members-passes : (n : ℕ) (before : Option Text) (a b : Ahead) (m : Members) → members_of n before p a ≡ some (m, b) → (left : ℕ) (c : Ahead) → Passes c left b.next b.rest
      → Passes c (left + n) a.next a.rest
  unfolding members_of
  members-passes zero before a b m e left c h = rw (pure-inv _ _ e).1 (passes-is (omega arith) refl refl h)
  members-passes (suc n) before a b m e left c h =
      bind_inv _ _ _ e λ r a₁ e₁ e.
      then-inv _ _ _ e λ _ a₂ e₂ e.
      bind_inv _ _ _ e λ others a₃ e₃ e.
      let q = pure-inv _ _ e in
      let t = ensure-inv _ _ e₂ in
      passes-is (omega arith) refl refl
      (law a a₁ r e₁ (left + n) c
      (members-passes n (some r.0) a₁ b others (rw (t.1, ← q.1) e₃) left c h))

  behind-passes : (has : Bool) (n : ℕ) (a b c : Ahead) (i : Items) (m : Members) → element_of has p a ≡ some (i, b) → members_of n none p b ≡ some (m, c)
      → (left : ℕ) (d : Ahead) → Passes d left c.next c.rest → Passes d (left + (to_count has + n)) a.next a.rest
  behind-passes has n a b c i m e f left d h =
      passes-is (omega arith) refl refl (element-passes has a b i e (left + n) d (members-passes n none b c m f left d h))

field-passes : (depth : ℕ) → FieldPasses (field_in depth)
unfolding field_in
field-passes zero a b r e left c h = absurd (refuse-inv _ e)
field-passes (suc depth) a b r e left c h =
    bind_inv _ _ _ e λ x a₁ e₁ e.
    announcing _ _ _ e λ a₂ m e.
    bind_inv _ _ _ e λ items a₃ e₃ e.
    bind_inv _ _ _ e λ members a₄ e₄ e.
    let q = pure-inv _ _ e in
    let z = entry-inv a x a₁ e₁ in
    let after = z.1 in
    let same = m.next in
    more x.1 a₁.rest (omega arith) z.0
    (passes-is (omega arith) (omega arith) (sym m.rest)
    (behind-passes (field_in depth) (field-passes depth) x.1.has_items x.1.count a₂ a₃ b items members e₃ (rw (← q.1) e₄) left c h))

reads-passes : (s : List ℕ) (x : FieldEntry) (depth : ℕ) (f : Field) (b : Ahead) → Reads s x depth f b
    → Passes b (to_count x.head.items + x.head.count) x.next.entry (drop x.next.at s)
unfolding behind_head field_of
reads-passes s x zero f b r = absurd (refuse-inv _ r.reads)
reads-passes s x (suc depth) f b r =
    bind_inv _ _ _ r.reads λ items a₁ e₁ e.
    bind_inv _ _ _ e λ members a₂ e₂ e.
    let q = pure-inv _ _ e in
    passes-is (omega arith) (sym r.arrived.next) (sym r.arrived.rest)
    (behind-passes (field_in depth) (field-passes depth) x.head.items x.head.count r.a a₁ b items members e₁ (rw (← q.1) e₂) 0 b (done refl refl refl))

-- The loop: what is passed from the start on is passed from here on

pub record Skipping (s : List ℕ) (start : Place) (all : ℕ) (here : Place) (left : ℕ) : Type 0 where
  pub within : Within s here
  pub few : left ≤ 2049 * (here.at + 1)
  pub passes : (b : Ahead) → Passes b all start.entry (drop start.at s) → Passes b left here.entry (drop here.at s)

to_count-small : (b : Bool) → to_count b ≤ 1
unfolding to_count
to_count-small false = omega arith
to_count-small true = omega arith

pub announced-items : (n : ℕ) {b : Bool} → b ≡ true → 1 + n ≡ to_count b + n
unfolding to_count
announced-items n e = rw e

pub announced-none : (n : ℕ) {b : Bool} → b ≡ false → n ≡ to_count b + n
unfolding to_count
announced-none n e = rw e (omega arith)

pub skipping-start : {s : List ℕ} {here : Place} {left : ℕ} (b : Bool) (n : ℕ) → Within s here → n ≤ max_count → left ≡ to_count b + n → Skipping s here left here left
skipping-start b n w c e = record { within = w; few = omega (arith, to_count-small b); passes = λ c p. p }

passes-more : (s : List ℕ) (here : Place) (y : FieldEntry) {b : Ahead} {left next : ℕ} {rest : List ℕ} → Enters s here y → (left ≡ 0 → ⊥) → next ≡ here.entry → rest ≡ drop here.at s
    → Passes b left next rest
    → Passes b (left - 1 + (to_count y.head.items + y.head.count)) y.next.entry (drop y.next.at s)
unfolding field_of
passes-more s here y t n e f (done z p q) = absurd (n z)
passes-more s here y {left = left} t n e f (more h others z reads p) =
    let same = t.known.reads h others (rw f at reads) in
    let after = t.next in
    passes-is (ap (λ (g : FieldHead). left - 1 + (to_count g.has_items + g.count)) (sym same.0)) (omega arith) (sym same.1) p

passes-done : (s : List ℕ) (here : Place) {b : Ahead} {left next : ℕ} {rest : List ℕ} → left ≡ 0 → next ≡ here.entry → rest ≡ drop here.at s → Passes b left next rest → Arrived s here b
passes-done s here z e f (done y p q) = record { next = sym e ∙ p; rest = sym f ∙ q }
passes-done s here z e f (more h others y reads p) = absurd (omega arith)

passes-bad : (s : List ℕ) (here : Place) {b : Ahead} {left next : ℕ} {rest : List ℕ} → (left ≡ 0 → ⊥) → Unread s here.at → rest ≡ drop here.at s → Passes b left next rest → ⊥
passes-bad s here z e f (done y p q) = z y
passes-bad s here z e f (more h others y reads p) = e h others (rw f at reads)

module _ {s : List ℕ} (x : FieldEntry) {all : ℕ} {here : Place} {left : ℕ} (announced : all ≡ to_count x.head.items + x.head.count) (before : Skipping s x.next all here left) where
  whole : (depth : ℕ) (f : Field) (b : Ahead) → Reads s x depth f b → Passes b left here.entry (drop here.at s)
  whole depth f b r = before.passes b (rw announced (reads-passes s x depth f b r))

  pub skipping-done : left ≡ 0 → SkipsTo s x here
  skipping-done z = record { skips = λ depth f b r. passes-done s here z refl refl (whole depth f b r) }

  pub skipping-bad : {e : Optional FieldEntry} → (left ≡ 0 → ⊥) → EnteredIs s here e → e ≡ None → SkipsTo s x here
  skipping-bad n entered q = record { skips = λ depth f b r. absurd (passes-bad s here n (rw q at entered) refl (whole depth f b r)) }

pub skipping-enters : {s : List ℕ} {here : Place} {e : Optional FieldEntry} {y : FieldEntry} → EnteredIs s here e → e ≡ Some y → Enters s here y
skipping-enters entered q = rw q at entered

pub enters-within : (s : List ℕ) (here : Place) {e : Optional FieldEntry} {y : FieldEntry} → EnteredIs s here e → e ≡ Some y → Within s y.next
enters-within s here entered q = (rw q at entered).within

pub enters-count : (s : List ℕ) (here : Place) {e : Optional FieldEntry} {y : FieldEntry} → EnteredIs s here e → e ≡ Some y → y.head.count ≤ max_count
enters-count s here entered q = (rw q at entered).known.count

-- neither the count nor the place wraps
pub skipping-fits : {s : List ℕ} {start : Place} {all : ℕ} {here : Place} {left : ℕ} (y : FieldEntry) {k : ℕ} → Skipping s start all here left → Enters s here y
    → k ≡ to_count y.head.items + y.head.count
    → left - 1 + k < 18446744073709551616
skipping-fits y before t h =
    let few = before.few in
    let within = before.within in
    let count = t.known.count in
    omega (arith, to_count-small y.head.items)

pub skipping-falls : {s : List ℕ} {here : Place} (y : FieldEntry) → Enters s here y → length s - y.next.at < length s - here.at
skipping-falls y t = let past = t.known.past in let within = t.within in omega arith

pub skipping-more : {s : List ℕ} {start : Place} {all : ℕ} {here : Place} {left : ℕ} (y : FieldEntry) {k : ℕ} → Skipping s start all here left → (left ≡ 0 → ⊥) → Enters s here y
    → k ≡ to_count y.head.items + y.head.count
    → Skipping s start all y.next (left - 1 + k)
skipping-more {s} {here = here} y before n t h =
    let past = t.known.past in
    let count = t.known.count in
    let few = before.few in
    record {
      within = t.within;
      few = omega (arith, to_count-small y.head.items);
      passes = λ b p. rw h (passes-more s here y t n refl refl (before.passes b p));
    }
