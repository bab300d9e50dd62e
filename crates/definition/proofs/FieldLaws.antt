-- A field is read back as it was written, and what is read as a field is one as it is written.
use Prim.Native.Nat.{ℕ, zero, suc, ◌+◌, ◌≤◌}
use Rattle.std.specs.Prelude.{Bool, ◌≡◌, refl, length}
use Rattle.std.proofs.Math.Bool.{true, false}
use mathlib.Core.List.{List, [], ◌∷◌, ◌++◌, append_assoc}
use Rattle.std.proofs.Math.Option.{Option, none, some}
use Rattle.std.proofs.Math.Path.{ap}
use native.Mathlib.Omega.{arith}
use Rattle.std.proofs.Common.{eqb-true}
use Rattle.text.specs.Utf8.{is_utf8, is_some, code_points, code_points_in}
use Rattle.text.specs.Reader.{Reader, ◌>>=◌, ◌>>◌, pure}
use Rattle.text.specs.ReaderLaws.{Reads, bind_inv, then-inv, bind-reads, then-reads, pure-inv, ensure-inv, ensure-reads, refuse-inv}
use Rattle.sheet.specs.Entries.{max_count, FieldHead, field_head}
use Rattle.sheet.specs.Within.{TextWithin}
use Rattle.sheet.specs.Write.{write_field_head}
use Rattle.sheet.proofs.HeadLaws.{FieldHeadFits, field_head-exact}
use Rattle.definition.specs.Tree.{Text, Field, field, Items, absent, element, Members, no_members, member}
use Rattle.definition.specs.Decode.{Ahead, entry, announce, to_count, element_of, members_of, field_in}
use Rattle.definition.specs.Write.{has_items, count_of_members, write_field, write_items, write_members}
use Rattle.definition.specs.Within.{field_entries, items_entries, members_entries, field_nesting, items_nesting, members_nesting, FieldFits, ItemsFit, MembersFit, FieldRises, ItemsRise, MembersRise, FieldFrom, ItemsFrom, MembersFrom}
use Rattle.definition.proofs.RisingLaws.{follows-behind, behind-follows}
use Rattle.definition.proofs.TreeLaws.{Moves, TreeLaw, moves-none, moves-split, Enters, entering, entry-reads, announced-both-inv, announced-both-reads, enters-moves, enters-first}

-- a field with its name
pub record FieldGood (depth next : ℕ) (x : Text × Field) : Type 0 where
  pub name : TextWithin x.0
  pub nesting : field_nesting x.1 ≤ depth
  pub rises : FieldRises x.1
  pub fits : FieldFits x.1
  pub numbers : FieldFrom next x.1

pub record ItemsGood (depth : ℕ) (has : Bool) (next : ℕ) (items : Items) : Type 0 where
  pub mark : has_items items ≡ has
  pub nesting : items_nesting items ≤ depth
  pub rises : ItemsRise items
  pub fits : ItemsFit items
  pub numbers : ItemsFrom next items

pub record MembersGood (depth n : ℕ) (before : Option Text) (next : ℕ) (ms : Members) : Type 0 where
  pub count : count_of_members ms ≡ n
  pub nesting : members_nesting ms ≤ depth
  pub rises : MembersRise before ms
  pub fits : MembersFit ms
  pub numbers : MembersFrom next ms

abbrev pub FieldLaw : ℕ → Reader Ahead (Text × Field) → Type 0
FieldLaw depth p = TreeLaw p (λ x. write_field x.0 x.1) (λ x. field_entries x.1) (λ x. 1) (FieldGood depth)

field-takes : (f : Field) → 1 ≤ field_entries f
unfolding field_entries
field-takes (field e kind is_open tag items members) = omega arith

items-take : (items : Items) → to_count (has_items items) ≤ items_entries items
unfolding has_items to_count items_entries
items-take absent = omega arith
items-take (element f) = field-takes f

pub members-take : (ms : Members) → count_of_members ms ≤ members_entries ms
unfolding count_of_members members_entries
members-take no_members = omega arith
members-take (member name f others) = omega (arith, field-takes f, members-take others)

pub length-zero : (t : List ℕ) → length t ≡ 0 → t ≡ []
length-zero [] e = refl
length-zero (b ∷ t) e = absurd (omega arith)

-- an element's name is empty, and the empty text may be a name
empty-within : TextWithin []
unfolding is_utf8 is_some code_points code_points_in
empty-within = record { short = omega arith; utf8 = refl }

module _ (depth : ℕ) (p : Reader Ahead (Text × Field)) (law : FieldLaw depth p) where
  items-sound : (has : Bool) (a : Ahead) (items : Items) (b : Ahead) → Reads (element_of has p) a items b
      → Moves (write_items items) (items_entries items) (to_count (has_items items)) a b × ItemsGood depth has a.next items
  unfolding element_of write_items items_entries has_items to_count items_nesting
  items-sound false a items b e =
      let q = pure-inv _ _ e in
      rw (← q.0, ← q.1)
      (record { rest = refl; next = omega arith; left = omega arith }, record { mark = refl; nesting = omega arith; rises = tt; fits = tt; numbers = tt })
  items-sound true a items b e =
      bind_inv _ _ _ e λ f a₁ e₁ e.
      then-inv _ _ _ e λ _ a₂ e₂ e.
      let q = pure-inv _ _ e in
      let h = ensure-inv _ _ e₂ in
      let z : f.0 ≡ [] = length-zero f.0 (eqb-true _ _ h.0) in
      let m = law.sound a f a₁ e₁ in
      rw (← q.0, ← q.1, ← h.1)
      (rw z at m.0, record { mark = refl; nesting = m.1.nesting; rises = m.1.rises; fits = m.1.fits; numbers = m.1.numbers })

  items-complete : (has : Bool) (a : Ahead) (items : Items) (b : Ahead) → a.left ≤ max_count
      → Moves (write_items items) (items_entries items) (to_count (has_items items)) a b → ItemsGood depth has a.next items → Reads (element_of has p) a items b
  unfolding element_of write_items items_entries has_items to_count items_nesting pure
  items-complete has a absent b l m g = rw (← g.mark, moves-none a b m)
  items-complete has a (element f) b l m g =
      rw (← g.mark)
      (bind-reads _ _
      (law.complete a ([], f) b l m
      (record { name = empty-within; nesting = g.nesting; rises = g.rises; fits = g.fits; numbers = g.numbers }))
      (then-reads _ _ (ensure-reads _ _ refl) refl))

  pub items-law : (has : Bool) → TreeLaw (element_of has p) write_items items_entries (λ items. to_count (has_items items)) (ItemsGood depth has)
  items-law has = record { sound = items-sound has; complete = items-complete has; announced-first = items-take }

  members-sound : (n : ℕ) (before : Option Text) (a : Ahead) (ms : Members) (b : Ahead) → Reads (members_of n before p) a ms b
      → Moves (write_members ms) (members_entries ms) (count_of_members ms) a b × MembersGood depth n before a.next ms
  unfolding members_of write_members members_entries count_of_members members_nesting
  members-sound zero before a ms b e =
      let q = pure-inv _ _ e in
      rw (← q.0, ← q.1)
      (record { rest = refl; next = omega arith; left = omega arith }, record { count = refl; nesting = omega arith; rises = tt; fits = tt; numbers = tt })
  members-sound (suc n) before a ms b e =
      bind_inv _ _ _ e λ f a₁ e₁ e.
      then-inv _ _ _ e λ _ a₂ e₂ e.
      bind_inv _ _ _ e λ others a₃ e₃ e.
      let q = pure-inv _ _ e in
      let h = ensure-inv _ _ e₂ in
      let m₁ = law.sound a f a₁ e₁ in
      let m₃ = members-sound n (some f.0) a₁ others a₃ (rw h.1 e₃) in
      rw (← q.0, ← q.1) (
        record { rest = rw (m₁.0.rest, m₃.0.rest) (simp append_assoc); next = omega arith; left = omega arith },
        record {
          count = omega arith;
          nesting = omega arith;
          rises = (follows-behind before f.0 h.0, m₁.1.rises, m₃.1.rises);
          fits = (m₁.1.name, m₁.1.fits, m₃.1.fits);
          numbers = (m₁.1.numbers, rw m₁.0.next at m₃.1.numbers);
        },
      )

  members-complete : (n : ℕ) (before : Option Text) (a : Ahead) (ms : Members) (b : Ahead) → a.left ≤ max_count
      → Moves (write_members ms) (members_entries ms) (count_of_members ms) a b → MembersGood depth n before a.next ms → Reads (members_of n before p) a ms b
  unfolding members_of write_members members_entries count_of_members members_nesting pure
  members-complete zero before a no_members b l m g = rw (moves-none a b m)
  members-complete zero before a (member name f others) b l m g = absurd (omega arith)
  members-complete (suc n) before a no_members b l m g = absurd (omega arith)
  members-complete (suc n) before a (member name f others) b l m g =
      moves-split (write_field name f) (write_members others) _ _ _ _ a b m (members-take others) λ a₁ m₁ m₂.
      bind-reads _ _
      (law.complete a (name, f) a₁ l m₁
      (record { name = g.fits.0; nesting = omega arith; rises = g.rises.1; fits = g.fits.1; numbers = g.numbers.0 }))
      (then-reads _ _ (ensure-reads _ _ (behind-follows before name g.rises.0))
      (bind-reads _ _
      (members-complete n (some name) a₁ others b (omega (arith, field-takes f)) m₂
      (record { count = omega arith; nesting = omega arith; rises = g.rises.2; fits = g.fits.2; numbers = rw m₁.next g.numbers.1 }))
      refl))

  pub members-law : (n : ℕ) (before : Option Text) → TreeLaw (members_of n before p) write_members members_entries count_of_members (MembersGood depth n before)
  members-law n before = record { sound = members-sound n before; complete = members-complete n before; announced-first = members-take }

  -- a field, whose element and properties are read by `p`
  abbrev behind_head : ℕ × FieldHead → Reader Ahead (Text × Field)
  behind_head h = do
    announce (to_count h.1.has_items + h.1.count)
    items ← element_of h.1.has_items p
    members ← members_of h.1.count none p
    pure (h.1.name, field h.0 h.1.kind h.1.is_open h.1.tag items members)

  behind_head-sound : (h : FieldHead) (a a₁ : Ahead) (x : Text × Field) (b : Ahead) → Enters write_field_head FieldHeadFits a h a₁ → Reads (behind_head (a.next, h)) a₁ x b
      → Moves (write_field x.0 x.1) (field_entries x.1) 1 a b × FieldGood (suc depth) a.next x
  unfolding write_field field_entries field_nesting
  behind_head-sound h a a₁ x b m e =
      announced-both-inv (items-law h.has_items) (members-law h.count none) (to_count h.has_items) h.count
      (λ next x g. ap to_count g.mark) (λ next x g. g.count) _ _ e λ items members a₂ m₂ g₁ g₂ e.
      let q = pure-inv _ _ e in
      rw (← q.0, ← q.1, g₁.mark, g₂.count) (
        enters-moves m m₂,
        record {
          name = m.fits.name;
          nesting = omega arith;
          rises = (g₁.rises, g₂.rises);
          fits = (m.fits.kind, m.fits.tag, g₁.fits, g₂.fits);
          numbers = (refl, rw m.next at g₁.numbers, rw m.next at g₂.numbers);
        },
      )

  field-complete : (a : Ahead) (name : Text) (f : Field) (b : Ahead) → a.left ≤ max_count → Moves (write_field name f) (field_entries f) 1 a b
      → FieldGood (suc depth) a.next (name, f) → Reads (entry field_head >>= behind_head) a (name, f) b
  unfolding write_field field_entries field_nesting pure
  field-complete a name (field e kind is_open tag items members) b l m g =
      let k = members-take members in
      enters-first
      (record { kind = kind; is_open = is_open; has_items = has_items items; count = count_of_members members; name = name; tag = tag })
      (record { kind = g.fits.0; count = omega arith; name = g.name; tag = g.fits.1 })
      (write_items items ++ write_members members) _ 0 a b m λ a₁ m₁ m₂.
      bind-reads _ _ (entry-reads field_head-exact a _ a₁ m₁)
      (announced-both-reads (items-law (has_items items)) (members-law (count_of_members members) none) _ items members a₁ b (omega arith) m₂
      (record { mark = refl; nesting = omega arith; rises = g.rises.0; fits = g.fits.2; numbers = rw m₁.next g.numbers.1 })
      (record { count = refl; nesting = omega arith; rises = g.rises.1; fits = g.fits.3; numbers = rw m₁.next g.numbers.2 })
      (rw g.numbers.0))

field-nests : (f : Field) → 1 ≤ field_nesting f
unfolding field_nesting
field-nests (field e kind is_open tag items members) = omega arith

pub field-law : (depth : ℕ) → FieldLaw depth (field_in depth)
unfolding field_in
field-law zero =
    record {
      sound = λ a x b e. absurd (refuse-inv _ e);
      complete = λ a x b l m g. absurd (omega (arith, field-nests x.1));
      announced-first = λ x. field-takes x.1;
    }
field-law (suc depth) =
    record {
      sound = λ a x b e. entering field_head-exact _ _ e λ h a₁ m₁ e. behind_head-sound depth (field_in depth) (field-law depth) h a a₁ x b m₁ e;
      complete = λ a x b l m g. field-complete depth (field_in depth) (field-law depth) a x.0 x.1 b l m g;
      announced-first = λ x. field-takes x.1;
    }
