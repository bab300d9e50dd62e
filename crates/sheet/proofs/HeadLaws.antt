-- Each head is read back as it was written, and what is read as a head is one as it is written.
use Rattle.std.specs.Prelude.{ℕ, ◌≤◌, true, List, [], ◌∷◌, ◌++◌, ◌≡◌, refl, length}
use Rattle.std.proofs.Common.{append_assoc, ⊎_elim, arith}
use Rattle.std.proofs.Math.Option.{Option, none, some}
use Rattle.text.specs.Decimal.{is_digit}
use Rattle.text.specs.Ascii.{ascii}
use Rattle.text.specs.Reader.{Reader, ◌>>◌, pure}
use Rattle.text.specs.ReaderLaws.{Reads, bind_inv, then-inv, bind-reads, then-reads, pure-inv, either-inv, either_first, either_second}
use Rattle.text.specs.Numeral.{decimal_of, decimal_in}
use Rattle.text.specs.NumeralLaws.{begins_without_digit, comma-begins, end-begins}
use Rattle.text.specs.ByteReaders.{comma}
use Rattle.text.specs.ByteReaderLaws.{byte-complete}
use Rattle.sheet.specs.Entries.{max_text, max_count, dash, HolderHead, holder_head, arguments_head, SchemaHead, schema_head, FieldHead, field_head}
use Rattle.sheet.specs.Write.{write_item, write_mark, write_length, write_text, write_end, write_holder_head, write_arguments_head, write_schema_head, write_field_head}
use Rattle.sheet.specs.Within.{TextWithin, OptionWithin}
use Rattle.sheet.proofs.ItemLaws.{Exact, anything, past, step, item-exact, item-complete, mark-exact, mark-complete, dash-none, text-sound, text-complete, text_length-sound, text_length-complete, optional_text-sound, optional_text-complete, item-begins, mark-begins, length-begins}

write_item-zero : write_item 0 ≡ 44 ∷ 48 ∷ []
unfolding write_item ascii decimal_of decimal_in
write_item-zero = refl

-- the record or the arguments
abbrev pub HolderFits : HolderHead → Type 0
HolderFits h = h.count ≤ max_count

holder_head-sound : (s : List ℕ) (h : HolderHead) (t : List ℕ) → Reads holder_head s h t → (s ≡ write_holder_head h ++ t) × HolderFits h
unfolding holder_head write_holder_head
holder_head-sound s h t e =
    step mark-exact _ _ e λ is_open s₁ e₁ _ e.
    step (item-exact _ _) _ _ e λ count s₂ e₂ h₂ e.
    let q = pure-inv _ _ e in
    rw (← q.0, ← q.1) (rw (e₁, e₂) (simp append_assoc), h₂.1)

holder_head-complete : (h : HolderHead) (t : List ℕ) → HolderFits h → begins_without_digit t ≡ true → Reads holder_head (write_holder_head h ++ t) h t
unfolding holder_head write_holder_head pure
holder_head-complete h t f d =
    rw append_assoc
    (bind-reads _ _ (mark-complete h.is_open _ tt (item-begins _ _)) (bind-reads _ _ (item-complete 0 max_count h.count t (omega arith, f) d) refl))

holder-begins : (h : HolderHead) (t : List ℕ) → begins_without_digit (write_holder_head h ++ t) ≡ true
unfolding write_holder_head
holder-begins h t = rw append_assoc (mark-begins _ _)

holder-dash : {B : Type 0} (q : Reader (List ℕ) B) (h : HolderHead) (t : List ℕ) → (comma >> (dash >> q)) (write_holder_head h ++ t) ≡ none
unfolding write_holder_head write_mark
holder-dash q h t = rw append_assoc (dash-none q _ _)

pub holder_head-exact : Exact holder_head write_holder_head HolderFits begins_without_digit
holder_head-exact = record { sound = holder_head-sound; complete = holder_head-complete }

abbrev pub ArgumentsFit : Option HolderHead → Type 0
ArgumentsFit none = Unit {0}
ArgumentsFit (some h) = HolderFits h

arguments_head-sound : (s : List ℕ) (o : Option HolderHead) (t : List ℕ) → Reads arguments_head s o t → (s ≡ write_arguments_head o ++ t) × ArgumentsFit o
unfolding arguments_head write_arguments_head ascii
arguments_head-sound s o t e =
    ⊎_elim
    (λ e.
    past _ _ _ e λ s₁ e₁ e.
    past _ _ _ e λ s₂ e₂ e.
    then-inv _ _ _ e λ n s₃ e₃ e.
    let q = pure-inv _ _ e in
    let r = (item-exact _ _).sound _ _ _ e₃ in
    let z : n ≡ 0 = omega arith in
    rw (← q.0, ← q.1) (rw (e₁, e₂, r.0, z, write_item-zero), tt))
    (λ e.
    step holder_head-exact _ _ e λ h s₁ e₁ h₁ e.
    let q = pure-inv _ _ e in
    rw (← q.0, ← q.1) (e₁, h₁))
    (either-inv _ _ _ e)

arguments_head-complete : (o : Option HolderHead) (t : List ℕ) → ArgumentsFit o → begins_without_digit t ≡ true → Reads arguments_head (write_arguments_head o ++ t) o t
unfolding arguments_head write_arguments_head ascii pure
arguments_head-complete none t f d =
    either_first _ _ _
    (then-reads _ _ (byte-complete 44 _)
    (then-reads _ _ (byte-complete 45 _) (then-reads _ _ (rw write_item-zero at (item-complete 0 0 0 t (omega arith, omega arith) d)) refl)))
arguments_head-complete (some h) t f d =
    either_second _ _ _ (holder-dash _ h t) (bind-reads _ _ (holder_head-complete h t f d) refl)

arguments_head-exact : Exact arguments_head write_arguments_head ArgumentsFit begins_without_digit
arguments_head-exact = record { sound = arguments_head-sound; complete = arguments_head-complete }

arguments-begin : (o : Option HolderHead) (t : List ℕ) → begins_without_digit (write_arguments_head o ++ t) ≡ true
unfolding begins_without_digit is_digit write_arguments_head ascii
arguments-begin none t = refl
arguments-begin (some h) t = holder-begins h t

-- H,o,n,p,m
abbrev pub SchemaHeadFits : SchemaHead → Type 0
SchemaHeadFits h = HolderFits h.fields × ArgumentsFit h.arguments

schema_head-parts : (h : SchemaHead) (t : List ℕ) → write_schema_head h ++ t ≡ ascii "H" ++ (write_holder_head h.fields ++ (write_arguments_head h.arguments ++ (write_end ++ t)))
unfolding write_schema_head
schema_head-parts h t = simp append_assoc

schema_head-sound : (s : List ℕ) (h : SchemaHead) (t : List ℕ) → Reads schema_head s h t → (s ≡ write_schema_head h ++ t) × SchemaHeadFits h
unfolding schema_head write_end ascii
schema_head-sound s h t e =
    past _ _ _ e λ s₁ e₁ e.
    step holder_head-exact _ _ e λ fields s₂ e₂ h₂ e.
    step arguments_head-exact _ _ e λ arguments s₃ e₃ h₃ e.
    past _ _ _ e λ s₄ e₄ e.
    let q = pure-inv _ _ e in
    rw (← q.0, ← q.1) (rw (schema_head-parts, e₁, e₂, e₃, e₄), (h₂, h₃))

schema_head-complete : (h : SchemaHead) (t : List ℕ) → SchemaHeadFits h → anything t ≡ true → Reads schema_head (write_schema_head h ++ t) h t
unfolding schema_head write_end ascii pure
schema_head-complete h t f d =
    rw schema_head-parts
    (then-reads _ _ (byte-complete 72 _)
    (bind-reads _ _ (holder_head-complete h.fields _ f.0 (arguments-begin _ _))
    (bind-reads _ _ (arguments_head-complete h.arguments _ f.1 (end-begins _)) (then-reads _ _ (byte-complete 10 _) refl))))

pub schema_head-exact : Exact schema_head write_schema_head SchemaHeadFits anything
schema_head-exact = record { sound = schema_head-sound; complete = schema_head-complete }

-- F,kind,open,items,count,a,t,text
pub record FieldHeadFits (h : FieldHead) : Type 0 where
  pub kind : (1 ≤ h.kind) × (h.kind ≤ 12)
  pub count : h.count ≤ max_count
  pub name : TextWithin h.name
  pub tag : OptionWithin h.tag

field_head-parts : (h : FieldHead) (t : List ℕ) → write_field_head h ++ t ≡
    ascii "F" ++ (write_item h.kind ++ (write_mark h.is_open ++ (write_mark h.has_items ++ (write_item h.count
    ++ (write_item (length h.name) ++ (write_length h.tag ++ (ascii "," ++ (h.name ++ (write_text h.tag ++ (write_end ++ t))))))))))
unfolding write_field_head
field_head-parts h t = simp append_assoc

field_head-sound : (s : List ℕ) (h : FieldHead) (t : List ℕ) → Reads field_head s h t → (s ≡ write_field_head h ++ t) × FieldHeadFits h
unfolding field_head write_end ascii
field_head-sound s h t e =
    past _ _ _ e λ s₁ e₁ e.
    step (item-exact _ _) _ _ e λ kind s₂ e₂ h₂ e.
    step mark-exact _ _ e λ is_open s₃ e₃ _ e.
    step mark-exact _ _ e λ has_items s₄ e₄ _ e.
    step (item-exact _ _) _ _ e λ count s₅ e₅ h₅ e.
    step (item-exact _ _) _ _ e λ a s₆ e₆ h₆ e.
    bind_inv _ _ _ e λ o s₇ e₇ e.
    past _ _ _ e λ s₈ e₈ e.
    bind_inv _ _ _ e λ name s₉ e₉ e.
    bind_inv _ _ _ e λ tag s₁₀ e₁₀ e.
    past _ _ _ e λ s₁₁ e₁₁ e.
    let q = pure-inv _ _ e in
    let r₇ = text_length-sound _ _ _ e₇ in
    let r₉ = text-sound _ _ _ _ e₉ in
    let r₁₀ = optional_text-sound _ _ _ _ r₇.1 e₁₀ in
    rw (← q.0, ← q.1) (
      rw (field_head-parts, r₉.1, r₁₀.1, e₁, e₂, e₃, e₄, e₅, e₆, r₇.0, e₈, r₉.0, r₁₀.0, e₁₁),
      record { kind = h₂; count = h₅.1; name = record { short = rw r₉.1 h₆.1; utf8 = r₉.2 }; tag = r₁₀.2 },
    )

field_head-complete : (h : FieldHead) (t : List ℕ) → FieldHeadFits h → anything t ≡ true → Reads field_head (write_field_head h ++ t) h t
unfolding field_head write_end ascii pure
field_head-complete h t f d =
    rw field_head-parts
    (then-reads _ _ (byte-complete 70 _)
    (bind-reads _ _ (item-complete 1 12 h.kind _ f.kind (mark-begins _ _))
    (bind-reads _ _ (mark-complete h.is_open _ tt (mark-begins _ _))
    (bind-reads _ _ (mark-complete h.has_items _ tt (item-begins _ _))
    (bind-reads _ _ (item-complete 0 max_count h.count _ (omega arith, f.count) (item-begins _ _))
    (bind-reads _ _ (item-complete 0 max_text (length h.name) _ (omega arith, f.name.short) (length-begins _ _))
    (bind-reads _ _ (text_length-complete h.tag _ f.tag (comma-begins _))
    (then-reads _ _ (byte-complete 44 _)
    (bind-reads _ _ (text-complete h.name _ f.name.utf8)
    (bind-reads _ _ (optional_text-complete h.tag _ f.tag) (then-reads _ _ (byte-complete 10 _) refl)))))))))))

pub field_head-exact : Exact field_head write_field_head FieldHeadFits anything
field_head-exact = record { sound = field_head-sound; complete = field_head-complete }
