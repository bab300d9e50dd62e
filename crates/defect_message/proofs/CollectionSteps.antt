-- What is said of an `in` value: each sentence as a law.
use Prim.Native.Nat.{ℕ, ◌+◌, ◌-◌, ◌≤◌, ◌<◌}
use native.Mathlib.Omega.{arith}
use mathlib.Core.Bool.{Bool, true, false, false≢true}
use mathlib.Core.List.{List, [], ◌∷◌, ◌++◌, append_assoc}
use mathlib.Core.Option.{Option, none, some, get_or}
use mathlib.Core.Path.{◌≡◌, refl, ap, sym, subst, ◌∙◌}
use lib.ListN.{length, take, drop}
use Rattle.text.specs.Ascii.{ascii}
use Rattle.buffer.specs.Laid.{most_place, Laid}
use Rattle.buffer.specs.LaidLaws.{laid-nothing, laid_then}
use Rattle.definition.specs.Tree.{Text, Field, Schema, Value, constant, number, string, array, object}
use Rattle.reference.specs.Path.{split}
use Rattle.reference.specs.Setting.{Setting}
use Rattle.reference.specs.Reference.{Environment, behind_first}
use Rattle.rule.specs.Index.{ValueAt}
use Rattle.schema.specs.Slot.{SlotHolds, PartsOf, IndexedIs}
use Rattle.schema.specs.declared.index.IndexedField.{IndexedField}
use Rattle.walk.specs.Dots.{Ends}
use Rattle.walk.specs.Answers.{collection_detail}
use Rattle.walk.specs.declared.answer.CollectionFault.{CollectionFault}
use Rattle.walk.specs.declared.answer.CollectionFault.TheVariants.{NotAString, UnknownProperty, NoMember, NotACollection, NoName}
use Rattle.scope.specs.Scopes.{ScopeAt}
use Rattle.scope.specs.declared.binder.Scope.{Scope}
use Rattle.validation.specs.Check.{entry_of, is_string}
use Rattle.sheet.specs.FieldKinds.{kind_name}
use Rattle.message.specs.Words.{in_quotes, kind_of}
use Rattle.message.specs.Tell.{memberless, field_sentence, no_collection, no_name, tell_collection_text, tell_collection}
use Rattle.defect_walk.specs.CollectionTellings.{CollectIs, TextCollects}
use Rattle.defect_message.specs.Collections.{FieldLaid, CollectLaid, TextLaid, CollectionLaid}
use Rattle.defect_walk.specs.declared.collection_telling.CollectionTelling.{CollectionTelling}
use Rattle.defect_walk.specs.declared.collection_telling.CollectionTelling.TheVariants as Telling
use Rattle.defect_message.proofs.RefusalLaws.{from-whole, kind-is}

pub memberless-laid : {b c a : List ℕ} {o m n : ℕ} (kind s : Text) → length b ≤ most_place
    → Laid b c o (ascii "a " ++ (kind ++ ascii " field has no member ")) m
    → Laid c a m (in_quotes s) n
    → Laid b a o (memberless kind s) n
unfolding memberless
memberless-laid {b = b} {a = a} {o = o} {n = n} kind s room u v =
    subst (λ (l : Text). Laid b a o l n)
    (append_assoc (ascii "a ") (kind ++ ascii " field has no member ") (in_quotes s) ∙ ap (λ (l : Text). ascii "a " ++ l) (append_assoc kind (ascii " field has no member ") (in_quotes s)))
    (laid_then room u v)

placed : (behind path : Text) (at end : ℕ) → path ≡ take (length behind - at) (drop at behind) → Ends path end → take end path ≡ (split (drop at behind)).first
placed behind path at end p ends = sym ends.first ∙ ap (λ (t : Text). (split t).first) (p ∙ from-whole behind at)

member-of : (sheet words : List ℕ) (k : ℕ) (x : IndexedField) (behind path : Text) (at end : ℕ) {b a : List ℕ} {o n : ℕ}
    → path ≡ take (length behind - at) (drop at behind)
    → Ends path end
    → IndexedIs sheet words k x
    → Laid b a o (memberless (kind_name x.kind) (take end path)) n
    → (f : Field)
    → SlotHolds sheet words k f
    → Laid b a o (memberless (kind_of f) (split (drop at behind)).first) n
member-of sheet words k x behind path at end {b} {a} {o} {n} p ends is u f held =
    subst (λ (t : Text). Laid b a o (memberless (kind_of f) t) n) (placed behind path at end p ends)
    (subst (λ (t : Text). Laid b a o (memberless t (take end path)) n) (kind-is sheet x words f (is f held)) u)

module _ {sheet words : List ℕ} {behind : Text} {fault : CollectionFault} {at k : ℕ} {b a : List ℕ} {o n : ℕ} where
  pub field_past : length behind < at → FieldLaid sheet words behind fault at k b a o n
  field_past h = record { lays = λ f held within. absurd (omega arith) }

  module _ {end : ℕ} {path : Text} (p : path ≡ take (length behind - at) (drop at behind)) (ends : Ends path end) where
    pub property-laid : fault ≡ UnknownProperty → Laid b a o (ascii "nothing declares a property " ++ in_quotes (take end path)) n → FieldLaid sheet words behind fault at k b a o n
    unfolding collection_detail field_sentence
    property-laid e u = record {
      lays = λ f held within. rw e (subst (λ (t : Text). Laid b a o (ascii "nothing declares a property " ++ in_quotes t) n) (placed behind path at end p ends) u);
    }

    module _ {x : IndexedField} (is : IndexedIs sheet words k x) (u : Laid b a o (memberless (kind_name x.kind) (take end path)) n) where
      pub member-laid : fault ≡ NoMember → FieldLaid sheet words behind fault at k b a o n
      unfolding collection_detail field_sentence
      member-laid e = record { lays = λ f held within. rw e (member-of sheet words k x behind path at end p ends is u f held) }

      pub string-laid : fault ≡ NotAString → FieldLaid sheet words behind fault at k b a o n
      unfolding collection_detail field_sentence
      string-laid e = record { lays = λ f held within. rw e (member-of sheet words k x behind path at end p ends is u f held) }

      pub collection-laid : fault ≡ NotACollection → FieldLaid sheet words behind fault at k b a o n
      unfolding collection_detail field_sentence
      collection-laid e = record { lays = λ f held within. rw e (member-of sheet words k x behind path at end p ends is u f held) }

      pub name-laid : fault ≡ NoName → FieldLaid sheet words behind fault at k b a o n
      unfolding collection_detail field_sentence
      name-laid e = record { lays = λ f held within. rw e (member-of sheet words k x behind path at end p ends is u f held) }

said : {b a : List ℕ} {o n : ℕ} (x : Option Text) (t : Text) → x ≡ some t → Laid b a o t n → Laid b a o (get_or x []) n
said x t e u = rw e u

module _ {sheet words : List ℕ} {text behind : Text} {telling : CollectionTelling} {b a : List ℕ} {o n : ℕ} where
  pub nothing_said : telling ≡ Telling.Nothing → o ≤ most_place → a ≡ b → n ≡ o → CollectLaid sheet words text behind telling b a o n
  nothing_said e room same end = record { lays = λ x h. let q : x ≡ none = rw e at h in rw (q, same, end) (laid-nothing b o room) }

  pub no-name-said : telling ≡ Telling.NoName → Laid b a o (in_quotes text ++ ascii " is not a reference to a collection") n → CollectLaid sheet words text behind telling b a o n
  unfolding no_name
  no-name-said e u = record { lays = λ x h. let q : x ≡ some (no_name text) = rw e at h in said x (no_name text) q u }

  pub unavailable-said : telling ≡ Telling.NotAvailable → Laid b a o (in_quotes text ++ ascii " is not available here") n → CollectLaid sheet words text behind telling b a o n
  unavailable-said e u = record {
    lays = λ x h. let t = in_quotes text ++ ascii " is not available here" in let q : x ≡ some t = rw e at h in said x t q u;
  }

  pub undeclared-said : telling ≡ Telling.NotDeclared → Laid b a o (in_quotes text ++ ascii " names nothing the schema declares") n → CollectLaid sheet words text behind telling b a o n
  undeclared-said e u = record {
    lays = λ x h. let t = in_quotes text ++ ascii " names nothing the schema declares" in let q : x ≡ some t = rw e at h in said x t q u;
  }

  pub elements-said : {k : ℕ} {y : IndexedField} → telling ≡ Telling.NoElements k → IndexedIs sheet words k y
      → Laid b a o (ascii "it is a " ++ (kind_name y.kind ++ ascii " field, and a quantifier walks an array or a map")) n
      → CollectLaid sheet words text behind telling b a o n
  unfolding no_collection
  elements-said {k} {y} e is u = record {
    lays = λ x h.
        let q : (f : Field) × SlotHolds sheet words k f × (x ≡ some (no_collection f)) = rw e at h in
        said x (no_collection q.0) q.2
        (subst (λ (t : Text). Laid b a o (ascii "it is a " ++ (t ++ ascii " field, and a quantifier walks an array or a map")) n) (kind-is sheet y words q.0 (is q.0 q.1)) u);
  }

  pub refused-said : {fault : CollectionFault} {at k : ℕ} → telling ≡ Telling.Refused fault at k → FieldLaid sheet words behind fault at k b a o n
      → CollectLaid sheet words text behind telling b a o n
  refused-said {fault} {at} {k} e u = record {
    lays = λ x h.
        let q : CollectIs sheet words text behind (Telling.Refused fault at k) x = rw e at h in
        said x (field_sentence (collection_detail fault) (split (drop at behind)).first q.0) q.3 (u.lays q.0 q.1 q.2);
  }

pub text-laid : {sheet rule words : List ℕ} {scope : Scope} {text behind : Text} {telling : CollectionTelling} {b a : List ℕ} {o n : ℕ}
    → behind ≡ behind_first text
    → TextCollects sheet rule words scope text behind telling
    → CollectLaid sheet words text behind telling b a o n
    → TextLaid sheet rule words scope text b a o n
text-laid e m u = record { lays = λ setting tree env at. u.lays (tell_collection_text tree env _) (m.leads setting tree env e at) }

other-value : (tree : Schema) (env : Environment) (v : Value) → is_string v ≡ false → tell_collection tree env v ≡ some (ascii "`in` is a reference to an array or map field")
unfolding tell_collection is_string
other-value tree env (constant e type) h = refl
other-value tree env (number e digits) h = refl
other-value tree env (string e t) h = absurd (false≢true (sym h))
other-value tree env (array e values) h = refl
other-value tree env (object e pairs) h = refl

module _ {sheet rule words : List ℕ} {scope : Scope} {i : ℕ} {b a : List ℕ} {o n : ℕ} where
  pub string-said : {text t : Text} → ((v : Value) → ValueAt rule words i v → v ≡ string (entry_of v) t) → text ≡ t → TextLaid sheet rule words scope text b a o n
      → CollectionLaid sheet rule words scope i b a o n
  unfolding tell_collection
  string-said {text} {t} form same u = record {
    lays = λ setting tree env v at there.
        let q = form v there ∙ ap (string (entry_of v)) (sym same) in
        subst (λ (y : Value). Laid b a o (get_or (tell_collection tree env y) []) n) (sym q) (u.lays setting tree env at);
  }

  pub other-said : ((v : Value) → ValueAt rule words i v → is_string v ≡ false) → Laid b a o (ascii "`in` is a reference to an array or map field") n
      → CollectionLaid sheet rule words scope i b a o n
  other-said form u = record {
    lays = λ setting tree env v at there. said (tell_collection tree env v) (ascii "`in` is a reference to an array or map field") (other-value tree env v (form v there)) u;
  }
