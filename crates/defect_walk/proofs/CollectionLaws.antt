-- What is to be said of an `in` value: each way through the code, as a law.
use Rattle.std.specs.Prelude.{Option as Optional, Some, None, Result, Ok, Err}
use Prim.Native.Nat.{ℕ, ◌+◌, ◌-◌, ◌<◌, ◌≤◌}
use native.Mathlib.Omega.{arith}
use mathlib.Core.Bool.{Bool, true, false, cond, ◌||◌}
use mathlib.Core.List.{List, [], ◌∷◌, ◌++◌}
use mathlib.Core.Option.{Option, none, some}
use mathlib.Core.Path.{◌≡◌, refl, ap, sym, subst, ◌∙◌}
use lib.Dec.{eqb}
use lib.ListN.{length, take, drop, length-drop}
use borrow.Author.Tests.{ne_eqb}
use Rattle.text.specs.Ascii.{ascii}
use Rattle.definition.specs.Tree as Tree
use Rattle.definition.specs.Tree.{Text, Field, field}
use Rattle.reference.specs.Path.{split}
use Rattle.reference.specs.Setting as Setting
use Rattle.reference.specs.Setting.{Setting, name_of}
use Rattle.reference.specs.Walk.{Step, refuse, leaf, free, into, lookup, member_step, field_step}
use Rattle.reference.specs.Reference as Reference
use Rattle.reference.specs.Reference.{Environment, bound, root_of, behind_first, begins_with_dollar}
use Rattle.schema.specs.Slot.{SlotHolds, HolderAt, PartsOf, IndexedIs}
use Rattle.schema.specs.Lookup.{FoundAt, LookedUp}
use Rattle.schema.specs.Read.{SchemaAt}
use Rattle.schema.specs.declared.index.Holder.{Holder}
use Rattle.schema.specs.declared.index.IndexedField.{IndexedField}
use Rattle.walk.specs.Dots.{Ends}
use Rattle.walk.specs.DotLaws.{part_length, rest-whole}
use Rattle.walk.specs.Answers.{collection_detail}
use Rattle.walk.specs.Steps.{FieldSteps}
use Rattle.walk.specs.declared.answer.CollectionFault.{CollectionFault}
use Rattle.scope.specs.Names.{name_is, NamedIs}
use Rattle.scope.specs.Scopes.{BoundElement, EnvironmentAt, BoundIs}
use Rattle.scope.specs.Roots.{RootIs}
use Rattle.scope.specs.declared.name.Name.{Name}
use Rattle.scope.specs.declared.binder.Scope.{Scope}
use Rattle.scope.specs.declared.root.Root.{Root}
use Rattle.scope.specs.declared.root.Root.TheVariants as Root
use Rattle.message.specs.Words.{in_quotes}
use Rattle.message.specs.Tell.{field_sentence, no_collection, tell_last, field_told, tell_field, no_name, collection_root_told, tell_collection_in, tell_collection_named, tell_collection_element, tell_collection_bound, tell_collection_text}
use Rattle.defect_walk.specs.CollectionTellings.{CollectIs, ElementTells, FieldTells, RootCollects, NameCollects, TextCollects}
use Rattle.defect_walk.specs.declared.collection_telling.CollectionTelling.{CollectionTelling}
use Rattle.defect_walk.specs.declared.collection_telling.CollectionTelling.TheVariants as Telling
use Rattle.defect_walk.proofs.TellingLaws.{within-path, further-on, element-unknown, element-known}

-- The element of a field

last-array : (kind e : ℕ) (is_open : Bool) (tag : Option Text) (items : Tree.Items) (members : Tree.Members) → kind ≡ 6 → tell_last (field e kind is_open tag items members) ≡ none
unfolding tell_last
last-array kind e is_open tag items members h = rw h

last-map : (kind e : ℕ) (is_open : Bool) (tag : Option Text) (items : Tree.Items) (members : Tree.Members) → kind ≡ 10 → tell_last (field e kind is_open tag items members) ≡ none
unfolding tell_last
last-map kind e is_open tag items members h = rw h

last-other : (kind e : ℕ) (is_open : Bool) (tag : Option Text) (items : Tree.Items) (members : Tree.Members) → (kind ≡ 6 → ⊥) → (kind ≡ 10 → ⊥)
    → tell_last (field e kind is_open tag items members) ≡ some (no_collection (field e kind is_open tag items members))
unfolding tell_last
last-other kind e is_open tag items members n6 n10 = rw (ne_eqb kind 6 n6, ne_eqb kind 10 n10)

module _ (sheet words : List ℕ) (k : ℕ) (x : IndexedField) (held : IndexedIs sheet words k x) where
  array-none : (f : Field) → PartsOf sheet words f x → x.kind ≡ 6 → tell_last f ≡ none
  array-none (field e kind is_open tag items members) p h = last-array kind e is_open tag items members (sym p.kinded ∙ h)

  map-none : (f : Field) → PartsOf sheet words f x → x.kind ≡ 10 → tell_last f ≡ none
  map-none (field e kind is_open tag items members) p h = last-map kind e is_open tag items members (sym p.kinded ∙ h)

  other-some : (f : Field) → PartsOf sheet words f x → (x.kind ≡ 6 → ⊥) → (x.kind ≡ 10 → ⊥) → tell_last f ≡ some (no_collection f)
  other-some (field e kind is_open tag items members) p n6 n10 = last-other kind e is_open tag items members (λ h. n6 (p.kinded ∙ h)) (λ h. n10 (p.kinded ∙ h))

  pub element-array : x.kind ≡ 6 → ElementTells sheet words k Telling.Nothing
  element-array h = record { leads = λ text behind f there. array-none f (held f there) h }

  pub element-map : x.kind ≡ 10 → ElementTells sheet words k Telling.Nothing
  element-map h = record { leads = λ text behind f there. map-none f (held f there) h }

  pub element-other : (x.kind ≡ 6 → ⊥) → (x.kind ≡ 10 → ⊥) → ElementTells sheet words k (Telling.NoElements k)
  element-other n6 n10 = record { leads = λ text behind f there. (f, there, other-some f (held f there) n6 n10) }

-- One step on the tree

module _ (s : Text) (path : List Text) (f : Field) where
  told-refused : (d : ℕ) → field_step f s ≡ refuse d → tell_field (s ∷ path) f ≡ some (field_sentence d s f)
  unfolding tell_field field_told
  told-refused d e = rw e

  told_free : field_step f s ≡ free → tell_field (s ∷ path) f ≡ none
  unfolding tell_field field_told
  told_free e = rw e

  told-into : (g : Field) → field_step f s ≡ into g → tell_field (s ∷ path) f ≡ tell_field path g
  unfolding tell_field field_told
  told-into g e = rw e

told-last : (path : List Text) (f : Field) → path ≡ [] → tell_field path f ≡ tell_last f
unfolding tell_field
told-last path f e = rw e

module _ (sheet words path : List ℕ) (k : ℕ) (x : IndexedField) (held : IndexedIs sheet words k x) (n : ℕ) (ends : Ends path n)
    (at : ℕ) (w : Result (Optional ℕ) CollectionFault) (steps : FieldSteps sheet words x (take n path) w) where
  step_is : (f : Field) (y : Step) → field_step f (take n path) ≡ y → field_step f (split path).first ≡ y
  step_is f y e = ap (field_step f) ends.first ∙ e

  pub field-refused : (fault : CollectionFault) → w ≡ Err fault → FieldTells sheet words k path at (Telling.Refused fault at k)
  field-refused fault e = record {
    leads = λ text behind f within p there.
        let d = collection_detail fault in
        let q : field_step f (take n path) ≡ refuse d = rw e at (steps.leads f (held f there)) in (
          f,
          there,
          within,
          told-refused (split path).first (split path).others f d (step_is f (refuse d) q) ∙ ap (λ (t : Text). some (field_sentence d (split t).first f)) p,
        );
  }

  pub field-free : w ≡ (Ok None) → FieldTells sheet words k path at Telling.Nothing
  field-free e = record {
    leads = λ text behind f within p there.
        let q : field_step f (take n path) ≡ free = rw e at (steps.leads f (held f there)) in
        told_free (split path).first (split path).others f (step_is f free q);
  }

  pub field-last : (next : ℕ) (r : CollectionTelling) → w ≡ Ok (Some next) → n ≡ length path → ElementTells sheet words next r → FieldTells sheet words k path at r
  field-last next r e end m = record {
    leads = λ text behind f within p there.
        let q : (g : Field) × (field_step f (take n path) ≡ into g) × SlotHolds sheet words next g = rw e at (steps.leads f (held f there)) in
        let same = told-into (split path).first (split path).others f q.0 (step_is f (into q.0) q.1) ∙ told-last (split path).others q.0 (ends.last end) in
        subst (λ (o : Option Text). CollectIs sheet words text behind r o) (sym same) (m.leads text behind q.0 q.2);
  }

  pub field-into : (next : ℕ) (r : CollectionTelling) → w ≡ Ok (Some next) → (n ≡ length path → ⊥)
      → FieldTells sheet words next (take (length path - (n + 1)) (drop (n + 1) path)) (at + n + 1) r
      → FieldTells sheet words k path at r
  field-into next r e further m = record {
    leads = λ text behind f within p there.
        let q : (g : Field) × (field_step f (take n path) ≡ into g) × SlotHolds sheet words next g = rw e at (steps.leads f (held f there)) in
        let more = within-path path n ends further in
        let rest = drop (n + 1) path in
        let onward : FieldTells sheet words next rest (at + n + 1) r = rw (rest-whole path n) at m in
        let size : length path ≡ length behind - at = ap length p ∙ length-drop at behind in
        let same = told-into (split path).first (split path).others f q.0 (step_is f (into q.0) q.1) ∙ ap (λ (os : List Text). tell_field os q.0) (ends.more more) in
        subst (λ (o : Option Text). CollectIs sheet words text behind r o) (sym same)
        (onward.leads text behind q.0 (omega arith) (further-on at n path behind p) q.2);
  }

-- A path after the record or the arguments

module _ (text : Text) (t : Tree.Holder) (s : Text) (path : List Text) where
  abbrev told : Option Text
  told = collection_root_told text path (member_step (lookup s t.members) t.is_open 7)

  root-free : lookup s t.members ≡ none → t.is_open ≡ true → told ≡ none
  unfolding collection_root_told member_step
  root-free l o = rw (l, o)

  root-nowhere : lookup s t.members ≡ none → t.is_open ≡ false → told ≡ some (in_quotes text ++ ascii " names nothing the schema declares")
  unfolding collection_root_told member_step
  root-nowhere l o = rw (l, o)

  root-found : (f : Field) → lookup s t.members ≡ some f → told ≡ tell_field path f
  unfolding collection_root_told member_step
  root-found f l = rw l

module _ (sheet words path : List ℕ) (at : ℕ) (h : Holder) (n : ℕ) (ends : Ends path n) (found : Optional ℕ) (looked : LookedUp sheet words h (take n path) found) where
  missing : found ≡ None → (t : Tree.Holder) → HolderAt sheet words h t → lookup (split path).first t.members ≡ none
  missing e t here = let l : lookup (take n path) t.members ≡ none = rw e at (looked t here) in rw ends.first l

  found_at : (k : ℕ) → found ≡ Some k → (t : Tree.Holder) → HolderAt sheet words h t → FoundAt sheet words (split path).first t.members k
  found_at k e t here = let l : FoundAt sheet words (take n path) t.members k = rw e at (looked t here) in rw ends.first l

  pub collects-open : found ≡ None → h.opened ≡ true → RootCollects sheet words h path at Telling.Nothing
  collects-open e o = record {
    leads = λ text behind t within p here. root-free text t (split path).first (split path).others (missing e t here) (sym here.marked ∙ o);
  }

  pub collects-closed : found ≡ None → h.opened ≡ false → RootCollects sheet words h path at Telling.NotDeclared
  collects-closed e o = record {
    leads = λ text behind t within p here. root-nowhere text t (split path).first (split path).others (missing e t here) (sym here.marked ∙ o);
  }

  pub collects-last : (k : ℕ) (r : CollectionTelling) → found ≡ Some k → n ≡ length path → ElementTells sheet words k r → RootCollects sheet words h path at r
  collects-last k r e end m = record {
    leads = λ text behind t within p here.
        let l = found_at k e t here in
        let same = root-found text t (split path).first (split path).others l.f l.found ∙ told-last (split path).others l.f (ends.last end) in
        subst (λ (o : Option Text). CollectIs sheet words text behind r o) (sym same) (m.leads text behind l.f l.holds);
  }

  pub collects-more : (k : ℕ) (r : CollectionTelling) → found ≡ Some k → (n ≡ length path → ⊥)
      → FieldTells sheet words k (take (length path - (n + 1)) (drop (n + 1) path)) (at + n + 1) r → RootCollects sheet words h path at r
  collects-more k r e further m = record {
    leads = λ text behind t within p here.
        let l = found_at k e t here in
        let more = within-path path n ends further in
        let rest = drop (n + 1) path in
        let onward : FieldTells sheet words k rest (at + n + 1) r = rw (rest-whole path n) at m in
        let size : length path ≡ length behind - at = ap length p ∙ length-drop at behind in
        let same = root-found text t (split path).first (split path).others l.f l.found ∙ ap (λ (os : List Text). tell_field os l.f) (ends.more more) in
        subst (λ (o : Option Text). CollectIs sheet words text behind r o) (sym same)
        (onward.leads text behind l.f (omega arith) (further-on at n path behind p) l.holds);
  }

pub part-shorter : (text : Text) (n : ℕ) → n < length text → n ≡ length (take n text)
part-shorter text n less = part_length text n (omega arith)

-- A reference whose name is not a binder's

module _ (text : Text) (t : Tree.Schema) (path : List Text) where
  name-last : (x : Option Setting.Name) → path ≡ [] → tell_collection_named text t x path ≡ some (no_name text)
  unfolding tell_collection_named
  name-last none e = refl
  name-last (some n) e = rw e

  name-missing : (x : Option Setting.Name) → x ≡ none → tell_collection_named text t x path ≡ some (no_name text)
  unfolding tell_collection_named
  name-missing x e = rw e

  name-in : (x : Option Setting.Name) (n : Setting.Name) (s : Text) (rest : List Text) (y : Reference.Root) → x ≡ some n → path ≡ s ∷ rest → root_of t n ≡ y
      → tell_collection_named text t x path ≡ tell_collection_in text y s rest
  unfolding tell_collection_named
  name-in x n s rest y e p q = rw (e, p, q)

module _ (sheet words behind : List ℕ) (scope : Scope) (end : ℕ) where
  pub name-short : length behind ≤ end → NameCollects sheet words scope behind end Telling.NoName
  name-short last = record {
    leads = λ text t at ends.
        let within = ends.within in
        let whole : end ≡ length behind = omega arith in
        name-last text t (split behind).others (name_of (split behind).first) (ends.last whole);
  }

  module _ (named : Optional Name) (is : NamedIs (take end behind) named) where
    pub name-none : named ≡ None → NameCollects sheet words scope behind end Telling.NoName
    name-none e = record {
      leads = λ text t at ends.
          let q : name_of (take end behind) ≡ none = rw e at is in
          name-missing text t (split behind).others (name_of (split behind).first) (ap name_of ends.first ∙ q);
    }

    module _ (name : Name) (found : named ≡ Some name) (more : end < length behind) (root : Root) (leads-to : RootIs scope.schema name root) where
      so-named : Ends behind end → name_of (split behind).first ≡ some (name_is name)
      so-named ends = let q : name_of (take end behind) ≡ some (name_is name) = rw found at is in ap name_of ends.first ∙ q

      named_in : (text : Text) (t : Tree.Schema) (y : Reference.Root) → Ends behind end → root_of t (name_is name) ≡ y
          → tell_collection_named text t (name_of (split behind).first) (split behind).others ≡ tell_collection_in text y (split (drop (end + 1) behind)).first (split (drop (end + 1) behind)).others
      named_in text t y ends e =
          name-in text t (split behind).others (name_of (split behind).first) (name_is name) (split (drop (end + 1) behind)).first (split (drop (end + 1) behind)).others y (so-named ends) (ends.more more) e

      pub name-no-path : root ≡ Root.Nothing → NameCollects sheet words scope behind end Telling.NoName
      unfolding tell_collection_in
      name-no-path e = record {
        leads = λ text t at ends.
            let q : root_of t (name_is name) ≡ Reference.no_root = rw e at (leads-to.leads sheet words t at) in
            named_in text t Reference.no_root ends q;
      }

      pub name-absent : root ≡ Root.Missing → NameCollects sheet words scope behind end Telling.NotAvailable
      unfolding tell_collection_in
      name-absent e = record {
        leads = λ text t at ends.
            let q : root_of t (name_is name) ≡ Reference.missing = rw e at (leads-to.leads sheet words t at) in
            named_in text t Reference.missing ends q;
      }

      pub name-rooted : (at : ℕ) (h : Holder) (r : CollectionTelling) → root ≡ Root.At at h
          → RootCollects sheet words h (take (length behind - (end + 1)) (drop (end + 1) behind)) (end + 1) r
          → NameCollects sheet words scope behind end r
      unfolding tell_collection_in
      name-rooted at h r there m = record {
        leads = λ text t here ends.
            let q : (u : Tree.Holder) × (root_of t (name_is name) ≡ Reference.root at u) × HolderAt sheet words h u = rw there at (leads-to.leads sheet words t here) in
            let onward : RootCollects sheet words h (drop (end + 1) behind) (end + 1) r = rw (rest-whole behind end) at m in
            subst (λ (o : Option Text). CollectIs sheet words text behind r o) (sym (named_in text t (Reference.root at q.0) ends q.1))
            (onward.leads text behind q.0 (omega arith) refl q.2);
      }

-- The text of an `in` value

module _ (t : Tree.Schema) (env : Environment) (text behind : Text) (is : behind ≡ behind_first text) where
  text-is : tell_collection_text t env text ≡ tell_collection_bound text t (begins_with_dollar text) (split behind) (bound (split behind).first env)
  unfolding tell_collection_text
  text-is = ap (λ (b : Text). tell_collection_bound text t (begins_with_dollar text) (split b) (bound (split b).first env)) (sym is)

  text-named : begins_with_dollar text ≡ true → bound (split behind).first env ≡ none
      → tell_collection_text t env text ≡ tell_collection_named text t (name_of (split behind).first) (split behind).others
  unfolding tell_collection_bound
  text-named d e = text-is ∙ rw (d, e) refl

  text-nameless : begins_with_dollar text ≡ false → bound (split behind).first env ≡ none → tell_collection_text t env text ≡ some (no_name text)
  unfolding tell_collection_bound
  text-nameless d e = text-is ∙ rw (d, e) refl

  text-any : bound (split behind).first env ≡ some none → tell_collection_text t env text ≡ none
  unfolding tell_collection_bound tell_collection_element
  text-any e = text-is ∙ rw e refl

  text-whole : (f : Field) → bound (split behind).first env ≡ some (some f) → (split behind).others ≡ [] → tell_collection_text t env text ≡ none
  unfolding tell_collection_bound tell_collection_element
  text-whole f e p = text-is ∙ rw (e, p) refl

  text_path : (f : Field) (s : Text) (rest : List Text) → bound (split behind).first env ≡ some (some f) → (split behind).others ≡ s ∷ rest → tell_collection_text t env text ≡ tell_field (s ∷ rest) f
  unfolding tell_collection_bound tell_collection_element
  text_path f s rest e p = text-is ∙ rw (e, p) refl

module _ (sheet rule words text behind : List ℕ) (scope : Scope) (end : ℕ) (ends : Ends behind end) (found : Optional (Optional ℕ)) (is : BoundIs rule scope (take end behind) found) where
  same_name : (env : Environment) → bound (split behind).first env ≡ bound (take end behind) env
  same_name env = ap (λ (s : Text). bound s env) ends.first

  unbound-is : found ≡ None → (env : Environment) → EnvironmentAt sheet rule words scope env → bound (split behind).first env ≡ none
  unbound-is e env at = let q : bound (take end behind) env ≡ none = rw e at (is.leads sheet words env at) in same_name env ∙ q

  pub text-free : (r : CollectionTelling) (d : Bool) → found ≡ None → d ≡ begins_with_dollar text → d ≡ true → NameCollects sheet words scope behind end r
      → TextCollects sheet rule words scope text behind r
  text-free r d e same h m = record {
    leads = λ setting t env b at.
        subst (λ (o : Option Text). CollectIs sheet words text behind r o) (sym (text-named t env text behind b (sym same ∙ h) (unbound-is e env at.binders))) (m.leads text t at.schema ends);
  }

  pub text-none : (d : Bool) → found ≡ None → d ≡ begins_with_dollar text → d ≡ false → TextCollects sheet rule words scope text behind Telling.NoName
  text-none d e same h = record { leads = λ setting t env b at. text-nameless t env text behind b (sym same ∙ h) (unbound-is e env at.binders) }

  module _ (x : Optional ℕ) (to : found ≡ Some x) where
    bound-to : (env : Environment) → EnvironmentAt sheet rule words scope env → (o : Option Field) × (bound (take end behind) env ≡ some o) × BoundElement sheet words x o
    bound-to env at = rw to at (is.leads sheet words env at)

    pub text-unknown : x ≡ None → TextCollects sheet rule words scope text behind Telling.Nothing
    text-unknown e = record {
      leads = λ setting t env b at.
          let q = bound-to env at.binders in
          text-any t env text behind b (same_name env ∙ q.1 ∙ ap some (element-unknown sheet words x q.0 e q.2));
    }

    module _ (k : ℕ) (known_at_lem : x ≡ Some k) where
      to-field : (env : Environment) → EnvironmentAt sheet rule words scope env → (f : Field) × (bound (split behind).first env ≡ some (some f)) × SlotHolds sheet words k f
      to-field env at =
          let q = bound-to env at in
          let f = element-known sheet words k x q.0 known_at_lem q.2 in
          (f.0, same_name env ∙ q.1 ∙ ap some f.1, f.2)

      pub text-last : end ≡ length behind → TextCollects sheet rule words scope text behind Telling.Nothing
      text-last last = record { leads = λ setting t env b at. let q = to-field env at.binders in text-whole t env text behind b q.0 q.1 (ends.last last) }

      pub text-more : (r : CollectionTelling) → (end ≡ length behind → ⊥) → FieldTells sheet words k (take (length behind - (end + 1)) (drop (end + 1) behind)) (end + 1) r
          → TextCollects sheet rule words scope text behind r
      text-more r further m = record {
        leads = λ setting t env b at.
            let q = to-field env at.binders in
            let more = within-path behind end ends further in
            let rest = drop (end + 1) behind in
            let onward : FieldTells sheet words k rest (end + 1) r = rw (rest-whole behind end) at m in
            subst (λ (o : Option Text). CollectIs sheet words text behind r o) (sym (text_path t env text behind b q.0 (split rest).first (split rest).others q.1 (ends.more more)))
            (onward.leads text behind q.0 (omega arith) refl q.2);
      }
