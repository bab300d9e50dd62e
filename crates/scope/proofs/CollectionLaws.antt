-- Collections: how each way through the code answers what the definition says.
use Rattle.std.specs.Prelude.{Option as Optional, Some, None, Result, Ok, Err}
use Prim.Native.Nat.{ℕ, ◌+◌, ◌-◌, ◌<◌, ◌≤◌}
use native.Mathlib.Omega.{arith}
use mathlib.Core.Bool.{Bool, true, false}
use mathlib.Core.List.{List, [], ◌∷◌}
use mathlib.Core.Option.{Option, none, some}
use mathlib.Core.Path.{◌≡◌, refl, ap, sym, ◌∙◌}
use lib.Dec.{eqb}
use lib.ListN.{length, take, drop, get_or}
use lib.Seq.{take_all, drop-length}
use borrow.Author.Tests.{lt-ltb, le-ltb}
use Rattle.definition.specs.Tree as Tree
use Rattle.definition.specs.Tree.{Text, Field, string}
use Rattle.reference.specs.Path.{split}
use Rattle.reference.specs.Setting as Setting
use Rattle.reference.specs.Setting.{name_of}
use Rattle.reference.specs.Walk.{lookup, member_step, Reached, refused, unknown, known, arrive, travel, field_step, element_of}
use Rattle.reference.specs.Reference as Reference
use Rattle.reference.specs.Reference.{Environment, bound, root_of, from_holder, behind_first, begins_with_dollar, collection_in, collection_named, collection_element, collection_bound, collection_text, collection}
use Rattle.schema.specs.Slot.{SlotHolds, HolderAt}
use Rattle.schema.specs.Lookup.{FoundAt, LookedUp}
use Rattle.schema.specs.declared.index.Holder.{Holder}
use Rattle.walk.specs.Dots.{Ends}
use Rattle.walk.specs.DotLaws.{rest-whole}
use Rattle.walk.specs.Answers.{collection_detail}
use Rattle.walk.specs.Steps.{FieldsAt, ElementIs}
use Rattle.walk.specs.declared.answer.CollectionFault.TheVariants.{NoName}
use Rattle.scope.specs.Names.{name_is, NamedIs}
use Rattle.scope.specs.Scopes.{BoundElement, EnvironmentAt, BoundIs}
use Rattle.scope.specs.Roots.{RootIs}
use Rattle.scope.specs.Collections.{RootCollects, NameCollects, CollectionIs}
use Rattle.scope.specs.declared.name.Name.{Name}
use Rattle.scope.specs.declared.binder.Scope.{Scope}
use Rattle.scope.specs.declared.root.Root.{Root}
use Rattle.scope.specs.declared.root.Root.TheVariants as Root
use Rattle.scope.proofs.ReferenceLaws.{element-known, element-unknown}
use Rattle.walk.specs.declared.answer.CollectionFault.{CollectionFault}

-- The first character

pub behind-nothing : (t : List ℕ) → length t ≡ 0 → t ≡ behind_first t
unfolding behind_first
behind-nothing [] e = refl
behind-nothing (b ∷ t) e = absurd (omega arith)

pub behind-one : (t : List ℕ) → (length t ≡ 0 → ⊥) → get_or t 0 0 < 128 → take (length t - 1) (drop 1 t) ≡ behind_first t
unfolding behind_first
behind-one [] e low = absurd (e refl)
behind-one (b ∷ t) e low = rw (lt-ltb b 128 low) (take_all (length (b ∷ t) - 1) t (omega arith))

pub behind_more : (t : List ℕ) → (length t ≡ 0 → ⊥) → 128 ≤ get_or t 0 0 → take (length t - length t) (drop (length t) t) ≡ behind_first t
unfolding behind_first
behind_more [] e high = absurd (e refl)
behind_more (b ∷ t) e high =
    rw (le-ltb b 128 high, drop-length (b ∷ t)) (take_all (length (b ∷ t) - length (b ∷ t)) [] (omega arith))

pub dollar-nowhere : (t : List ℕ) → length t ≡ 0 → false ≡ begins_with_dollar t
unfolding begins_with_dollar
dollar-nowhere [] e = refl
dollar-nowhere (b ∷ t) e = absurd (omega arith)

pub dollar-first : (t : List ℕ) → (length t ≡ 0 → ⊥) → eqb (get_or t 0 0) 36 ≡ begins_with_dollar t
unfolding begins_with_dollar
dollar-first [] e = absurd (e refl)
dollar-first (b ∷ t) e = refl

-- A path after the record or the arguments, on the tree

module _ (at : ℕ) (t : Tree.Holder) (s : Text) (path : List Text) where
  in-open : lookup s t.members ≡ none → t.is_open ≡ true → collection_in (Reference.root at t) s path ≡ unknown
  unfolding collection_in from_holder member_step arrive element_of
  in-open l o = rw (l, o)

  in-closed : lookup s t.members ≡ none → t.is_open ≡ false → collection_in (Reference.root at t) s path ≡ refused 7 at (s ∷ path)
  unfolding collection_in from_holder member_step arrive element_of
  in-closed l o = rw (l, o)

  in-found : (f : Field) → lookup s t.members ≡ some f → collection_in (Reference.root at t) s path ≡ element_of (travel field_step path f)
  unfolding collection_in from_holder member_step arrive
  in-found f l = rw l

module _ (sheet words path : List ℕ) (at : ℕ) (h : Holder) (n : ℕ) (ends : Ends path n) (found : Optional ℕ) (looked : LookedUp sheet words h (take n path) found) where
  missing : found ≡ None → (t : Tree.Holder) → HolderAt sheet words h t → lookup (split path).first t.members ≡ none
  missing e t here = let l : lookup (take n path) t.members ≡ none = rw e at (looked t here) in rw ends.first l

  found_at : (k : ℕ) → found ≡ Some k → (t : Tree.Holder) → HolderAt sheet words h t → FoundAt sheet words (split path).first t.members k
  found_at k e t here = let l : FoundAt sheet words (take n path) t.members k = rw e at (looked t here) in rw ends.first l

  pub root-open : found ≡ None → h.opened ≡ true → RootCollects sheet words at h path (Ok None)
  root-open e o = record {
    leads = λ t here. in-open at t (split path).first (split path).others (missing e t here) (sym here.marked ∙ o);
  }

  pub root-closed : found ≡ None → h.opened ≡ false → RootCollects sheet words at h path (Err (NoName, at))
  root-closed e o = record {
    leads = λ t here.
        (7, (split path).first ∷ (split path).others, in-closed at t (split path).first (split path).others (missing e t here) (sym here.marked ∙ o), λ small. absurd (omega arith));
  }

  pub root-last : (k : ℕ) (r : Result (Optional ℕ) (CollectionFault × ℕ)) → found ≡ Some k → n ≡ length path → ElementIs sheet words (Ok (Some k)) r → RootCollects sheet words at h path r
  unfolding travel
  root-last k r e end m = record {
    leads = λ t here.
        let l = found_at k e t here in
        rw (in-found at t (split path).first (split path).others l.f l.found, ends.last end) (m.leads (known l.f) (l.f, refl, l.holds));
  }

  pub root-more : (k : ℕ) (c r : Result (Optional ℕ) (CollectionFault × ℕ)) → found ≡ Some k → (n ≡ length path → ⊥)
      → FieldsAt sheet words k (take (length path - (n + 1)) (drop (n + 1) path)) c → ElementIs sheet words c r → RootCollects sheet words at h path r
  root-more k c r e more m element = record {
    leads = λ t here.
        let l = found_at k e t here in
        let onward : FieldsAt sheet words k (drop (n + 1) path) c = rw (rest-whole path n) at m in
        rw (in-found at t (split path).first (split path).others l.f l.found, ends.more (less more))
        (element.leads (travel field_step ((split (drop (n + 1) path)).first ∷ (split (drop (n + 1) path)).others) l.f) (onward.leads l.f l.holds));
  } where
    less : (n ≡ length path → ⊥) → n < length path
    less other = let within = ends.within in omega arith

-- A reference whose name is not a binder's

module _ (t : Tree.Schema) (path : List Text) where
  name-alone : (x : Option Setting.Name) → path ≡ [] → collection_named t x path ≡ refused 5 0 []
  unfolding collection_named
  name-alone none e = refl
  name-alone (some n) e = rw e

  no-name : (x : Option Setting.Name) → x ≡ none → collection_named t x path ≡ refused 5 0 []
  unfolding collection_named
  no-name x e = rw e

  name-path : (x : Option Setting.Name) (n : Setting.Name) (s : Text) (rest : List Text) → x ≡ some n → path ≡ s ∷ rest → collection_named t x path ≡ collection_in (root_of t n) s rest
  unfolding collection_named
  name-path x n s rest e p = rw (e, p)

in-nothing : (x : Reference.Root) (s : Text) (path : List Text) → x ≡ Reference.no_root → collection_in x s path ≡ refused 5 0 []
unfolding collection_in
in-nothing x s path e = rw e

in-missing : (x : Reference.Root) (s : Text) (path : List Text) → x ≡ Reference.missing → collection_in x s path ≡ refused 6 0 []
unfolding collection_in
in-missing x s path e = rw e

module _ (sheet words text : List ℕ) (scope : Scope) (end : ℕ) where
  pub named-whole : length text ≤ end → NameCollects sheet words scope text end (Err (NoName, 0))
  unfolding collection_detail
  named-whole past = record {
    leads = λ t at ends.
        (5, [], name-alone t (split text).others (name_of (split text).first) (ends.last (whole ends)), λ small. refl);
  } where
    whole : Ends text end → end ≡ length text
    whole ends = let within = ends.within in omega arith

  module _ (named : Optional Name) (is : NamedIs (take end text) named) where
    pub named_none : named ≡ None → NameCollects sheet words scope text end (Err (NoName, 0))
    unfolding collection_detail
    named_none e = record {
      leads = λ t at ends.
          let q : name_of (take end text) ≡ none = rw e at is in
          (5, [], no-name t (split text).others (name_of (split text).first) (ap name_of ends.first ∙ q), λ small. refl);
    }

    module _ (name : Name) (found : named ≡ Some name) (less : end < length text) (root : Root) (into : RootIs scope.schema name root) where
      abbrev first : Text
      first = (split (drop (end + 1) text)).first

      abbrev others : List Text
      others = (split (drop (end + 1) text)).others

      to-root : (t : Tree.Schema) → Ends text end → collection_named t (name_of (split text).first) (split text).others ≡ collection_in (root_of t (name_is name)) first others
      to-root t ends =
          let q : name_of (take end text) ≡ some (name_is name) = rw found at is in
          name-path t (split text).others (name_of (split text).first) (name_is name) first others (ap name_of ends.first ∙ q) (ends.more less)

      pub named-no-path : root ≡ Root.Nothing → NameCollects sheet words scope text end (Err (NoName, 0))
      unfolding collection_detail
      named-no-path e = record {
        leads = λ t at ends.
            let q : root_of t (name_is name) ≡ Reference.no_root = rw e at (into.leads sheet words t at) in
            (5, [], to-root t ends ∙ in-nothing (root_of t (name_is name)) first others q, λ small. refl);
      }

      pub named-absent : root ≡ Root.Missing → NameCollects sheet words scope text end (Err (NoName, 0))
      named-absent e = record {
        leads = λ t at ends.
            let q : root_of t (name_is name) ≡ Reference.missing = rw e at (into.leads sheet words t at) in
            (6, [], to-root t ends ∙ in-missing (root_of t (name_is name)) first others q, λ small. absurd (omega arith));
      }

      pub named-rooted : (at : ℕ) (h : Holder) (r : Result (Optional ℕ) (CollectionFault × ℕ)) → root ≡ Root.At at h
          → RootCollects sheet words at h (take (length text - (end + 1)) (drop (end + 1) text)) r → NameCollects sheet words scope text end r
      named-rooted at h r e m = record {
        leads = λ t here ends.
            let q : (u : Tree.Holder) × (root_of t (name_is name) ≡ Reference.root at u) × HolderAt sheet words h u = rw e at (into.leads sheet words t here) in
            let onward : RootCollects sheet words at h (drop (end + 1) text) r = rw (rest-whole text end) at m in
            rw (to-root t ends, q.1) (onward.leads q.0 q.2);
      }

-- The text of an `in` value

module _ (t : Tree.Schema) (env : Environment) (e : ℕ) (text z : List ℕ) (behind : z ≡ behind_first text) where
  abbrev here : Reached
  here = collection t env (string e text)

  text-named : bound (split z).first env ≡ none → begins_with_dollar text ≡ true → here ≡ collection_named t (name_of (split z).first) (split z).others
  unfolding collection collection_text collection_bound
  text-named q d = rw (← behind, q, d)

  text-plain : bound (split z).first env ≡ none → begins_with_dollar text ≡ false → here ≡ refused 5 0 []
  unfolding collection collection_text collection_bound
  text-plain q d = rw (← behind, q, d)

  text-any : bound (split z).first env ≡ some none → here ≡ unknown
  unfolding collection collection_text collection_bound collection_element
  text-any q = rw (← behind, q)

  text-whole : (f : Field) → bound (split z).first env ≡ some (some f) → (split z).others ≡ [] → here ≡ unknown
  unfolding collection collection_text collection_bound collection_element
  text-whole f q o = rw (← behind, q, o)

  text_path : (f : Field) (s : Text) (rest : List Text) → bound (split z).first env ≡ some (some f) → (split z).others ≡ s ∷ rest
      → here ≡ element_of (travel field_step (s ∷ rest) f)
  unfolding collection collection_text collection_bound collection_element
  text_path f s rest q o = rw (← behind, q, o)

module _ (sheet rule words text z : List ℕ) (behind : z ≡ behind_first text) (scope : Scope) (end : ℕ) (ends : Ends z end) (found : Optional (Optional ℕ))
    (is : BoundIs rule scope (take end z) found) where
  same_name : (env : Environment) → bound (split z).first env ≡ bound (take end z) env
  same_name env = ap (λ (s : Text). bound s env) ends.first

  free : found ≡ None → (env : Environment) → EnvironmentAt sheet rule words scope env → bound (split z).first env ≡ none
  free e env at = let q : bound (take end z) env ≡ none = rw e at (is.leads sheet words env at) in same_name env ∙ q

  pub collection-named : (b : Bool) (r : Result (Optional ℕ) (CollectionFault × ℕ)) → found ≡ None → b ≡ begins_with_dollar text → b ≡ true → NameCollects sheet words scope z end r
      → CollectionIs sheet rule words scope text r
  collection-named b r e d q m = record {
    leads = λ setting t env entry at.
        rw (text-named t env entry text z behind (free e env at.binders) (sym d ∙ q)) (m.leads t at.schema ends);
  }

  pub collection-plain : (b : Bool) → found ≡ None → b ≡ begins_with_dollar text → b ≡ false → CollectionIs sheet rule words scope text (Err (NoName, 0))
  unfolding collection_detail
  collection-plain b e d q = record {
    leads = λ setting t env entry at. (5, [], text-plain t env entry text z behind (free e env at.binders) (sym d ∙ q), λ small. refl);
  }

  module _ (x : Optional ℕ) (to : found ≡ Some x) where
    bound-to : (env : Environment) → EnvironmentAt sheet rule words scope env → (o : Option Field) × (bound (take end z) env ≡ some o) × BoundElement sheet words x o
    bound-to env at = rw to at (is.leads sheet words env at)

    pub collection-any : x ≡ None → CollectionIs sheet rule words scope text (Ok None)
    collection-any e = record {
      leads = λ setting t env entry at.
          let q = bound-to env at.binders in
          text-any t env entry text z behind (same_name env ∙ q.1 ∙ ap some (element-unknown sheet words x q.0 e q.2));
    }

    module _ (k : ℕ) (known_at_lem : x ≡ Some k) where
      to-field : (env : Environment) → EnvironmentAt sheet rule words scope env → (f : Field) × (bound (split z).first env ≡ some (some f)) × SlotHolds sheet words k f
      to-field env at =
          let q = bound-to env at in
          let f = element-known sheet words k x q.0 known_at_lem q.2 in
          (f.0, same_name env ∙ q.1 ∙ ap some f.1, f.2)

      pub collection-whole : end ≡ length z → CollectionIs sheet rule words scope text (Ok None)
      collection-whole whole = record {
        leads = λ setting t env entry at.
            let q = to-field env at.binders in
            text-whole t env entry text z behind q.0 q.1 (ends.last whole);
      }

      pub collection-path : (c r : Result (Optional ℕ) (CollectionFault × ℕ)) → (end ≡ length z → ⊥) → FieldsAt sheet words k (take (length z - (end + 1)) (drop (end + 1) z)) c → ElementIs sheet words c r
          → CollectionIs sheet rule words scope text r
      collection-path c r more m element = record {
        leads = λ setting t env entry at.
            let q = to-field env at.binders in
            let onward : FieldsAt sheet words k (drop (end + 1) z) c = rw (rest-whole z end) at m in
            rw (text_path t env entry text z behind q.0 (split (drop (end + 1) z)).first (split (drop (end + 1) z)).others q.1 (ends.more (less more)))
            (element.leads (travel field_step ((split (drop (end + 1) z)).first ∷ (split (drop (end + 1) z)).others) q.0) (onward.leads q.0 q.2));
      } where
        less : (end ≡ length z → ⊥) → end < length z
        less other = let within = ends.within in omega arith
