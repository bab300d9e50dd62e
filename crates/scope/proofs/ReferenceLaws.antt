-- References: how each way through the code answers what the definition says.
use Rattle.std.specs.Prelude.{Option as Optional, Some, None, Result, Ok, Err}
use Prim.Native.Nat.{ℕ, ◌+◌, ◌-◌, ◌<◌, ◌≤◌}
use native.Mathlib.Omega.{arith}
use mathlib.Core.Bool.{Bool, true, false}
use mathlib.Core.List.{List, [], ◌∷◌}
use mathlib.Core.Option.{Option, none, some}
use mathlib.Core.Path.{◌≡◌, refl, ap, sym, ◌∙◌}
use lib.ListN.{length, take, drop}
use Rattle.definition.specs.Tree as Tree
use Rattle.definition.specs.Tree.{Text, Field}
use Rattle.reference.specs.Path.{split}
use Rattle.reference.specs.Setting as Setting
use Rattle.reference.specs.Setting.{Reader, kernel, Setting, name_of}
use Rattle.reference.specs.Walk.{lookup, member_step, Reached, refused, unknown, arrive, travel, is_empty, walk_step}
use Rattle.reference.specs.Reference as Reference
use Rattle.reference.specs.Reference.{Environment, bound, root_of, from_holder, root_walk, from_root, from_name, from_element, from_bound, reference}
use Rattle.schema.specs.Slot.{SlotHolds, HolderAt}
use Rattle.schema.specs.Lookup.{FoundAt, LookedUp}
use Rattle.schema.specs.Read.{SchemaAt}
use Rattle.schema.specs.declared.index.Holder.{Holder}
use Rattle.walk.specs.Dots.{Ends}
use Rattle.walk.specs.DotLaws.{ends-length, rest-whole, segment-empty, segment-full}
use Rattle.walk.specs.Answers.{reader_is, reference_detail}
use Rattle.walk.specs.Steps.{Walks}
use Rattle.walk.specs.declared.answer.ReferenceFault.TheVariants.{EmptyPath, UnknownRoot, RootNotAvailable, NoSuchReference}
use Rattle.scope.specs.Names.{name_is, may_read_by, NamedIs}
use Rattle.scope.specs.Scopes.{BoundElement, EnvironmentAt, SettingAt, BoundIs}
use Rattle.scope.specs.Roots.{RootIs}
use Rattle.scope.specs.References.{RootWalks, RootReads, NameReads, ReferenceReads}
use Rattle.scope.specs.declared.name.Name.{Name}
use Rattle.scope.specs.declared.binder.Scope.{Scope}
use Rattle.scope.specs.declared.root.Root.{Root}
use Rattle.scope.specs.declared.root.Root.TheVariants as Root
use Rattle.walk.specs.declared.answer.ReferenceFault.{ReferenceFault}

-- A path after the record or the arguments, on the tree

module _ (reader : Reader) (service : Bool) (at : ℕ) (t : Tree.Holder) (s : Text) (path : List Text) where
  walk-empty : is_empty s ≡ true → root_walk reader service at t s path ≡ refused 1 at (s ∷ path)
  unfolding root_walk
  walk-empty e = rw e

  walk-open : is_empty s ≡ false → lookup s t.members ≡ none → t.is_open ≡ true → root_walk reader service at t s path ≡ unknown
  unfolding root_walk from_holder member_step arrive
  walk-open e l o = rw (e, l, o)

  walk-closed : is_empty s ≡ false → lookup s t.members ≡ none → t.is_open ≡ false → root_walk reader service at t s path ≡ refused 2 at (s ∷ path)
  unfolding root_walk from_holder member_step arrive
  walk-closed e l o = rw (e, l, o)

  walk-found : (f : Field) → is_empty s ≡ false → lookup s t.members ≡ some f → root_walk reader service at t s path ≡ travel (walk_step reader service) path f
  unfolding root_walk from_holder member_step arrive
  walk-found f e l = rw (e, l)

module _ (sheet words path : List ℕ) (at : ℕ) (h : Holder) (reader : Reader) (service : Bool) (n : ℕ) (ends : Ends path n) where
  pub root-empty : n ≡ 0 → RootWalks sheet words at h path reader service (Err (EmptyPath, at))
  unfolding reference_detail
  root-empty z = record {
    leads = λ t here.
        let e : is_empty (split path).first ≡ true = ap is_empty ends.first ∙ segment-empty (take n path) (sym (ends-length ends) ∙ z) in
        ((split path).first ∷ (split path).others, walk-empty reader service at t (split path).first (split path).others e);
  }

  module _ (found : Optional ℕ) (looked : LookedUp sheet words h (take n path) found) (some_bytes : n ≡ 0 → ⊥) where
    full : is_empty (split path).first ≡ false
    full = ap is_empty ends.first ∙ segment-full (take n path) (λ z. some_bytes (ends-length ends ∙ z))

    missing : found ≡ None → (t : Tree.Holder) → HolderAt sheet words h t → lookup (split path).first t.members ≡ none
    missing e t here = let l : lookup (take n path) t.members ≡ none = rw e at (looked t here) in rw ends.first l

    found_at : (k : ℕ) → found ≡ Some k → (t : Tree.Holder) → HolderAt sheet words h t → FoundAt sheet words (split path).first t.members k
    found_at k e t here = let l : FoundAt sheet words (take n path) t.members k = rw e at (looked t here) in rw ends.first l

    pub root-open : found ≡ None → h.opened ≡ true → RootWalks sheet words at h path reader service (Ok tt)
    root-open e o = record {
      leads = λ t here.
          rw (walk-open reader service at t (split path).first (split path).others full (missing e t here) (sym here.marked ∙ o)) tt;
    }

    pub root-closed : found ≡ None → h.opened ≡ false → RootWalks sheet words at h path reader service (Err (UnknownRoot, at))
    unfolding reference_detail
    root-closed e o = record {
      leads = λ t here.
          ((split path).first ∷ (split path).others, walk-closed reader service at t (split path).first (split path).others full (missing e t here) (sym here.marked ∙ o));
    }

    pub root-last : (k : ℕ) → found ≡ Some k → n ≡ length path → RootWalks sheet words at h path reader service (Ok tt)
    unfolding travel
    root-last k e end = record {
      leads = λ t here.
          let l = found_at k e t here in
          rw (walk-found reader service at t (split path).first (split path).others l.f full l.found, ends.last end) tt;
    }

    pub root-more : (k : ℕ) (r : Result Unit (ReferenceFault × ℕ)) → found ≡ Some k → (n ≡ length path → ⊥)
        → Walks sheet words k (take (length path - (n + 1)) (drop (n + 1) path)) reader service r → RootWalks sheet words at h path reader service r
    root-more k r e more m = record {
      leads = λ t here.
          let l = found_at k e t here in
          let onward : Walks sheet words k (drop (n + 1) path) reader service r = rw (rest-whole path n) at m in
          rw (walk-found reader service at t (split path).first (split path).others l.f full l.found, ends.more (less more)) (onward.leads l.f l.holds);
    } where
      less : (n ≡ length path → ⊥) → n < length path
      less other = let within = ends.within in omega arith

-- A name with a path

may : {scope : Scope} {setting : Setting} → SettingAt scope setting → (n : Setting.Name) → setting.may_read n ≡ may_read_by scope.row n
may v n = ap (λ (reads : Setting.Name → Bool). reads n) (sym v.names)

module _ (setting : Setting) (n : Setting.Name) (s : Text) (path : List Text) where
  read-root : (reader : Reader) (service : Bool) (at : ℕ) (t : Tree.Holder) (x : Reference.Root) → reader ≡ setting.reader → service ≡ setting.is_service → x ≡ Reference.root at t → setting.may_read n ≡ true
      → from_root setting n x s path ≡ root_walk reader service at t s path
  unfolding from_root
  read-root reader service at t x y v e m = rw (e, m, y, v)

  unread-root : (at : ℕ) (t : Tree.Holder) (x : Reference.Root) → x ≡ Reference.root at t → setting.may_read n ≡ false
      → from_root setting n x s path ≡ refused 11 0 (s ∷ path)
  unfolding from_root
  unread-root at t x e m = rw (e, m)

  missing-root : (x : Reference.Root) → x ≡ Reference.missing → from_root setting n x s path ≡ refused 11 0 (s ∷ path)
  unfolding from_root
  missing-root x e = rw e

  no-root : (x : Reference.Root) → x ≡ Reference.no_root → from_root setting n x s path ≡ refused 12 0 (s ∷ path)
  unfolding from_root
  no-root x e = rw e

module _ (sheet words path : List ℕ) (scope : Scope) (name : Name) (root : Root) (is : RootIs scope.schema name root) where
  pub root-no-path : root ≡ Root.Nothing → RootReads sheet words scope name path (Err (NoSuchReference, 0))
  unfolding reference_detail
  root-no-path e = record {
    leads = λ setting t v at.
        let q : root_of t (name_is name) ≡ Reference.no_root = rw e at (is.leads sheet words t at) in
        ((split path).first ∷ (split path).others, no-root setting (name_is name) (split path).first (split path).others (root_of t (name_is name)) q);
  }

  pub root-absent : root ≡ Root.Missing → RootReads sheet words scope name path (Err (RootNotAvailable, 0))
  unfolding reference_detail
  root-absent e = record {
    leads = λ setting t v at.
        let q : root_of t (name_is name) ≡ Reference.missing = rw e at (is.leads sheet words t at) in
        ((split path).first ∷ (split path).others, missing-root setting (name_is name) (split path).first (split path).others (root_of t (name_is name)) q);
  }

  module _ (at : ℕ) (h : Holder) (there : root ≡ Root.At at h) (b : Bool) (allowed : b ≡ may_read_by scope.row (name_is name)) where
    the-root : (t : Tree.Schema) → SchemaAt sheet words scope.schema t
        → (u : Tree.Holder) × (root_of t (name_is name) ≡ Reference.root at u) × HolderAt sheet words h u
    the-root t here = rw there at (is.leads sheet words t here)

    pub root-read : (r : Result Unit (ReferenceFault × ℕ)) → b ≡ true → RootWalks sheet words at h path (reader_is scope.reader) scope.service r → RootReads sheet words scope name path r
    root-read r can m = record {
      leads = λ setting t v here.
          let q = the-root t here in
          rw (read-root setting (name_is name) (split path).first (split path).others (reader_is scope.reader) scope.service at q.0 (root_of t (name_is name)) v.reader v.service q.1 (may v (name_is name) ∙ sym allowed ∙ can))
          (m.leads q.0 q.2);
    }

    pub root-unread : b ≡ false → RootReads sheet words scope name path (Err (RootNotAvailable, 0))
    unfolding reference_detail
    root-unread cannot = record {
      leads = λ setting t v here.
          let q = the-root t here in
          ((split path).first ∷ (split path).others, unread-root setting (name_is name) (split path).first (split path).others at q.0 (root_of t (name_is name)) q.1 (may v (name_is name) ∙ sym allowed ∙ cannot));
    }

-- A reference whose name is not a binder's

module _ (setting : Setting) (t : Tree.Schema) (path : List Text) where
  no-name : (x : Option Setting.Name) → x ≡ none → from_name setting t x path ≡ refused 12 0 path
  unfolding from_name
  no-name x e = rw e

  name-alone : (x : Option Setting.Name) (n : Setting.Name) → x ≡ some n → path ≡ [] → setting.may_read n ≡ true → from_name setting t x path ≡ unknown
  unfolding from_name
  name-alone x n e p m = rw (e, p, m)

  name-unread : (x : Option Setting.Name) (n : Setting.Name) → x ≡ some n → path ≡ [] → setting.may_read n ≡ false → from_name setting t x path ≡ refused 12 0 []
  unfolding from_name
  name-unread x n e p m = rw (e, p, m)

  name-path : (x : Option Setting.Name) (n : Setting.Name) (s : Text) (rest : List Text) → x ≡ some n → path ≡ s ∷ rest
      → from_name setting t x path ≡ from_root setting n (root_of t n) s rest
  unfolding from_name
  name-path x n s rest e p = rw (e, p)

module _ (sheet words text : List ℕ) (scope : Scope) (end : ℕ) where
  pub name-behind : length text < end → NameReads sheet words scope text end (Ok tt)
  name-behind past = record { leads = λ setting t v at ends. absurd (omega (arith, ends.within)) }

  module _ (named : Optional Name) (is : NamedIs (take end text) named) where
    pub name-none : named ≡ None → NameReads sheet words scope text end (Err (NoSuchReference, 0))
    unfolding reference_detail
    name-none e = record {
      leads = λ setting t v at ends.
          let q : name_of (take end text) ≡ none = rw e at is in
          ((split text).others, no-name setting t (split text).others (name_of (split text).first) (ap name_of ends.first ∙ q));
    }

    module _ (name : Name) (found : named ≡ Some name) where
      so-named : Ends text end → name_of (split text).first ≡ some (name_is name)
      so-named ends = let q : name_of (take end text) ≡ some (name_is name) = rw found at is in ap name_of ends.first ∙ q

      pub name-read : (b : Bool) → b ≡ may_read_by scope.row (name_is name) → b ≡ true → length text ≤ end → NameReads sheet words scope text end (Ok tt)
      name-read b allowed can last = record {
        leads = λ setting t v at ends.
            rw (name-alone setting t (split text).others (name_of (split text).first) (name_is name) (so-named ends) (ends.last (whole ends)) (may v (name_is name) ∙ sym allowed ∙ can)) tt;
      } where
        whole : Ends text end → end ≡ length text
        whole ends = let within = ends.within in omega arith

      pub name-refused : (b : Bool) → b ≡ may_read_by scope.row (name_is name) → b ≡ false → length text ≤ end → NameReads sheet words scope text end (Err (NoSuchReference, 0))
      unfolding reference_detail
      name-refused b allowed cannot last = record {
        leads = λ setting t v at ends.
            ([], name-unread setting t (split text).others (name_of (split text).first) (name_is name) (so-named ends) (ends.last (whole ends)) (may v (name_is name) ∙ sym allowed ∙ cannot));
      } where
        whole : Ends text end → end ≡ length text
        whole ends = let within = ends.within in omega arith

      pub name-rooted : (r : Result Unit (ReferenceFault × ℕ)) → end < length text → RootReads sheet words scope name (take (length text - (end + 1)) (drop (end + 1) text)) r
          → NameReads sheet words scope text end r
      name-rooted r less m = record {
        leads = λ setting t v at ends.
            let onward : RootReads sheet words scope name (drop (end + 1) text) r = rw (rest-whole text end) at m in
            rw (name-path setting t (split text).others (name_of (split text).first) (name_is name) (split (drop (end + 1) text)).first (split (drop (end + 1) text)).others (so-named ends) (ends.more less))
            (onward.leads setting t v at);
      }

-- A reference

module _ (setting : Setting) (t : Tree.Schema) (env : Environment) (text : List ℕ) where
  abbrev here : Reached
  here = reference setting t env text

  reference-unbound : bound (split text).first env ≡ none → here ≡ from_name setting t (name_of (split text).first) (split text).others
  unfolding reference from_bound
  reference-unbound e = rw e

  reference-any : bound (split text).first env ≡ some none → here ≡ unknown
  unfolding reference from_bound from_element
  reference-any e = rw e

  reference-known : (service : Bool) (f : Field) → service ≡ setting.is_service → bound (split text).first env ≡ some (some f)
      → here ≡ travel (walk_step kernel service) (split text).others f
  unfolding reference from_bound from_element
  reference-known service f v e = rw (e, v)

known-element : (sheet words : List ℕ) (k : ℕ) (o : Option Field) → BoundElement sheet words (Some k) o → (f : Field) × (o ≡ some f) × SlotHolds sheet words k f
known-element sheet words k none h = absurd h
known-element sheet words k (some f) h = (f, refl, h)

pub element-known : (sheet words : List ℕ) (k : ℕ) (x : Optional ℕ) (o : Option Field) → x ≡ Some k → BoundElement sheet words x o → (f : Field) × (o ≡ some f) × SlotHolds sheet words k f
element-known sheet words k x o e h = known-element sheet words k o (rw e at h)

unknown-element : (sheet words : List ℕ) (o : Option Field) → BoundElement sheet words None o → o ≡ none
unknown-element sheet words none h = refl
unknown-element sheet words (some f) h = absurd h

pub element-unknown : (sheet words : List ℕ) (x : Optional ℕ) (o : Option Field) → x ≡ None → BoundElement sheet words x o → o ≡ none
element-unknown sheet words x o e h = unknown-element sheet words o (rw e at h)

module _ (sheet rule words text : List ℕ) (scope : Scope) (end : ℕ) (ends : Ends text end) (found : Optional (Optional ℕ)) (is : BoundIs rule scope (take end text) found) where
  same_name : (env : Environment) → bound (split text).first env ≡ bound (take end text) env
  same_name env = ap (λ (s : Text). bound s env) ends.first

  pub reference-free : (r : Result Unit (ReferenceFault × ℕ)) → found ≡ None → NameReads sheet words scope text end r → ReferenceReads sheet rule words scope text r
  reference-free r e m = record {
    leads = λ setting t env at.
        let q : bound (take end text) env ≡ none = rw e at (is.leads sheet words env at.binders) in
        rw (reference-unbound setting t env text (same_name env ∙ q)) (m.leads setting t at.set at.schema ends);
  }

  module _ (x : Optional ℕ) (to : found ≡ Some x) where
    bound-to : (env : Environment) → EnvironmentAt sheet rule words scope env → (o : Option Field) × (bound (take end text) env ≡ some o) × BoundElement sheet words x o
    bound-to env at = rw to at (is.leads sheet words env at)

    pub reference-unknown : x ≡ None → ReferenceReads sheet rule words scope text (Ok tt)
    reference-unknown e = record {
      leads = λ setting t env at.
          let q = bound-to env at.binders in
          rw (reference-any setting t env text (same_name env ∙ q.1 ∙ ap some (element-unknown sheet words x q.0 e q.2))) tt;
    }

    module _ (k : ℕ) (known_at_lem : x ≡ Some k) where
      to-field : (env : Environment) → EnvironmentAt sheet rule words scope env → (f : Field) × (bound (split text).first env ≡ some (some f)) × SlotHolds sheet words k f
      to-field env at =
          let q = bound-to env at in
          let f = element-known sheet words k x q.0 known_at_lem q.2 in
          (f.0, same_name env ∙ q.1 ∙ ap some f.1, f.2)

      pub reference-whole : end ≡ length text → ReferenceReads sheet rule words scope text (Ok tt)
      unfolding travel
      reference-whole whole = record {
        leads = λ setting t env at.
            let q = to-field env at.binders in
            rw (reference-known setting t env text scope.service q.0 at.set.service q.1, ends.last whole) tt;
      }

      pub reference-path : (r : Result Unit (ReferenceFault × ℕ)) → (end ≡ length text → ⊥) → Walks sheet words k (take (length text - (end + 1)) (drop (end + 1) text)) kernel scope.service r
          → ReferenceReads sheet rule words scope text r
      reference-path r more m = record {
        leads = λ setting t env at.
            let q = to-field env at.binders in
            let onward : Walks sheet words k (drop (end + 1) text) kernel scope.service r = rw (rest-whole text end) at m in
            rw (reference-known setting t env text scope.service q.0 at.set.service q.1, ends.more less) (onward.leads q.0 q.2);
      } where
        less : end < length text
        less = let within = ends.within in omega arith
