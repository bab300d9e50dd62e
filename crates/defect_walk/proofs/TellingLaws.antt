-- What is to be said of a reference: each way through the code, as a law.
use Rattle.std.specs.Prelude.{Option as Optional, Some, None}
use Prim.Native.Nat.{ℕ, suc, ◌+◌, ◌-◌, ◌<◌, ◌≤◌}
use native.Mathlib.Omega.{arith}
use mathlib.Core.Bool.{Bool, true, false, cond}
use mathlib.Core.List.{List, [], ◌∷◌, ◌++◌, append_assoc}
use mathlib.Core.Option.{Option, none, some, map}
use mathlib.Core.Path.{◌≡◌, refl, ap, sym, subst, ◌∙◌}
use lib.Dec.{eqb}
use lib.ListN.{length, take, drop, length-append, length-take, length-drop}
use lib.Seq.{drop-drop}
use borrow.Author.Tests.{eqb-true}
use Rattle.text.specs.Ascii.{ascii}
use Rattle.text.specs.CaseLaws.{by-test}
use Rattle.definition.specs.Tree as Tree
use Rattle.definition.specs.Tree.{Text, Field}
use Rattle.reference.specs.Path.{Segments, cut, extend, split}
use Rattle.reference.specs.Setting as Setting
use Rattle.reference.specs.Setting.{kernel, Setting, name_of}
use Rattle.reference.specs.Walk.{Step, refuse, leaf, free, into, lookup, member_step, is_empty, walk_step}
use Rattle.reference.specs.Reference as Reference
use Rattle.reference.specs.Reference.{Environment, bound, root_of}
use Rattle.schema.specs.Slot.{SlotHolds, HolderAt, IndexedIs}
use Rattle.schema.specs.Lookup.{FoundAt, LookedUp}
use Rattle.schema.specs.Read.{SchemaAt}
use Rattle.schema.specs.declared.index.Holder.{Holder}
use Rattle.schema.specs.declared.index.IndexedField.{IndexedField}
use Rattle.walk.specs.Dots.{Ends}
use Rattle.walk.specs.DotLaws.{ends-length, rest-whole, segment-empty, segment-full}
use Rattle.walk.specs.Answers.{reference_detail}
use Rattle.walk.specs.Steps.{WalkSteps}
use Rattle.walk.specs.declared.answer.ReferenceFault.{ReferenceFault}
use Rattle.walk.specs.declared.answer.WalkStep.{WalkStep}
use Rattle.walk.specs.declared.answer.WalkStep.TheVariants.{Refuse, Leaf, Free, Into}
use Rattle.scope.specs.Names.{name_is, may_read_by, NamedIs}
use Rattle.scope.specs.Scopes.{BoundElement, EnvironmentAt, SettingAt, BoundIs}
use Rattle.scope.specs.Roots.{RootIs}
use Rattle.scope.specs.declared.name.Name.{Name}
use Rattle.scope.specs.declared.binder.Scope.{Scope}
use Rattle.scope.specs.declared.root.Root.{Root}
use Rattle.scope.specs.declared.root.Root.TheVariants as Root
use Rattle.message.specs.Words.{dotted_tail, path_text, noun_of}
use Rattle.message.specs.Tell.{step_sentence, last_told, arrive_told, tell_walk, unknown_root, root_told, tell_path, unresolved, not_available, no_reference, tell_root, tell_name, tell_element, tell_bound, tell_reference}
use Rattle.defect_walk.specs.Tellings.{Walked, TellIs, WalkTells, RootTells, NamedTells, NameTells, ReferenceTells}
use Rattle.defect_walk.specs.declared.telling.Telling.{Telling}
use Rattle.defect_walk.specs.declared.telling.Telling.TheVariants as Telling

-- The segments of a path, with dots between them, are the path.

pub segments-joined : (p : Text) → path_text ((split p).first ∷ (split p).others) ≡ p
unfolding split cut extend path_text dotted_tail ascii
segments-joined [] = refl
segments-joined (b ∷ t) =
    by-test (eqb b 46)
    (λ e. rw (e, eqb-true b 46 e) (ap (λ (x : Text). 46 ∷ x) (segments-joined t)))
    (λ e. rw e (ap (λ (x : Text). b ∷ x) (segments-joined t)))

pub ends-within : {path : Text} {n : ℕ} → Ends path n → n ≤ length path
ends-within ends = ends.within

module _ (path : Text) (n : ℕ) (ends : Ends path n) where
  pub within-path : (n ≡ length path → ⊥) → n < length path
  within-path further = omega (arith, ends.within)

  -- the first segment, a dot, and what is left
  pub path-parts : n < length path → path ≡ take n path ++ (ascii "." ++ drop (n + 1) path)
  unfolding path_text dotted_tail ascii
  path-parts more =
      let rest = drop (n + 1) path in
      sym (segments-joined path)
      ∙ ap (λ (os : List Text). (split path).first ++ dotted_tail os) (ends.more more)
      ∙ ap (λ (s : Text). s ++ (46 ∷ ((split rest).first ++ dotted_tail (split rest).others))) ends.first
      ∙ ap (λ (x : Text). take n path ++ (46 ∷ x)) (segments-joined rest)

-- what is left of a path is the text from a later place on
pub further-on : (at n : ℕ) (path text : Text) → path ≡ drop at text → drop (n + 1) path ≡ drop (at + n + 1) text
further-on at n path text e =
    let place : at + (n + 1) ≡ at + n + 1 = omega arith in
    ap (λ (p : Text). drop (n + 1) p) e ∙ drop-drop (n + 1) at text ∙ ap (λ (k : ℕ). drop k text) place

-- and one place later in the text with its `$`
behind-dollar : (end : ℕ) (text : Text) → drop (end + 1) text ≡ drop (end + 2) (36 ∷ text)
behind-dollar end text = let place : end + 2 ≡ suc (end + 1) = omega arith in rw place

-- one segment more is walked
pub walked_further : (text : Text) (from at n : ℕ) (walked path : Text)
    → Walked text from at walked
    → path ≡ drop at text
    → n < length path
    → path ≡ take n path ++ (ascii "." ++ drop (n + 1) path)
    → Walked text from (at + n + 1) (walked ++ (ascii "." ++ take n path))
unfolding ascii
walked_further text from at n walked path w e more parts =
    let size : length path ≡ length text - at = ap length e ∙ length-drop at text in
    let within = w.within in
    let long = length-append walked (46 ∷ take n path) in
    let short : length (take n path) ≡ n = omega (arith, length-take n path) in
    let begun = w.size in
    let there = further-on at n path text e in
    record {
      within = omega arith;
      size = omega arith;
      parts =
          w.parts
          ∙ ap (λ (p : Text). walked ++ (46 ∷ p)) (sym e ∙ parts)
          ∙ sym (append_assoc walked (46 ∷ take n path) (46 ∷ drop (n + 1) path))
          ∙ ap (λ (p : Text). (walked ++ (46 ∷ take n path)) ++ (46 ∷ p)) there;
    }

-- One step of a walk on the tree

module _ (service : Bool) (walked s : Text) (path : List Text) (f : Field) where
  told-refused : (d : ℕ) → walk_step kernel service f s ≡ refuse d → tell_walk service walked (s ∷ path) f ≡ some (step_sentence d walked s path f)
  unfolding tell_walk arrive_told
  told-refused d e = rw e

  told-last : (d : ℕ) → walk_step kernel service f s ≡ leaf d → path ≡ [] → tell_walk service walked (s ∷ path) f ≡ none
  unfolding tell_walk arrive_told last_told
  told-last d e p = rw (e, p)

  told-behind : (d : ℕ) (x : Text) (xs : List Text) → walk_step kernel service f s ≡ leaf d → path ≡ x ∷ xs → tell_walk service walked (s ∷ path) f ≡ some (step_sentence d walked s path f)
  unfolding tell_walk arrive_told last_told
  told-behind d x xs e p = rw (e, p)

  told_free : walk_step kernel service f s ≡ free → tell_walk service walked (s ∷ path) f ≡ none
  unfolding tell_walk arrive_told
  told_free e = rw e

  told-into : (g : Field) → walk_step kernel service f s ≡ into g → tell_walk service walked (s ∷ path) f ≡ tell_walk service (walked ++ (ascii "." ++ s)) path g
  unfolding tell_walk arrive_told
  told-into g e = rw e

told-nowhere : (service : Bool) (walked : Text) (path : List Text) (f : Field) → path ≡ [] → tell_walk service walked path f ≡ none
unfolding tell_walk
told-nowhere service walked path f e = rw e

module _ (sheet words path : List ℕ) (k : ℕ) (x : IndexedField) (held : IndexedIs sheet words k x) (n : ℕ) (ends : Ends path n)
    (from at : ℕ) (service : Bool) (w : WalkStep) (steps : WalkSteps sheet words x (take n path) kernel service w) where
  at_place : (kind d : ℕ) (text walked : Text) (f : Field) → path ≡ drop at text
      → tell_walk service walked ((split path).first ∷ (split path).others) f ≡ some (step_sentence d walked (split path).first (split path).others f)
      → map (unresolved kind text) (tell_walk service walked ((split path).first ∷ (split path).others) f)
      ≡ some (unresolved kind text (step_sentence d walked (split (drop at text)).first (split (drop at text)).others f))
  at_place kind d text walked f p e =
      ap (map (unresolved kind text)) e
      ∙ ap (λ (q : Text). some (unresolved kind text (step_sentence d walked (split q).first (split q).others f))) p

  step_is : (f : Field) (y : Step) → walk_step kernel service f (take n path) ≡ y → walk_step kernel service f (split path).first ≡ y
  step_is f y e = ap (walk_step kernel service f) ends.first ∙ e

  pub tells-refused : (fault : ReferenceFault) → w ≡ Refuse fault → WalkTells sheet words k path from at service (Telling.Refused fault from at k)
  tells-refused fault e = record {
    leads = λ kind text walked f v p there.
        let d = reference_detail fault in
        let q : walk_step kernel service f (take n path) ≡ refuse d = rw e at (steps.leads f (held f there)) in
        (walked, f, v, there, at_place kind d text walked f p (told-refused service walked (split path).first (split path).others f d (step_is f (refuse d) q)));
  }

  pub tells-free : w ≡ Free → WalkTells sheet words k path from at service Telling.Nothing
  tells-free e = record {
    leads = λ kind text walked f v p there.
        let q : walk_step kernel service f (take n path) ≡ free = rw e at (steps.leads f (held f there)) in
        ap (map (unresolved kind text)) (told_free service walked (split path).first (split path).others f (step_is f free q));
  }

  pub tells-last : (fault : ReferenceFault) → w ≡ Leaf fault → n ≡ length path → WalkTells sheet words k path from at service Telling.Nothing
  tells-last fault e end = record {
    leads = λ kind text walked f v p there.
        let d = reference_detail fault in
        let q : walk_step kernel service f (take n path) ≡ leaf d = rw e at (steps.leads f (held f there)) in
        ap (map (unresolved kind text)) (told-last service walked (split path).first (split path).others f d (step_is f (leaf d) q) (ends.last end));
  }

  pub tells-behind : (fault : ReferenceFault) → w ≡ Leaf fault → (n ≡ length path → ⊥) → WalkTells sheet words k path from at service (Telling.Refused fault from at k)
  tells-behind fault e further = record {
    leads = λ kind text walked f v p there.
        let d = reference_detail fault in
        let q : walk_step kernel service f (take n path) ≡ leaf d = rw e at (steps.leads f (held f there)) in
        let rest = drop (n + 1) path in (
          walked,
          f,
          v,
          there,
          at_place kind d text walked f p
              (told-behind service walked (split path).first (split path).others f d (split rest).first (split rest).others (step_is f (leaf d) q) (ends.more (within-path path n ends further))),
        );
  }

  pub tells-arrived : (next : ℕ) → w ≡ Into next → n ≡ length path → WalkTells sheet words k path from at service Telling.Nothing
  tells-arrived next e end = record {
    leads = λ kind text walked f v p there.
        let q : (g : Field) × (walk_step kernel service f (take n path) ≡ into g) × SlotHolds sheet words next g = rw e at (steps.leads f (held f there)) in
        ap (map (unresolved kind text))
        (told-into service walked (split path).first (split path).others f q.0 (step_is f (into q.0) q.1)
        ∙ told-nowhere service (walked ++ (ascii "." ++ (split path).first)) (split path).others q.0 (ends.last end));
  }

  pub tells-into : (next : ℕ) (r : Telling) → w ≡ Into next → (n ≡ length path → ⊥)
      → WalkTells sheet words next (take (length path - (n + 1)) (drop (n + 1) path)) from (at + n + 1) service r
      → WalkTells sheet words k path from at service r
  tells-into next r e further m = record {
    leads = λ kind text walked f v p there.
        let q : (g : Field) × (walk_step kernel service f (take n path) ≡ into g) × SlotHolds sheet words next g = rw e at (steps.leads f (held f there)) in
        let g = q.0 in
        let more = within-path path n ends further in
        let rest = drop (n + 1) path in
        let onward : WalkTells sheet words next rest from (at + n + 1) service r = rw (rest-whole path n) at m in
        let new = walked ++ (ascii "." ++ take n path) in
        let placed = further-on at n path text p in
        let same : tell_walk service walked ((split path).first ∷ (split path).others) f ≡ tell_walk service new ((split rest).first ∷ (split rest).others) g =
        told-into service walked (split path).first (split path).others f g (step_is f (into g) q.1)
        ∙ ap (λ (s : Text). tell_walk service (walked ++ (ascii "." ++ s)) (split path).others g) ends.first
        ∙ ap (λ (os : List Text). tell_walk service new os g) (ends.more more) in
        subst (λ (o : Option Text). TellIs sheet words kind text r (map (unresolved kind text) o)) (sym same)
        (onward.leads kind text new g (walked_further text from at n walked path v p more (path-parts path n ends more)) placed q.2);
  }

-- A path after the record or the arguments

module _ (service : Bool) (noun : Text) (t : Tree.Holder) (s : Text) (path : List Text) where
  path_empty : is_empty s ≡ true → tell_path service noun t s path ≡ some (ascii "the path is empty")
  unfolding tell_path
  path_empty e = rw e

  path-open : is_empty s ≡ false → lookup s t.members ≡ none → t.is_open ≡ true → tell_path service noun t s path ≡ none
  unfolding tell_path member_step root_told
  path-open e l o = rw (e, l, o)

  path-closed : is_empty s ≡ false → lookup s t.members ≡ none → t.is_open ≡ false → tell_path service noun t s path ≡ some (unknown_root noun s)
  unfolding tell_path member_step root_told
  path-closed e l o = rw (e, l, o)

  path-found : (f : Field) → is_empty s ≡ false → lookup s t.members ≡ some f → tell_path service noun t s path ≡ tell_walk service s path f
  unfolding tell_path member_step root_told
  path-found f e l = rw (e, l)

-- the first segment behind a root is walked from its own place on
pub walked-first : (text : Text) (at n : ℕ) (path : Text) → at ≤ length text → path ≡ drop at text → n < length path
    → path ≡ take n path ++ (ascii "." ++ drop (n + 1) path)
    → Walked text at (at + n + 1) (take n path)
unfolding ascii
walked-first text at n path within e more parts =
    let size : length path ≡ length text - at = ap length e ∙ length-drop at text in
    let short : length (take n path) ≡ n = omega (arith, length-take n path) in
    let there = further-on at n path text e in
    record {
      within = omega arith;
      size = omega arith;
      parts = sym e ∙ parts ∙ ap (λ (p : Text). take n path ++ (46 ∷ p)) there;
    }

module _ (sheet words path : List ℕ) (at : ℕ) (name : Name) (h : Holder) (service : Bool) (n : ℕ) (ends : Ends path n) where
  pub root-empty : n ≡ 0 → RootTells sheet words name h path at service Telling.EmptyPath
  root-empty z = record {
    leads = λ kind text t within p here.
        let e : is_empty (split path).first ≡ true = ap is_empty ends.first ∙ segment-empty (take n path) (sym (ends-length ends) ∙ z) in
        ap (map (unresolved kind text)) (path_empty service (noun_of (name_is name)) t (split path).first (split path).others e);
  }

  module _ (found : Optional ℕ) (looked : LookedUp sheet words h (take n path) found) (some_bytes : n ≡ 0 → ⊥) where
    full : is_empty (split path).first ≡ false
    full = ap is_empty ends.first ∙ segment-full (take n path) (λ z. some_bytes (ends-length ends ∙ z))

    missing : found ≡ None → (t : Tree.Holder) → HolderAt sheet words h t → lookup (split path).first t.members ≡ none
    missing e t here = let l : lookup (take n path) t.members ≡ none = rw e at (looked t here) in rw ends.first l

    found_at : (k : ℕ) → found ≡ Some k → (t : Tree.Holder) → HolderAt sheet words h t → FoundAt sheet words (split path).first t.members k
    found_at k e t here = let l : FoundAt sheet words (take n path) t.members k = rw e at (looked t here) in rw ends.first l

    pub root-open : found ≡ None → h.opened ≡ true → RootTells sheet words name h path at service Telling.Nothing
    root-open e o = record {
      leads = λ kind text t within p here.
          ap (map (unresolved kind text))
          (path-open service (noun_of (name_is name)) t (split path).first (split path).others full (missing e t here) (sym here.marked ∙ o));
    }

    pub root-closed : found ≡ None → h.opened ≡ false → RootTells sheet words name h path at service (Telling.UnknownRoot name at)
    root-closed e o = record {
      leads = λ kind text t within p here.
          let noun = noun_of (name_is name) in (
            within,
            ap (map (unresolved kind text)) (path-closed service noun t (split path).first (split path).others full (missing e t here) (sym here.marked ∙ o))
                ∙ ap (λ (q : Text). some (unresolved kind text (unknown_root noun (split q).first))) p,
          );
    }

    pub root-last : (k : ℕ) → found ≡ Some k → n ≡ length path → RootTells sheet words name h path at service Telling.Nothing
    root-last k e end = record {
      leads = λ kind text t within p here.
          let l = found_at k e t here in
          ap (map (unresolved kind text))
          (path-found service (noun_of (name_is name)) t (split path).first (split path).others l.f full l.found
          ∙ told-nowhere service (split path).first (split path).others l.f (ends.last end));
    }

    pub root-more : (k : ℕ) (r : Telling) → found ≡ Some k → (n ≡ length path → ⊥)
        → WalkTells sheet words k (take (length path - (n + 1)) (drop (n + 1) path)) at (at + n + 1) service r → RootTells sheet words name h path at service r
    root-more k r e further m = record {
      leads = λ kind text t within p here.
          let l = found_at k e t here in
          let more = within-path path n ends further in
          let rest = drop (n + 1) path in
          let onward : WalkTells sheet words k rest at (at + n + 1) service r = rw (rest-whole path n) at m in
          let placed = further-on at n path text p in
          let same : tell_path service (noun_of (name_is name)) t (split path).first (split path).others ≡ tell_walk service (take n path) ((split rest).first ∷ (split rest).others) l.f =
          path-found service (noun_of (name_is name)) t (split path).first (split path).others l.f full l.found
          ∙ ap (λ (s : Text). tell_walk service s (split path).others l.f) ends.first
          ∙ ap (λ (os : List Text). tell_walk service (take n path) os l.f) (ends.more more) in
          subst (λ (o : Option Text). TellIs sheet words kind text r (map (unresolved kind text) o)) (sym same)
          (onward.leads kind text (take n path) l.f (walked-first text at n path within p more (path-parts path n ends more)) placed l.holds);
    }

-- A name with a path

may : {scope : Scope} {setting : Setting} → SettingAt scope setting → (n : Setting.Name) → setting.may_read n ≡ may_read_by scope.row n
may v n = ap (λ (reads : Setting.Name → Bool). reads n) (sym v.names)

module _ (kind : ℕ) (text : Text) (setting : Setting) (n : Setting.Name) (s : Text) (path : List Text) where
  read-root : (service : Bool) (at : ℕ) (t : Tree.Holder) (x : Reference.Root) → service ≡ setting.is_service → x ≡ Reference.root at t → setting.may_read n ≡ true
      → tell_root kind text setting n x s path ≡ map (unresolved kind text) (tell_path service (noun_of n) t s path)
  unfolding tell_root
  read-root service at t x v e m = rw (e, m, v)

  unread-root : (at : ℕ) (t : Tree.Holder) (x : Reference.Root) → x ≡ Reference.root at t → setting.may_read n ≡ false → tell_root kind text setting n x s path ≡ some (not_available kind text)
  unfolding tell_root
  unread-root at t x e m = rw (e, m)

  missing-root : (x : Reference.Root) → x ≡ Reference.missing → tell_root kind text setting n x s path ≡ some (not_available kind text)
  unfolding tell_root
  missing-root x e = rw e

  no-root : (x : Reference.Root) → x ≡ Reference.no_root → tell_root kind text setting n x s path ≡ some (no_reference kind text)
  unfolding tell_root
  no-root x e = rw e

module _ (sheet words path : List ℕ) (scope : Scope) (name : Name) (place : ℕ) (root : Root) (is : RootIs scope.schema name root) where
  pub named-no-path : root ≡ Root.Nothing → NamedTells sheet words scope name path place Telling.NoReference
  named-no-path e = record {
    leads = λ kind text setting t within p v at.
        let q : root_of t (name_is name) ≡ Reference.no_root = rw e at (is.leads sheet words t at) in
        no-root kind text setting (name_is name) (split path).first (split path).others (root_of t (name_is name)) q;
  }

  pub named-absent : root ≡ Root.Missing → NamedTells sheet words scope name path place Telling.NotAvailable
  named-absent e = record {
    leads = λ kind text setting t within p v at.
        let q : root_of t (name_is name) ≡ Reference.missing = rw e at (is.leads sheet words t at) in
        missing-root kind text setting (name_is name) (split path).first (split path).others (root_of t (name_is name)) q;
  }

  module _ (at : ℕ) (h : Holder) (there : root ≡ Root.At at h) (b : Bool) (allowed : b ≡ may_read_by scope.row (name_is name)) where
    the-root : (t : Tree.Schema) → SchemaAt sheet words scope.schema t
        → (u : Tree.Holder) × (root_of t (name_is name) ≡ Reference.root at u) × HolderAt sheet words h u
    the-root t here = rw there at (is.leads sheet words t here)

    pub named-read : (r : Telling) → b ≡ true → RootTells sheet words name h path place scope.service r → NamedTells sheet words scope name path place r
    named-read r can m = record {
      leads = λ kind text setting t within p v here.
          let q = the-root t here in
          subst (λ (o : Option Text). TellIs sheet words kind text r o)
          (sym (read-root kind text setting (name_is name) (split path).first (split path).others scope.service at q.0 (root_of t (name_is name)) v.service q.1 (may v (name_is name) ∙ sym allowed ∙ can)))
          (m.leads kind text q.0 within p q.2);
    }

    pub named-unread : b ≡ false → NamedTells sheet words scope name path place Telling.NotAvailable
    named-unread cannot = record {
      leads = λ kind text setting t within p v here.
          let q = the-root t here in
          unread-root kind text setting (name_is name) (split path).first (split path).others at q.0 (root_of t (name_is name)) q.1 (may v (name_is name) ∙ sym allowed ∙ cannot);
    }

-- A reference whose name is not a binder's

module _ (kind : ℕ) (expression : Text) (setting : Setting) (t : Tree.Schema) (path : List Text) where
  no-name : (x : Option Setting.Name) → x ≡ none → tell_name kind expression setting t x path ≡ some (no_reference kind expression)
  unfolding tell_name
  no-name x e = rw e

  name-alone : (x : Option Setting.Name) (n : Setting.Name) → x ≡ some n → path ≡ [] → setting.may_read n ≡ true → tell_name kind expression setting t x path ≡ none
  unfolding tell_name
  name-alone x n e p m = rw (e, p, m)

  name-unread : (x : Option Setting.Name) (n : Setting.Name) → x ≡ some n → path ≡ [] → setting.may_read n ≡ false → tell_name kind expression setting t x path ≡ some (no_reference kind expression)
  unfolding tell_name
  name-unread x n e p m = rw (e, p, m)

  name-path : (x : Option Setting.Name) (n : Setting.Name) (s : Text) (rest : List Text) → x ≡ some n → path ≡ s ∷ rest
      → tell_name kind expression setting t x path ≡ tell_root kind expression setting n (root_of t n) s rest
  unfolding tell_name
  name-path x n s rest e p = rw (e, p)

module _ (sheet words text : List ℕ) (scope : Scope) (end : ℕ) where
  pub name-behind : length text < end → NameTells sheet words scope text end Telling.Nothing
  name-behind past = record { leads = λ kind setting t v at ends. absurd (omega (arith, ends.within)) }

  module _ (named : Optional Name) (is : NamedIs (take end text) named) where
    pub name-none : named ≡ None → NameTells sheet words scope text end Telling.NoReference
    name-none e = record {
      leads = λ kind setting t v at ends.
          let q : name_of (take end text) ≡ none = rw e at is in
          no-name kind (ascii "$" ++ text) setting t (split text).others (name_of (split text).first) (ap name_of ends.first ∙ q);
    }

    module _ (name : Name) (found : named ≡ Some name) where
      so-named : Ends text end → name_of (split text).first ≡ some (name_is name)
      so-named ends = let q : name_of (take end text) ≡ some (name_is name) = rw found at is in ap name_of ends.first ∙ q

      whole : Ends text end → length text ≤ end → end ≡ length text
      whole ends last = let within = ends.within in omega arith

      pub name-read : (b : Bool) → b ≡ may_read_by scope.row (name_is name) → b ≡ true → length text ≤ end → NameTells sheet words scope text end Telling.Nothing
      name-read b allowed can last = record {
        leads = λ kind setting t v at ends.
            name-alone kind (ascii "$" ++ text) setting t (split text).others (name_of (split text).first) (name_is name) (so-named ends) (ends.last (whole ends last)) (may v (name_is name) ∙ sym allowed ∙ can);
      }

      pub name-refused : (b : Bool) → b ≡ may_read_by scope.row (name_is name) → b ≡ false → length text ≤ end → NameTells sheet words scope text end Telling.NoReference
      name-refused b allowed cannot last = record {
        leads = λ kind setting t v at ends.
            name-unread kind (ascii "$" ++ text) setting t (split text).others (name_of (split text).first) (name_is name) (so-named ends) (ends.last (whole ends last)) (may v (name_is name) ∙ sym allowed ∙ cannot);
      }

      pub name-rooted : (r : Telling) → end < length text → NamedTells sheet words scope name (take (length text - (end + 1)) (drop (end + 1) text)) (end + 2) r
          → NameTells sheet words scope text end r
      unfolding ascii
      name-rooted r less m = record {
        leads = λ kind setting t v at ends.
            let rest = drop (end + 1) text in
            let onward : NamedTells sheet words scope name rest (end + 2) r = rw (rest-whole text end) at m in
            subst (λ (o : Option Text). TellIs sheet words kind (36 ∷ text) r o)
            (sym (name-path kind (36 ∷ text) setting t (split text).others (name_of (split text).first) (name_is name) (split rest).first (split rest).others (so-named ends) (ends.more less)))
            (onward.leads kind (36 ∷ text) setting t (omega arith) (behind-dollar end text) v at);
      }

-- A reference

module _ (kind : ℕ) (setting : Setting) (t : Tree.Schema) (env : Environment) (text : List ℕ) where
  abbrev here : Option Text
  here = tell_reference kind setting t env text

  reference-unbound : bound (split text).first env ≡ none → here ≡ tell_name kind (ascii "$" ++ text) setting t (name_of (split text).first) (split text).others
  unfolding tell_reference tell_bound
  reference-unbound e = rw e

  reference-any : bound (split text).first env ≡ some none → here ≡ none
  unfolding tell_reference tell_bound tell_element
  reference-any e = rw e

  reference-known : (service : Bool) (f : Field) → service ≡ setting.is_service → bound (split text).first env ≡ some (some f)
      → here ≡ map (unresolved kind (ascii "$" ++ text)) (tell_walk service (ascii "$" ++ (split text).first) (split text).others f)
  unfolding tell_reference tell_bound tell_element
  reference-known service f v e = rw (e, v)

known-element : (sheet words : List ℕ) (k : ℕ) (o : Option Field) → BoundElement sheet words (Some k) o → (f : Field) × (o ≡ some f) × SlotHolds sheet words k f
known-element sheet words k none h = absurd h
known-element sheet words k (some f) h = (f, refl, h)

unknown-element : (sheet words : List ℕ) (o : Option Field) → BoundElement sheet words None o → o ≡ none
unknown-element sheet words none h = refl
unknown-element sheet words (some f) h = absurd h

pub element-unknown : (sheet words : List ℕ) (x : Optional ℕ) (o : Option Field) → x ≡ None → BoundElement sheet words x o → o ≡ none
element-unknown sheet words x o e h = unknown-element sheet words o (rw e at h)

pub element-known : (sheet words : List ℕ) (k : ℕ) (x : Optional ℕ) (o : Option Field) → x ≡ Some k → BoundElement sheet words x o → (f : Field) × (o ≡ some f) × SlotHolds sheet words k f
element-known sheet words k x o e h = known-element sheet words k o (rw e at h)

module _ (sheet rule words text : List ℕ) (scope : Scope) (end : ℕ) (ends : Ends text end) (found : Optional (Optional ℕ)) (is : BoundIs rule scope (take end text) found) where
  same_name : (env : Environment) → bound (split text).first env ≡ bound (take end text) env
  same_name env = ap (λ (s : Text). bound s env) ends.first

  pub reference-free : (r : Telling) → found ≡ None → NameTells sheet words scope text end r → ReferenceTells sheet rule words scope text r
  reference-free r e m = record {
    leads = λ kind setting t env at.
        let q : bound (take end text) env ≡ none = rw e at (is.leads sheet words env at.binders) in
        subst (λ (o : Option Text). TellIs sheet words kind (ascii "$" ++ text) r o) (sym (reference-unbound kind setting t env text (same_name env ∙ q)))
        (m.leads kind setting t at.set at.schema ends);
  }

  module _ (x : Optional ℕ) (to : found ≡ Some x) where
    bound-to : (env : Environment) → EnvironmentAt sheet rule words scope env → (o : Option Field) × (bound (take end text) env ≡ some o) × BoundElement sheet words x o
    bound-to env at = rw to at (is.leads sheet words env at)

    pub reference-unknown : x ≡ None → ReferenceTells sheet rule words scope text Telling.Nothing
    reference-unknown e = record {
      leads = λ kind setting t env at.
          let q = bound-to env at.binders in
          reference-any kind setting t env text (same_name env ∙ q.1 ∙ ap some (element-unknown sheet words x q.0 e q.2));
    }

    module _ (k : ℕ) (known_at_lem : x ≡ Some k) where
      to-field : (env : Environment) → EnvironmentAt sheet rule words scope env → (f : Field) × (bound (split text).first env ≡ some (some f)) × SlotHolds sheet words k f
      to-field env at =
          let q = bound-to env at in
          let f = element-known sheet words k x q.0 known_at_lem q.2 in
          (f.0, same_name env ∙ q.1 ∙ ap some f.1, f.2)

      pub reference-whole : end ≡ length text → ReferenceTells sheet rule words scope text Telling.Nothing
      reference-whole last = record {
        leads = λ kind setting t env at.
            let q = to-field env at.binders in
            reference-known kind setting t env text scope.service q.0 at.set.service q.1
            ∙ ap (map (unresolved kind (ascii "$" ++ text))) (told-nowhere scope.service (ascii "$" ++ (split text).first) (split text).others q.0 (ends.last last));
      }

      pub reference-path : (r : Telling) → (end ≡ length text → ⊥) → WalkTells sheet words k (take (length text - (end + 1)) (drop (end + 1) text)) 0 (end + 2) scope.service r
          → ReferenceTells sheet rule words scope text r
      unfolding ascii
      reference-path r further m = record {
        leads = λ kind setting t env at.
            let q = to-field env at.binders in
            let more = within-path text end ends further in
            let rest = drop (end + 1) text in
            let onward : WalkTells sheet words k rest 0 (end + 2) scope.service r = rw (rest-whole text end) at m in
            let short : length (take end text) ≡ end = omega (arith, length-take end text) in
            let v : Walked (36 ∷ text) 0 (end + 2) (36 ∷ take end text) =
            record { within = omega arith; size = omega arith; parts = ap (λ (p : Text). 36 ∷ p) (path-parts text end ends more ∙ ap (λ (p : Text). take end text ++ (46 ∷ p)) (behind-dollar end text)) } in
            let same : tell_reference kind setting t env text ≡ map (unresolved kind (36 ∷ text)) (tell_walk scope.service (36 ∷ take end text) ((split rest).first ∷ (split rest).others) q.0) =
            reference-known kind setting t env text scope.service q.0 at.set.service q.1
            ∙ ap (λ (s : Text). map (unresolved kind (36 ∷ text)) (tell_walk scope.service (36 ∷ s) (split text).others q.0)) ends.first
            ∙ ap (λ (os : List Text). map (unresolved kind (36 ∷ text)) (tell_walk scope.service (36 ∷ take end text) os q.0)) (ends.more more) in
            subst (λ (o : Option Text). TellIs sheet words kind (36 ∷ text) r o) (sym same)
            (onward.leads kind (36 ∷ text) (36 ∷ take end text) q.0 v (behind-dollar end text) q.2);
      }
