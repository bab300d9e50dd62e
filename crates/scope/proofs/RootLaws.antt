-- What the names with a path lead into.
use Rattle.std.specs.Prelude.{Some, None}
use Prim.Native.Nat.{ℕ}
use mathlib.Core.List.{List}
use mathlib.Core.Option.{Option, none, some}
use mathlib.Core.Path.{◌≡◌, refl, ◌∙◌}
use Rattle.definition.specs.Tree as Tree
use Rattle.reference.specs.Reference as Reference
use Rattle.reference.specs.Reference.{arguments_root, root_of}
use Rattle.schema.specs.Slot.{HolderAt}
use Rattle.schema.specs.Read.{ArgumentsAt}
use Rattle.schema.specs.declared.index.Holder.{Holder}
use Rattle.schema.specs.declared.read.Schema.{Schema}
use Rattle.scope.specs.Names.{name_is}
use Rattle.scope.specs.Roots.{RootAt, RootIs}
use Rattle.scope.specs.declared.name.Name.{Name}
use Rattle.scope.specs.declared.name.Name.TheVariants.{Id, Entity, Version, Fields, State, ToState, FromState, Args, OldFields}
use Rattle.scope.specs.declared.root.Root.TheVariants.{Nothing, Missing, At}

into-fields : (t : Tree.Schema) (name : Name) → name ≡ Fields → root_of t (name_is name) ≡ Reference.root 1 t.fields
unfolding root_of name_is
into-fields t name e = rw e

into-old-fields : (t : Tree.Schema) (name : Name) → name ≡ OldFields → root_of t (name_is name) ≡ Reference.root 1 t.fields
unfolding root_of name_is
into-old-fields t name e = rw e

into-args : (t : Tree.Schema) (name : Name) → name ≡ Args → root_of t (name_is name) ≡ arguments_root t.arguments
unfolding root_of name_is
into-args t name e = rw e

no_arguments : (sheet words : List ℕ) (a : Option Tree.Holder) → ArgumentsAt (HolderAt sheet words) None a → arguments_root a ≡ Reference.missing
unfolding arguments_root
no_arguments sheet words none h = refl
no_arguments sheet words (some t) h = absurd h

some-arguments : (sheet words : List ℕ) (h : Holder) (a : Option Tree.Holder) → ArgumentsAt (HolderAt sheet words) (Some h) a
    → RootAt sheet words (At 0 h) (arguments_root a)
unfolding arguments_root
some-arguments sheet words h none x = absurd x
some-arguments sheet words h (some t) x = (t, refl, x)

module _ (s : Schema) (name : Name) where
  pub root-fields : name ≡ Fields → RootIs s name (At 1 s.fields)
  root-fields e = record { leads = λ sheet words t at. (t.fields, into-fields t name e, at.fields) }

  pub root-old-fields : name ≡ OldFields → RootIs s name (At 1 s.fields)
  root-old-fields e = record { leads = λ sheet words t at. (t.fields, into-old-fields t name e, at.fields) }

  pub root-missing : name ≡ Args → s.arguments ≡ None → RootIs s name Missing
  root-missing e a = record {
    leads = λ sheet words t at. into-args t name e ∙ no_arguments sheet words t.arguments (rw a at at.arguments);
  }

  pub root-args : (h : Holder) → name ≡ Args → s.arguments ≡ Some h → RootIs s name (At 0 h)
  root-args h e a = record {
    leads = λ sheet words t at. rw (into-args t name e) (some-arguments sheet words h t.arguments (rw a at at.arguments));
  }

  pub root-id : name ≡ Id → RootIs s name Nothing
  unfolding root_of name_is
  root-id e = record { leads = λ sheet words t at. rw e }

  pub root-entity : name ≡ Entity → RootIs s name Nothing
  unfolding root_of name_is
  root-entity e = record { leads = λ sheet words t at. rw e }

  pub root-version : name ≡ Version → RootIs s name Nothing
  unfolding root_of name_is
  root-version e = record { leads = λ sheet words t at. rw e }

  pub root-state : name ≡ State → RootIs s name Nothing
  unfolding root_of name_is
  root-state e = record { leads = λ sheet words t at. rw e }

  pub root-to-state : name ≡ ToState → RootIs s name Nothing
  unfolding root_of name_is
  root-to-state e = record { leads = λ sheet words t at. rw e }

  pub root-from-state : name ≡ FromState → RootIs s name Nothing
  unfolding root_of name_is
  root-from-state e = record { leads = λ sheet words t at. rw e }
