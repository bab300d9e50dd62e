-- What each part of a walk answers, whichever field or member the index holds there.
use Rattle.std.specs.Prelude.{ℕ, Bool, true, cond, List, [], ◌∷◌, ◌≡◌, eqb, length, Option, Result}
use Rattle.text.specs.Parts.{optional_of}
use Rattle.definition.specs.Tree as Tree
use Rattle.definition.specs.Tree.{Text, Field, Items}
use Rattle.reference.specs.Path.{is_count, split}
use Rattle.reference.specs.Setting.{Reader}
use Rattle.reference.specs.Walk.{Step, refuse, lookup, member_step, item_step, array_step, map_step, union_step, text_count, walk_step, field_step, Reached, arrive, travel, element_or, element_of_field, element_of}
use Rattle.schema.specs.Slot.{SlotHolds, HolderAt, ElementAt, PartsOf}
use Rattle.walk.specs.Answers.{StepIs, ReadableIs, FieldStepIs, CollectedIs}
use Rattle.schema.specs.declared.index.Holder.{Holder}
use Rattle.schema.specs.declared.index.IndexedField.{IndexedField}
use Rattle.walk.specs.declared.answer.WalkStep.{WalkStep}
use Rattle.walk.specs.declared.answer.CollectionFault.{CollectionFault}
use Rattle.text.specs.declared.part.Part.{Part}
use Rattle.walk.specs.declared.answer.ReferenceFault.{ReferenceFault}

-- One segment of a reference

pub record ItemSteps (x : Option ℕ) (r : WalkStep) : Type 0 where
  pub leads : (sheet words : List ℕ) (items : Items) → ElementAt sheet words x items → StepIs sheet words r (item_step items)

pub record ArraySteps (x : Option ℕ) (s : Text) (r : WalkStep) : Type 0 where
  pub leads : (sheet words : List ℕ) (items : Items) → ElementAt sheet words x items → StepIs sheet words r (array_step items s)

pub record MapSteps (s : Text) (r : WalkStep) : Type 0 where
  pub leads : (sheet words : List ℕ) → StepIs sheet words r (map_step s)

pub record UnionSteps (sheet : List ℕ) (tag : Option Part) (s : Text) (r : WalkStep) : Type 0 where
  pub leads : (words : List ℕ) → StepIs sheet words r (union_step (optional_of sheet tag) s)

pub record MemberSteps (sheet words : List ℕ) (h : Holder) (s : Text) (r : WalkStep) : Type 0 where
  pub leads : (t : Tree.Holder) → HolderAt sheet words h t → StepIs sheet words r (member_step (lookup s t.members) t.is_open 3)

-- a field without members: only a string has a count
unfoldable pub scalar_step : (kind : ℕ) → Text → Reader → Step
scalar_step kind s reader = cond (is_count s) (cond (eqb kind 1) (text_count reader) (refuse 9)) (refuse 10)

pub record TextSteps (reader : Reader) (r : WalkStep) : Type 0 where
  pub leads : (sheet words : List ℕ) → StepIs sheet words r (text_count reader)

pub record ScalarSteps (kind : ℕ) (s : Text) (reader : Reader) (r : WalkStep) : Type 0 where
  pub leads : (sheet words : List ℕ) → StepIs sheet words r (scalar_step kind s reader)

pub record ServiceSteps (sheet words : List ℕ) (x : IndexedField) (s : Text) (reader : Reader) (r : WalkStep) : Type 0 where
  pub leads : (length s ≡ 0 → ⊥) → (f : Field) → PartsOf sheet words f x → StepIs sheet words r (walk_step reader true f s)

pub record WalkSteps (sheet words : List ℕ) (x : IndexedField) (s : Text) (reader : Reader) (service : Bool) (r : WalkStep) : Type 0 where
  pub leads : (f : Field) → PartsOf sheet words f x → StepIs sheet words r (walk_step reader service f s)

-- the last segment, of the field with that entry
pub record LastStep (entry : ℕ) (w : WalkStep) (r : Result Unit (ReferenceFault × ℕ)) : Type 0 where
  pub leads : (sheet words : List ℕ) (step : Field → Text → Step) (s : Text) (x : Step) → StepIs sheet words w x
      → ReadableIs r (arrive entry s [] (λ g. travel step [] g) x)

-- A path from the field of slot `k` on, as `walk_field_path` goes
pub record Walks (sheet words : List ℕ) (k : ℕ) (path : Text) (reader : Reader) (service : Bool) (r : Result Unit (ReferenceFault × ℕ)) : Type 0 where
  pub leads : (f : Field) → SlotHolds sheet words k f
      → ReadableIs r (travel (walk_step reader service) ((split path).first ∷ (split path).others) f)

-- The path of an `in` value, as `field_at` and `element_of` go

pub record FieldSteps (sheet words : List ℕ) (x : IndexedField) (s : Text) (r : Result (Option ℕ) CollectionFault) : Type 0 where
  pub leads : (f : Field) → PartsOf sheet words f x → FieldStepIs sheet words r (field_step f s)

pub record LastField (entry : ℕ) (w : Result (Option ℕ) CollectionFault) (r : Result (Option ℕ) (CollectionFault × ℕ)) : Type 0 where
  pub leads : (sheet words : List ℕ) (s : Text) (x : Step) → FieldStepIs sheet words w x
      → CollectedIs sheet words r (arrive entry s [] (λ g. travel field_step [] g) x)

pub record FieldsAt (sheet words : List ℕ) (k : ℕ) (path : Text) (r : Result (Option ℕ) (CollectionFault × ℕ)) : Type 0 where
  pub leads : (f : Field) → SlotHolds sheet words k f
      → CollectedIs sheet words r (travel field_step ((split path).first ∷ (split path).others) f)

pub record DeclaredElement (x : Option ℕ) (r : Result (Option ℕ) (CollectionFault × ℕ)) : Type 0 where
  pub leads : (sheet words : List ℕ) (items : Items) → ElementAt sheet words x items → CollectedIs sheet words r (element_or items)

pub record ElementOfField (sheet words : List ℕ) (k : ℕ) (r : Result (Option ℕ) (CollectionFault × ℕ)) : Type 0 where
  pub leads : (f : Field) → SlotHolds sheet words k f → CollectedIs sheet words r (element_of_field f)

pub record ElementIs (sheet words : List ℕ) (collected r : Result (Option ℕ) (CollectionFault × ℕ)) : Type 0 where
  pub leads : (x : Reached) → CollectedIs sheet words collected x → CollectedIs sheet words r (element_of x)
