-- A path from a field on: the first segment, then what is left of the path after its dot.
use Rattle.std.specs.Prelude.{Option, Some, None, Result, Ok, Err}
use Prim.Native.Nat.{ℕ, ◌+◌, ◌-◌, ◌<◌}
use native.Mathlib.Omega.{arith}
use mathlib.Core.Bool.{Bool}
use mathlib.Core.List.{List, [], ◌∷◌}
use mathlib.Core.Path.{◌≡◌, refl, sym}
use lib.ListN.{length, take, drop}
use Rattle.definition.specs.Tree.{Text, Field, field}
use Rattle.reference.specs.Path.{split}
use Rattle.reference.specs.Setting.{Reader}
use Rattle.reference.specs.Walk.{Step, refuse, leaf, free, into, known, last_or, arrive, entry_of, travel, walk_step, field_step}
use Rattle.schema.specs.Slot.{SlotHolds, PartsOf, IndexedIs}
use Rattle.walk.specs.Dots.{Ends}
use Rattle.walk.specs.DotLaws.{part_length, rest-whole}
use Rattle.walk.specs.Answers.{reference_detail, collection_detail}
use Rattle.walk.specs.Steps.{WalkSteps, LastStep, Walks, FieldSteps, LastField, FieldsAt}
use Rattle.walk.proofs.Dots.{segments-are}
use Rattle.schema.specs.declared.index.IndexedField.{IndexedField}
use Rattle.walk.specs.declared.answer.ReferenceFault.{ReferenceFault}
use Rattle.walk.specs.declared.answer.WalkStep.{WalkStep}
use Rattle.walk.specs.declared.answer.WalkStep.TheVariants.{Refuse, Leaf, Free, Into}
use Rattle.walk.specs.declared.answer.CollectionFault.{CollectionFault}

end-within : (path : List ℕ) (n : ℕ) → Ends path n → (n ≡ length path → ⊥) → n < length path
end-within path n ends other = omega (arith, ends.within)

pub end-length : (path : List ℕ) (n : ℕ) → Ends path n → n ≡ length (take n path)
end-length path n ends = part_length path n ends.within

-- The last segment

pub last-refuse : (entry : ℕ) (w : WalkStep) (fault : ReferenceFault) → w ≡ Refuse fault → LastStep entry w (Err (fault, entry))
unfolding arrive
last-refuse entry w fault e = record {
  leads = λ sheet words step s x h.
      let q : x ≡ refuse (reference_detail fault) = rw e at h in
      (s ∷ [], rw q);
}

pub last_leaf : (entry : ℕ) (w : WalkStep) (fault : ReferenceFault) → w ≡ Leaf fault → LastStep entry w (Ok tt)
unfolding arrive last_or
last_leaf entry w fault e = record {
  leads = λ sheet words step s x h.
      let q : x ≡ leaf (reference_detail fault) = rw e at h in
      rw q tt;
}

pub last-free : (entry : ℕ) (w : WalkStep) → w ≡ Free → LastStep entry w (Ok tt)
unfolding arrive
last-free entry w e = record {
  leads = λ sheet words step s x h.
      let q : x ≡ free = rw e at h in
      rw q tt;
}

pub last-into : (entry : ℕ) (w : WalkStep) (k : ℕ) → w ≡ Into k → LastStep entry w (Ok tt)
unfolding arrive travel
last-into entry w k e = record {
  leads = λ sheet words step s x h.
      let q : (f : Field) × (x ≡ into f) × SlotHolds sheet words k f = rw e at h in
      rw q.1 tt;
}

pub last-field-refuse : (entry : ℕ) (w : Result (Option ℕ) CollectionFault) (fault : CollectionFault) → w ≡ Err fault → LastField entry w (Err (fault, entry))
unfolding arrive
last-field-refuse entry w fault e = record {
  leads = λ sheet words s x h.
      let q : x ≡ refuse (collection_detail fault) = rw e at h in
      (collection_detail fault, s ∷ [], rw q, λ small. refl);
}

pub last-field-free : (entry : ℕ) (w : Result (Option ℕ) CollectionFault) → w ≡ (Ok None) → LastField entry w (Ok None)
unfolding arrive
last-field-free entry w e = record {
  leads = λ sheet words s x h.
      let q : x ≡ free = rw e at h in
      rw q;
}

into-known : (entry : ℕ) (s : Text) (x : Step) (f : Field) → x ≡ into f → arrive entry s [] (λ g. travel field_step [] g) x ≡ known f
unfolding arrive travel
into-known entry s x f e = rw e

pub last-field-into : (entry : ℕ) (w : Result (Option ℕ) CollectionFault) (k : ℕ) → w ≡ Ok (Some k) → LastField entry w (Ok (Some k))
last-field-into entry w k e = record {
  leads = λ sheet words s x h.
      let q : (f : Field) × (x ≡ into f) × SlotHolds sheet words k f = rw e at h in
      (q.0, into-known entry s x q.0 q.1, q.2);
}

-- The whole path

module _ (sheet words path : List ℕ) (k : ℕ) (x : IndexedField) (held : IndexedIs sheet words k x) (n : ℕ) (ends : Ends path n) where
  entry-is : (f : Field) → PartsOf sheet words f x → entry_of f ≡ x.entry
  unfolding entry_of
  entry-is (field e kind o tag items members) p = sym p.numbered

  cut-last : n ≡ length path → split path ≡ record { first = take n path; others = [] }
  cut-last e = segments-are (split path) ends.first (ends.last e)

  pub walk-last : (reader : Reader) (service : Bool) (r : Result Unit (ReferenceFault × ℕ)) (w : WalkStep) → n ≡ length path → WalkSteps sheet words x (take n path) reader service w → LastStep x.entry w r
      → Walks sheet words k path reader service r
  unfolding travel
  walk-last reader service r w e steps last = record {
    leads = λ f at.
        rw (cut-last e, entry-is f (held f at))
        (last.leads sheet words (walk_step reader service) (take n path) (walk_step reader service f (take n path)) (steps.leads f (held f at)));
  }

  pub field-last : (r : Result (Option ℕ) (CollectionFault × ℕ)) (w : Result (Option ℕ) CollectionFault) → n ≡ length path → FieldSteps sheet words x (take n path) w → LastField x.entry w r → FieldsAt sheet words k path r
  unfolding travel
  field-last r w e steps last = record {
    leads = λ f at.
        rw (cut-last e, entry-is f (held f at)) (last.leads sheet words (take n path) (field_step f (take n path)) (steps.leads f (held f at)));
  }

  module _ (further : n ≡ length path → ⊥) where
    abbrev others : List Text
    others = (split (drop (n + 1) path)).first ∷ (split (drop (n + 1) path)).others

    cut_at : split path ≡ record { first = take n path; others = others }
    cut_at = segments-are (split path) ends.first (ends.more (end-within path n ends further))

    pub walk_refused : (reader : Reader) (service : Bool) (w : WalkStep) (fault : ReferenceFault) → WalkSteps sheet words x (take n path) reader service w → w ≡ Refuse fault
        → Walks sheet words k path reader service (Err (fault, x.entry))
    unfolding travel arrive
    walk_refused reader service w fault steps e = record {
      leads = λ f at.
          let q : walk_step reader service f (take n path) ≡ refuse (reference_detail fault) = rw e at (steps.leads f (held f at)) in
          (take n path ∷ others, rw (cut_at, q, entry-is f (held f at)));
    }

    pub walk-leaf : (reader : Reader) (service : Bool) (w : WalkStep) (fault : ReferenceFault) → WalkSteps sheet words x (take n path) reader service w → w ≡ Leaf fault
        → Walks sheet words k path reader service (Err (fault, x.entry))
    unfolding travel arrive last_or
    walk-leaf reader service w fault steps e = record {
      leads = λ f at.
          let q : walk_step reader service f (take n path) ≡ leaf (reference_detail fault) = rw e at (steps.leads f (held f at)) in
          (take n path ∷ others, rw (cut_at, q, entry-is f (held f at)));
    }

    pub walk-free : (reader : Reader) (service : Bool) (w : WalkStep) → WalkSteps sheet words x (take n path) reader service w → w ≡ Free → Walks sheet words k path reader service (Ok tt)
    unfolding travel arrive
    walk-free reader service w steps e = record {
      leads = λ f at.
          let q : walk_step reader service f (take n path) ≡ free = rw e at (steps.leads f (held f at)) in
          rw (cut_at, q) tt;
    }

    pub walk-into : (reader : Reader) (service : Bool) (w : WalkStep) (next : ℕ) (r : Result Unit (ReferenceFault × ℕ)) → WalkSteps sheet words x (take n path) reader service w → w ≡ Into next
        → Walks sheet words next (take (length path - (n + 1)) (drop (n + 1) path)) reader service r → Walks sheet words k path reader service r
    unfolding travel arrive
    walk-into reader service w next r steps e m = record {
      leads = λ f at.
          let q : (g : Field) × (walk_step reader service f (take n path) ≡ into g) × SlotHolds sheet words next g = rw e at (steps.leads f (held f at)) in
          let onward : Walks sheet words next (drop (n + 1) path) reader service r = rw (rest-whole path n) at m in
          rw (cut_at, q.1) (onward.leads q.0 q.2);
    }

    pub field-refused : (w : Result (Option ℕ) CollectionFault) (fault : CollectionFault) → FieldSteps sheet words x (take n path) w → w ≡ Err fault
        → FieldsAt sheet words k path (Err (fault, x.entry))
    unfolding travel arrive
    field-refused w fault steps e = record {
      leads = λ f at.
          let q : field_step f (take n path) ≡ refuse (collection_detail fault) = rw e at (steps.leads f (held f at)) in
          (collection_detail fault, take n path ∷ others, rw (cut_at, q, entry-is f (held f at)), λ small. refl);
    }

    pub field-free : (w : Result (Option ℕ) CollectionFault) → FieldSteps sheet words x (take n path) w → w ≡ (Ok None) → FieldsAt sheet words k path (Ok None)
    unfolding travel arrive
    field-free w steps e = record {
      leads = λ f at.
          let q : field_step f (take n path) ≡ free = rw e at (steps.leads f (held f at)) in
          rw (cut_at, q);
    }

    pub field-into : (w : Result (Option ℕ) CollectionFault) (next : ℕ) (r : Result (Option ℕ) (CollectionFault × ℕ)) → FieldSteps sheet words x (take n path) w → w ≡ Ok (Some next)
        → FieldsAt sheet words next (take (length path - (n + 1)) (drop (n + 1) path)) r → FieldsAt sheet words k path r
    unfolding travel arrive
    field-into w next r steps e m = record {
      leads = λ f at.
          let q : (g : Field) × (field_step f (take n path) ≡ into g) × SlotHolds sheet words next g = rw e at (steps.leads f (held f at)) in
          let onward : FieldsAt sheet words next (drop (n + 1) path) r = rw (rest-whole path n) at m in
          rw (cut_at, q.1) (onward.leads q.0 q.2);
    }
