-- What is said of a reference: each way through the code, as a law.
use Prim.Native.Nat.{ℕ, ◌+◌, ◌-◌, ◌≤◌, ◌<◌}
use native.Mathlib.Omega.{arith}
use mathlib.Core.List.{List, [], ◌∷◌, ◌++◌, append_assoc}
use mathlib.Core.Option.{Option, none, some, get_or}
use mathlib.Core.Path.{◌≡◌, refl, ap, sym, subst, ◌∙◌}
use lib.ListN.{length, take, drop, length-drop}
use Rattle.text.specs.Ascii.{ascii}
use Rattle.buffer.specs.Laid.{most_place, Laid}
use Rattle.buffer.specs.LaidLaws.{laid-nothing, laid_then}
use Rattle.definition.specs.Tree.{Text, Field, Schema}
use Rattle.reference.specs.Path.{split}
use Rattle.reference.specs.Setting.{Setting}
use Rattle.reference.specs.Reference.{Environment}
use Rattle.schema.specs.Slot.{SlotHolds}
use Rattle.walk.specs.Dots.{Ends}
use Rattle.walk.specs.Answers.{reference_detail}
use Rattle.walk.specs.declared.answer.ReferenceFault.{ReferenceFault}
use Rattle.scope.specs.Names.{name_is}
use Rattle.scope.specs.Scopes.{ScopeAt}
use Rattle.scope.specs.declared.name.Name.{Name}
use Rattle.scope.specs.declared.binder.Scope.{Scope}
use Rattle.message.specs.Words.{in_quotes, noun_of}
use Rattle.message.specs.Tell.{unknown_root, unresolved, may_read, not_available, no_reference, tell_reference, step_sentence}
use Rattle.defect_walk.specs.Tellings.{Walked, TellIs, ReferenceTells}
use Rattle.defect_message.specs.Refusals.{RefusalLaid}
use Rattle.defect_message.specs.References.{UnknownLaid, TellingLaid, ReferenceLaid}
use Rattle.defect_walk.specs.declared.telling.Telling.{Telling}
use Rattle.defect_walk.specs.declared.telling.Telling.TheVariants as Telling
use Rattle.defect_message.proofs.RefusalLaws.{from-whole}

pub unknown-past : {text : Text} {name : Name} {at : ℕ} {b a : List ℕ} {o n : ℕ} → length text < at → UnknownLaid text name at b a o n
unknown-past h = record { lays = λ within. absurd (omega arith) }

pub unknown-laid : {text path : Text} {name : Name} {at end : ℕ} {b a : List ℕ} {o n : ℕ}
    → path ≡ take (length text - at) (drop at text)
    → Ends path end
    → Laid b a o (unknown_root (noun_of (name_is name)) (take end path)) n
    → UnknownLaid text name at b a o n
unknown-laid {text} {path} {name} {at} {end} {b} {a} {o} {n} p ends u = record {
  lays = λ within.
      let q : path ≡ drop at text = p ∙ from-whole text at in
      subst (λ (t : Text). Laid b a o (unknown_root (noun_of (name_is name)) (split t).first) n) q
      (subst (λ (t : Text). Laid b a o (unknown_root (noun_of (name_is name)) t) n) (sym ends.first) u);
}

so-laid : {b a : List ℕ} {o n : ℕ} (x : Option Text) (t : Text) → x ≡ some t → Laid b a o t n → Laid b a o (get_or x []) n
so-laid x t e u = rw e u

resolves : (kind : ℕ) (text : Text) {b c a : List ℕ} {o m n : ℕ} → length b ≤ most_place → Laid b c o (in_quotes text ++ ascii " cannot resolve: ") m
    → (t : Text) → Laid c a m t n → Laid b a o (unresolved kind text t) n
unfolding unresolved
resolves kind text {b = b} {a = a} {o = o} {n = n} room u t v =
    subst (λ (l : Text). Laid b a o l n) (append_assoc (in_quotes text) (ascii " cannot resolve: ") t) (laid_then room u v)

module _ {sheet words : List ℕ} {kind : ℕ} {text : Text} {telling : Telling} {b a : List ℕ} {o n : ℕ} where
  pub nothing-told : telling ≡ Telling.Nothing → o ≤ most_place → a ≡ b → n ≡ o → TellingLaid sheet words kind text telling b a o n
  nothing-told e room same end = record {
    lays = λ x h.
        let q : x ≡ none = rw e at h in
        rw (q, same, end) (laid-nothing b o room);
  }

  pub unavailable-told : telling ≡ Telling.NotAvailable → Laid b a o (not_available kind text) n → TellingLaid sheet words kind text telling b a o n
  unavailable-told e u = record { lays = λ x h. let q : x ≡ some (not_available kind text) = rw e at h in so-laid x (not_available kind text) q u }

  pub no-reference-told : telling ≡ Telling.NoReference → Laid b a o (no_reference kind text) n → TellingLaid sheet words kind text telling b a o n
  no-reference-told e u = record { lays = λ x h. let q : x ≡ some (no_reference kind text) = rw e at h in so-laid x (no_reference kind text) q u }

  module _ {c : List ℕ} {m : ℕ} (room : length b ≤ most_place) (u : Laid b c o (in_quotes text ++ ascii " cannot resolve: ") m) where
    pub empty-told : telling ≡ Telling.EmptyPath → Laid c a m (ascii "the path is empty") n → TellingLaid sheet words kind text telling b a o n
    empty-told e v = record {
      lays = λ x h.
          let t = unresolved kind text (ascii "the path is empty") in
          let q : x ≡ some t = rw e at h in
          so-laid x t q (resolves kind text room u (ascii "the path is empty") v);
    }

    pub unknown-told : {name : Name} {at : ℕ} → telling ≡ Telling.UnknownRoot name at → UnknownLaid text name at c a m n → TellingLaid sheet words kind text telling b a o n
    unknown-told {name} {at} e v = record {
      lays = λ x h.
          let t = unknown_root (noun_of (name_is name)) (split (drop at text)).first in
          let q : (at ≤ length text) × (x ≡ some (unresolved kind text t)) = rw e at h in
          so-laid x (unresolved kind text t) q.1 (resolves kind text room u t (v.lays q.0));
    }

    pub refusal-told : {fault : ReferenceFault} {from at k : ℕ} → telling ≡ Telling.Refused fault from at k → RefusalLaid sheet words text fault from at k c a m n → TellingLaid sheet words kind text telling b a o n
    refusal-told {fault} {from} {at} {k} e v = record {
      lays = λ x h.
          let q : TellIs sheet words kind text (Telling.Refused fault from at k) x = rw e at h in
          let t = step_sentence (reference_detail fault) q.0 (split (drop at text)).first (split (drop at text)).others q.1 in
          so-laid x (unresolved kind text t) q.4 (resolves kind text room u t (v.lays q.0 q.1 q.2 q.3));
    }

module _ {sheet rule words : List ℕ} {scope : Scope} {kind : ℕ} {text : Text} {b a : List ℕ} {o n : ℕ} where
  pub reference-blank : length text ≡ 0 → ReferenceLaid sheet rule words scope kind text b a o n
  unfolding ascii
  reference-blank z = record { lays = λ setting tree env t e at. let long : length text ≡ length (36 ∷ t) = ap length e in absurd (omega arith) }

  pub reference-laid : {telling : Telling}
      → ReferenceTells sheet rule words scope (take (length text - 1) (drop 1 text)) telling
      → TellingLaid sheet words kind text telling b a o n
      → ReferenceLaid sheet rule words scope kind text b a o n
  unfolding ascii
  reference-laid {telling} m u = record {
    lays = λ setting tree env t e at.
        let same : take (length text - 1) (drop 1 text) ≡ t = from-whole text 1 ∙ ap (drop 1) e in
        let q : ReferenceTells sheet rule words scope t telling = subst (λ (l : Text). ReferenceTells sheet rule words scope l telling) same m in
        let v : TellingLaid sheet words kind (36 ∷ t) telling b a o n = subst (λ (l : Text). TellingLaid sheet words kind l telling b a o n) e u in
        v.lays (tell_reference kind setting tree env t) (q.leads kind setting tree env at);
  }
