-- A whole rule or template, step by step.
use Rattle.std.specs.Prelude.{Option, None}
use Prim.Native.Nat.{ℕ, zero, suc, ◌-◌, ◌≤◌, ◌<◌, min}
use native.Mathlib.Omega.{arith}
use mathlib.Core.Bool.{Bool, true, false, not}
use mathlib.Core.List.{List, [], ◌∷◌, map, append-nil}
use mathlib.Core.Option.{none, some}
use mathlib.Core.Path.{◌≡◌, refl, sym, ap, ◌∙◌}
use lib.ListN.{drop}
use lib.Dec.{leb}
use borrow.Author.Tests.{le-leb, lt-leb}
use Rattle.text.specs.ReadAt.{ReadsTo}
use Rattle.text.specs.Parts.{optional_of}
use Rattle.text.specs.CaseLaws.{zero-not-one}
use Rattle.sheet.specs.Entries.{RuleHead, rule_head}
use Rattle.sheet.specs.Entries as Entries
use Rattle.definition.specs.Tree.{Schema, Condition, no_conditions, condition, Rule, rule, template}
use Rattle.reference.specs.Setting.{Setting}
use Rattle.definition.specs.Within.{conditions_entries}
use Rattle.rule.specs.Index.{start_of, end_of, RuleAt}
use Rattle.validation.specs.Check.{Check, check, fails_if, literal_check, literals, literals_of_conditions, literal_checks, is_blank_text, depth, references, checks}
use Rattle.validation.specs.Judge.{Failure, failure, outcome, environment, judge}
use Rattle.scope.specs.Scopes.{chain_of, ChainAt, ScopeAt}
use Rattle.scope.specs.declared.binder.Scope.{Scope}
use Rattle.condition_checks.specs.Depth.{DepthIs}
use Rattle.validation.specs.Result.{over_of}
use Rattle.value_checks.specs.Shown.{shown_of, go_on}
use Rattle.value_checks.specs.Verdicts.{number_of, failure_of, over_by, shown_with, shown_by, failed, going, GoesOn, PassedOn, Failed, Required}
use Rattle.value_checks.specs.Literals.{ConditionLiterals}
use Rattle.value_checks.specs.Frames.{frame, Stands, OperandsJudged}
use Rattle.condition_checks.specs.Bodies.{BodyJudged}
use Rattle.condition_checks.specs.Rules.{PassJudged, DefinitionJudged, RuleJudged}
use Rattle.value_checks.specs.declared.verdict.Fault.{Fault}
use Rattle.value_checks.specs.declared.verdict.Fault.TheVariants.{Name, Message, Deep}
use Rattle.value_checks.specs.declared.verdict.Progress.{Progress}
use Rattle.value_checks.proofs.Going.{goes-nothing, goes_then}
use Rattle.rule.proofs.NodeSteps.{same_head, condition-size}
use Rattle.value_checks.proofs.LiteralSteps.{settled-outcome}
use Rattle.condition_checks.proofs.OperandLaws.{value-references}
use Rattle.text.specs.declared.part.Part.{Part}

pub begin-judges : (setting : Setting) (tree : Schema) (cs : List Check) (r : Progress) → GoesOn (outcome setting tree) (going 0) cs r → shown_by r ≡ shown_of (judge setting tree cs)
unfolding shown_by shown_with go_on judge
begin-judges setting tree cs r g = g.shows

no-binders : (schema sheet words : List ℕ) (n : ℕ) (bs : List ℕ) → ChainAt schema sheet words (chain_of n bs) [] → n ≡ 0
unfolding chain_of
no-binders schema sheet words zero bs c = refl
no-binders schema sheet words (suc n) bs c = absurd c

outermost : {schema sheet words : List ℕ} {scope : Scope} {setting : Setting} {tree : Schema}
    → ScopeAt schema sheet words scope setting tree []
    → Stands (frame schema sheet words scope None) setting tree [] []
unfolding environment over_of over_by
outermost s = record { scoped = s; bound = refl; held = refl }

-- The literal pass.

service-literals : (setting : Setting) (c : Condition) → setting.is_service ≡ true → literal_checks setting c ≡ map literal_check (literals c)
unfolding literal_checks
service-literals setting c m = rw m

kernel-literals : (setting : Setting) (c : Condition) → setting.is_service ≡ false → literal_checks setting c ≡ []
unfolding literal_checks
kernel-literals setting c m = rw m

pub pass-service : {sheet words : List ℕ} {service : Bool} {end : ℕ} {a r : Progress}
    → service ≡ true
    → ConditionLiterals sheet words 1 end a r
    → PassJudged sheet words service end a r
unfolding literals_of_conditions conditions_entries
pass-service {sheet} {words} {service} {end} t p =
    record {
      at_most = p.at_most;
      goes =
          λ setting tree c e w.
          let m : setting.is_service ≡ true = sym e ∙ t in
          let g = p.goes setting tree (condition c no_conditions) (record { stand = (w.stands, tt); ends = omega (arith, w.ends) }) in
          rw (service-literals setting c m) (rw append-nil at g);
    }

pub pass-kernel : {sheet words : List ℕ} {service : Bool} {end : ℕ} {a : Progress} → service ≡ false → PassJudged sheet words service end a a
pass-kernel t =
    record {
      at_most = omega arith;
      goes = λ setting tree c e w. rw (kernel-literals setting c (sym e ∙ t)) goes-nothing;
    }

-- Checks outside all quantifiers.

outside-required : {a r : Progress} {wrong : Bool} {fault : Fault} {place : ℕ} (n d : ℕ) (flag : Bool) (setting : Setting) (tree : Schema)
    → Required a wrong fault place None r
    → wrong ≡ flag
    → n ≡ number_of fault
    → failure d 0 ≡ failure_of fault
    → GoesOn (outcome setting tree) a (check n place [] (fails_if flag d) ∷ []) r
unfolding check over_of over_by environment
outside-required {a} {r} {wrong} {fault} {place} n d flag setting tree p e m q =
    p.goes (outcome setting tree) _ (record { numbered = m; placed = refl; held = refl })
    (settled-outcome setting tree [] [] n place flag d refl ∙ ap (λ (x : Bool). failed x (failure d 0)) (sym e) ∙ ap (λ (x : Failure). failed wrong x) q)

outside-failed : {a r : Progress} {fault : Fault} {place : ℕ} (n d : ℕ) (flag : Bool) (setting : Setting) (tree : Schema) (others : List Check)
    → Failed a fault place None r
    → flag ≡ true
    → n ≡ number_of fault
    → failure d 0 ≡ failure_of fault
    → GoesOn (outcome setting tree) a (check n place [] (fails_if flag d) ∷ others) r
unfolding check over_of over_by environment failed
outside-failed {place = place} n d flag setting tree others p e m q =
    p.goes (outcome setting tree) _ others (record { numbered = m; placed = refl; held = refl })
    (settled-outcome setting tree [] [] n place flag d refl ∙ ap (λ (x : Bool). failed x (failure d 0)) e ∙ ap some q)

both_go : (sheet : List ℕ) (name message : Option Part) {unnamed untold : Bool} {b c : Progress} (setting : Setting) (tree : Schema)
    → unnamed ≡ is_blank_text (optional_of sheet name)
    → untold ≡ is_blank_text (optional_of sheet message)
    → Required (going 0) unnamed Name 1 None b
    → Required b untold Message 1 None c
    → GoesOn (outcome setting tree) (going 0)
    (check 11 1 [] (fails_if (is_blank_text (optional_of sheet name)) 0)
    ∷ check 12 1 [] (fails_if (is_blank_text (optional_of sheet message)) 0)
    ∷ [])
    c
unfolding number_of failure_of
both_go sheet name message setting tree blank-name blank-message named told =
    goes_then (outside-required 11 0 (is_blank_text (optional_of sheet name)) setting tree named blank-name refl refl)
    (outside-required 12 0 (is_blank_text (optional_of sheet message)) setting tree told blank-message refl refl)

module _ {schema sheet words : List ℕ} {scope : Scope} {name message : Option Part} {end : ℕ} {unnamed : Bool} (blank-name : unnamed ≡ is_blank_text (optional_of sheet name)) where
  pub definition-unnamed : {r : Progress} → unnamed ≡ true → Failed (going 0) Name 1 None r → DefinitionJudged schema sheet words scope name message end r
  unfolding checks number_of failure_of
  definition-unnamed {r} t p =
      record {
        shows =
            λ setting tree assert s w.
            begin-judges setting tree _ r
            (outside-failed 11 0 (is_blank_text (optional_of sheet name)) setting tree _ p (sym blank-name ∙ t) refl refl);
      }

  pub definition-untold : {untold : Bool} {b r : Progress}
      → untold ≡ is_blank_text (optional_of sheet message)
      → Required (going 0) unnamed Name 1 None b
      → untold ≡ true
      → Failed b Message 1 None r
      → DefinitionJudged schema sheet words scope name message end r
  unfolding checks number_of failure_of
  definition-untold {r = r} blank-message named t p =
      record {
        shows =
            λ setting tree assert s w.
            begin-judges setting tree _ r
            (goes_then (outside-required 11 0 (is_blank_text (optional_of sheet name)) setting tree named blank-name refl refl)
            (outside-failed 12 0 (is_blank_text (optional_of sheet message)) setting tree _ p (sym blank-message ∙ t) refl refl));
      }

pub definition-none : {schema sheet words : List ℕ} {scope : Scope} {name message : Option Part} {end : ℕ} {r : Progress} → end ≤ 1 → DefinitionJudged schema sheet words scope name message end r
definition-none h =
    record { shows = λ setting tree assert s w. absurd (omega (arith, w.ends, condition-size assert)) }

module _ {schema sheet words : List ℕ} {scope : Scope} {name message : Option Part} {end : ℕ} {unnamed untold : Bool} {b c : Progress} (blank-name : unnamed ≡ is_blank_text (optional_of sheet name)) (blank-message : untold ≡ is_blank_text (optional_of sheet message)) (named : Required (going 0) unnamed Name 1 None b) (told : Required b untold Message 1 None c) where
  pub definition-deep : {n : ℕ} {r : Progress}
      → DepthIs sheet words 1 end 33 n
      → 32 < n
      → Failed c Deep 2 None r
      → DefinitionJudged schema sheet words scope name message end r
  unfolding checks number_of failure_of
  definition-deep {n} {r} m h p =
      record {
        shows =
            λ setting tree assert s w.
            let e : n ≡ min 33 (depth assert) = m.exact assert w in
            let k : leb (depth assert) 32 ≡ false = lt-leb (depth assert) 32 (omega arith) in
            begin-judges setting tree _ r
            (goes_then (both_go sheet name message setting tree blank-name blank-message named told)
            (outside-failed 13 0 (not (leb (depth assert) 32)) setting tree _ p (ap not k) refl refl));
      }

  pub definition-judged : {n : ℕ} {d g r : Progress}
      → DepthIs sheet words 1 end 33 n
      → n ≤ 32
      → PassedOn c d
      → PassJudged sheet words scope.service end d g
      → BodyJudged (frame schema sheet words scope None) 1 end 32 g r
      → DefinitionJudged schema sheet words scope name message end r
  unfolding checks environment failed
  definition-judged {n} {d} {g} {r} m h p l q =
      record {
        shows =
            λ setting tree assert s w.
            let e : n ≡ min 33 (depth assert) = m.exact assert w in
            let few : depth assert ≤ 32 = omega arith in
            let k : leb (depth assert) 32 ≡ true = le-leb (depth assert) 32 few in
            let z : scope.count ≡ 0 = no-binders schema sheet words scope.count scope.binders s.binders.chain in
            begin-judges setting tree _ r
            (goes_then (both_go sheet name message setting tree blank-name blank-message named told)
            (goes_then
            (p.goes (outcome setting tree) _
            (settled-outcome setting tree [] [] 13 2 (not (leb (depth assert) 32)) 0 refl ∙ passes-if (leb (depth assert) 32) k))
            (goes_then (l.goes setting tree assert s.set.service w)
            (q.goes setting tree [] [] assert (outermost s) w few (omega arith)))));
      }
    where
      passes-if : (x : Bool) → x ≡ true → failed (not x) (failure 0 0) ≡ none
      passes-if x e = rw e

-- By the sheet's first entry.

module _ {schema sheet words : List ℕ} {scope : Scope} {at end : ℕ} (start : at ≡ start_of words 0) (ends : end ≡ end_of words 0) where
  pub judge-bad : rule_head (drop at sheet) ≡ none → RuleJudged schema sheet words scope (going 0)
  judge-bad r = record { shows = λ setting tree x s w. absurd (unread x w) }
    where
      clash : (h : RuleHead) (rest : List ℕ) → rule_head (drop (start_of words 0) sheet) ≡ some (h, rest) → ⊥
      clash h rest q =
          let p : rule_head (drop (start_of words 0) sheet) ≡ none = rw (sym start) r in
          zero-not-one cc

      unread : (x : Rule) → RuleAt sheet words x → ⊥
      unread (rule name message assert) w = clash _ _ w.0.reads
      unread (template v) w = clash _ _ w.0.reads

  pub judge-rule : {next : ℕ} {name message : Option Part} {r : Progress}
      → ReadsTo rule_head sheet at (Entries.rule (optional_of sheet name) (optional_of sheet message)) next
      → DefinitionJudged schema sheet words scope name message end r
      → RuleJudged schema sheet words scope r
  judge-rule {next} {name} {message} {r} reads p = record { shows = λ setting tree x s w. shows setting tree x s w }
    where
      shows : (setting : Setting) (tree : Schema) (x : Rule)
          → ScopeAt schema sheet words scope setting tree []
          → RuleAt sheet words x
          → shown_by r ≡ shown_of (judge setting tree (checks setting x))
      shows setting tree (rule n m assert) s w =
          let q : Entries.rule (optional_of sheet name) (optional_of sheet message) ≡ Entries.rule n m = same_head start reads w.0 in
          let e : optional_of sheet name ≡ n = cc in
          let f : optional_of sheet message ≡ m = cc in
          let g = p.shows setting tree assert s (record { stands = w.1; ends = ends ∙ w.0.ends ∙ omega arith }) in
          rw (e, f) at g
      shows setting tree (template v) s w =
          let q : Entries.rule (optional_of sheet name) (optional_of sheet message) ≡ Entries.template = same_head start reads w.0 in
          zero-not-one cc

  pub judge-template : {next : ℕ} {r : Progress}
      → ReadsTo rule_head sheet at Entries.template next
      → OperandsJudged (frame schema sheet words scope None) 5 1 end (going 0) r
      → RuleJudged schema sheet words scope r
  unfolding checks
  judge-template {next} {r} reads p = record { shows = λ setting tree x s w. shows setting tree x s w }
    where
      shows : (setting : Setting) (tree : Schema) (x : Rule)
          → ScopeAt schema sheet words scope setting tree []
          → RuleAt sheet words x
          → shown_by r ≡ shown_of (judge setting tree (checks setting x))
      shows setting tree (rule n m assert) s w =
          let q : Entries.template ≡ Entries.rule n m = same_head start reads w.0 in
          zero-not-one cc
      shows setting tree (template v) s w =
          begin-judges setting tree (references [] v) r
          (value-references p setting tree [] [] v (outermost s) (record { stands = w.1; ends = ends ∙ w.0.ends ∙ omega arith }))
