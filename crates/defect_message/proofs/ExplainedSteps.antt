-- The message of a defect: each way through the code, as a law.
use Prim.Native.Nat.{ℕ, ◌+◌, ◌-◌, ◌≤◌, ◌<◌}
use native.Mathlib.Omega.{arith}
use mathlib.Core.Bool.{Bool, true, false, false≢true}
use mathlib.Core.List.{List, [], ◌++◌}
use mathlib.Core.Option.{Option, none, some, IsSome, get_or, some-injective}
use mathlib.Core.Path.{◌≡◌, refl, ap, sym, subst, ◌∙◌}
use lib.ListN.{length, drop}
use Rattle.text.specs.Ascii.{ascii}
use Rattle.text.specs.ReadAt.{ReadsTo}
use Rattle.text.specs.CaseLaws.{zero-not-one}
use Rattle.sheet.specs.Entries.{RuleHead, rule_head}
use Rattle.sheet.specs.Entries as Entries
use Rattle.buffer.specs.Laid.{Laid}
use Rattle.definition.specs.Tree as Tree
use Rattle.definition.specs.Tree.{Text, Value, string, Schema, Condition, Rule, rule, template}
use Rattle.definition.specs.Within.{value_entries, condition_entries, rule_entries, RuleFrom}
use Rattle.reference.specs.Setting.{kernel, Setting}
use Rattle.reference.specs.Reference.{Environment}
use Rattle.rule.specs.Index.{start_of, end_of, EntryAt, ValueAt, RuleAt}
use Rattle.scope.specs.Scopes.{ScopeAt}
use Rattle.scope.specs.declared.binder.Scope.{Scope}
use Rattle.validation.specs.Check.{Binder, Question, settled, readable, walkable, Check, checks, entry_of, is_string, depth}
use Rattle.validation.specs.Judge.{Failure, environment, fails_at, judge}
use Rattle.rule.specs.Nodes.{IsCondition}
use Rattle.rule.proofs.NodeSteps.{value-size}
use Rattle.message.specs.Standing.{standing, standing_at}
use Rattle.message.proofs.StandingLaws.{StandsAt}
use Rattle.message.proofs.DefectLaws.{Explained, defect-explained, defect-holds}
use Rattle.message.proofs.DepthLaws.{deep-passed}
use Rattle.message.proofs.FoundLaws.{Found, checks-found}
use Rattle.message.specs.Tell.{tell_reference, tell_collection}
use Rattle.message.specs.Message.{value_at, head_of, names_value, names_head, depth_in, asked_sentence, sentence_under, message_of, settled_sentence}
use Rattle.defect_walk.specs.Scoped.{ScopeFound}
use Rattle.defect_message.specs.References.{ReferenceLaid}
use Rattle.defect_message.specs.Collections.{CollectionLaid}
use Rattle.defect_message.specs.Settled.{IsSettled, QuantifierAt, IsRule, SettledLaid}
use Rattle.defect_message.specs.Explained.{ScopePlaced, SaidLaid, MessageLaid}
use Rattle.defect_message.proofs.PlacedLaws.{PlacedBy, Placed, checks-placed, template-asks}
use Rattle.defect_message.proofs.SettledSteps.{condition-nonempty}

-- The scope of an entry

head-of : (sheet words : List ℕ) (t : Rule) → RuleAt sheet words t → (h : RuleHead) × (rest : List ℕ) × (rule_head (drop (start_of words 0) sheet) ≡ some (h, rest))
head-of sheet words (rule name message assert) w = (Entries.rule name message, w.0.rest, w.0.reads)
head-of sheet words (template v) w = (Entries.template, w.0.rest, w.0.reads)

size_of : (sheet words : List ℕ) (t : Rule) → RuleAt sheet words t → (end_of words 0 ≡ rule_entries t) × (2 ≤ rule_entries t)
unfolding rule_entries
size_of sheet words (rule name message assert) w = (omega (arith, w.0.ends), omega (arith, condition-nonempty assert))
size_of sheet words (template v) w = (omega (arith, w.0.ends), omega (arith, value-size v))

outermost : (tree : Schema) (env : Environment) → environment tree [] ≡ some env → [] ≡ env
unfolding environment
outermost tree env e = some-injective [] env e

module _ {sheet rule-sheet words : List ℕ} {scope : Scope} {place : ℕ} where
  pub scope-unread : {at : ℕ} → at ≡ start_of words 0 → rule_head (drop at rule-sheet) ≡ none → ScopePlaced sheet rule-sheet words scope place scope
  scope-unread e h = record {
    is = λ setting tree env t s z w few low high around.
        let q = head-of rule-sheet words t w in
        let p : rule_head (drop (start_of words 0) rule-sheet) ≡ none = subst (λ (k : ℕ). rule_head (drop k rule-sheet) ≡ none) e h in
        let r = q.2 in
        zero-not-one cc;
  }

  pub scope-short : {end : ℕ} → end ≡ end_of words 0 → end ≤ 1 → ScopePlaced sheet rule-sheet words scope place scope
  scope-short e h = record { is = λ setting tree env t s z w few low high around. let q = size_of rule-sheet words t w in absurd (omega (arith, q.0, q.1)) }

  pub scope-past : {end target : ℕ} → end ≡ end_of words 0 → target ≡ place - 1 → end ≤ target → ScopePlaced sheet rule-sheet words scope place scope
  scope-past e f h = record { is = λ setting tree env t s z w few low high around. let q = size_of rule-sheet words t w in absurd (omega (arith, q.0)) }

same-rule-head : (x y : RuleHead) (s t : List ℕ) → ◌≡◌ {A = Option (RuleHead × List ℕ)} (some (x, s)) (some (y, t)) → x ≡ y
same-rule-head x y s t e = let q : ◌≡◌ {A = RuleHead × List ℕ} (x, s) (y, t) = some-injective (x, s) (y, t) e in ap (λ (z : RuleHead × List ℕ). z.0) q

template-scope : (sheet rule-sheet words : List ℕ) (scope : Scope) (place : ℕ) (setting : Setting) (tree : Schema) (env : Environment) (t : Rule) (rest : List ℕ)
    → rule_head (drop (start_of words 0) rule-sheet) ≡ some (Entries.template, rest)
    → RuleAt rule-sheet words t
    → ScopeAt sheet rule-sheet words scope setting tree []
    → environment tree (standing_at place t) ≡ some env
    → ScopeAt sheet rule-sheet words scope setting tree env
unfolding standing_at
template-scope sheet rule-sheet words scope place setting tree env (rule name message assert) rest reads w s around =
    let same : Entries.template ≡ Entries.rule name message = same-rule-head Entries.template (Entries.rule name message) rest w.0.rest (sym reads ∙ w.0.reads) in
    zero-not-one cc
template-scope sheet rule-sheet words scope place setting tree env (template v) rest reads w s around =
    subst (λ (e : Environment). ScopeAt sheet rule-sheet words scope setting tree e) (outermost tree env around) s

pub scope-template : {sheet rule-sheet words : List ℕ} {scope : Scope} {place at next : ℕ} → at ≡ start_of words 0 → ReadsTo rule_head rule-sheet at Entries.template next → ScopePlaced sheet rule-sheet words scope place scope
scope-template {sheet} {rule-sheet} {words} {scope} {place} {at} {next} e h = record {
  is = λ setting tree env t s z w few low high around.
      let p : rule_head (drop (start_of words 0) rule-sheet) ≡ some (Entries.template, drop next rule-sheet) =
      subst (λ (k : ℕ). rule_head (drop k rule-sheet) ≡ some (Entries.template, drop next rule-sheet)) e h.reads in
      template-scope sheet rule-sheet words scope place setting tree env t (drop next rule-sheet) p w s around;
}

rule-scope : {sheet rule-sheet words : List ℕ} {scope r : Scope} (place end target : ℕ) (name message : Option Text) (rest : List ℕ) (setting : Setting) (tree : Schema) (env : Environment) (t : Rule)
    → rule_head (drop (start_of words 0) rule-sheet) ≡ some (Entries.rule name message, rest)
    → end ≡ end_of words 0
    → target ≡ place - 1
    → ScopeFound sheet rule-sheet words scope 1 end target r
    → ScopeAt sheet rule-sheet words scope setting tree []
    → scope.count ≡ 0
    → RuleAt rule-sheet words t
    → depth_in t ≤ 32
    → 2 ≤ place
    → environment tree (standing_at place t) ≡ some env
    → ScopeAt sheet rule-sheet words r setting tree env
unfolding standing_at depth_in environment
rule-scope {words = words} {scope = scope} place end target name message rest setting tree env (rule n m assert) reads e f found s z w few low around =
    let there : IsCondition _ words 1 end assert = record { stands = w.1; ends = omega (arith, w.0.ends) } in
    let here : target + 1 ≡ place = omega arith in
    let around' : environment tree (standing (target + 1) (1 + 1) [] assert) ≡ some env = subst (λ (k : ℕ). environment tree (standing k 2 [] assert) ≡ some env) (sym here) around in
    found.is setting tree [] [] env assert s refl there (omega arith) around'
rule-scope place end target name message rest setting tree env (template v) reads e f found s z w few low around =
    let same : Entries.rule name message ≡ Entries.template = same-rule-head (Entries.rule name message) Entries.template rest w.0.rest (sym reads ∙ w.0.reads) in
    let zero_one : ◌≡◌ {A = ℕ} 0 1 = cc in absurd (omega arith)

pub scope-found : {sheet rule-sheet words : List ℕ} {scope r : Scope} {place at next end target : ℕ} {name message : Option Text}
    → at ≡ start_of words 0
    → ReadsTo rule_head rule-sheet at (Entries.rule name message) next
    → end ≡ end_of words 0
    → target ≡ place - 1
    → ScopeFound sheet rule-sheet words scope 1 end target r
    → ScopePlaced sheet rule-sheet words scope place r
scope-found {rule-sheet = rule-sheet} {words = words} {place = place} {next = next} {end = end} {target = target} {name = name} {message = message} e h ends f found = record {
  is = λ setting tree env t s z w few low high around.
      let p : rule_head (drop (start_of words 0) rule-sheet) ≡ some (Entries.rule name message, drop next rule-sheet) =
      subst (λ (k : ℕ). rule_head (drop k rule-sheet) ≡ some (Entries.rule name message, drop next rule-sheet)) e h.reads in
      rule-scope place end target name message (drop next rule-sheet) setting tree env t p ends f found s z w few low around;
}

-- A reference, by the word of its string

module _ {sheet rule-sheet words : List ℕ} {scope : Scope} {kind i : ℕ} {b a : List ℕ} {o n : ℕ} where
  pub said-laid : {text t : Text} → ((v : Value) → ValueAt rule-sheet words i v → v ≡ string (entry_of v) t) → text ≡ t → ReferenceLaid sheet rule-sheet words scope kind text b a o n
      → SaidLaid sheet rule-sheet words scope kind i b a o n
  said-laid {text} {t} form same u = record {
    lays = λ setting tree env e x s h.
        let q = form (string e (ascii "$" ++ x)) h in
        let p : ascii "$" ++ x ≡ t = cc in
        u.lays setting tree env x (same ∙ sym p) s;
  }

  pub said-none : ((v : Value) → ValueAt rule-sheet words i v → is_string v ≡ false) → SaidLaid sheet rule-sheet words scope kind i b a o n
  unfolding is_string
  said-none form = record { lays = λ setting tree env e x s h. absurd (false≢true (sym (form (string e (ascii "$" ++ x)) h))) }

-- The whole message

pub record Defect (sheet rule-sheet words : List ℕ) (setting : Setting) (tree : Schema) (t : Rule) (c : Check) (why : Failure) : Type 0 where
  pub env : Environment
  pub around : environment tree c.binders ≡ some env
  pub placed : PlacedBy rule-sheet words c.number c.place c.question
  pub stands : 15 ≤ c.number → StandsAt t c
  pub found : Found (λ p. value_at p t) (head_of t) c
  pub shallow : 14 ≤ c.number → depth_in t ≤ 32

shallow-of : (setting : Setting) (tree : Schema) (t : Rule) (passed : ℕ) (c : Check) (why : Failure) → judge setting tree (checks setting t) ≡ fails_at passed c why → 14 ≤ c.number → depth_in t ≤ 32
unfolding depth_in
shallow-of setting tree (rule name message assert) passed c why e l = deep-passed setting tree name message assert passed c why e l
shallow-of setting tree (template v) passed c why e l = omega arith

defect-of : (sheet rule-sheet words : List ℕ) (kind : ℕ) (setting : Setting) (tree : Schema) (t : Rule) (passed : ℕ) (c : Check) (why : Failure)
    → setting.reader ≡ kernel
    → RuleAt rule-sheet words t
    → RuleFrom 1 t
    → judge setting tree (checks setting t) ≡ fails_at passed c why
    → Defect sheet rule-sheet words setting tree t c why
defect-of sheet rule-sheet words kind setting tree t passed c why k w from e =
    let x = defect-explained kind setting tree t passed c why k from e in
    record {
      env = x.env;
      around = x.around;
      placed = (defect-holds setting tree (Placed rule-sheet words) t passed c why (checks-placed rule-sheet words setting t w) e).by;
      stands = x.place;
      found = defect-holds setting tree (Found (λ p. value_at p t) (head_of t)) t passed c why (checks-found setting t) e;
      shallow = shallow-of setting tree t passed c why e;
    }

told-as : (kind : ℕ) (setting : Setting) (tree : Schema) (t : Rule) (c : Check) (why : Failure) (passed : ℕ) (env : Environment) (q : Question) {b a : List ℕ} {o n : ℕ}
    → environment tree c.binders ≡ some env
    → c.question ≡ q
    → Laid b a o (asked_sentence kind setting tree t c why.detail q env) n
    → Laid b a o (message_of kind setting tree t (fails_at passed c why)) n
unfolding message_of sentence_under
told-as kind setting tree t c why passed env q {b} {a} {o} {n} e s u =
    rw e (subst (λ (y : Question). Laid b a o (asked_sentence kind setting tree t c why.detail y env) n) (sym s) u)

module _ (sheet rule-sheet words : List ℕ) {setting : Setting} {tree : Schema} {t : Rule} {c : Check} {why : Failure} where
  -- where the scope of the place was found
  scoped : {scope inner : Scope} (d : Defect sheet rule-sheet words setting tree t c why) → ScopePlaced sheet rule-sheet words scope c.place inner
      → ScopeAt sheet rule-sheet words scope setting tree [] → scope.count ≡ 0 → RuleAt rule-sheet words t → 15 ≤ c.number
      → ScopeAt sheet rule-sheet words inner setting tree d.env
  scoped d found s z w late =
      let p = d.stands late in
      found.is setting tree d.env t s z w (d.shallow (omega arith)) p.from p.up_to (subst (λ (bs : List Binder). environment tree bs ≡ some d.env) p.binders d.around)

-- only references are asked of a template
rule-of : (sheet : List ℕ) (setting : Setting) (tree : Schema) (t : Rule) (passed : ℕ) (c : Check) (why : Failure) → judge setting tree (checks setting t) ≡ fails_at passed c why → c.number ≡ 13 → IsRule t
rule-of sheet setting tree (rule name message assert) passed c why e h = tt
rule-of sheet setting tree (template v) passed c why e h =
    let n : c.number ≡ 18 = defect-holds setting tree (λ (x : Check). x.number ≡ 18) (template v) passed c why (template-asks setting v) e in
    absurd (omega arith)

module _ {sheet rule-sheet words : List ℕ} {scope : Scope} {kind number detail place : ℕ} {b a : List ℕ} {o n : ℕ} where
  pub message-reference : {inner : Scope} {word : ℕ} → number ≡ 18 → ScopePlaced sheet rule-sheet words scope place inner → word ≡ place - 1
      → SaidLaid sheet rule-sheet words inner kind word b a o n
      → MessageLaid sheet rule-sheet words scope kind number detail place b a o n
  unfolding asked_sentence
  message-reference {inner} {word} is found f u = record {
    lays = λ setting tree t passed c why s z k w from few e nn dd pp.
        let d = defect-of sheet rule-sheet words kind setting tree t passed c why k w from e in
        let found' : ScopePlaced sheet rule-sheet words scope c.place inner = subst (λ (p : ℕ). ScopePlaced sheet rule-sheet words scope p inner) pp found in
        let at = scoped sheet rule-sheet words d found' s z w (omega arith) in
        go setting tree t passed c why d at nn pp c.question refl d.placed;
  } where
    go : (setting : Setting) (tree : Schema) (t : Rule) (passed : ℕ) (c : Check) (why : Failure) (d : Defect sheet rule-sheet words setting tree t c why)
        → ScopeAt sheet rule-sheet words inner setting tree d.env → number ≡ c.number → place ≡ c.place
        → (q : Question) → c.question ≡ q → PlacedBy rule-sheet words c.number c.place q
        → Laid b a o (message_of kind setting tree t (fails_at passed c why)) n
    go setting tree t passed c why d at nn pp (settled x) same p = absurd (p.0.other (sym nn ∙ is))
    go setting tree t passed c why d at nn pp (walkable v) same p = absurd (omega (arith, p.0))
    go setting tree t passed c why d at nn pp (readable x) same p =
        let there : ValueAt rule-sheet words word (string p.1 (ascii "$" ++ x)) = subst (λ (i : ℕ). ValueAt rule-sheet words i (string p.1 (ascii "$" ++ x))) (sym (f ∙ ap (λ (y : ℕ). y - 1) pp)) p.2 in
        told-as kind setting tree t c why passed d.env (readable x) d.around same (u.lays setting tree d.env p.1 x at there)

  pub message-collection : {inner : Scope} → number ≡ 22 → ScopePlaced sheet rule-sheet words scope place inner
      → CollectionLaid sheet rule-sheet words inner place b a o n
      → MessageLaid sheet rule-sheet words scope kind number detail place b a o n
  unfolding asked_sentence
  message-collection {inner} is found u = record {
    lays = λ setting tree t passed c why s z k w from few e nn dd pp.
        let d = defect-of sheet rule-sheet words kind setting tree t passed c why k w from e in
        let found' : ScopePlaced sheet rule-sheet words scope c.place inner = subst (λ (p : ℕ). ScopePlaced sheet rule-sheet words scope p inner) pp found in
        let at = scoped sheet rule-sheet words d found' s z w (omega arith) in
        go setting tree t passed c why d at nn pp c.question refl d.placed;
  } where
    go : (setting : Setting) (tree : Schema) (t : Rule) (passed : ℕ) (c : Check) (why : Failure) (d : Defect sheet rule-sheet words setting tree t c why)
        → ScopeAt sheet rule-sheet words inner setting tree d.env → number ≡ c.number → place ≡ c.place
        → (q : Question) → c.question ≡ q → PlacedBy rule-sheet words c.number c.place q
        → Laid b a o (message_of kind setting tree t (fails_at passed c why)) n
    go setting tree t passed c why d at nn pp (settled x) same p = absurd (omega (arith, p.0.high))
    go setting tree t passed c why d at nn pp (readable x) same p = absurd (omega (arith, p.0))
    go setting tree t passed c why d at nn pp (walkable v) same p =
        let there : ValueAt rule-sheet words place v = subst (λ (i : ℕ). ValueAt rule-sheet words i v) (sym pp) p.1 in
        told-as kind setting tree t c why passed d.env (walkable v) d.around same (u.lays setting tree d.env v at there)

  pub message-settled : (number ≡ 18 → ⊥) → (number ≡ 22 → ⊥) → SettledLaid rule-sheet words number detail place b a o n → MessageLaid sheet rule-sheet words scope kind number detail place b a o n
  unfolding asked_sentence
  message-settled n18 n22 u = record {
    lays = λ setting tree t passed c why s z k w from few e nn dd pp.
        let d = defect-of sheet rule-sheet words kind setting tree t passed c why k w from e in
        go setting tree t passed c why d w few nn dd pp (λ h. rule-of sheet setting tree t passed c why e (sym nn ∙ h)) c.question refl d.placed;
  } where
    go : (setting : Setting) (tree : Schema) (t : Rule) (passed : ℕ) (c : Check) (why : Failure) (d : Defect sheet rule-sheet words setting tree t c why)
        → RuleAt rule-sheet words t → depth_in t ≤ 256 → number ≡ c.number → detail ≡ why.detail → place ≡ c.place → (number ≡ 13 → IsRule t)
        → (q : Question) → c.question ≡ q → PlacedBy rule-sheet words c.number c.place q
        → Laid b a o (message_of kind setting tree t (fails_at passed c why)) n
    go setting tree t passed c why d w few nn dd pp ru (readable x) same p = absurd (n18 (nn ∙ p.0))
    go setting tree t passed c why d w few nn dd pp ru (walkable v) same p = absurd (n22 (nn ∙ p.0))
    go setting tree t passed c why d w few nn dd pp ru (settled x) same p =
        let is : IsSettled number = subst IsSettled (sym nn) p.0 in
        let v : names_value number ≡ true → IsSome (value_at place t) = λ h. subst (λ (y : ℕ). IsSome (value_at y t)) (sym pp) (d.found.value (subst (λ (y : ℕ). names_value y ≡ true) nn h)) in
        let g : names_head number ≡ true → IsSome (head_of t place) = λ h. subst (λ (y : ℕ). IsSome (head_of t y)) (sym pp) (d.found.head (subst (λ (y : ℕ). names_head y ≡ true) nn h)) in
        let q : number ≡ 21 → QuantifierAt rule-sheet words (place - 1) = λ h. subst (λ (y : ℕ). QuantifierAt rule-sheet words (y - 1)) (sym pp) (p.1 (sym nn ∙ h)) in
        let laid = u.lays t w few is v g q ru in
        let one : Laid b a o (settled_sentence t c.number detail place) n = subst (λ (y : ℕ). Laid b a o (settled_sentence t y detail place) n) nn laid in
        let two : Laid b a o (settled_sentence t c.number why.detail place) n = subst (λ (y : ℕ). Laid b a o (settled_sentence t c.number y place) n) dd one in
        told-as kind setting tree t c why passed d.env (settled x) d.around same (subst (λ (y : ℕ). Laid b a o (settled_sentence t c.number why.detail y) n) pp two)
