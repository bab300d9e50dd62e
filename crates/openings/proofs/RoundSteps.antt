-- A round, and the search: each way through them.
use Rattle.std.specs.Prelude.{Option as Optional, Some, None, Ok, Err}
use Prim.Native.Nat.{ℕ, suc, ◌+◌, ◌-◌, ◌≤◌, ◌<◌}
use native.Mathlib.Omega.{arith}
use mathlib.Core.Bool.{Bool, true, false, ◌||◌}
use mathlib.Core.List.{List, ◌∷◌}
use mathlib.Core.Option.{Option, none, some, some-injective, none-ne-some}
use mathlib.Core.Path.{◌≡◌, refl, sym, ap, ◌∙◌}
use lib.Dec.{eqb}
use lib.ListN.{length, get_or, set, length-set}
use lib.Seq.{get_or-set_same, get_or-set_other}
use borrow.Author.Tests.{eqb-true, eqb-false, ne_eqb}
use Rattle.text.specs.CaseLaws.{zero-not-one}
use Rattle.definition.specs.Limits.{max_sheet_bytes, max_schema_entries}
use Rattle.definition.specs.Tree as Tree
use Rattle.definition.specs.Tree.{Rule, rule, template}
use Rattle.definition.specs.Decode.{decode_schema}
use Rattle.definition.specs.Within.{rule_entries}
use Rattle.reference.specs.Setting.{Setting}
use Rattle.schema.specs.Read.{SchemaAt, SchemaAnswer}
use Rattle.schema.specs.declared.read.Schema.{Schema}
use Rattle.rule.specs.Index.{RuleAt}
use Rattle.rule.specs.IndexLaws.{Agree, agree-within, entry_frame, value_frame, condition-frame}
use Rattle.walk.specs.declared.answer.Reader.TheVariants.{Kernel}
use Rattle.scope.specs.Scopes.{Unbound}
use Rattle.scope.specs.ScopeLaws.{scope-unbound}
use Rattle.scope.specs.declared.binder.Scope.{Scope}
use Rattle.widening.specs.Opening.{is_in, opened}
use Rattle.widening.proofs.OpeningLaws.{opened-once}
use Rattle.validation.specs.Check.{Check, checks}
use Rattle.validation.specs.Judge.{Failure, Verdict, all_pass, fails_at, judge}
use Rattle.validation.specs.Openings.{judged_open, rounds, max_marks}
use Rattle.validation.proofs.RoundLaws.{round-passes, round-opens, round-ends, round-ends-past}
use Rattle.value_checks.specs.Shown.{passes, fails, shown_of}
use Rattle.value_checks.specs.Verdicts.{refused_at, failure_of, shown_with, shown_by}
use Rattle.value_checks.specs.declared.verdict.Fault.{Fault}
use Rattle.value_checks.specs.declared.verdict.Progress.{Progress}
use Rattle.condition_checks.specs.Rules.{RuleJudged}
use Rattle.single_check.specs.Settings.{setting_by}
use Rattle.single_check.specs.Sheets.{FrontOnly}
use Rattle.single_check.specs.SheetLaws.{front-schema, front-both}
use Rattle.single_check.specs.declared.settings.Setting as Code
use Rattle.open_marks.specs.Marks.{MarkOpened}
use Rattle.openings.specs.Rounds.{RoundIs, RoundJudged, is_marked, Stands, MarksFound}

-- What a verdict shows is what the round finds of it.

passes-found : (v : Verdict) (n : ℕ) → passes n ≡ shown_of v → RoundIs (Ok tt) v
unfolding shown_of
passes-found (all_pass m) n e = tt
passes-found (fails_at m c why) n e = zero-not-one cc

fails-found : (v : Verdict) (n number place : ℕ) (over : Option ℕ) (why : Failure) → fails n number place over why ≡ shown_of v → RoundIs (Err why.at) v
unfolding shown_of
fails-found (all_pass m) n number place over why e = zero-not-one cc
fails-found (fails_at m c why') n number place over why e = let same : why' ≡ why = cc in ap (λ (x : Failure). x.at) same

module _ (set : Code.Setting) {s : Schema} {scope : Scope} {sheet rule words : List ℕ} {a : Progress}
    (u : Unbound set.row set.service Kernel s scope) (j : RuleJudged sheet rule words scope a) where
  shows : (t : Tree.Schema) (x : Rule) → SchemaAt sheet words s t → RuleAt rule words x → length rule ≤ max_sheet_bytes
      → shown_by a ≡ shown_of (judge (setting_by set) t (checks (setting_by set) x))
  shows t x at rat small =
      j.shows (setting_by set) t x (scope-unbound sheet rule words set.row set.service Kernel s scope (setting_by set) t small u refl refl refl at) rat

  pub passes-round : a.verdict ≡ (Ok tt) → RoundJudged (setting_by set) s rule sheet words (Ok tt)
  unfolding shown_by shown_with
  passes-round v =
      record { finds = λ t x at rat small. let e : shown_by a ≡ passes a.passed = rw v in passes-found _ a.passed (sym e ∙ shows t x at rat small) }

  pub refuses-round : {fault : Fault} {place at : ℕ} {over : Optional ℕ} → a.verdict ≡ Err (fault, place, over) → at ≡ refused_at fault
      → RoundJudged (setting_by set) s rule sheet words (Err at)
  unfolding shown_by shown_with failure_of
  refuses-round {fault} {place} {at} {over} v e =
      record {
        finds = λ t x stands rat small.
            rw e (fails-found _ _ _ _ _ (failure_of fault) (rw v at (shows t x stands rat small)));
      }

-- The indexes: the rule's stays where a schema is read.

pub rule-frame : (sheet words later : List ℕ) (x : Rule) → RuleAt sheet words x → Agree words later 0 (rule_entries x) → RuleAt sheet later x
unfolding rule_entries
rule-frame sheet words later (rule name message assert) at agree =
    (entry_frame at.0 agree (omega arith) (omega arith), condition-frame sheet words later assert 1 at.1 (agree-within agree (omega arith) (omega arith)))
rule-frame sheet words later (template v) at agree =
    (entry_frame at.0 agree (omega arith) (omega arith), value_frame sheet words later v 1 at.1 (agree-within agree (omega arith) (omega arith)))

-- The marks.

marked-same : (marks : List ℕ) (e : ℕ) → e < length marks → is_marked (set marks e 1) e ≡ true
unfolding is_marked
marked-same marks e h = rw (get_or-set_same marks e 1 0 h)

marked_other : (marks : List ℕ) (e k : ℕ) → (k ≡ e → ⊥) → is_marked (set marks e 1) k ≡ is_marked marks k
unfolding is_marked
marked_other marks e k h = rw (get_or-set_other marks e k 1 0 (λ q. h q))

pub has-mark : (marks : List ℕ) (e : ℕ) → (get_or marks e 0 ≡ 0 → ⊥) → is_marked marks e ≡ true
unfolding is_marked
has-mark marks e h = rw (ne_eqb (get_or marks e 0) 0 h)

pub no-mark : (marks : List ℕ) (e : ℕ) → get_or marks e 0 ≡ 0 → is_marked marks e ≡ false
unfolding is_marked
no-mark marks e h = rw h

-- The rounds, by what a round finds.

module _ (setting : Setting) (t : Tree.Schema) (cs : List Check) (k : ℕ) (found : List ℕ) where
  rounds-pass : (v : Verdict) → RoundIs (Ok tt) v → judged_open setting t cs found ≡ v → rounds setting t cs (suc k) found ≡ some found
  rounds-pass (fails_at passed c why) r e = elim r [ ]
  rounds-pass (all_pass n) r e = round-passes setting t cs k found n e

  rounds-far : (at : ℕ) (v : Verdict) → RoundIs (Err at) v → judged_open setting t cs found ≡ v → max_schema_entries < at → rounds setting t cs (suc k) found ≡ none
  rounds-far at (all_pass passed) r e h = elim r [ ]
  rounds-far at (fails_at n c why) r e h = round-ends-past setting t cs k found n c why e (rw r h)

  rounds-vain : (at : ℕ) (v : Verdict) → RoundIs (Err at) v → judged_open setting t cs found ≡ v → is_in found at ≡ true → rounds setting t cs (suc k) found ≡ none
  rounds-vain at (all_pass passed) r e h = elim r [ ]
  rounds-vain at (fails_at n c why) r e h = round-ends setting t cs k found n c why e (rw r h)

  rounds-more : (at : ℕ) (v : Verdict) → RoundIs (Err at) v → judged_open setting t cs found ≡ v → at ≤ max_schema_entries → is_in found at ≡ false
      → rounds setting t cs (suc k) found ≡ rounds setting t cs k (at ∷ found)
  rounds-more at (all_pass passed) r e low new = elim r [ ]
  rounds-more at (fails_at n c why) r e low new =
      round-opens setting t cs k found n c why e (rw r low) (rw r new) ∙ ap (λ (y : ℕ). rounds setting t cs k (y ∷ found)) r

suc-left : (n : ℕ) → 0 < n → n ≡ suc (n - 1)
suc-left n h = omega arith

-- Where the search is, with so many rounds left: the marks found so far are open, and what the rounds that are left find is what all of them find.

pub record Leads (setting : Setting) (rule : List ℕ) (t : Tree.Schema) (x : Rule) (start : List ℕ) (s : Schema) (sheet marks words : List ℕ) (left : ℕ) : Type 0 where
  pub found : List ℕ
  pub stands : Stands rule t x s sheet marks words found
  pub same : rounds setting t (checks setting x) (max_marks + 1) start ≡ rounds setting t (checks setting x) left found

pub record Searching (setting : Setting) (rule : List ℕ) (first : Schema) (sheet₀ marks₀ words₀ : List ℕ) (s : Schema) (sheet marks words : List ℕ) (left : ℕ) : Type 0 where
  pub few : left ≤ max_marks + 1
  pub sheet_size : length sheet ≡ length sheet₀
  pub marks_size : length marks ≡ length marks₀
  pub front : FrontOnly words₀ words
  pub leads : (t : Tree.Schema) (x : Rule) (start : List ℕ) → Stands rule t x first sheet₀ marks₀ words₀ start → Leads setting rule t x start s sheet marks words left

pub search-starts : {setting : Setting} {rule : List ℕ} {s : Schema} {sheet marks words : List ℕ} → Searching setting rule s sheet marks words s sheet marks words (max_marks + 1)
search-starts =
    record {
      few = omega arith;
      sheet_size = refl;
      marks_size = refl;
      front = record { size = refl; kept = λ i h. refl };
      leads = λ t x start st. record { found = start; stands = st; same = refl };
    }

module _ {setting : Setting} {rule : List ℕ} {first s : Schema} {sheet₀ marks₀ words₀ sheet marks words : List ℕ} {left : ℕ}
    (c : Searching setting rule first sheet₀ marks₀ words₀ s sheet marks words left) where
  -- the last round
  pub search-ends : left ≤ 0 → MarksFound setting first rule sheet₀ marks₀ marks words₀ words false
  unfolding rounds
  search-ends h =
      let over : left ≡ 0 = omega arith in
      record { front = c.front; ends = λ t x start st. let l = c.leads t x start st in l.same ∙ rw over }

  module _ (more : 0 < left) where
    round-left : (t : Tree.Schema) (x : Rule) (start : List ℕ) (l : Leads setting rule t x start s sheet marks words left)
        → rounds setting t (checks setting x) (max_marks + 1) start ≡ rounds setting t (checks setting x) (suc (left - 1)) l.found
    round-left t x start l = l.same ∙ ap (λ (n : ℕ). rounds setting t (checks setting x) n l.found) (suc-left left more)

    pub search-passes : RoundJudged setting s rule sheet words (Ok tt) → MarksFound setting first rule sheet₀ marks₀ marks words₀ words true
    unfolding judged_open
    search-passes r =
        record {
          front = c.front;
          ends = λ t x start st.
              let l = c.leads t x start st in
              let v = judge setting (opened (is_in l.found) t) (checks setting x) in (
                l.found,
                round-left t x start l ∙ rounds-pass setting t (checks setting x) (left - 1) l.found v (r.finds _ x l.stands.indexed l.stands.ruled l.stands.small) refl,
                l.stands.marked,
              );
        }

    module _ {at : ℕ} (r : RoundJudged setting s rule sheet words (Err at)) where
      found_of : (t : Tree.Schema) (x : Rule) (start : List ℕ) (l : Leads setting rule t x start s sheet marks words left)
          → RoundIs (Err at) (judge setting (opened (is_in l.found) t) (checks setting x))
      found_of t x start l = r.finds _ x l.stands.indexed l.stands.ruled l.stands.small

      pub search-too-far : max_schema_entries < at → MarksFound setting first rule sheet₀ marks₀ marks words₀ words false
      unfolding judged_open
      search-too-far h =
          record {
            front = c.front;
            ends = λ t x start st.
                let l = c.leads t x start st in
                round-left t x start l ∙ rounds-far setting t (checks setting x) (left - 1) l.found at _ (found_of t x start l) refl h;
          }

      module _ (near : at ≤ max_schema_entries) where
        pub search-again : (get_or marks at 0 ≡ 0 → ⊥) → MarksFound setting first rule sheet₀ marks₀ marks words₀ words false
        unfolding judged_open
        search-again h =
            record {
              front = c.front;
              ends = λ t x start st.
                  let l = c.leads t x start st in
                  let known : is_in l.found at ≡ true = sym (l.stands.marked at (omega arith)) ∙ has-mark marks at h in
                  round-left t x start l ∙ rounds-vain setting t (checks setting x) (left - 1) l.found at _ (found_of t x start l) refl known;
            }

        -- one mark more
        module _ (new : get_or marks at 0 ≡ 0) (room : length marks ≡ max_marks) {sheet' words' : List ℕ} (o : MarkOpened sheet at sheet') {q : Optional Schema} (read : SchemaAnswer sheet' words words' q) where
          now-reads : (found : List ℕ) (t : Tree.Schema) → decode_schema sheet ≡ some (opened (is_in found) t) → decode_schema sheet' ≡ some (opened (is_in (at ∷ found)) t)
          now-reads found t e = o.opens (opened (is_in found) t) e ∙ ap some (opened-once at found t)

          front-on : FrontOnly words₀ words'
          front-on = front-both c.front (front-schema read.kept)

          pub search-unread : q ≡ None → MarksFound setting first rule sheet₀ marks₀ (set marks at 1) words₀ words' false
          search-unread b =
              record {
                front = front-on;
                ends = λ t x start st.
                    let l = c.leads t x start st in
                    let bad : decode_schema sheet' ≡ none = rw b at read.answer in
                    absurd (none-ne-some _ (sym bad ∙ now-reads l.found t l.stands.reads));
              }

          marked-on : (found : List ℕ) → ((e : ℕ) → e < max_marks → is_marked marks e ≡ is_in found e) → (e : ℕ) → e < max_marks → is_marked (set marks at 1) e ≡ is_in (at ∷ found) e
          unfolding is_in
          marked-on found marked e low = by (eqb at e) refl
            where
              by : (b : Bool) → eqb at e ≡ b → is_marked (set marks at 1) e ≡ (b || is_in found e)
              by true p = let same : at ≡ e = eqb-true at e p in rw (← same) (marked-same marks at (omega arith))
              by false p = marked_other marks at e (λ q. eqb-false at e p (sym q)) ∙ marked e low

          pub search-on : {next : Schema} → q ≡ Some next → Searching setting rule first sheet₀ marks₀ words₀ next sheet' (set marks at 1) words' (left - 1)
          unfolding judged_open
          search-on {next} g =
              record {
                few = omega (arith, c.few);
                sheet_size = o.size ∙ c.sheet_size;
                marks_size = length-set marks at 1 ∙ c.marks_size;
                front = front-on;
                leads = λ t x start st.
                    let l = c.leads t x start st in
                    let good = rw g at read.answer in
                    let reads = now-reads l.found t l.stands.reads in
                    let same : good.tree ≡ opened (is_in (at ∷ l.found)) t = some-injective _ _ (sym good.reads ∙ reads) in
                    let fresh : is_in l.found at ≡ false = sym (l.stands.marked at (omega arith)) ∙ no-mark marks at new in
                    record {
                      found = at ∷ l.found;
                      stands =
                          record {
                            reads = reads;
                            indexed = rw same at good.indexed;
                            ruled = rule-frame rule words words' x l.stands.ruled (record { same = λ i low high. read.kept.lower i (omega (arith, l.stands.within.entries)) });
                            within = l.stands.within;
                            small = l.stands.small;
                            marked = marked-on l.found l.stands.marked;
                          };
                      same =
                          round-left t x start l
                          ∙ rounds-more setting t (checks setting x) (left - 1) l.found at _ (found_of t x start l) refl near fresh;
                    };
              }
