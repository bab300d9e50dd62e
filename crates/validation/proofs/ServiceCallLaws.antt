-- A call that is accepted under kernel/1, asked again under a service semantics: no refusal is due, and every check passes.
use Rattle.std.specs.Prelude.{ℕ, ◌+◌, ◌≤◌, true, not, ◌&&◌, List, [], ◌∷◌, ◌≡◌, refl, length}
use Rattle.std.proofs.Common.{arith, ap, sym, subst, ◌∙◌, le-leb, ne_eqb}
use Rattle.std.proofs.Math.Option.{Option, none, some, or_else}
use Rattle.text.specs.Utf8.{between}
use Rattle.text.proofs.Bools.{and-true-0}
use Rattle.text.specs.CaseLaws.{zero-not-one}
use Rattle.definition.specs.Tree.{Text, Rule}
use Rattle.definition.specs.Decode.{decode_schema, decode_rule}
use Rattle.reference.specs.Setting.{Setting, one_of, kernel as kernel_reader}
use Rattle.reference.specs.Table.{may_read_by, row_of, table_in, setting_under, or_stock}
use Rattle.validation.specs.Check.{checks}
use Rattle.validation.specs.Judge.{Verdict, all_pass, fails_at, judge}
use Rattle.validation.specs.Result.{Takes, Lent, Call, Answer, accepted, is_taken, answer_of, setting_for, of_buffers, of_settings, early, of_sheets, refusals, first_refusal, Unrefused, refused_or, checked, result_of}
use Rattle.validation.proofs.RefusalLaws.{is_set, present, none-due, first-none, first-append, none-of-either}
use Rattle.validation.proofs.DemandLaws.{answers-by-checks}
use Rattle.validation.specs.Service.{literals_in, AllFinite, under}
use Rattle.validation.proofs.ServiceLaws.{service-accepts}

or-accepted : (o : Option ℕ) (a : Answer) (n : ℕ) → refused_or o a ≡ accepted n → o ≡ none
unfolding refused_or
or-accepted none a n e = refl
or-accepted (some k) a n e = zero-not-one cc

pub accepted-unrefused : (c : Call) (n : ℕ) → result_of c ≡ accepted n → Unrefused c
unfolding result_of
accepted-unrefused c n e = or-accepted (first_refusal (refusals c)) _ n e

all-pass : (setting : Setting) (label : Text) (r : Rule) (v : Verdict) (n : ℕ) → answer_of setting label r v ≡ accepted n → v ≡ all_pass n
unfolding answer_of
all-pass setting label r (all_pass m) n e = cc
all-pass setting label r (fails_at m c d) n e = zero-not-one cc

service-semantics : (n : ℕ) → 2 ≤ n → n ≤ 4 → between 1 4 n ≡ true
unfolding between
service-semantics n low high = rw (le-leb 1 n (omega arith), le-leb n 4 high)

-- with the buffers of the second call long enough, none of its refusals is due
unrefused-moved : (takes : Takes) (c : Call) (semantics : ℕ) (table : List ℕ) (lent : Lent) → 2 ≤ semantics → semantics ≤ 4 → Unrefused c → is_taken takes (decode_rule c.asked.rule) ≡ true → table_in c.table ≡ table_in table → first_refusal (of_buffers lent) ≡ none → Unrefused (under takes c semantics table lent)
unfolding under refusals early of_settings of_sheets or_else
unrefused-moved takes c semantics table lent low high n taken same room =
    let (before, after) = none-of-either c n in
    let settings = none-due (early c) before in
    let kind = and-true-0 (between 1 8 c.asked.kind) (between 1 4 c.asked.semantics) (is_set _ settings.0) in
    let both : (between 1 8 c.asked.kind && between 1 4 semantics) ≡ true = rw (kind, service-semantics semantics low high) in
    let lends = none-due (of_buffers lent) room in
    let sheets = none-due (of_sheets c) after in
    let now = first-none (early (under takes c semantics table lent)) (ap not both, (settings.1.0, (lends.0, (lends.1.0, rw same at settings.1.1.1.1)))) in
    first-append (early (under takes c semantics table lent)) (of_sheets (under takes c semantics table lent))
    ∙ rw now (first-none (of_sheets (under takes c semantics table lent)) (sheets.0, (ap not taken, tt)))

pub service-call : (takes : Takes) (c : Call) (semantics : ℕ) (table : List ℕ) (lent : Lent) (t : Rule) (n : ℕ)
    → c.asked.semantics ≡ 1
    → 2 ≤ semantics
    → semantics ≤ 4
    → decode_rule c.asked.rule ≡ some t
    → is_taken takes (some t) ≡ true
    → AllFinite (literals_in t)
    → table_in c.table ≡ table_in table
    → first_refusal (of_buffers lent) ≡ none
    → result_of c ≡ accepted n
    → result_of (under takes c semantics table lent) ≡ accepted (n + length (literals_in t))
unfolding under setting_under checked answer_of of_sheets
service-call takes c semantics table lent t n kernel low high decodes taken finite same room e =
    let unrefused = accepted-unrefused c n e in
    let sheets = none-due (of_sheets c) (none-of-either c unrefused).1 in
    let (s, reads) = present (decode_schema c.schema) sheets.0 in
    let first = sym (answers-by-checks c s t reads decodes unrefused) ∙ e in
    let passes = all-pass (setting_for c) c.asked.label t (judge (setting_for c) s (checks (setting_for c) t)) n first in
    let passed =
    subst (λ (x : Setting). judge x s (checks x t) ≡ all_pass n) (ap (λ (m : ℕ). setting_under (or_stock (table_in c.table)) c.asked.kind m) kernel) passes in
    let moved = service-accepts (may_read_by (row_of (or_stock (table_in c.table)) c.asked.kind)) kernel_reader (one_of c.asked.kind (1 ∷ 2 ∷ 5 ∷ 6 ∷ [])) s t n passed finite in
    answers-by-checks (under takes c semantics table lent) s t reads decodes (unrefused-moved takes c semantics table lent low high unrefused (rw decodes taken) same room)
    ∙ rw (ne_eqb semantics 1 (λ x. omega arith), ← same, moved) refl
