-- `scope::name::other_name` meets its contract.
use mathlib.Core.Path.{◌∙◌}
use Rattle.text.specs.Ascii.{ascii}
use Rattle.reference.specs.Setting.{id, entity, version, state, to_state, from_state, args, old_fields, spelling}
use Rattle.scope.specs.Names.{name_is}
use Rattle.scope.proofs.NameLaws.{skip, hit, no_more}
use Rattle.scope.proofs.name.other_name.Goals as goal

pub returns-then-same_bytes : goal.returns-then-same_bytes
unfolding name_is spelling ascii
returns-then-same_bytes c = hit id _ _ _ c.same_bytes.ensures c.if-same_bytes.true

pub returns-then-same_bytes-2 : goal.returns-then-same_bytes-2
unfolding name_is spelling ascii
returns-then-same_bytes-2 c = skip id _ _ _ c.same_bytes.ensures c.if-same_bytes.false ∙ (hit entity _ _ _ c.same_bytes-2.ensures c.if-same_bytes-2.true)

pub returns-then-same_bytes-3 : goal.returns-then-same_bytes-3
unfolding name_is spelling ascii
returns-then-same_bytes-3 c = skip id _ _ _ c.same_bytes.ensures c.if-same_bytes.false ∙ (skip entity _ _ _ c.same_bytes-2.ensures c.if-same_bytes-2.false ∙ (hit version _ _ _ c.same_bytes-3.ensures c.if-same_bytes-3.true))

pub returns-then-same_bytes-4 : goal.returns-then-same_bytes-4
unfolding name_is spelling ascii
returns-then-same_bytes-4 c = skip id _ _ _ c.same_bytes.ensures c.if-same_bytes.false ∙ (skip entity _ _ _ c.same_bytes-2.ensures c.if-same_bytes-2.false ∙ (skip version _ _ _ c.same_bytes-3.ensures c.if-same_bytes-3.false ∙ (hit state _ _ _ c.same_bytes-4.ensures c.if-same_bytes-4.true)))

pub returns-then-same_bytes-5 : goal.returns-then-same_bytes-5
unfolding name_is spelling ascii
returns-then-same_bytes-5 c = skip id _ _ _ c.same_bytes.ensures c.if-same_bytes.false ∙ (skip entity _ _ _ c.same_bytes-2.ensures c.if-same_bytes-2.false ∙ (skip version _ _ _ c.same_bytes-3.ensures c.if-same_bytes-3.false ∙ (skip state _ _ _ c.same_bytes-4.ensures c.if-same_bytes-4.false ∙ (hit to_state _ _ _ c.same_bytes-5.ensures c.if-same_bytes-5.true))))

pub returns-then-same_bytes-6 : goal.returns-then-same_bytes-6
unfolding name_is spelling ascii
returns-then-same_bytes-6 c = skip id _ _ _ c.same_bytes.ensures c.if-same_bytes.false ∙ (skip entity _ _ _ c.same_bytes-2.ensures c.if-same_bytes-2.false ∙ (skip version _ _ _ c.same_bytes-3.ensures c.if-same_bytes-3.false ∙ (skip state _ _ _ c.same_bytes-4.ensures c.if-same_bytes-4.false ∙ (skip to_state _ _ _ c.same_bytes-5.ensures c.if-same_bytes-5.false ∙ (hit from_state _ _ _ c.same_bytes-6.ensures c.if-same_bytes-6.true)))))

pub returns-then-same_bytes-7 : goal.returns-then-same_bytes-7
unfolding name_is spelling ascii
returns-then-same_bytes-7 c = skip id _ _ _ c.same_bytes.ensures c.if-same_bytes.false ∙ (skip entity _ _ _ c.same_bytes-2.ensures c.if-same_bytes-2.false ∙ (skip version _ _ _ c.same_bytes-3.ensures c.if-same_bytes-3.false ∙ (skip state _ _ _ c.same_bytes-4.ensures c.if-same_bytes-4.false ∙ (skip to_state _ _ _ c.same_bytes-5.ensures c.if-same_bytes-5.false ∙ (skip from_state _ _ _ c.same_bytes-6.ensures c.if-same_bytes-6.false ∙ (hit args _ _ _ c.same_bytes-7.ensures c.if-same_bytes-7.true))))))

pub returns-then-same_bytes-8 : goal.returns-then-same_bytes-8
unfolding name_is spelling ascii
returns-then-same_bytes-8 c = skip id _ _ _ c.same_bytes.ensures c.if-same_bytes.false ∙ (skip entity _ _ _ c.same_bytes-2.ensures c.if-same_bytes-2.false ∙ (skip version _ _ _ c.same_bytes-3.ensures c.if-same_bytes-3.false ∙ (skip state _ _ _ c.same_bytes-4.ensures c.if-same_bytes-4.false ∙ (skip to_state _ _ _ c.same_bytes-5.ensures c.if-same_bytes-5.false ∙ (skip from_state _ _ _ c.same_bytes-6.ensures c.if-same_bytes-6.false ∙ (skip args _ _ _ c.same_bytes-7.ensures c.if-same_bytes-7.false ∙ (hit old_fields _ _ _ c.same_bytes-8.ensures c.if-same_bytes-8.true)))))))

pub returns : goal.returns
unfolding name_is spelling ascii
returns c = skip id _ _ _ c.same_bytes.ensures c.if-same_bytes.false ∙ (skip entity _ _ _ c.same_bytes-2.ensures c.if-same_bytes-2.false ∙ (skip version _ _ _ c.same_bytes-3.ensures c.if-same_bytes-3.false ∙ (skip state _ _ _ c.same_bytes-4.ensures c.if-same_bytes-4.false ∙ (skip to_state _ _ _ c.same_bytes-5.ensures c.if-same_bytes-5.false ∙ (skip from_state _ _ _ c.same_bytes-6.ensures c.if-same_bytes-6.false ∙ (skip args _ _ _ c.same_bytes-7.ensures c.if-same_bytes-7.false ∙ (skip old_fields _ _ _ c.same_bytes-8.ensures c.if-same_bytes-8.false ∙ no_more _)))))))
