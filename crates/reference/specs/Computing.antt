-- Opens every definition that references and collections rest on: under `unfolding computing` a worked example holds by computation.
use Rattle.reference.specs.Setting as Setting
use Rattle.reference.specs.Table as Table
use Rattle.reference.specs.Path as Path
use Rattle.reference.specs.Walk as Walk
use Rattle.reference.specs.Reference as Reference
use Rattle.definition.specs.Computing as Definition

unfoldable pub computing : Unit {0}
unfolding Setting.spelling Setting.named Setting.name_of Setting.one_of Setting.stock Setting.setting_of Table.may_read_by Table.row_marks Table.table_entry Table.rows Table.alone Table.decode_table Table.is_sound Table.are_sound Table.stock_row Table.stock_table Table.table_in Table.row_of Table.setting_under Table.or_stock Table.is_sound_table Path.cut Path.extend Path.split Path.is_digits Path.is_ordinal Path.is_count Walk.lookup Walk.member_step Walk.item_step Walk.last_or Walk.arrive Walk.entry_of Walk.travel Walk.is_empty Walk.array_step Walk.map_step Walk.is_tag Walk.content_key Walk.union_step Walk.text_count Walk.form_of_kind Walk.walk_into Walk.walk_step Walk.field_step Walk.element_or Walk.element_of_field Walk.element_of Reference.bound Reference.arguments_root Reference.root_of Reference.from_holder Reference.root_walk Reference.from_root Reference.from_name Reference.from_element Reference.from_bound Reference.reference Reference.key_walk Reference.behind_first Reference.begins_with_dollar Reference.collection_in Reference.collection_named Reference.collection_element Reference.collection_bound Reference.collection_text Reference.collection Definition.computing
computing = tt
